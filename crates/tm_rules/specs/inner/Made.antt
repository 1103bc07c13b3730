-- The lists of rules, as they are made: first those of include-only rules, then the others.
use Rattle.std.specs.Prelude.{◌≡◌, ℕ, ◌<◌, ⊤, List, [], ◌∷◌, length, Bool, true, false, get_or, slice_get}
use Rattle.tm_rules.specs.Candidates.{is_among, flattened, listed}
use Rattle.tm_rules.specs.Readers.{is_only, patterns_of}
use Rattle.tm_rules.specs.declared.candidate.Candidate.{Candidate}
use Rattle.tm_rules.specs.declared.only_lists.OnlyLists.{OnlyLists}
use Rattle.tm_defs.specs.declared.rules.Rule.{Rule}

module _ (rules : List Rule) where
  -- each of these is no include-only rule, or has its mark
  abbrev pub AreKnown : List Bool → List ℕ → Type 0
  AreKnown marks ps = (k : ℕ) → k < length ps → is_only (slice_get rules (get_or ps k 0)) ≡ true → get_or marks (get_or ps k 0) false ≡ true

  -- each of these is no include-only rule, or is in the list
  abbrev pub AreAmong : List ℕ → List ℕ → Type 0
  AreAmong ns ps = (k : ℕ) → k < length ps → is_only (slice_get rules (get_or ps k 0)) ≡ true → is_among (get_or ps k 0) ns ≡ true

  -- Include-only rules in topological order, the last one first: each stands behind those among its patterns.
  abbrev pub IsTopological : List ℕ → Type 0
  IsTopological [] = ⊤
  IsTopological (n ∷ ns) = (is_only (slice_get rules n) ≡ true) × (is_among n ns ≡ false) × AreAmong ns (patterns_of (slice_get rules n)) × IsTopological ns

  -- the list of each include-only rule among these is what it contributes
  abbrev pub AreThere : List (List Candidate) → List ℕ → Type 0
  AreThere lists ps = (k : ℕ) → k < length ps → is_only (slice_get rules (get_or ps k 0)) ≡ true → get_or lists (get_or ps k 0) [] ≡ flattened rules [] (get_or ps k 0)

-- a list that is marked is what its rule contributes
pub record AreMade (rules : List Rule) (made : OnlyLists) : Type 0 where
  pub over : made.rules.now ≡ rules
  pub long : length made.lists.items ≡ length rules
  pub marked : length made.made.items ≡ length rules
  pub right : (n : ℕ) → get_or made.made.items n false ≡ true → get_or made.lists.items n [] ≡ flattened rules [] n

-- and the lists that are marked were made in topological order
pub record AreOrdered (rules : List Rule) (made : OnlyLists) : Type 0 where
  pub lists : AreMade rules made
  pub order : List ℕ
  pub topological : IsTopological rules order
  pub among : (n : ℕ) → get_or made.made.items n false ≡ is_among n order

-- all include-only rules have their lists
pub record OnlyAreListed (rules : List Rule) (lists : List (List Candidate)) : Type 0 where
  pub long : length lists ≡ length rules
  pub right : (n : ℕ) → is_only (slice_get rules n) ≡ true → get_or lists n [] ≡ flattened rules [] n

-- so have these, and all rules below a number
pub record AreListed (rules : List Rule) (lists : List (List Candidate)) (below : ℕ) : Type 0 where
  pub only : OnlyAreListed rules lists
  pub right : (n : ℕ) → n < below → get_or lists n [] ≡ listed rules n

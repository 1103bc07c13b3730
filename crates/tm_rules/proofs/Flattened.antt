-- The definition of what a rule contributes, as equations without a depth.
use Rattle.std.proofs.Common.{◌≡◌, ℕ, zero, suc, Bool, true, false, List, [], ◌∷◌, ◌++◌, flat_map, slice_get, get_or, length, take, ◌<◌, Some, refl, ap, sym, ◌∙◌, subst, arith}
use Rattle.std.proofs.lemmas.Option.{slice_get_read}
use Rattle.tm_rules.specs.Candidates.{is_among, unopened, contributed, flattened, flattened_candidates, included_candidates, start_unless, listed}
use Rattle.tm_rules.specs.Readers.{is_only, patterns_of}
use Rattle.tm_rules.specs.inner.Lists.{AreLists}
use Rattle.tm_rules.specs.declared.candidate.Candidate.{Candidate}
use Rattle.tm_rules.specs.declared.candidate.Candidate.TheVariants.{Start}
use Rattle.tm_defs.specs.declared.rules.Rule.{Rule}
use Rattle.tm_rules.proofs.Unopened.{unopened-opened}

module _ (rules : List Rule) (opened : List ℕ) (n : ℕ) where
  start_at : (depth : ℕ) → is_only (slice_get rules n) ≡ false → contributed rules depth opened n ≡ Start n ∷ []
  unfolding contributed
  start_at zero h = rw h refl
  start_at (suc depth) h = rw h refl

  nothing_at : (depth : ℕ) → is_only (slice_get rules n) ≡ true → is_among n opened ≡ true → contributed rules depth opened n ≡ []
  unfolding contributed
  nothing_at zero h o = rw h refl
  nothing_at (suc depth) h o = rw (h, o) refl

  inside_at : (depth : ℕ) → is_only (slice_get rules n) ≡ true → is_among n opened ≡ false
      → contributed rules (suc depth) opened n ≡ flat_map (contributed rules depth (n ∷ opened)) (patterns_of (slice_get rules n))
  unfolding contributed
  inside_at depth h o = rw (h, o) refl

  -- a match or begin rule contributes its start
  pub flattened-start : is_only (slice_get rules n) ≡ false → flattened rules opened n ≡ Start n ∷ []
  flattened-start h = start_at (unopened rules opened) h

  -- an include-only rule that is open contributes nothing
  pub flattened-open : is_only (slice_get rules n) ≡ true → is_among n opened ≡ true → flattened rules opened n ≡ []
  flattened-open h o = nothing_at (unopened rules opened) h o

  -- one that is not open contributes what its patterns contribute while it is open
  pub flattened-only : is_only (slice_get rules n) ≡ true → is_among n opened ≡ false
      → flattened rules opened n ≡ flat_map (flattened rules (n ∷ opened)) (patterns_of (slice_get rules n))
  flattened-only h o = ap (λ (d : ℕ). contributed rules d opened n) (unopened-opened rules opened n h o) ∙ inside_at (unopened rules (n ∷ opened)) h o

-- what an include of a match or begin rule contributes is the first of its list
pub included-first : (rules : List Rule) (n : ℕ) (list : List Candidate) → is_only (slice_get rules n) ≡ false → list ≡ listed rules n → take 1 list ≡ included_candidates rules n
included-first rules n list plain is =
    ap (take 1) is
    ∙ ap (λ (b : Bool). take 1 (start_unless b n ++ flattened_candidates rules n)) plain
    ∙ sym (flattened-start rules [] n plain)

-- the same, as a list is read
pub included-read : (now rules : List Rule) (lists : List (List Candidate)) (n : ℕ) (r : Rule) (list item : List Candidate) → AreLists rules lists → rules ≡ now → n < length now
    → r ≡ get_or rules n r → item ≡ get_or lists n item → list ≡ item → is_only (Some r) ≡ false → take 1 list ≡ included_candidates now n
included-read now rules lists n r list item are same within rule_is item_is list_is plain =
    let inside : n < length rules = omega (arith, ap length same) in
    let at : slice_get rules n ≡ Some r = slice_get_read rules (length rules) n r refl inside rule_is in
    let there : slice_get lists n ≡ Some item = slice_get_read lists (length lists) n item refl (omega (arith, are.long)) item_is in
    let right = are.right n inside in
    let is : item ≡ listed rules n = cc in
    subst (λ (rs : List Rule). take 1 list ≡ included_candidates rs n) same (included-first rules n list (ap is_only at ∙ plain) (list_is ∙ is))

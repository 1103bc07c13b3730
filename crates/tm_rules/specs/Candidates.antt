-- The candidates of rules, flattened.
use Rattle.std.specs.Prelude.{ℕ, zero, suc, ◌+◌, List, [], ◌∷◌, ◌++◌, length, Bool, true, false, not, ◌&&◌, ◌||◌, nat_eq, Option, Some, None, flat_map, slice_get, if◌then◌else◌}
use Rattle.std.specs.List.{list_any}
use Rattle.tm_rules.specs.declared.candidate.Candidate.{Candidate}
use Rattle.tm_rules.specs.declared.candidate.Candidate.TheVariants.{Start, End}
use Rattle.tm_defs.specs.declared.rules.Rule.{Rule}
use Rattle.tm_rules.specs.Readers.{is_only, patterns_of, end_last_in}

-- whether the number is in the list
abbrev pub is_among : ℕ → List ℕ → Bool
is_among n opened = list_any (nat_eq n) opened

-- what the patterns of a rule contribute, unless it is open
abbrev pub unless_open : Bool → (ℕ → List Candidate) → List ℕ → List Candidate
unless_open true contributes patterns = []
unless_open false contributes patterns = flat_map contributes patterns

-- the start of a rule, unless it is an include-only one
abbrev pub start_unless : Bool → ℕ → List Candidate
start_unless true n = []
start_unless false n = Start n ∷ []

-- an end behind the others, or before them
abbrev pub with_end : Bool → List Candidate → List Candidate
with_end true cs = cs ++ End ∷ []
with_end false cs = End ∷ cs

-- the same where there is one
abbrev pub with_end_if : Option Bool → List Candidate → List Candidate
with_end_if None cs = cs
with_end_if (Some last) cs = with_end last cs

module _ (rules : List Rule) where
  -- how many of the include-only rules below this number are not open
  abbrev pub unopened_below : List ℕ → ℕ → ℕ
  unopened_below opened zero = 0
  unopened_below opened (suc n) = (if is_only (slice_get rules n) && not (is_among n opened) then 1 else 0) + unopened_below opened n

  abbrev pub unopened : List ℕ → ℕ
  unopened opened = unopened_below opened (length rules)

  -- What a rule contributes while some include-only rules are open, that is, being flattened: a match or begin rule its
  -- start, an include-only rule what its patterns contribute while it is open too, or nothing if it is open already. The
  -- first number bounds how deep this goes: how many include-only rules are not open.
  unfoldable pub contributed : ℕ → List ℕ → ℕ → List Candidate
  contributed zero opened n = start_unless (is_only (slice_get rules n)) n
  contributed (suc depth) opened n =
      start_unless (is_only (slice_get rules n)) n
      ++ unless_open (not (is_only (slice_get rules n)) || is_among n opened) (contributed depth (n ∷ opened)) (patterns_of (slice_get rules n))

  -- What a rule contributes.
  abbrev pub flattened : List ℕ → ℕ → List Candidate
  flattened opened n = contributed (unopened opened) opened n

  -- what an include of the rule contributes
  abbrev pub included_candidates : ℕ → List Candidate
  included_candidates n = flattened [] n

  -- A begin/end rule's own candidates are those of its patterns with its end first, or last by its flag; those of other
  -- rules are those of their patterns. A match rule has none, and an include-only rule is itself being flattened.
  abbrev pub own_candidates : ℕ → Option Rule → List Candidate
  own_candidates n rule = if is_only rule then flattened [] n else with_end_if (end_last_in rule) (flat_map (flattened []) (patterns_of rule))

  -- the candidates of the rule with this number
  abbrev pub flattened_candidates : ℕ → List Candidate
  flattened_candidates n = own_candidates n (slice_get rules n)

  -- Both in one: its start, which an include-only rule has not, and its own candidates.
  abbrev pub listed : ℕ → List Candidate
  listed n = start_unless (is_only (slice_get rules n)) n ++ flattened_candidates n

-- Rules that are ready to be searched: their patterns as they were read, and for each rule what stands inside it.
use Rattle.std.specs.Prelude.{◌≡◌, ℕ, ◌+◌, ◌<◌, ◌^◌, List, ◌++◌, length, map, MatchOption, ⊤, Option, Some, None, nat_lt, if◌then◌else◌, slice_get, slice_set, Bool, true, false, ◌-◌}
use Rattle.tm_defs.specs.declared.frames.FrameData.{FrameData}
use Rattle.tm_defs.specs.declared.rules.Rule.{Rule}
use Rattle.tm_line_turns.specs.declared.found.Match.{Match}
use Rattle.tm_onig_class.specs.Tree.{Tree}
use Rattle.tm_onig_scan.specs.Winner.{parsed_if}
use Rattle.tm_onig_scan.specs.Rows.{AreCandidates}
use Rattle.tm_rules.specs.Candidates.{flattened_candidates}
use Rattle.tm_rules.specs.Readers.{content_name_in, end_last_in, name_in}
use Rattle.tm_rules.specs.declared.candidate.Candidate.{Candidate}
use Rattle.tm_rules.specs.declared.candidate.Candidate.TheVariants.{Start, End}
use Rattle.tm_line.specs.Grammar.{scopes_of}
use Rattle.tm_line.specs.inner.Grouped.{AreGroups}
use Rattle.tm_line.specs.Search.{end_text, own_end, start_text}
use Rattle.tm_line.specs.declared.prepared.Inside.{Inside}

-- the patterns of this text of all rules, in their order
abbrev pub read_by : (Option Rule → Option (List ℕ)) → List Rule → List (Option Tree)
read_by text rules = map (λ rule. parsed_if (text (Some rule))) rules

-- the patterns that start rules, each at the number of its rule, and behind all of them those that end rules, as they stand
-- in the grammar
abbrev pub patterns_read : List Rule → List (Option Tree)
patterns_read rules = read_by start_text rules ++ read_by own_end rules

-- the number of the pattern of a candidate of this rule, of so many rules; a candidate that is no rule has one beyond them
abbrev pub number_of : ℕ → ℕ → Candidate → ℕ
number_of count n (Start m) = if nat_lt m count then m else count + count
number_of count n End = count + n

-- the names are the same for every match
abbrev pub AreNamesOf : Option (List ℕ) → Option (List (List ℕ)) → Type 0
AreNamesOf name fixed = MatchOption fixed ⊤ (λ names. (text : List ℕ) (m : Match) → names ≡ scopes_of text m name)

-- this is what is searched inside the rule of a number, which names it pushes,
-- and what it says of groups
pub record IsInside (rules : List Rule) (n : ℕ) (inside : Inside) : Type 0 where
  pub known : n < length rules
  pub few : length inside.list.numbers.items < 2 ^ 32
  pub numbers : inside.list.numbers.items ≡ map (number_of (length rules) n) (flattened_candidates rules n)
  pub ready : AreCandidates (patterns_read rules) inside.list
  pub end_last : inside.end_last ≡ end_last_in (slice_get rules n)
  pub name : AreNamesOf (name_in (slice_get rules n)) inside.name
  pub content_name : AreNamesOf (content_name_in (slice_get rules n)) inside.content_name
  pub groups : AreGroups (slice_get rules n) inside.groups

-- each has that of its rule
pub record AreInsides (rules : List Rule) (insides : List Inside) : Type 0 where
  pub long : length insides ≡ length rules
  pub right : (n : ℕ) (inside : Inside) → slice_get insides n ≡ Some inside → IsInside rules n inside

-- with another pattern at a place, if there is one
abbrev pub replaced : List (Option Tree) → ℕ → Option (Option Tree) → List (Option Tree)
replaced ps place None = ps
replaced ps place (Some p) = slice_set ps place p

-- where the end stands among so many candidates
abbrev pub end_place : Option Bool → ℕ → ℕ
end_place (Some true) count = count - 1
end_place last count = 0

-- the pattern of an open rule's end, where it counts
abbrev pub counted_end : List Rule → FrameData → Bool → Option Tree
counted_end rules frame true = parsed_if (end_text (slice_get rules frame.rule) frame.end)
counted_end rules frame false = None

-- what stands in place of a rule's own end, if anything does, is the pattern that counts; a rule without an end has nothing there
abbrev pub Counts : List Rule → ℕ → Option Tree → Option (Option Tree) → Type 0
Counts rules n p None = p ≡ parsed_if (own_end (slice_get rules n))
Counts rules n p (Some q) = q ≡ p

abbrev pub StandsIn : List Rule → FrameData → Bool → Option Bool → Option (Option Tree) → Type 0
StandsIn rules frame has_end None end = end ≡ None
StandsIn rules frame has_end (Some last) end = Counts rules frame.rule (counted_end rules frame has_end) end

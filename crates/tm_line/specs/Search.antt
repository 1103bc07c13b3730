-- The patterns that are searched while a rule is open, and what is found first of them.
use Rattle.std.specs.Prelude.{ℕ, List, [], ◌∷◌, map, Bool, true, false, Option, Some, None, slice_get}
use Rattle.tm_defs.specs.declared.frames.FrameData.{FrameData}
use Rattle.tm_defs.specs.declared.rules.Rule.{Rule}
use Rattle.tm_defs.specs.declared.rules.Rule.TheVariants as R
use Rattle.tm_line_turns.specs.declared.found.Match.{Match}
use Rattle.tm_line_turns.specs.declared.found.Winner.{Winner}
use Rattle.tm_line_turns.specs.declared.found.Winner.TheVariants.{Nothing, Ends, Begins, Matches}
use Rattle.tm_onig_class.specs.Tree.{Tree}
use Rattle.tm_onig_search.specs.Outcomes.{Caps}
use Rattle.tm_onig_scan.specs.Winner.{start_of, parsed_if}
use Rattle.tm_rules.specs.Candidates.{flattened_candidates}
use Rattle.tm_rules.specs.declared.candidate.Candidate.{Candidate}
use Rattle.tm_rules.specs.declared.candidate.Candidate.TheVariants.{Start, End}
pub use Rattle.tm_rules.specs.Readers.{start_text, own_end}

-- an open rule ends with the text that was made for it at its begin, or else with that of its grammar
abbrev pub end_text : Option Rule → Option (List ℕ) → Option (List ℕ)
end_text rule None = own_end rule
end_text rule (Some text) = Some text

-- The pattern of a candidate of an open rule, whose end counts where a rule is open around it. A text that is no pattern
-- matches nowhere, nor does an end without a text, or one that does not count.
abbrev pub pattern_of : List Rule → FrameData → Bool → Candidate → Option Tree
pattern_of rules frame has_end (Start n) = parsed_if (start_text (slice_get rules n))
pattern_of rules frame true End = parsed_if (end_text (slice_get rules frame.rule) frame.end)
pattern_of rules frame false End = None

-- the patterns of all of them, in their order
abbrev pub patterns_in : List Rule → FrameData → Bool → List (Option Tree)
patterns_in rules frame has_end = map (pattern_of rules frame has_end) (flattened_candidates rules frame.rule)

-- where the whole match ends
abbrev pub end_of : Caps → ℕ
end_of [] = 0
end_of (None ∷ groups) = 0
end_of (Some span ∷ groups) = span.1

abbrev pub match_of : Caps → Match
match_of caps = record { start = start_of caps; end = end_of caps; groups = caps }

-- a match rule matches, and a rule with a begin begins
abbrev pub started : Match → ℕ → Option Rule → Winner
started m n (Some (R.Match grammar path name content_name match_text captures)) = Matches n m
started m n (Some (R.BeginEnd grammar path name content_name patterns begin end_text end_last begin_captures end_captures)) = Begins n m
started m n (Some (R.BeginWhile grammar path name content_name patterns begin while_text begin_captures while_captures)) = Begins n m
started m n (Some (R.Only grammar path name content_name patterns)) = Nothing
started m n None = Nothing

-- what a match of a candidate is
abbrev pub won_by : List Rule → Match → Option Candidate → Winner
won_by rules m (Some (Start n)) = started m n (slice_get rules n)
won_by rules m (Some End) = Ends m
won_by rules m None = Nothing

-- what is found first, by its place among the candidates
abbrev pub winner_in : List Rule → List Candidate → Option (ℕ × Caps) → Winner
winner_in rules candidates None = Nothing
winner_in rules candidates (Some won) = won_by rules (match_of won.1) (slice_get candidates won.0)

-- What the groups of a match captured.
use Rattle.std.specs.Prelude.{ℕ, ◌≤◌, List, Option, Some, None, slice_get, ⊤}
use Rattle.std.specs.List.{slice_range}
use Rattle.std.specs.Str.Parse.{digits_value}
use Rattle.tm_onig_search.specs.Outcomes.{Caps}

-- The group of a reference: none beyond the groups of the pattern, and an unset one is there.
abbrev pub group_of : Caps → List ℕ → Option (Option (ℕ × ℕ))
group_of caps digits = slice_get caps (digits_value 10 digits)

-- The characters of a line from the start of a group to its end.
abbrev pub captured : List ℕ → ℕ × ℕ → List ℕ
captured line span = slice_range line span.0 span.1

-- A group that is set starts at or before its end, and ends within n characters.
abbrev pub IsSpanWithin : ℕ → Option (Option (ℕ × ℕ)) → Type 0
IsSpanWithin n None = ⊤
IsSpanWithin n (Some None) = ⊤
IsSpanWithin n (Some (Some span)) = (span.0 ≤ span.1) × (span.1 ≤ n)

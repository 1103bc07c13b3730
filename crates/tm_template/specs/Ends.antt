-- The texts of ends with what the begin captured in them, after the rules of vscode-textmate.
use Rattle.std.specs.Prelude.{ℕ, ◌==◌, ◌||◌, ◌&&◌, Bool, false, List, [], ◌∷◌, flat_map, Option, Some, None, if◌then◌else◌, codes}
use Rattle.std.specs.List.{list_any}
use Rattle.std.specs.Char.{is_ascii_digit}
use Rattle.tm_onig_class.specs.declared.listed.Listed.TheVariants.{Space}
use Rattle.tm_onig_class.specs.Listed.{in_listed}
use Rattle.tm_onig_search.specs.Outcomes.{Caps}
use Rattle.tm_template.specs.References.{Piece, Plain, Refers, end_form, pieces}
use Rattle.tm_template.specs.Captured.{captured, group_of}

-- The characters that mean something in a pattern.
unfoldable pub is_sign : ℕ → Bool
is_sign c = list_any (λ d. d == c) (codes "-\\{}*+?|^$.,[]()#")

-- A character as a pattern that matches it alone: signs and white space with a backslash before them.
abbrev pub escaped : ℕ → List ℕ
escaped c = if is_sign c || in_listed Space c then 92 ∷ c ∷ [] else c ∷ []

-- What a reference gives: nothing where there is no such group, or where it is unset.
abbrev pub reference_end : List ℕ → Option (Option (ℕ × ℕ)) → List ℕ
reference_end line None = []
reference_end line (Some None) = []
reference_end line (Some (Some span)) = flat_map escaped (captured line span)

-- What a piece of the text gives.
abbrev pub piece_end : List ℕ → Caps → Piece → List ℕ
piece_end line caps (Plain c) = c ∷ []
piece_end line caps (Refers r) = reference_end line (group_of caps r.digits)

-- The text with the captured texts in it.
abbrev pub resolved : List ℕ → List ℕ → Caps → List ℕ
resolved text line caps = flat_map (piece_end line caps) (pieces end_form text)

-- The text begins with a digit.
abbrev pub begins_digit : List ℕ → Bool
begins_digit [] = false
begins_digit (c ∷ t) = is_ascii_digit c

-- A backslash stands directly before a digit.
abbrev pub has_reference : List ℕ → Bool
has_reference [] = false
has_reference (c ∷ t) = (c == 92 && begins_digit t) || has_reference t

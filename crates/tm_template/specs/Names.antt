-- The names that a template pushes, after the rules of vscode-textmate.
use Rattle.std.specs.Prelude.{ℕ, ◌==◌, ◌||◌, Bool, false, not, List, [], ◌∷◌, length, drop, map, filter, flat_map, Option, Some, None}
use Rattle.std.specs.List.{slice_split, prefix_len}
use Rattle.std.specs.Option.{is_some}
use Rattle.std.specs.Char.{to_ascii_lowercase, to_ascii_uppercase}
use Rattle.tm_onig_search.specs.Outcomes.{Caps}
use Rattle.tm_template.specs.declared.references.Manner.{Manner}
use Rattle.tm_template.specs.declared.references.Manner.TheVariants.{AsCaptured, Downcase, Upcase}
use Rattle.tm_template.specs.References.{Piece, Plain, Refers, name_form, name_spelling, name_reference, pieces}
use Rattle.tm_template.specs.Captured.{captured, group_of}

-- A dot.
abbrev pub is_dot : ℕ → Bool
is_dot c = c == 46

-- Dots at the front of a captured text do not count.
abbrev pub without_dots : List ℕ → List ℕ
without_dots text = drop (prefix_len is_dot text) text

-- A case changes the letters of ASCII alone.
abbrev pub in_case : Manner → ℕ → ℕ
in_case AsCaptured c = c
in_case Downcase c = to_ascii_lowercase c
in_case Upcase c = to_ascii_uppercase c

-- What a reference gives that is spelled so: its own text where there is no such group, and nothing
-- where the group is unset.
abbrev pub reference_name : List ℕ → List ℕ → Manner → Option (Option (ℕ × ℕ)) → List ℕ
reference_name line spelling manner None = spelling
reference_name line spelling manner (Some None) = []
reference_name line spelling manner (Some (Some span)) = map (in_case manner) (without_dots (captured line span))

-- What a piece of a template gives.
abbrev pub piece_name : List ℕ → Caps → Piece → List ℕ
piece_name line caps (Plain c) = c ∷ []
piece_name line caps (Refers r) = reference_name line (name_spelling r) r.manner (group_of caps r.digits)

-- A template with the captured texts in it.
abbrev pub filled : List ℕ → List ℕ → Caps → List ℕ
filled template line caps = flat_map (piece_name line caps) (pieces name_form template)

-- The space, U+0020 alone.
abbrev pub is_blank : ℕ → Bool
is_blank c = c == 32

-- The word has a character.
abbrev pub is_filled : List ℕ → Bool
is_filled word = not (length word == 0)

-- The runs of characters other than the space, as long as they are.
abbrev pub words_of : List ℕ → List (List ℕ)
words_of text = filter is_filled (slice_split is_blank text)

-- The names of a template.
abbrev pub names_of : List ℕ → List ℕ → Caps → List (List ℕ)
names_of template line caps = words_of (filled template line caps)

-- A reference is spelled somewhere in the template.
abbrev pub has_name_reference : List ℕ → Bool
has_name_reference [] = false
has_name_reference (c ∷ t) = is_some (name_reference (c ∷ t)) || has_name_reference t

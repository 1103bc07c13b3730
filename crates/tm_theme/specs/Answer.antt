-- What is answered of a theme's file.
use Rattle.std.specs.Prelude.{◌≡◌, ℕ, List, Option, Some, None, Result, Ok, Err, if◌then◌else◌, ⊤}
use Rattle.serde_json.specs.Data.{Data}
use Rattle.tm_grammar.specs.File.{value_in}
use Rattle.tm_theme.specs.Theme.{ThemeRules}
use Rattle.tm_theme.specs.declared.fault.ThemeFault.{ThemeFault}
use Rattle.tm_theme.specs.declared.fault.ThemeFault.TheVariants.{NotJson, BadShape, BadColour, TooManyColours, OutOfMemory}
use Rattle.tm_theme_file.specs.declared.fault.Wrong.{Wrong}
use Rattle.tm_theme_file.specs.declared.fault.Wrong.TheVariants.{Shape, Colour}
use Rattle.tm_theme.specs.declared.palette.Defaults.{Defaults}
use Rattle.tm_theme_file.specs.declared.read.WrittenRule.{WrittenRule}
use Rattle.tm_theme_file.specs.Wrong.{wrong_in}
use Rattle.tm_theme_file.specs.Read.{rules_in}
use Rattle.tm_theme.specs.Palette.{defaults_of, palette_of, are_too_many, theme_by}

abbrev pub within : Defaults → List (List ℕ) → List WrittenRule → Option ThemeRules
within d palette rules = if are_too_many palette rules then None else Some (theme_by d palette rules)

-- the theme of rules, unless their colours are too many
abbrev pub theme_from : List WrittenRule → Option ThemeRules
theme_from rules = within (defaults_of rules) (palette_of (defaults_of rules) rules) rules

-- the value of a file in which nothing is wrong gives this theme, if any
abbrev pub IsRight : Option ThemeRules → List ℕ → Type 0
IsRight theme bytes = (d : Data) × (value_in bytes ≡ Some d) × (wrong_in d ≡ None) × (theme_from (rules_in d) ≡ theme)

-- the file has a value, and this is the first wrong one in it
abbrev pub IsFirstWrong : Wrong → List ℕ → Type 0
IsFirstWrong wrong bytes = (d : Data) × (value_in bytes ≡ Some d) × (wrong_in d ≡ Some wrong)

-- why a file has no theme; want of memory has no cause in it
abbrev pub IsCauseIn : List ℕ → ThemeFault → Type 0
IsCauseIn bytes NotJson = value_in bytes ≡ None
IsCauseIn bytes (BadShape path) = IsFirstWrong (Shape path) bytes
IsCauseIn bytes (BadColour path) = IsFirstWrong (Colour path) bytes
IsCauseIn bytes TooManyColours = IsRight None bytes
IsCauseIn bytes OutOfMemory = ⊤

abbrev pub answer_within : Option ThemeRules → Result ThemeRules ThemeFault
answer_within None = Err TooManyColours
answer_within (Some theme) = Ok theme

abbrev pub answer_by : Data → Option Wrong → Result ThemeRules ThemeFault
answer_by d (Some (Shape path)) = Err (BadShape path)
answer_by d (Some (Colour path)) = Err (BadColour path)
answer_by d None = answer_within (theme_from (rules_in d))

abbrev pub answer_from : Data → Result ThemeRules ThemeFault
answer_from d = answer_by d (wrong_in d)

-- the answer where memory suffices
abbrev pub answer_of : Option Data → Result ThemeRules ThemeFault
answer_of None = Err NotJson
answer_of (Some d) = answer_from d

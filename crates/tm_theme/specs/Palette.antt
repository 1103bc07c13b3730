-- The defaults of a theme, the numbers of its colours, and what its rules are with these numbers.
use Rattle.std.specs.Prelude.{ℕ, ◌+◌, ◌++◌, ◌&&◌, ◌||◌, Bool, true, false, not, List, [], ◌∷◌, codes, if◌then◌else◌, Option, Some, None, option_map, unwrap_or, nat_lt}
use Rattle.std.specs.Str.{bytes_eq}
use Rattle.tm_theme.specs.declared.style.Style.{Style}
use Rattle.tm_theme.specs.declared.style.Alternative.{Alternative}
use Rattle.tm_theme.specs.Theme.{ThemeRules, theme_rules}
use Rattle.tm_theme_file.specs.declared.read.WrittenRule.{WrittenRule}
use Rattle.tm_theme.specs.declared.palette.Defaults.{Defaults}

-- the defaults with what a rule without scope sets
abbrev pub with_default : WrittenRule → Defaults → Defaults
with_default r d = if r.plain then record { font = unwrap_or r.font d.font; foreground = unwrap_or r.foreground d.foreground; background = unwrap_or r.background d.background } else d

abbrev pub defaults_from : Defaults → List WrittenRule → Defaults
defaults_from d [] = d
defaults_from d (r ∷ rules) = defaults_from (with_default r d) rules

-- black on white, with no font style, unless rules without scope say otherwise; later ones override
abbrev pub defaults_of : List WrittenRule → Defaults
defaults_of rules = defaults_from (record { font = 0; foreground = codes "#000000"; background = codes "#FFFFFF" }) rules

-- colours are numbered from 1 by their places
abbrev pub number_of : List (List ℕ) → List ℕ → ℕ
number_of [] colour = 1
number_of (c ∷ palette) colour = if bytes_eq c colour then 1 else 1 + number_of palette colour

abbrev pub has_colour : List (List ℕ) → List ℕ → Bool
has_colour [] colour = false
has_colour (c ∷ palette) colour = if bytes_eq c colour then true else has_colour palette colour

-- one colour more, where it is new
abbrev pub with_colour : List (List ℕ) → List ℕ → List (List ℕ)
with_colour palette colour = if has_colour palette colour then palette else palette ++ colour ∷ []

abbrev pub with_some : List (List ℕ) → Option (List ℕ) → List (List ℕ)
with_some palette None = palette
with_some palette (Some colour) = with_colour palette colour

-- the colours of a rule with a scope, the foreground before the background
abbrev pub with_rule : List (List ℕ) → WrittenRule → List (List ℕ)
with_rule palette r = if r.plain then palette else with_some (with_some palette r.foreground) r.background

abbrev pub palette_from : List (List ℕ) → List WrittenRule → List (List ℕ)
palette_from palette [] = palette
palette_from palette (r ∷ rules) = palette_from (with_rule palette r) rules

-- the default foreground, the default background, and the colours of the rules in the order of the file, each once
abbrev pub palette_of : Defaults → List WrittenRule → List (List ℕ)
palette_of d rules = palette_from (with_colour (d.foreground ∷ []) d.background) rules

-- a colour's number is beyond the limit
abbrev pub is_over : ℕ → List (List ℕ) → Option (List ℕ) → Bool
is_over limit palette None = false
is_over limit palette (Some colour) = nat_lt limit (number_of palette colour)

abbrev pub rule_is_over : List (List ℕ) → WrittenRule → Bool
rule_is_over palette r = is_over 511 palette r.foreground || is_over 255 palette r.background

-- a rule with a scope has a foreground beyond 511, or a background beyond 255
abbrev pub are_too_many : List (List ℕ) → List WrittenRule → Bool
are_too_many palette [] = false
are_too_many palette (r ∷ rules) = if not r.plain && rule_is_over palette r then true else are_too_many palette rules

abbrev pub style_of : List (List ℕ) → WrittenRule → Style
style_of palette r = record { font = r.font; foreground = option_map (number_of palette) r.foreground; background = option_map (number_of palette) r.background }

abbrev pub alternatives_with : Style → List (List (List ℕ)) → List Alternative
alternatives_with style [] = []
alternatives_with style (words ∷ more) = record { words = words; style = style } ∷ alternatives_with style more

-- the alternatives of a rule with a scope
abbrev pub rule_alternatives : List (List ℕ) → WrittenRule → List Alternative
rule_alternatives palette r = if r.plain then [] else alternatives_with (style_of palette r) r.alternatives

abbrev pub all_alternatives : List (List ℕ) → List WrittenRule → List Alternative
all_alternatives palette [] = []
all_alternatives palette (r ∷ rules) = rule_alternatives palette r ++ all_alternatives palette rules

-- 2, or 1 where it is the colour of the foreground
abbrev pub background_number : Defaults → ℕ
background_number d = if bytes_eq d.foreground d.background then 1 else 2

-- the theme by its defaults and its palette
abbrev pub theme_by : Defaults → List (List ℕ) → List WrittenRule → ThemeRules
theme_by d palette rules =
    theme_rules (record { font = d.font; foreground = 1; background = background_number d }) (all_alternatives palette rules)

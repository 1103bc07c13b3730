-- The first value of a theme's file that is wrong: a value stands before its parts, items stand in their order, and members
-- in the order of their keys' bytes. Only the keys named here are looked at.
use Rattle.std.specs.Prelude.{ℕ, ◌+◌, ◌++◌, List, [], ◌∷◌, codes, Bool, true, false, if◌then◌else◌, Option, Some, None, is_some}
use Rattle.std.specs.Option.{option_or}
use Rattle.serde_json.specs.Data.{Data, string, array, object, Items, no_items, item}
use Rattle.serde_json.specs.Find.{get}
use Rattle.tm_grammar.specs.Paths.{key_step, place_step}
use Rattle.tm_theme_file.specs.declared.fault.Wrong.{Wrong}
use Rattle.tm_theme_file.specs.declared.fault.Wrong.TheVariants.{Shape, Colour}
use Rattle.tm_theme_file.specs.Written.{is_colour}

-- the same, inside a part behind this step
abbrev pub behind : List ℕ → Wrong → Wrong
behind step (Shape path) = Shape (step ++ path)
behind step (Colour path) = Colour (step ++ path)

abbrev pub below : List ℕ → Option Wrong → Option Wrong
below step None = None
below step (Some wrong) = Some (behind step wrong)

-- the value itself is not what it ought to be
abbrev pub misfit : Option Wrong
misfit = Some (Shape [])

-- what is wrong at a key, where it is there
abbrev pub wrong_at : (Data → Option Wrong) → List ℕ → Option Data → Option Wrong
wrong_at check key None = None
wrong_at check key (Some d) = below (key_step key) (check d)

-- what is first wrong in items from a place on
abbrev pub wrong_item : (Data → Option Wrong) → ℕ → Items → Option Wrong
wrong_item check place no_items = None
wrong_item check place (item d ds) = option_or (below (place_step place) (check d)) (wrong_item check (place + 1) ds)

-- a text
abbrev pub wrong_text : Data → Option Wrong
wrong_text (string s) = None
wrong_text d = misfit

abbrev pub unless_colour : List ℕ → Option Wrong
unless_colour [] = None
unless_colour (c ∷ text) = if is_colour (c ∷ text) then None else Some (Colour [])

-- a text that is a colour, or empty
abbrev pub wrong_colour : Data → Option Wrong
wrong_colour (string s) = unless_colour s
wrong_colour d = misfit

-- a text or a list of texts
abbrev pub wrong_scope : Data → Option Wrong
wrong_scope (string s) = None
wrong_scope (array ds) = wrong_item wrong_text 0 ds
wrong_scope d = misfit

abbrev pub is_object : Data → Bool
is_object (object ms) = true
is_object d = false

-- what a rule sets: an object
abbrev pub wrong_settings : Data → Option Wrong
wrong_settings d = if is_object d then
    option_or (wrong_at wrong_colour (codes "background") (get (codes "background") d))
    (option_or (wrong_at wrong_text (codes "fontStyle") (get (codes "fontStyle") d))
    (wrong_at wrong_colour (codes "foreground") (get (codes "foreground") d)))
    else misfit

-- a rule: an object
abbrev pub wrong_rule : Data → Option Wrong
wrong_rule d = if is_object d then
    option_or (wrong_at wrong_scope (codes "scope") (get (codes "scope") d)) (wrong_at wrong_settings (codes "settings") (get (codes "settings") d))
    else misfit

-- a list of rules
abbrev pub wrong_rules : Data → Option Wrong
wrong_rules (array ds) = wrong_item wrong_rule 0 ds
wrong_rules d = misfit

-- the key of the rules: `tokenColors` where it is there, else `settings`
abbrev pub rules_key : Data → List ℕ
rules_key d = if is_some (get (codes "tokenColors") d) then codes "tokenColors" else codes "settings"

-- a theme: an object
abbrev pub wrong_in : Data → Option Wrong
wrong_in d = if is_object d then wrong_at wrong_rules (rules_key d) (get (rules_key d) d) else misfit

-- The rules of a theme's file in which nothing is wrong.
use Rattle.std.specs.Prelude.{ℕ, List, [], ◌∷◌, codes, Bool, true, ◌&&◌, Option, Some, None, option_map, option_and_then}
use Rattle.serde_json.specs.Data.{Data, string, array, Items, no_items, item}
use Rattle.serde_json.specs.Find.{get, as_str}
use Rattle.tm_theme_file.specs.declared.read.WrittenRule.{WrittenRule}
use Rattle.tm_theme_file.specs.Written.{upper, font_of, is_blank, alternatives_from}
use Rattle.tm_theme_file.specs.Wrong.{rules_key}

abbrev pub text_is_blank : Data → Bool
text_is_blank (string s) = is_blank s
text_is_blank d = true

abbrev pub items_are_blank : Items → Bool
items_are_blank no_items = true
items_are_blank (item d ds) = text_is_blank d && items_are_blank ds

-- a rule without scope, or with blank texts alone, sets the defaults
abbrev pub sets_defaults : Option Data → Bool
sets_defaults None = true
sets_defaults (Some (string s)) = is_blank s
sets_defaults (Some (array ds)) = items_are_blank ds
sets_defaults (Some d) = true

abbrev pub text_alternatives : List (List (List ℕ)) → Data → List (List (List ℕ))
text_alternatives done (string s) = alternatives_from [] [] done s
text_alternatives done d = done

abbrev pub items_alternatives : List (List (List ℕ)) → Items → List (List (List ℕ))
items_alternatives done no_items = done
items_alternatives done (item d ds) = items_alternatives (text_alternatives done d) ds

-- the alternatives of a scope, each with its last word first
abbrev pub scope_alternatives : Option Data → List (List (List ℕ))
scope_alternatives None = []
scope_alternatives (Some (string s)) = alternatives_from [] [] [] s
scope_alternatives (Some (array ds)) = items_alternatives [] ds
scope_alternatives (Some d) = []

-- the text of a setting
abbrev pub setting_text : List ℕ → Data → Option (List ℕ)
setting_text key d = option_and_then as_str (option_and_then (get key) (get (codes "settings") d))

-- a colour, where the text is not empty
abbrev pub colour_in : Option (List ℕ) → Option (List ℕ)
colour_in None = None
colour_in (Some []) = None
colour_in (Some (c ∷ text)) = Some (upper (c ∷ text))

abbrev pub rule_of : Data → WrittenRule
rule_of d = record {
  plain = sets_defaults (get (codes "scope") d);
  alternatives = scope_alternatives (get (codes "scope") d);
  font = option_map font_of (setting_text (codes "fontStyle") d);
  foreground = colour_in (setting_text (codes "foreground") d);
  background = colour_in (setting_text (codes "background") d);
}

abbrev pub rules_of : Items → List WrittenRule
rules_of no_items = []
rules_of (item d ds) = rule_of d ∷ rules_of ds

abbrev pub rules_at : Option Data → List WrittenRule
rules_at None = []
rules_at (Some (array ds)) = rules_of ds
rules_at (Some d) = []

-- the rules of a theme
abbrev pub rules_in : Data → List WrittenRule
rules_in d = rules_at (get (rules_key d) d)

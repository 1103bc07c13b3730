-- The rules in the parts of a raw rule.
use Rattle.std.specs.Prelude.{List, ◌++◌}
use Rattle.tm_grammar.specs.declared.raw.RawRule.{RawRule}
use Rattle.tm_grammar.specs.declared.raw.RawRule.TheOpen.{RawRule-F}
use Rattle.tm_rules.specs.Tree.{captures_of_if, items_of_if, names_of}
use Rattle.tm_rules.specs.Includes.{Entries}
use Rattle.tm_rules.specs.Rules.{rules_in_captures, rules_in_items, rules_in_names}
use Rattle.tm_rules.specs.declared.loaded.Loaded.{Loaded}
use Rattle.tm_rules.specs.declared.sizes.FirstNumbers.{FirstNumbers}
use Rattle.tm_defs.specs.declared.rules.Rule.{Rule}

-- those of each part, in the order of the walk
abbrev pub rules_in_parts : List Loaded → Loaded → List Entries → FirstNumbers → RawRule-F RawRule → List Rule
rules_in_parts loaded grammar scopes f r =
    rules_in_captures loaded grammar scopes f.begin_captures (captures_of_if r.begin_captures)
    ++ (rules_in_captures loaded grammar scopes f.captures (captures_of_if r.captures)
    ++ (rules_in_captures loaded grammar scopes f.end_captures (captures_of_if r.end_captures)
    ++ (rules_in_items loaded grammar scopes f.patterns (items_of_if r.patterns)
    ++ (rules_in_names loaded grammar scopes f.repository (names_of r.repository)
    ++ rules_in_captures loaded grammar scopes f.while_captures (captures_of_if r.while_captures)))))

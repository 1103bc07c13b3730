-- What rules say of the groups of their patterns.
use Rattle.std.specs.Prelude.{◌≡◌, ℕ, List, map, Option, Some, option_map, if◌then◌else◌}
use Rattle.tm_defs.specs.declared.rules.Capture.{Capture}
use Rattle.tm_defs.specs.declared.rules.Rule.{Rule}
use Rattle.tm_line_turns.specs.declared.captures.GroupName.{GroupName}
use Rattle.tm_line_turns.specs.declared.captures.GroupName.TheVariants.{Fixed, Filled}
use Rattle.tm_line_turns.specs.declared.captures.GroupRule.{GroupRule}
use Rattle.tm_line_turns.specs.declared.found.Match.{Match}
use Rattle.tm_line_turns.specs.declared.found.Whose.{Whose}
use Rattle.tm_line_turns.specs.declared.found.Whose.TheVariants.{AtBegin, AtEnd, AtMatch, AtWhile}
use Rattle.tm_rules.specs.Readers.{captures_at_begin, captures_at_end, captures_at_match, captures_at_while}
use Rattle.tm_line_turns.specs.Captures.{pushed}
use Rattle.tm_template.specs.Names.{has_name_reference, names_of, words_of}

-- the name of a group: its words, or a template where it refers to groups
abbrev pub group_name : List ℕ → GroupName
group_name template = if has_name_reference template then Filled template else Fixed (words_of template)

abbrev pub group_rule : Capture → GroupRule
group_rule c = record {
  group = c.group;
  name = option_map group_name c.name;
  content_name = option_map group_name c.content_name;
  rule = c.rule;
}

-- the captures of one of its patterns
abbrev pub captures_of : Whose → Option Rule → List Capture
captures_of AtBegin rule = captures_at_begin rule
captures_of AtEnd rule = captures_at_end rule
captures_of AtMatch rule = captures_at_match rule
captures_of AtWhile rule = captures_at_while rule

abbrev pub groups_of : Whose → Option Rule → List GroupRule
groups_of whose rule = map group_rule (captures_of whose rule)

-- The name of a group pushes what its template gives at the match.
abbrev pub IsNamedByTemplate : List ℕ → List ℕ → Match → Type 0
IsNamedByTemplate template text m = pushed (λ t. names_of t text m.groups) (Some (group_name template)) ≡ names_of template text m.groups

-- What rules say of every text, for the line relation.
use Rattle.std.specs.Prelude.{false, ℕ, List, [], length, Option, Some, None, slice_get, if◌then◌else◌}
use Rattle.tm_defs.specs.declared.rules.Rule.{Rule}
use Rattle.tm_line_turns.specs.declared.found.Match.{Match}
use Rattle.tm_line_turns.specs.Language.{Language}
use Rattle.tm_meta.specs.Metadata.{metadata_of}
use Rattle.tm_onig_scan.specs.Winner.{earliest_winner, scan_cost}
use Rattle.tm_rules.specs.Candidates.{flattened_candidates}
use Rattle.tm_rules.specs.Readers.{name_in, content_name_in}
use Rattle.tm_template.specs.Ends.{has_reference, resolved}
use Rattle.tm_template.specs.Names.{names_of}
use Rattle.tm_line.specs.Groups.{groups_of}
use Rattle.tm_line.specs.Search.{own_end, patterns_in, winner_in}

-- the scopes of a name over a match, with what its groups captured
abbrev pub scopes_of : List ℕ → Match → Option (List ℕ) → List (List ℕ)
scopes_of text m None = []
scopes_of text m (Some name) = names_of name text m.groups

-- the text of an end with what the begin captured, where it refers to that
abbrev pub end_made_of : List ℕ → Match → Option (List ℕ) → Option (List ℕ)
end_made_of text m None = None
end_made_of text m (Some end) = if has_reference end then Some (resolved end text m.groups) else None

-- A turn searches every candidate of the open rule. No rule is held up by a `while`: grammar files that have one are refused
-- so far.
abbrev pub rules_language : List Rule → Language
rules_language rules = record {
  rules = length rules;
  winner = λ text frame has_end at first anchored. winner_in rules (flattened_candidates rules frame.rule) (earliest_winner text at first anchored (patterns_in rules frame has_end));
  cost = λ text frame has_end at first anchored. scan_cost text at first anchored (patterns_in rules frame has_end);
  names = λ text rule m. scopes_of text m (name_in (slice_get rules rule));
  content_names = λ text rule m. scopes_of text m (content_name_in (slice_get rules rule));
  end_text = λ text rule m. end_made_of text m (own_end (slice_get rules rule));
  captures = λ whose rule. groups_of whose (slice_get rules rule);
  filled = λ text m template. names_of template text m.groups;
  has_while = λ rule. false;
  while_match = λ text frame at first anchored. None;
  while_cost = λ text frame at first anchored. 0;
  meta = metadata_of;
}

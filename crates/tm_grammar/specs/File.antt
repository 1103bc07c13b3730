-- What a grammar file says.
use Rattle.std.specs.Prelude.{ℕ, List, [], codes, Option, None, unwrap_or, if◌then◌else◌}
use Rattle.std.specs.Str.{is_utf8}
use Rattle.serde_json.specs.Data.{Data, Members, no_members}
use Rattle.serde_json.specs.Find.{as_object}
use Rattle.serde_json.specs.Read.{read}
use Rattle.tm_grammar.specs.Tree.{text_at, blank, patterns_at, repository_at}
use Rattle.tm_grammar.specs.declared.raw.RawRule.{RawRule}
use Rattle.tm_grammar.specs.declared.raw.RawRule.TheViews.{roll-RawRule}

-- the scope of each line, the grammar's own rules as those of one rule at the empty path, and what is for injections
pub record GrammarTree : Type 0 where
  pub scope_name : List ℕ
  pub root : RawRule
  pub injections : List (List ℕ × RawRule)
  pub injection_selector : Option (List ℕ)

abbrev pub grammar_tree : List ℕ → RawRule → List (List ℕ × RawRule) → Option (List ℕ) → GrammarTree
grammar_tree scope_name root injections injection_selector = record { scope_name = scope_name; root = root; injections = injections; injection_selector = injection_selector }

-- the members of an object, and none of another value
abbrev pub members_of : Data → Members
members_of d = unwrap_or (as_object d) no_members

abbrev pub scope_of : Data → List ℕ
scope_of d = unwrap_or (text_at (codes "scopeName") (members_of d)) []

-- of a grammar's keys only these two are its root rule's
abbrev pub root_in : Data → RawRule
root_in d = roll-RawRule (record (blank []) { patterns = patterns_at (codes "patterns") [] (members_of d); repository = repository_at (codes "repository") [] (members_of d) })

-- the tree of a value in which nothing is wrong
abbrev pub grammar_of : Data → GrammarTree
grammar_of d = grammar_tree (scope_of d) (root_in d) (repository_at (codes "injections") [] (members_of d)) (text_at (codes "injectionSelector") (members_of d))

-- the value of a file, where the bytes are the text of one
abbrev pub value_in : List ℕ → Option Data
value_in bytes = if is_utf8 bytes then read bytes else None

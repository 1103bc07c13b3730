-- Answers worked out by the definition alone.
use Rattle.std.specs.Prelude.{◌≡◌, ℕ, List, [], ◌∷◌, codes, Some, None, true, Result, Ok, Err}
use Rattle.serde_json.specs.Read.{read}
use Rattle.tm_grammar.specs.Answer.{answer_of}
use Rattle.tm_grammar.specs.File.{GrammarTree, grammar_tree}
use Rattle.tm_grammar.specs.Tree.{blank}
use Rattle.tm_grammar.specs.declared.fault.JsonFault.{JsonFault}
use Rattle.tm_grammar.specs.declared.fault.JsonFault.TheVariants.{NotJson, BadShape}
use Rattle.tm_grammar.specs.declared.raw.RawRule.{RawRule}
use Rattle.tm_grammar.specs.declared.raw.RawRule.TheViews.{roll-RawRule}

-- the answer of a JSON text where memory suffices
abbrev pub Says : List ℕ → Result GrammarTree JsonFault → Type 0
Says text answer = answer_of (read text) ≡ answer

abbrev pub wrong : List ℕ → Result GrammarTree JsonFault
wrong path = Err (BadShape path)

-- the grammar of the scope `s` with these patterns, and no other key
abbrev pub with_patterns : List RawRule → Result GrammarTree JsonFault
with_patterns rules = Ok (grammar_tree (codes "s") (roll-RawRule (record (blank []) { patterns = Some rules })) [] None)

abbrev pub first_path : List ℕ
first_path = codes "/patterns/0"

pub record Rows : Type 0 where
  pub no_value : Says (codes "{") (Err NotJson)
  pub whole_value : Says (codes "[]") (wrong [])
  pub absent_scope : Says (codes "{\"patterns\":[]}") (wrong (codes "/scopeName"))
  pub number_for_list : Says (codes "{\"patterns\":3,\"scopeName\":\"s\"}") (wrong (codes "/patterns"))
  pub inside_before_scope : Says (codes "{\"scopeName\":3,\"repository\":{\"a/b\":{\"patterns\":[{\"match\":3}]}}}") (wrong (codes "/repository/a~1b/patterns/0/match"))
  pub escaped_tilde : Says (codes "{\"repository\":{\"a\":{\"c~d\":3},\"c~d\":3}}") (wrong (codes "/repository/c~0d"))
  pub order_of_bytes : Says (codes "{\"repository\":{\"a\":3,\"B\":3}}") (wrong (codes "/repository/B"))
  pub earlier_key : Says (codes "{\"patterns\":[{},{\"patterns\":3,\"name\":4}]}") (wrong (codes "/patterns/1/name"))
  pub last_of_equal_keys : Says (codes "{\"scopeName\":3,\"scopeName\":\"s\",\"name\":4,\"patterns\":[]}") (with_patterns [])
  pub numbers_alone : Says (codes "{\"scopeName\":\"s\",\"patterns\":[{\"captures\":{\"65536\":3,\"x\":3,\"\":3,\"01\":{\"match\":3}}}]}")
      (with_patterns (roll-RawRule (record (blank first_path) { captures = Some ((1, roll-RawRule (blank (codes "/patterns/0/captures/01"))) ∷ []) }) ∷ []))
  pub places_from_zero : Says (codes "{\"scopeName\":\"s\",\"patterns\":[{\"captures\":[{\"name\":\"a\"}]}]}")
      (with_patterns (roll-RawRule (record (blank first_path) { captures = Some ((0, roll-RawRule (record (blank (codes "/patterns/0/captures/0")) { name = Some (codes "a") })) ∷ []) }) ∷ []))
  pub zero_is_false : Says (codes "{\"scopeName\":\"s\",\"patterns\":[{\"applyEndPatternLast\":0},{\"applyEndPatternLast\":2}]}")
      (with_patterns (roll-RawRule (blank first_path) ∷ roll-RawRule (record (blank (codes "/patterns/1")) { end_last = true }) ∷ []))
  pub injections : Says (codes "{\"scopeName\":\"s\",\"injections\":{\"L:a\":{\"end\":\"e\"}},\"injectionSelector\":\"b\"}")
      (Ok (grammar_tree (codes "s") (roll-RawRule (blank [])) ((codes "L:a", roll-RawRule (record (blank (codes "/injections/L:a")) { end_text = Some (codes "e") })) ∷ []) (Some (codes "b"))))

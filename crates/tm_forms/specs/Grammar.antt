-- The grammar file, in the form that is built: any grammar without `while` rules and injections (TextMate 1.x manual,
-- Language Grammars, with the keys of vscode-textmate).
use Rattle.std.specs.Prelude.{ℕ, List, [], ◌∷◌, map, length, Bool, false, ◌||◌, nat_lt, Option, Some, None, is_some, Result}
use Rattle.serde_json.specs.Data.{Data}
use Rattle.tm_grammar.specs.File.{GrammarTree, grammar_of}
use Rattle.tm_grammar.specs.Wrong.{wrong_in}
use Rattle.tm_grammar.specs.declared.raw.RawRule.{RawRule}
use Rattle.tm_grammar.specs.declared.raw.RawRule.TheOpen.{RawRule-F}
use Rattle.tm_grammar.specs.declared.raw.RawRule.TheFolds.{fold-RawRule}
use Rattle.tm_forms.specs.Json.{json_in}
use Rattle.tm_forms.specs.Refusals.{json_answer, value_answer}
use Rattle.tm_forms.specs.declared.form.Refusal.{Refusal}

-- whether one is true of a list's items
abbrev pub some_item : List Bool → Bool
some_item [] = false
some_item (later ∷ rest) = later || some_item rest

abbrev pub some_listed : Option (List Bool) → Bool
some_listed None = false
some_listed (Some items) = some_item items

-- whether one is true of what names, or the numbers of groups, stand for
abbrev pub some_keyed : {K : Type 0} → List (K × Bool) → Bool
some_keyed [] = false
some_keyed (keyed ∷ rest) = keyed.1 || some_keyed rest

abbrev pub some_captured : Option (List (ℕ × Bool)) → Bool
some_captured None = false
some_captured (Some captures) = some_keyed captures

-- a rule with one of the keys that are not built yet, or with such a rule in its captures, its patterns or its repository
abbrev pub later_by : RawRule-F Bool → Bool
later_by r = is_some r.while_text || is_some r.while_captures
    || some_captured r.captures || some_captured r.begin_captures || some_captured r.end_captures
    || some_listed r.patterns || some_keyed r.repository

-- whether the rule, or one inside it at any depth, has such a key
abbrev pub has_later : RawRule → Bool
has_later = fold-RawRule Bool later_by

-- the same of a list, of captures, and of a repository
abbrev pub has_later_item : List RawRule → Bool
has_later_item rules = some_item (map has_later rules)

abbrev pub has_later_listed : Option (List RawRule) → Bool
has_later_listed None = false
has_later_listed (Some rules) = has_later_item rules

abbrev pub has_later_keyed : {K : Type 0} → List (K × RawRule) → Bool
has_later_keyed rules = some_keyed (map (λ t. (t.0, has_later t.1)) rules)

abbrev pub has_later_captured : Option (List (ℕ × RawRule)) → Bool
has_later_captured None = false
has_later_captured (Some captures) = has_later_keyed captures

-- a grammar that injects, that is injected, or that has such a rule
abbrev pub is_later : GrammarTree → Bool
is_later g = nat_lt 0 (length g.injections) || is_some g.injection_selector || has_later g.root

abbrev pub grammar_from : Data → Result GrammarTree Refusal
grammar_from d = value_answer (wrong_in d) (is_later (grammar_of d)) (grammar_of d)

abbrev pub grammar_in : List ℕ → Result GrammarTree Refusal
grammar_in bytes = json_answer grammar_from (json_in bytes)

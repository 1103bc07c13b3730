-- The answer of a grammar file, by that of tm_grammar.
use Rattle.std.proofs.Common.{◌≡◌, ℕ, List, Bool, true, false, Option, Some, None, refl, ap, sym, ◌∙◌, if◌then◌else◌}
use Rattle.std.specs.Prelude.{option_and_then, Result, Ok, Err}
use Rattle.std.specs.Str.{is_utf8}
use Rattle.serde_json.specs.Data.{Data}
use Rattle.serde_json.specs.Read.{read}
use Rattle.tm_grammar.specs.Answer.{IsTreeOf}
use Rattle.tm_grammar.specs.File.{GrammarTree, value_in}
use Rattle.tm_forms.specs.Grammar.{is_later, grammar_from, grammar_in}
use Rattle.tm_forms.specs.Json.{json_in}
use Rattle.tm_forms.specs.Refusals.{ok_map, json_answer}
use Rattle.tm_forms.specs.Utf8.{without_mark}
use Rattle.tm_forms.specs.declared.form.Refusal.{Refusal}
use Rattle.tm_forms.specs.declared.form.Refusal.TheVariants.{NotYet}

read-if : (t : Bool) (text : List ℕ) → option_and_then read (if t then Some text else None) ≡ (if t then read text else None)
read-if true text = refl
read-if false text = refl

-- both readers take the same value
pub json-value : (bytes : List ℕ) → json_in bytes ≡ value_in (without_mark bytes)
json-value bytes = read-if (is_utf8 (without_mark bytes)) (without_mark bytes)

in-value : (bytes text : List ℕ) (o : Option Data) → text ≡ without_mark bytes → value_in text ≡ o → grammar_in bytes ≡ json_answer grammar_from o
in-value bytes text o same is = ap (json_answer grammar_from) (json-value bytes ∙ ap value_in (sym same) ∙ is)

ok_map-same : {T E : Type 0} (r : Result T E) → ok_map (λ x. x) r ≡ r
ok_map-same (Ok x) = refl
ok_map-same (Err e) = refl

-- of the bytes behind the mark
module _ (bytes text : List ℕ) (same : text ≡ without_mark bytes) where
  pub answered : (tree : GrammarTree) (found : Result GrammarTree Refusal) → IsTreeOf tree text → found ≡ (if is_later tree then Err NotYet else Ok tree) → ok_map (λ x. x) found ≡ grammar_in bytes
  answered tree found (d, is, right, read) built =
      ok_map-same found ∙ built ∙ ap (λ t. if is_later t then Err NotYet else Ok t) read ∙ sym (in-value bytes text (Some d) same is ∙ rw right refl)

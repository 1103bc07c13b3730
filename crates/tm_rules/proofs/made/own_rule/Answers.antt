use Rattle.std.proofs.Common.{◌≡◌, Some, option_map, ap, sym, ◌∙◌}
use Rattle.std.specs.Prelude.{None}
use Rattle.std.proofs.lemmas.Result.{IfOk-weaker}
use Rattle.tm_rules.specs.Sizes.{filled}
use Rattle.tm_rules.specs.Tree.{keys_of, tree_of}
use Rattle.tm_rules.proofs.Opened.{tree_of_out}
use Rattle.tm_rules.proofs.made.own_rule.Goals as goal

pub returns-in-Some : goal.returns-in-Some
returns-in-Some c =
    let t = tree_of c.args.raw.now in
    let is : filled (keys_of t).match_text ≡ Some c.in-Some.match_text.now =
    ap (λ t. filled (keys_of t).match_text) (tree_of_out c.args.raw.now) ∙ sym c.filled.ensures ∙ ap (option_map (λ m. m.now)) c.in-Some.is in
    IfOk-weaker c.match_rule.result _ _ (λ rule made. rw is (made c.args.scopes.now (keys_of t).begin (filled (keys_of t).while_text))) c.match_rule.ensures

pub returns-in_default-begin : goal.returns-in_default-begin
returns-in_default-begin c =
    let t = tree_of c.args.raw.now in
    let none : filled (keys_of t).match_text ≡ None =
    ap (λ t. filled (keys_of t).match_text) (tree_of_out c.args.raw.now) ∙ sym c.filled.ensures ∙ ap (option_map (λ m. m.now)) c.in_default.is in
    let begin : (keys_of t).begin ≡ None = ap (λ t. (keys_of t).begin) (tree_of_out c.args.raw.now) ∙ c.in_default-begin.is in
    IfOk-weaker c.only.result _ _ (λ rule made. rw (none, begin) (made (filled (keys_of t).while_text))) c.only.ensures

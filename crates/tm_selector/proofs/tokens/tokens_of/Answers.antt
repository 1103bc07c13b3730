use Rattle.std.proofs.Common.{◌≤◌, ◌-◌, ◌+◌, ◌++◌, length, drop, refl, sym, ap, subst, ◌∙◌, arith}
use Rattle.std.proofs.lemmas.List.{length-drop}
use Rattle.tm_selector.specs.Tokens.{tokens_of, tokens_up_to, spaces, token_at, IsWithin}
use Rattle.tm_selector.proofs.Texts.{no-token, one-token}
use Rattle.tm_selector.proofs.tokens.tokens_of.Goals as goal

pub returns-in-None : goal.returns-in-None
returns-in-None c =
    no-token c.loop.tokens.items (tokens_of c.args.text.now) (length c.args.text.now) c.loop.counter c.loop.at c.spaces.result c.args.text.now c.loop-test.true
    (c.spaces.ensures.is ∙ ap spaces c.tail.ensures) (sym (ap token_at c.tail-in-loop.ensures) ∙ sym c.in_ok-token.ensures.is ∙ c.in-None.is) c.loop.invariant.found

pub loop-preserved : goal.loop-preserved
loop-preserved c =
    let at = c.loop.at + c.spaces.result in
    let width : c.in-Some.width ≤ length c.tail-in-loop.result.now = subst (IsWithin c.tail-in-loop.result.now) c.in-Some.is c.in_ok-token.ensures.within in
    let tail : length c.tail-in-loop.result.now ≤ length c.args.text.now - at = omega (arith, ap length c.tail-in-loop.ensures, length-drop at c.args.text.now) in
    let blank : c.spaces.result ≤ length c.args.text.now - c.loop.at = omega (arith, c.spaces.ensures.within, ap length c.tail.ensures, length-drop c.loop.at c.args.text.now) in
    record {
      found =
          ap (λ ts. ts ++ tokens_up_to (length c.args.text.now - (c.loop.counter + 1)) (drop (at + c.in-Some.width) c.args.text.now)) c.in_ok-push-in-Some.ensures.items
          ∙ one-token c.loop.tokens.items (tokens_of c.args.text.now) (length c.args.text.now) c.loop.counter c.loop.at c.spaces.result c.in-Some.width c.args.text.now c.in-Some.token c.loop-test.true
          (c.spaces.ensures.is ∙ ap spaces c.tail.ensures) (sym (ap token_at c.tail-in-loop.ensures) ∙ sym c.in_ok-token.ensures.is ∙ c.in-Some.is) c.loop.invariant.found;
      within = omega (arith, width, tail, blank, c.loop.invariant.within);
      end = refl;
    }

use Rattle.std.proofs.Common.{◌-◌, ap, sym, ◌∙◌, arith}
use Rattle.std.specs.Option.{option_or}
use Rattle.tm_theme.specs.Buckets.{with_pieces}
use Rattle.tm_theme.proofs.BucketSteps.{pieces-step, pieces-first, types-step, types-first}
use Rattle.tm_theme.proofs.buckets.said_of.Goals as goal

pub loop-place-preserved : goal.loop-place-preserved
loop-place-preserved g c =
    let above = g.S.Scopes.names c.args.above.now in
    record {
      rest =
          ap (λ style. with_pieces c.args.all.now c.args.buckets.now above c.args.scope.now style (c.loop-place.place - 1)) c.with_character-said.ensures.style
          ∙ sym (pieces-step c.args.all.now c.args.buckets.now above c.args.scope.now c.loop-place.said.style c.loop-place.place c.loop-place-test.true)
          ∙ c.loop-place.invariant.rest;
      behind = types-step c.args.scope.now c.loop-place.place c.loop-place.said.token_type c.with_character-said.result.token_type c.loop-place-test.true c.loop-place.invariant.within c.loop-place.invariant.behind c.with_character-said.ensures.token_type;
      within = omega (arith, c.loop-place.invariant.within);
    }

pub returns-clause-token_type : goal.returns-clause-token_type
returns-clause-token_type g c =
    types-first c.args.scope.now c.loop-place.place c.loop-place.said.token_type _ (omega (arith, c.loop-place-test.false)) c.loop-place.invariant.behind
    (c.or.ensures ∙ ap (λ t. option_or t c.loop-place.said.token_type) c.type_of.ensures)

use Rattle.std.proofs.Common.{sym, ap, ◌∙◌}
use Rattle.std.specs.Option.{option_or}
use Rattle.tm_meta.proofs.Letters.{type-inside}
use Rattle.tm_theme.proofs.buckets.with_character.Goals as goal

pub returns-then-goes_on-clause-token_type : goal.returns-then-goes_on-clause-token_type
returns-then-goes_on-clause-token_type g c =
    sym (ap (λ t. option_or t c.args.said.token_type) (type-inside c.args.scope.now c.args.place (sym c.goes_on.ensures.word ∙ c.if-goes_on.true)))

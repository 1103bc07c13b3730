use Rattle.std.proofs.Common.{sym, ◌∙◌}
use Rattle.tm_template.specs.References.{reference}
use Rattle.tm_template.proofs.Templates.{read_front}
use Rattle.tm_template.proofs.names.has_name_references.Goals as goal

pub returns-then-is_some : goal.returns-then-is_some
returns-then-is_some c =
    read_front c.loop-rest.rest.now (λ x. reference x.0.now x.1) c.name_reference.result c.name_reference.ensures (sym c.is_some.ensures ∙ c.if-is_some.true)
    ∙ c.loop-rest.invariant

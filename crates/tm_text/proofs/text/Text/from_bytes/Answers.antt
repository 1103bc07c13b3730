use Rattle.std.proofs.Common.{ap, ◌∙◌}
use Rattle.std.specs.Str.{chars}
use Rattle.tm_text.proofs.ReadBytes.{read-ok, read-fault}
use Rattle.tm_text.proofs.text.Text.from_bytes.Goals as goal

pub returns-in_ok-characters-in-Ok-clause-ok : goal.returns-in_ok-characters-in-Ok-clause-ok
returns-in_ok-characters-in-Ok-clause-ok c =
    read-ok c.args.bytes.now c.as_slice.result.now c.in-Ok.ensures.cases.1 (c.as_slice.ensures.value ∙ c.in_ok-characters-in-Ok.ensures ∙ ap chars c.in-Ok.ensures.cases.0) c.from_characters.result c.from_characters.ensures.ok

pub returns-in_ok-characters-in-Ok-clause-fault : goal.returns-in_ok-characters-in-Ok-clause-fault
returns-in_ok-characters-in-Ok-clause-fault c =
    read-fault c.args.bytes.now c.as_slice.result.now c.in-Ok.ensures.cases.1 (c.as_slice.ensures.value ∙ c.in_ok-characters-in-Ok.ensures ∙ ap chars c.in-Ok.ensures.cases.0) c.from_characters.result c.from_characters.ensures.fault c.from_characters.ensures.not_bytes

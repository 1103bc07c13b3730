use Rattle.tm_script.proofs.PlainValues.{object-plain}
use Rattle.tm_script.proofs.tree.is_plain.Goals as goal

pub returns-in-Object : goal.returns-in-Object
returns-in-Object c = object-plain c.args.value.now c.in-Object.members c.plain_members.result c.as_slice.result.now c.in-Object.is c.as_slice.ensures.value c.plain_members.ensures

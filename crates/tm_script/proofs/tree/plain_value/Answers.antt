use Rattle.tm_script.proofs.PlainValues.{array-plain}
use Rattle.tm_script.proofs.tree.plain_value.Goals as goal

pub returns-in-Array : goal.returns-in-Array
returns-in-Array c = array-plain c.args.value.now c.in-Array.items c.plain_items.result c.as_slice.result.now c.in-Array.is c.as_slice.ensures.value c.plain_items.ensures

use Rattle.std.proofs.Common.{sym, ◌∙◌}
use Rattle.tm_onig_class.proofs.KitNames.{by_category}
use Rattle.tm_onig_class.proofs.names.category.Goals as goal

pub returns-in-Ok : goal.returns-in-Ok
returns-in-Ok c = rw (← c.no_category.ensures, c.if-no_category.false) (sym c.in-Ok.ensures.found ∙ by_category _)

pub returns-in-Err : goal.returns-in-Err
returns-in-Err c = rw (← c.no_category.ensures, c.if-no_category.false) (sym c.in-Err.ensures.found ∙ by_category _)

use Rattle.std.proofs.Common.{sym, ap, ◌∙◌, add-one, bytes_eq}
use Rattle.tm_onig_class.specs.Named.{listed_names, all_listed}
use Rattle.tm_onig_class.proofs.KitNames.{named-here, named-later, named-past}
use Rattle.tm_onig_class.proofs.names.listed_by_name.Goals as goal

pub returns-then-eq : goal.returns-then-eq
unfolding listed_names
returns-then-eq c =
    sym (named-here all_listed c.names.i _ c.args.name.now c.names-test.true (ap (λ l. bytes_eq l c.args.name.now) (sym c.name.ensures) ∙ sym c.eq.ensures ∙ c.if-eq.true))
    ∙ c.names.invariant

pub names-preserved : goal.names-preserved
unfolding listed_names
names-preserved c =
    rw add-one (named-later all_listed c.names.i _ c.args.name.now c.names-test.true (ap (λ l. bytes_eq l c.args.name.now) (sym c.name.ensures) ∙ sym c.eq.ensures ∙ c.if-eq.false) ∙ c.names.invariant)

pub returns : goal.returns
unfolding listed_names
returns c = sym (named-past all_listed c.names.i c.args.name.now c.names-test.false) ∙ c.names.invariant

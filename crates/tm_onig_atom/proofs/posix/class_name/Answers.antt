use Rattle.std.proofs.Common.{refl, sym, ap, ◌∙◌, add-one, bytes_eq}
use Rattle.tm_onig_class.proofs.KitNames.{named-here, named-later, named-past}
use Rattle.tm_onig_atom.specs.Classes.{class_sets, class_name}
use Rattle.tm_onig_atom.proofs.posix.class_name.Goals as goal

pub returns-then-is_word : goal.returns-then-is_word
returns-then-is_word c =
    sym (named-here class_sets c.names.i _ c.args.name.now c.names-test.true (ap (λ l. bytes_eq l c.args.name.now) (sym c.name.ensures) ∙ sym c.is_word.ensures ∙ c.if-is_word.true))
    ∙ c.names.invariant

pub names-preserved : goal.names-preserved
names-preserved c =
    rw add-one (named-later class_sets c.names.i _ c.args.name.now c.names-test.true (ap (λ l. bytes_eq l c.args.name.now) (sym c.name.ensures) ∙ sym c.is_word.ensures ∙ c.if-is_word.false) ∙ c.names.invariant)

pub returns : goal.returns
returns c = sym (named-past class_sets c.names.i c.args.name.now c.names-test.false) ∙ c.names.invariant

pub names-init : goal.names-init
unfolding class_name
names-init c = refl

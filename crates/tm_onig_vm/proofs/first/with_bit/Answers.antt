use Rattle.std.proofs.Common.{◌∙◌, ap, sym, ◌||◌, ◌&&◌, ◌==◌}
use Rattle.tm_onig_class.specs.Ascii.{has_bit}
use Rattle.tm_onig_class.proofs.Bits.{set_bit}
use Rattle.tm_onig_vm.proofs.first.with_bit.Goals as goal

pub returns-then-is : goal.returns-then-is
returns-then-is c = λ i.
    set_bit c.args.table c.args.code i c.requires ∙ ap (λ b. has_bit c.args.table i || (b && (i == c.args.code))) (sym c.if-is.true)

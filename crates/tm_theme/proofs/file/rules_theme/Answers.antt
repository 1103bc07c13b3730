use Rattle.std.proofs.Common.{◌≤◌, sym, ap, subst, ◌∙◌, arith}
use Rattle.std.specs.Prelude.{codes}
use Rattle.tm_theme.specs.Style.{AreSmall}
use Rattle.tm_theme.specs.Palette.{defaults_from}
use Rattle.tm_theme.proofs.Small.{defaults-small, alternatives-small}
use Rattle.tm_theme.proofs.file.rules_theme.Goals as goal

pub new-requires-clause-base : goal.new-requires-clause-base
new-requires-clause-base c =
    let small : (defaults_from (record { font = 0; foreground = codes "#000000"; background = codes "#FFFFFF" }) c.args.rules.now).font ≤ 15 = defaults-small c.args.rules.now _ c.requires (omega arith) in
    record {
      font = omega (arith, small, ap (λ d. d.font) c.in_ok-defaults.ensures);
      foreground = omega arith;
      background = omega (arith, c.background_number.ensures.small);
    }

pub new-requires-clause-alternatives : goal.new-requires-clause-alternatives
new-requires-clause-alternatives c =
    subst AreSmall (sym c.in_ok-alternatives.ensures)
    (alternatives-small _ c.args.rules.now c.requires (sym c.are_too_many.ensures ∙ c.if-are_too_many.false))

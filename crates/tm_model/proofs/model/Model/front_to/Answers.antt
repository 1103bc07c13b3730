use Rattle.std.proofs.Common.{arith, sym, ◌∙◌, ◌<◌}
use Rattle.std.proofs.lemmas.Bool.Decides.{nat_tests}
use Rattle.tm_machine.proofs.Fronts.{accurate-front, accurate-none}
use Rattle.tm_model.proofs.model.Model.front_to.Goals as goal

pub returns-else-i-last : goal.returns-else-i-last
returns-else-i-last g c =
    let behind : c.args.last < c.in-Some.i = omega (arith, c.if-i-last.false) in
    let same = accurate-front c.args.self.now.entries c.args.last c.in-Some.i (sym c.in-Some.ensures) in
    grind (arith, nat_tests)

pub returns-in-None : goal.returns-in-None
returns-in-None g c = accurate-none c.args.self.now.entries c.args.last (sym c.front.ensures ∙ c.in-None.is)

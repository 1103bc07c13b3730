use Rattle.std.proofs.Common.{◌<◌, length, arith}
use Rattle.std.proofs.lemmas.Bool.Decides.{nat_tests}
use Rattle.tm_line.proofs.Insides.{inside-found, inside-none}
use Rattle.tm_line.proofs.prepared.Prepared.inside.Goals as goal

pub returns-in-Some : goal.returns-in-Some
returns-in-Some c =
    let at = rw c.deref.ensures.value at c.in-Some.ensures.lookup in
    let inside = at.0 in
    let low : c.args.n < length c.self.inside.insides.items = grind (arith, nat_tests) in
    rw (← c.self.view_is) (inside-found c.self.inside.rules c.self.inside.insides.items c.args.n c.self.invariant.0 c.in-Some.inside.now c.in-Some.inside.now low at.1)

pub returns-in-None : goal.returns-in-None
returns-in-None c =
    let past = rw c.deref.ensures.value at c.in-None.ensures.lookup in
    rw (← c.self.view_is) (inside-none c.self.inside.rules c.self.inside.insides.items c.args.n c.self.invariant.0 (omega (arith, past)))

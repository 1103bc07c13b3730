use Rattle.std.proofs.Common.{◌≡◌, ◌-◌, ◌+◌, ◌∙◌, ap, sym, arith}
use Rattle.std.specs.Prelude.{slice_get}
use Rattle.tm_scope.proofs.Keys.{found-at}
use Rattle.tm_scope.proofs.numbered.NumberedSet.find.Goals as goal

pub returns-in-Some : goal.returns-in-Some
returns-in-Some g c =
    let at = found-at g.T.PartialEq.eq g.met.T.Exact.one_value c.args.value.now c.self.inside.values.keys c.in-Some.index (sym c.in-Some.ensures.index) in
    let same : c.self.inside.first + c.in-Some.index - c.self.inside.first ≡ c.in-Some.index = omega arith in
    rw (← c.self.view_is) (omega arith, ap (λ n. slice_get c.self.inside.values.keys n) same ∙ at)

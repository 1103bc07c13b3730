use Rattle.std.proofs.Common.{◌≡◌, arith}
use Rattle.tm_state.proofs.Under.{link-within, link-parts, link-in_range, link-before}
use Rattle.tm_state.proofs.states.StateTable.innermost.Goals as goal

pub value-link-requires-clause-to : goal.value-link-requires-clause-to
value-link-requires-clause-to c =
    link-within c.self.inside.scopes c.self.inside.states c.self.invariant c.args.state.0 (rw (← c.self.view_is) at c.requires.state)

pub returns-clause-parts : goal.returns-clause-parts
returns-clause-parts c =
    rw (← c.self.view_is) (link-parts c.self.inside.scopes c.self.inside.states c.self.invariant c.args.state.0 c.value-link.result.now (λ (e : c.args.state.0 ≡ 0). absurd (omega (arith, c.requires.some))) c.value-link.ensures)

pub returns-clause-frame : goal.returns-clause-frame
returns-clause-frame c =
    let both = link-in_range c.self.inside.scopes c.self.inside.states c.self.invariant c.args.state.0 c.value-link.result.now (λ (e : c.args.state.0 ≡ 0). absurd (omega (arith, c.requires.some))) (rw (← c.self.view_is) at c.requires.state) c.value-link.ensures in
    rw (← c.self.view_is) both.0

pub returns-clause-before : goal.returns-clause-before
returns-clause-before c =
    link-before c.self.inside.scopes c.self.inside.states c.self.invariant c.args.state.0 c.value-link.result.now (λ (e : c.args.state.0 ≡ 0). absurd (omega (arith, c.requires.some))) c.value-link.ensures

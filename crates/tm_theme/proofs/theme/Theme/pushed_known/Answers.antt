use Rattle.std.proofs.Common.{◌≡◌, ap, sym, subst, ◌∙◌}
use Rattle.tm_theme.specs.Known.{IsKnown}
use Rattle.tm_theme.specs.Places.{AreFor}
use Rattle.tm_theme.specs.Theme.{pushed}
use Rattle.tm_theme.proofs.Parts.{known-pushed, pushed-small}
use Rattle.tm_theme.proofs.theme.Theme.pushed_known.Goals as goal

pub returns-clause-is : goal.returns-clause-is
returns-clause-is g c = λ languages scope known.
    let same : c.args.self.now.alternatives ≡ c.self.inside.alternatives = sym (ap (λ v. v.alternatives) c.self.view_is) in
    let inside : IsKnown c.self.inside.alternatives languages scope c.args.known.now = subst (λ all. IsKnown all languages scope c.args.known.now) same known in
    let places : AreFor c.self.inside.alternatives scope c.as_slice.result.now = subst (λ ps. AreFor c.self.inside.alternatives scope ps) (sym c.as_slice.ensures.value) inside.places in
    known-pushed c.self.inside.alternatives languages (g.S.Scopes.names c.args.above.now) scope c.args.known.now c.args.parts c.unwrap_or.result c.unwrap_or-2.result c.styled_by.result inside c.unwrap_or.ensures c.unwrap_or-2.ensures (c.styled_by.ensures scope places)
    ∙ ap (λ all. pushed all languages (g.S.Scopes.names c.args.above.now) scope c.args.parts) (sym same)

pub returns-clause-small : goal.returns-clause-small
returns-clause-small g c = λ languages scope known.
    let same : c.args.self.now.alternatives ≡ c.self.inside.alternatives = sym (ap (λ v. v.alternatives) c.self.view_is) in
    let inside : IsKnown c.self.inside.alternatives languages scope c.args.known.now = subst (λ all. IsKnown all languages scope c.args.known.now) same known in
    let places : AreFor c.self.inside.alternatives scope c.as_slice.result.now = subst (λ ps. AreFor c.self.inside.alternatives scope ps) (sym c.as_slice.ensures.value) inside.places in
    pushed-small _ c.args.parts c.self.inside.alternatives languages (g.S.Scopes.names c.args.above.now) scope
    (known-pushed c.self.inside.alternatives languages (g.S.Scopes.names c.args.above.now) scope c.args.known.now c.args.parts c.unwrap_or.result c.unwrap_or-2.result c.styled_by.result inside c.unwrap_or.ensures c.unwrap_or-2.ensures (c.styled_by.ensures scope places))
    c.self.invariant.1

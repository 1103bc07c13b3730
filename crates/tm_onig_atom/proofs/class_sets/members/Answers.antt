use Rattle.std.proofs.Common.{ap, sym, ◌∙◌}
use Rattle.std.proofs.lemmas.List.{drop_all}
use Rattle.std.proofs.lemmas.Result.{IfOk-weaker}
use Rattle.tm_onig_atom.specs.inner.Sides.{met_has, side_now, walked, met_after, side_after}
use Rattle.tm_onig_atom.proofs.SidesWalk.{walked_all, walk_starts, walk_on, walk_ends}
use Rattle.tm_onig_atom.proofs.class_sets.members.Goals as goal

pub parts-init : goal.parts-init
parts-init c = λ x is. let both = c.in_ok-gathered.ensures c.args.fold x is in walk_starts c.args.fold c.args.parts.now _ _ x both.0 both.1

pub parts-preserved : goal.parts-preserved
parts-preserved c = λ x is.
    let both = c.in_ok-gathered-2.ensures x is in
    let m = met_has c.parts.gathered.met x in
    let s = side_now c.args.fold c.parts.gathered x in
    walk_on c.args.fold c.args.parts.now c.parts.i c.index-parts-i.result m s _ _ _ x c.parts-test.true (c.parts.invariant x is)
    (both.0 ∙ ap (λ p. met_after p m s) c.index-parts-i.is) (both.1 ∙ ap (λ p. side_after c.args.fold p s x) c.index-parts-i.is)

pub returns : goal.returns
returns c = IfOk-weaker c.ended.result _ _
    (λ s h x is. h x is
    ∙ walk_ends c.args.fold _ _ _ x (ap (λ ps. walked c.args.fold ps (met_has c.parts.gathered.met x) (side_now c.args.fold c.parts.gathered x) x) (sym (drop_all c.parts.i c.args.parts.now c.parts-test.false)) ∙ c.parts.invariant x is)
    ∙ walked_all c.args.fold c.args.parts.now x)
    c.ended.ensures

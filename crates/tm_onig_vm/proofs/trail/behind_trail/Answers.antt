use Rattle.std.proofs.Common.{ℕ, List, ◌∷◌, ◌-◌, ◌+◌, ◌++◌, ap, ap₂, ◌∙◌, reverse}
use Rattle.std.proofs.lemmas.List.{append-nil}
use Rattle.tm_onig_vm.specs.inner.Machine.{Thread, from_each}
use Rattle.tm_onig_vm.proofs.Stacked.{none_on, none_kept, behind_none, behind_some}
use Rattle.tm_onig_vm.proofs.trail.behind_trail.Goals as goal

pub returns-then-far-least-clause-ways : goal.returns-then-far-least-clause-ways
returns-then-far-least-clause-ways c = λ caps.
    behind_none c.args.body c.args.least c.args.greatest c.args.pos caps c.reach-far.result _ c.reach-far.ensures
    (none_on c.blank_trail-trail.result c.blank_trail-trail.ensures.marks caps) c.if-far-least.true

pub returns-then-far-least-clause-kept : goal.returns-then-far-least-clause-kept
returns-then-far-least-clause-kept c = none_kept c.blank_trail-trail.result c.blank_trail-trail.ensures.marks

pub returns-clause-ways : goal.returns-clause-ways
returns-clause-ways c = λ caps.
    let enough = c.if-far-least.false in
    let numbers = c.in_ok-put_number.ensures.numbers ∙ ap (λ (ns : List ℕ). c.args.pos ∷ reverse ns) c.blank_trail-trail.ensures.numbers in
    let below = c.in_ok-put_number.ensures.ways caps ∙ none_on c.blank_trail-trail.result c.blank_trail-trail.ensures.marks caps in
    behind_some c.args.body c.args.least c.args.greatest c.args.pos caps c.reach-far.result _ c.reach-far.ensures enough
    (rw append-nil at (c.in_ok-go_from_each.ensures.ways caps
    ∙ ap₂ (λ (ns : List ℕ) (ts : List Thread). from_each c.args.body ns caps (c.args.pos - c.reach-far.result) (c.args.pos - c.args.least + 1 - (c.args.pos - c.reach-far.result)) ++ ts) numbers below))

pub returns-clause-kept : goal.returns-clause-kept
returns-clause-kept c = λ caps.
    c.in_ok-go_from_each.ensures.kept caps ∙ c.in_ok-put_number.ensures.kept caps ∙ none_kept c.blank_trail-trail.result c.blank_trail-trail.ensures.marks caps

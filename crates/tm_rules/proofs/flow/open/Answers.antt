use Rattle.std.proofs.Common.{◌≡◌, ◌<◌, ◌∷◌, ◌++◌, true, false, List, map, length, ap, sym, ◌∙◌}
use Rattle.tm_rules.specs.Candidates.{is_among}
use Rattle.tm_rules.specs.inner.Tasks.{opened_by, stacked}
use Rattle.tm_rules.specs.declared.flow.Task.{Task}
use Rattle.tm_rules.specs.declared.flow.Task.TheVariants.{Visit, Close}
use Rattle.tm_rules.proofs.Tasked.{stacked-push, opened-visits, left-open, left-opened, marked-opened}
use Rattle.tm_rules.proofs.Unopened.{only_within}
use Rattle.tm_rules.proofs.flow.open.Goals as goal

pub returns-then-is_marked-clause-left : goal.returns-then-is_marked-clause-left
returns-then-is_marked-clause-left c =
    let within : c.args.number < length c.args.rules.now = only_within c.args.rules.now c.args.number c.requires.only.0 in
    let among : is_among c.args.number (opened_by (stacked c.args.tasks.now.items)) ≡ true =
    sym (c.requires.marked.marked c.args.number within) ∙ sym (rw c.as_slice.ensures.value at c.is_marked.ensures) ∙ c.if-is_marked.true in
    left-open c.args.rules.now c.args.number (stacked c.args.tasks.now.items) c.requires.only.0 among

pub returns-clause-marked : goal.returns-clause-marked
returns-clause-marked c =
    let ps = c.args.patterns.now in
    let old = stacked c.args.tasks.now.items in
    let new : stacked c.push_visits.new.tasks.items ≡ map Visit ps ++ Close c.args.number ∷ old =
    c.in_ok-push_visits.ensures ∙ ap (λ (ts : List Task). map Visit ps ++ stacked ts) c.in_ok-push.ensures.items
    ∙ ap (λ (ts : List Task). map Visit ps ++ ts) (stacked-push c.args.tasks.now.items (Close c.args.number)) in
    let within : c.args.number < length c.args.rules.now = only_within c.args.rules.now c.args.number c.requires.only.0 in
    let closed : is_among c.args.number (opened_by old) ≡ false =
    sym (c.requires.marked.marked c.args.number within) ∙ sym (rw c.as_slice.ensures.value at c.is_marked.ensures) ∙ c.if-is_marked.false in
    rw (c.set_mark.ensures, new, opened-visits ps (Close c.args.number ∷ old))
    (marked-opened c.args.rules.now c.args.marks.now.items c.args.number (opened_by old) c.requires.marked closed within)

pub returns-clause-left : goal.returns-clause-left
returns-clause-left c =
    let ps = c.args.patterns.now in
    let old = stacked c.args.tasks.now.items in
    let new : stacked c.push_visits.new.tasks.items ≡ map Visit ps ++ Close c.args.number ∷ old =
    c.in_ok-push_visits.ensures ∙ ap (λ (ts : List Task). map Visit ps ++ stacked ts) c.in_ok-push.ensures.items
    ∙ ap (λ (ts : List Task). map Visit ps ++ ts) (stacked-push c.args.tasks.now.items (Close c.args.number)) in
    let within : c.args.number < length c.args.rules.now = only_within c.args.rules.now c.args.number c.requires.only.0 in
    let closed : is_among c.args.number (opened_by old) ≡ false =
    sym (c.requires.marked.marked c.args.number within) ∙ sym (rw c.as_slice.ensures.value at c.is_marked.ensures) ∙ c.if-is_marked.false in
    left-opened c.args.rules.now c.args.number ps old (stacked c.push_visits.new.tasks.items) c.requires.only.0 c.requires.only.1 closed new

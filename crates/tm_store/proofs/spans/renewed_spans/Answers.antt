use Rattle.std.proofs.Common.{◌^◌, ◌+◌, ◌-◌, ◌∷◌, ◌++◌, arith, add-one, refl, ap, ◌∙◌, take, drop, length}
use Rattle.std.specs.Prelude.{slice_index_or}
use Rattle.std.proofs.lemmas.List.{get_or_default}
use Rattle.tm_store.specs.Spans.{span, moved_by}
use Rattle.tm_store.proofs.Renewed.{assembled, rest-part, reaches-beyond, behind-touching, behind-far, behind-last, renewed-touches, renewed-far, renewed-last}
use Rattle.tm_store.proofs.spans.renewed_spans.Goals as goal
use Rattle.tm_store.proofs.spans.renewed_spans.Goals.{then-behind-spans+else-r-edge, else-behind-spans}

pub overflow_sub-r : goal.overflow_sub-r
overflow_sub-r c =
    let p = reaches-beyond c.args.effect.first c.args.effect.old (2 ^ 31) c.args.spans.now c.requires.apart c.requires.within c.place_of-behind.result c.place_of-behind.ensures.place (span 0 0) (omega arith) in
    omega (arith, p)

pub push_moved-requires-clause-behind : goal.push_moved-requires-clause-behind
push_moved-requires-clause-behind c =
    behind-touching c.args.effect.first c.args.effect.old (2 ^ 31) c.args.spans.now c.requires.apart c.requires.within c.place_of-behind.result c.place_of-behind.ensures.place _ (omega arith) refl

pub returns-then-r-edge-clause-items : goal.returns-then-r-edge-clause-items
returns-then-r-edge-clause-items c =
    assembled (take c.place_touching-before.result c.args.spans.now) (moved_by (λ x. x + c.args.effect.new - c.args.effect.old) (take (length c.args.spans.now - (c.place_of-behind.result + 1)) (drop (c.place_of-behind.result + 1) c.args.spans.now))) _ _ _ _ _
    c.in_ok-next.ensures.items c.in_ok-extend_from_slice.ensures.items c.in_ok-push.ensures.items c.in_ok-push_moved.ensures.items
    ∙ ap (λ t. take c.place_touching-before.result c.args.spans.now ++ (span c.start_of-first.result ((slice_index_or c.args.spans.now c.place_of-behind.result (span 0 0)).end + c.args.effect.new - c.args.effect.old) ∷ moved_by (λ x. x + c.args.effect.new - c.args.effect.old) t))
    (rest-part (c.place_of-behind.result + 1) c.args.spans.now (omega arith) ∙ ap (λ n. drop n c.args.spans.now) (add-one c.place_of-behind.result))
    ∙ renewed-touches c.args.effect.first c.args.effect.old c.args.effect.new c.args.spans.now c.requires.apart c.place_touching-before.result c.place_of-behind.result c.start_of-first.result
    c.place_touching-before.ensures.place c.place_of-behind.ensures.place c.start_of-first.ensures (slice_index_or c.args.spans.now c.place_of-behind.result (span 0 0)) (omega arith)
    (get_or_default c.args.spans.now c.place_of-behind.result (span 0 0) _ (omega arith)) c.if-r-edge.true

pub push_moved-requires-2-clause-behind : goal.push_moved-requires-2-clause-behind
push_moved-requires-2-clause-behind c = elim c.if-behind-spans.branch [
  | then-behind-spans+else-r-edge w ↦ behind-far c.args.effect.first c.args.effect.old (2 ^ 31) c.args.spans.now c.requires.apart c.requires.within c.place_of-behind.result c.place_of-behind.ensures.place _ (span 0 0) (omega arith) w.if-r-edge.false refl
  | else-behind-spans w ↦ behind-last c.args.effect.first c.args.effect.old (2 ^ 31) c.args.spans.now c.requires.apart c.requires.within c.place_of-behind.result c.place_of-behind.ensures.place _ (omega arith) refl
]

pub returns-clause-items : goal.returns-clause-items
returns-clause-items c =
    assembled (take c.place_touching-before.result c.args.spans.now) (moved_by (λ x. x + c.args.effect.new - c.args.effect.old) (take (length c.args.spans.now - c.place_of-behind.result) (drop c.place_of-behind.result c.args.spans.now))) _ _ _ _ _
    c.in_ok-next.ensures.items c.in_ok-extend_from_slice.ensures.items c.in_ok-push-2.ensures.items c.in_ok-push_moved-2.ensures.items
    ∙ ap (λ t. take c.place_touching-before.result c.args.spans.now ++ (span c.start_of-first.result (c.args.effect.first + c.args.effect.new) ∷ moved_by (λ x. x + c.args.effect.new - c.args.effect.old) t))
    (rest-part c.place_of-behind.result c.args.spans.now (omega arith))
    ∙ (elim c.if-behind-spans.branch [
      | then-behind-spans+else-r-edge w ↦ renewed-far c.args.effect.first c.args.effect.old c.args.effect.new c.args.spans.now c.requires.apart c.place_touching-before.result c.place_of-behind.result c.start_of-first.result
          c.place_touching-before.ensures.place c.place_of-behind.ensures.place c.start_of-first.ensures (slice_index_or c.args.spans.now c.place_of-behind.result (span 0 0)) (omega arith)
          (get_or_default c.args.spans.now c.place_of-behind.result (span 0 0) _ (omega arith)) w.if-r-edge.false
      | else-behind-spans w ↦ renewed-last c.args.effect.first c.args.effect.old c.args.effect.new c.args.spans.now c.requires.apart c.place_touching-before.result c.place_of-behind.result c.start_of-first.result
          c.place_touching-before.ensures.place c.place_of-behind.ensures.place c.start_of-first.ensures (omega arith)
    ])

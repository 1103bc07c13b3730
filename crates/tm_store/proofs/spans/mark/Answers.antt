use Rattle.std.proofs.Common.{◌++◌, ◌∷◌, [], suc, ◌+◌, arith, add-one, refl, ◌∙◌, ap, sym, List, take, drop}
use Rattle.std.specs.Prelude.{nat_le}
use Rattle.tm_store.specs.declared.spans.Span.{Span}
use Rattle.tm_store.specs.Spans.{span, grown, joined, passed}
use Rattle.tm_store.proofs.Runs.{past-place, take-walked, set-walked, keep-walked, insert-walked, insert-last, no-lt, yes-lt, is-eq, not-eq}
use Rattle.tm_store.proofs.spans.mark.Goals as goal

pub returns-then-r-i-clause-items : goal.returns-then-r-i-clause-items
returns-then-r-i-clause-items c =
    c.grow.ensures.items c.index-r.result.now
    ∙ ap (λ (r : Span). take c.place_touching-k.result c.args.spans.now.items ++ joined r.first (suc c.args.i) (drop (suc c.place_touching-k.result) c.args.spans.now.items)) (sym c.index-r.ensures)
    ∙ take-walked (λ (r : Span). nat_le c.args.i r.end) (grown c.args.i) c.args.spans.now.items c.place_touching-k.result c.index-r.result.now
    (c.place_touching-k.ensures.place ∙ ap (λ (x : List Span). passed (λ (r : Span). nat_le c.args.i r.end) x) c.as_slice.ensures.value) (omega arith) c.index-r.ensures
    (joined c.index-r.result.now.first (suc c.args.i) (drop (suc c.place_touching-k.result) c.args.spans.now.items))
    (rw (is-eq c.index-r.result.now.end c.args.i c.if-r-i.true) refl)

pub returns-then-r-i-2-clause-items : goal.returns-then-r-i-2-clause-items
returns-then-r-i-2-clause-items c =
    set-walked (λ (r : Span). nat_le c.args.i r.end) (grown c.args.i) c.args.spans.now.items c.place_touching-k.result c.index-r.result.now
    (c.place_touching-k.ensures.place ∙ ap (λ (x : List Span). passed (λ (r : Span). nat_le c.args.i r.end) x) c.as_slice.ensures.value) (omega arith) c.index-r.ensures
    (span c.args.i c.index-r.result.now.end)
    (rw (not-eq c.index-r.result.now.end c.args.i c.if-r-i.false, yes-lt c.args.i c.index-r.result.now.first (omega arith), is-eq c.index-r.result.now.first (suc c.args.i) (omega arith)) refl)

pub returns-then-i-r-clause-items : goal.returns-then-i-r-clause-items
returns-then-i-r-clause-items c =
    c.insert_span.ensures.items ∙ insert-walked (λ (r : Span). nat_le c.args.i r.end) (grown c.args.i) c.args.spans.now.items c.place_touching-k.result c.index-r.result.now
    (c.place_touching-k.ensures.place ∙ ap (λ (x : List Span). passed (λ (r : Span). nat_le c.args.i r.end) x) c.as_slice.ensures.value) (omega arith) c.index-r.ensures
    (span c.args.i (c.args.i + 1))
    (rw (add-one, not-eq c.index-r.result.now.end c.args.i c.if-r-i.false, yes-lt c.args.i c.index-r.result.now.first (omega arith), not-eq c.index-r.result.now.first (suc c.args.i) (omega arith)) refl)

pub returns-else-i-r-clause-items : goal.returns-else-i-r-clause-items
returns-else-i-r-clause-items c =
    keep-walked (λ (r : Span). nat_le c.args.i r.end) (grown c.args.i) c.args.spans.now.items c.place_touching-k.result c.index-r.result.now
    (c.place_touching-k.ensures.place ∙ ap (λ (x : List Span). passed (λ (r : Span). nat_le c.args.i r.end) x) c.as_slice.ensures.value) (omega arith) c.index-r.ensures
    (rw (not-eq c.index-r.result.now.end c.args.i c.if-r-i.false, no-lt c.args.i c.index-r.result.now.first (omega arith)) refl)

pub returns-else-k-len-clause-items : goal.returns-else-k-len-clause-items
returns-else-k-len-clause-items c =
    c.insert_span-else-k-len.ensures.items ∙ insert-last c.args.spans.now.items c.place_touching-k.result (span c.args.i (c.args.i + 1)) (omega arith)
    ∙ ap (λ n. c.args.spans.now.items ++ (span c.args.i n ∷ [])) (add-one c.args.i)
    ∙ sym (past-place (λ (r : Span). nat_le c.args.i r.end) (grown c.args.i) c.args.spans.now.items c.place_touching-k.result
    (c.place_touching-k.ensures.place ∙ ap (λ (x : List Span). passed (λ (r : Span). nat_le c.args.i r.end) x) c.as_slice.ensures.value) (omega arith))

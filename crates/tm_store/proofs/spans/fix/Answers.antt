use Rattle.std.proofs.Common.{suc, ◌+◌, arith, add-one, refl, ◌∙◌, ap, sym, List, nat_lt}
use Rattle.tm_store.specs.declared.spans.Span.{Span}
use Rattle.tm_store.specs.Spans.{span, cut, passed}
use Rattle.tm_store.proofs.Runs.{past-place, set-walked, remove-walked, keep-walked, split-walked, no-lt, yes-lt, unjoined}
use Rattle.tm_store.proofs.spans.fix.Goals as goal

pub returns-then-i-r-clause-items : goal.returns-then-i-r-clause-items
returns-then-i-r-clause-items c =
    c.insert_span.ensures.items ∙ split-walked (λ (r : Span). nat_lt c.args.i r.end) (cut c.args.i) c.args.spans.now.items c.place_of-k.result c.index-r.result.now
    (c.place_of-k.ensures.place ∙ ap (λ (x : List Span). passed (λ (r : Span). nat_lt c.args.i r.end) x) c.as_slice.ensures.value) (omega arith) c.index-r.ensures
    (span c.index-r.result.now.first c.args.i) (span (c.args.i + 1) c.index-r.result.now.end) (rw (add-one, no-lt c.args.i c.index-r.result.now.first (omega arith), yes-lt c.index-r.result.now.first c.args.i (omega arith), yes-lt (suc c.args.i) c.index-r.result.now.end (omega arith)) refl)

pub returns-else-i-r-clause-items : goal.returns-else-i-r-clause-items
returns-else-i-r-clause-items c =
    set-walked (λ (r : Span). nat_lt c.args.i r.end) (cut c.args.i) c.args.spans.now.items c.place_of-k.result c.index-r.result.now
    (c.place_of-k.ensures.place ∙ ap (λ (x : List Span). passed (λ (r : Span). nat_lt c.args.i r.end) x) c.as_slice.ensures.value) (omega arith) c.index-r.ensures
    (span c.index-r.result.now.first c.args.i) (rw (no-lt c.args.i c.index-r.result.now.first (omega arith), yes-lt c.index-r.result.now.first c.args.i (omega arith), no-lt (suc c.args.i) c.index-r.result.now.end (omega arith)) refl)

pub returns-then-i-r-2-clause-items : goal.returns-then-i-r-2-clause-items
returns-then-i-r-2-clause-items c =
    set-walked (λ (r : Span). nat_lt c.args.i r.end) (cut c.args.i) c.args.spans.now.items c.place_of-k.result c.index-r.result.now
    (c.place_of-k.ensures.place ∙ ap (λ (x : List Span). passed (λ (r : Span). nat_lt c.args.i r.end) x) c.as_slice.ensures.value) (omega arith) c.index-r.ensures
    (span (c.args.i + 1) c.index-r.result.now.end) (rw (add-one, no-lt c.args.i c.index-r.result.now.first (omega arith), no-lt c.index-r.result.now.first c.args.i (omega arith), yes-lt (suc c.args.i) c.index-r.result.now.end (omega arith)) refl)

pub returns-else-i-r-2-clause-items : goal.returns-else-i-r-2-clause-items
returns-else-i-r-2-clause-items c =
    c.remove.ensures.by_index.2 ∙ remove-walked (λ (r : Span). nat_lt c.args.i r.end) (cut c.args.i) c.args.spans.now.items c.place_of-k.result c.index-r.result.now
    (c.place_of-k.ensures.place ∙ ap (λ (x : List Span). passed (λ (r : Span). nat_lt c.args.i r.end) x) c.as_slice.ensures.value) (omega arith) c.index-r.ensures
    (rw (no-lt c.args.i c.index-r.result.now.first (omega arith), no-lt c.index-r.result.now.first c.args.i (omega arith), no-lt (suc c.args.i) c.index-r.result.now.end (omega arith)) refl)

pub returns-else-r-i-clause-items : goal.returns-else-r-i-clause-items
returns-else-r-i-clause-items c = keep-walked (λ (r : Span). nat_lt c.args.i r.end) (cut c.args.i) c.args.spans.now.items c.place_of-k.result c.index-r.result.now
    (c.place_of-k.ensures.place ∙ ap (λ (x : List Span). passed (λ (r : Span). nat_lt c.args.i r.end) x) c.as_slice.ensures.value) (omega arith) c.index-r.ensures (rw (yes-lt c.args.i c.index-r.result.now.first (omega arith)) refl)

pub returns-else-k-len-clause-items : goal.returns-else-k-len-clause-items
returns-else-k-len-clause-items c =
    sym (past-place (λ (r : Span). nat_lt c.args.i r.end) (cut c.args.i) c.args.spans.now.items c.place_of-k.result
    (c.place_of-k.ensures.place ∙ ap (λ (x : List Span). passed (λ (r : Span). nat_lt c.args.i r.end) x) c.as_slice.ensures.value) (omega arith) ∙ unjoined c.args.spans.now.items)

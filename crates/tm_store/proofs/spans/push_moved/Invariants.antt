use Rattle.std.proofs.Common.{◌≡◌, ◌+◌, ◌-◌, ◌++◌, take}
use Rattle.tm_store.specs.Spans.{moved_by}
use Rattle.tm_store.proofs.spans.push_moved.Given as goal

abbrev pub invariant-loop-r : goal.invariant-loop-r
invariant-loop-r l = l.next.items ≡ l.fn.next.items ++ moved_by (λ x. x + l.effect.new - l.effect.old) (take l.r-index l.spans)

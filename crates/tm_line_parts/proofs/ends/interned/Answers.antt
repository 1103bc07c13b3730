use Rattle.std.proofs.Common.{refl}
use Rattle.tm_line_parts.specs.Stacks.{below_at, open_at}
use Rattle.tm_line_parts.proofs.Interning.{below-full, below-grows, more-full, more-grows, more-ok}
use Rattle.tm_line_parts.proofs.ends.interned.Goals as goal

pub returns-in-Ok-clause-ok : goal.returns-in-Ok-clause-ok
returns-in-Ok-clause-ok g c =
    let t = g.S.States.tables c.args.table.now in
    let u = g.S.States.tables c.interned_on.new.table in
    let v = g.S.States.tables c.intern.new.self in
    let s = c.args.stack.now in
    more-ok t u v (below_at t s) s.top.frame (open_at t s.top) c.in-Ok.below refl c.requires.top (rw c.as_slice.ensures.value at c.in-Ok.ensures.grows) (rw c.as_slice.ensures.value at c.in-Ok.ensures.ok) c.intern.result c.intern.ensures.ok

pub returns-in-Ok-clause-grows : goal.returns-in-Ok-clause-grows
returns-in-Ok-clause-grows g c =
    let t = g.S.States.tables c.args.table.now in
    let u = g.S.States.tables c.interned_on.new.table in
    let v = g.S.States.tables c.intern.new.self in
    let s = c.args.stack.now in
    more-grows t u v (below_at t s) s.top.frame (open_at t s.top) c.in-Ok.below refl c.requires.top (rw c.as_slice.ensures.value at c.in-Ok.ensures.grows) (rw c.as_slice.ensures.value at c.in-Ok.ensures.ok) c.intern.ensures.grows

pub returns-in-Ok-clause-full : goal.returns-in-Ok-clause-full
returns-in-Ok-clause-full g c =
    let t = g.S.States.tables c.args.table.now in
    let u = g.S.States.tables c.interned_on.new.table in
    let v = g.S.States.tables c.intern.new.self in
    let s = c.args.stack.now in
    more-full t u v (below_at t s) s.top.frame (open_at t s.top) c.in-Ok.below refl c.requires.top (rw c.as_slice.ensures.value at c.in-Ok.ensures.grows) (rw c.as_slice.ensures.value at c.in-Ok.ensures.ok) c.intern.result c.intern.ensures.full

pub returns-in-Err-clause-grows : goal.returns-in-Err-clause-grows
returns-in-Err-clause-grows g c =
    let t = g.S.States.tables c.args.table.now in
    let s = c.args.stack.now in
    below-grows t (g.S.States.tables c.interned_on.new.table) (below_at t s) (open_at t s.top) (rw c.as_slice.ensures.value at c.in-Err.ensures.grows)

pub returns-in-Err-clause-full : goal.returns-in-Err-clause-full
returns-in-Err-clause-full g c =
    let t = g.S.States.tables c.args.table.now in
    let s = c.args.stack.now in
    below-full (g.S.States.tables c.interned_on.new.table) (below_at t s) (open_at t s.top) c.in-Err.fault (rw c.as_slice.ensures.value at c.in-Err.ensures.full)

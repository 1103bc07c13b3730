use Rattle.std.proofs.Common.{◌≡◌, ◌++◌, List, [], ◌∷◌, length, length-append, map, reverse, Some, refl, ap, sym, ◌∙◌, subst, arith}
use Rattle.std.specs.Prelude.{slice_get, IfOk, IfErr}
use Rattle.std.proofs.lemmas.Option.{slice_get_within}
use Rattle.tm_defs.specs.Tables.{GrowsWithin, IsFrameOf, IsFullForSome, state_at}
use Rattle.tm_line_turns.specs.LineRun.{Open, earlier, frames_of, states_made}
use Rattle.tm_line_parts.specs.Stacks.{open_at, opens}
use Rattle.tm_line_parts.specs.declared.stack.OpenFrame.{OpenFrame}
use Rattle.tm_line_parts.proofs.Interning.{all-rest, base-is, below-full, below-grows, more-full, more-grows, more-ok, opens-last}
use Rattle.tm_line_parts.proofs.StacksGrown.{frame-known}
use Rattle.tm_line_parts.proofs.ends.+interned_on.Goals as goal

pub returns-in_default-clause-ok : goal.returns-in_default-clause-ok
returns-in_default-clause-ok g n c =
    let t = g.S.States.tables c.args.table.now in
    base-is t c.args.base c.requires.base ∙ sym (ap (λ f. Some (reverse (frames_of (opens t f ++ map earlier (reverse (state_at t c.args.base)))))) c.in_default.ensures)

pub interned_on-requires : goal.interned_on-requires
interned_on-requires g n c κs within =
    let t = g.S.States.tables c.args.table.now in
    let known = all-rest (λ (o : OpenFrame). IsFrameOf t o.frame) c.args.frames.now c.in-Some.rest.now c.in-Some.last.now c.in-Some.ensures c.requires.frames in
    (omega (arith, c.decreases, ap length c.in-Some.ensures, length-append c.in-Some.rest.now (c.in-Some.last.now ∷ [])), (within, (known.0, c.requires.base)))

pub intern-requires-clause-frame : goal.intern-requires-clause-frame
intern-requires-clause-frame g n c =
    let t = g.S.States.tables c.args.table.now in
    let known = all-rest (λ (o : OpenFrame). IsFrameOf t o.frame) c.args.frames.now c.in-Some.rest.now c.in-Some.last.now c.in-Some.ensures c.requires.frames in
    frame-known _ t (g.S.States.tables c.interned_on.new.table) c.in-Ok.ensures.grows c.in-Some.last.now.frame known.1

pub intern-requires-clause-parent : goal.intern-requires-clause-parent
intern-requires-clause-parent g n c = slice_get_within _ _ _ c.in-Ok.ensures.ok

pub returns-in-Ok-clause-ok : goal.returns-in-Ok-clause-ok
returns-in-Ok-clause-ok g n c =
    let t = g.S.States.tables c.args.table.now in
    let u = g.S.States.tables c.interned_on.new.table in
    let v = g.S.States.tables c.intern.new.self in
    let last = c.in-Some.last.now in
    let known = all-rest (λ (o : OpenFrame). IsFrameOf t o.frame) c.args.frames.now c.in-Some.rest.now last c.in-Some.ensures c.requires.frames in
    let more : List Open = map earlier (reverse (state_at t c.args.base)) in
    let P : List Open → Type 0 = λ l. IfOk c.intern.result (λ id. slice_get v.states id.0 ≡ Some (reverse (frames_of l))) in
    subst P (sym (opens-last t c.args.frames.now c.in-Some.rest.now last more c.in-Some.ensures))
    (more-ok t u v (opens t c.in-Some.rest.now ++ more) last.frame (open_at t last) c.in-Ok.below refl known.1 c.in-Ok.ensures.grows c.in-Ok.ensures.ok c.intern.result c.intern.ensures.ok)

pub returns-in-Ok-clause-grows : goal.returns-in-Ok-clause-grows
returns-in-Ok-clause-grows g n c =
    let t = g.S.States.tables c.args.table.now in
    let u = g.S.States.tables c.interned_on.new.table in
    let v = g.S.States.tables c.intern.new.self in
    let last = c.in-Some.last.now in
    let known = all-rest (λ (o : OpenFrame). IsFrameOf t o.frame) c.args.frames.now c.in-Some.rest.now last c.in-Some.ensures c.requires.frames in
    let more : List Open = map earlier (reverse (state_at t c.args.base)) in
    let P : List Open → Type 0 = λ l. GrowsWithin (states_made l) t v in
    subst P (sym (opens-last t c.args.frames.now c.in-Some.rest.now last more c.in-Some.ensures))
    (more-grows t u v (opens t c.in-Some.rest.now ++ more) last.frame (open_at t last) c.in-Ok.below refl known.1 c.in-Ok.ensures.grows c.in-Ok.ensures.ok c.intern.ensures.grows)

pub returns-in-Ok-clause-full : goal.returns-in-Ok-clause-full
returns-in-Ok-clause-full g n c =
    let t = g.S.States.tables c.args.table.now in
    let u = g.S.States.tables c.interned_on.new.table in
    let v = g.S.States.tables c.intern.new.self in
    let last = c.in-Some.last.now in
    let known = all-rest (λ (o : OpenFrame). IsFrameOf t o.frame) c.args.frames.now c.in-Some.rest.now last c.in-Some.ensures c.requires.frames in
    let more : List Open = map earlier (reverse (state_at t c.args.base)) in
    let P : List Open → Type 0 = λ l. IfErr c.intern.result (IsFullForSome (states_made l) v) in
    subst P (sym (opens-last t c.args.frames.now c.in-Some.rest.now last more c.in-Some.ensures))
    (more-full t u v (opens t c.in-Some.rest.now ++ more) last.frame (open_at t last) c.in-Ok.below refl known.1 c.in-Ok.ensures.grows c.in-Ok.ensures.ok c.intern.result c.intern.ensures.full)

pub returns-in-Err-clause-grows : goal.returns-in-Err-clause-grows
returns-in-Err-clause-grows g n c =
    let t = g.S.States.tables c.args.table.now in
    let u = g.S.States.tables c.interned_on.new.table in
    let more : List Open = map earlier (reverse (state_at t c.args.base)) in
    let P : List Open → Type 0 = λ l. GrowsWithin (states_made l) t u in
    subst P (sym (opens-last t c.args.frames.now c.in-Some.rest.now c.in-Some.last.now more c.in-Some.ensures))
    (below-grows t u (opens t c.in-Some.rest.now ++ more) (open_at t c.in-Some.last.now) c.in-Err.ensures.grows)

pub returns-in-Err-clause-full : goal.returns-in-Err-clause-full
returns-in-Err-clause-full g n c =
    let t = g.S.States.tables c.args.table.now in
    let u = g.S.States.tables c.interned_on.new.table in
    let more : List Open = map earlier (reverse (state_at t c.args.base)) in
    let P : List Open → Type 0 = λ l. IsFullForSome (states_made l) u c.in-Err.fault in
    subst P (sym (opens-last t c.args.frames.now c.in-Some.rest.now c.in-Some.last.now more c.in-Some.ensures))
    (below-full u (opens t c.in-Some.rest.now ++ more) (open_at t c.in-Some.last.now) c.in-Err.fault c.in-Err.ensures.full)

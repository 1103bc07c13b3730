use Rattle.std.proofs.Common.{◌≡◌, ◌++◌, List, [], ◌∷◌, length, map, ap, sym, ◌∙◌, subst}
use Rattle.tm_defs.specs.declared.frames.Frame.{Frame}
use Rattle.tm_defs.specs.declared.frames.FrameData.{FrameData}
use Rattle.tm_defs.specs.Tables.{frame_at, IsFrameOf}
use Rattle.tm_line_turns.specs.Language.{grammar_at}
use Rattle.tm_line_turns.specs.LineRun.{Open, earlier}
use Rattle.tm_line_turns.specs.WhilePass.{tested, while_pass}
use Rattle.tm_line_parts.specs.Stacks.{AreNumbers, frames_at, place_at}
use Rattle.tm_line_parts.proofs.Adding.{IsBegun}
use Rattle.tm_line_parts.proofs.LayerSteps.{all-front}
use Rattle.tm_line_parts.proofs.Passing.{frames-last, frames-same, numbers-known, pass-on, pass-stack, pass-stops, pass-fails}
use Rattle.tm_line_parts.proofs.whiles.while_pass.Goals as goal

pub loop-frame-preserved : goal.loop-frame-preserved
loop-frame-preserved g c =
    let s = g.R.LineRules.language c.args.level.now.rules.now in
    let t = g.S.States.tables c.args.table.now in
    let u = g.S.States.tables c.loop-frame.table in
    let v = g.S.States.tables c.holds.new.table in
    let len = length c.args.level.now.text.now in
    let grammar = grammar_at s c.args.level.now.depth c.args.level.now.text.now in
    let p = place_at u c.loop-frame.way in
    let rest = c.pop.new.self.items in
    let o = earlier (frame_at u c.in-Some.frame) in
    let os = map earlier (frames_at u rest) in
    let all = while_pass grammar (place_at t c.args.way.now) (map earlier (frames_at t c.args.frames.now.items)) in
    let test = tested grammar p o in
    let split : frames_at u c.loop-frame.frames.items ≡ frame_at u c.in-Some.frame ∷ frames_at u rest = ap (frames_at u) c.in-Some.ensures.items ∙ frames-last u rest c.in-Some.frame in
    let P : List FrameData → Type 0 = λ l. IsBegun s.meta (while_pass grammar p (map earlier l)).part all.part t u c.args.out.now c.loop-frame.out in
    let Q : List FrameData → Type 0 = λ l. (while_pass grammar p (map earlier l)).place ≡ all.place in
    let R : List Frame → Type 0 = λ l. AreNumbers u l in
    let numbers = all-front (IsFrameOf u) rest c.in-Some.frame (subst R c.in-Some.ensures.items c.loop-frame.invariant.frames) in
    let tests = rw c.in-Ok-true.field-0-test at c.in-Ok-true.ensures.tests in
    let grown = c.in-Ok-true.ensures.tests.adds.grows in
    let on = pass-on s.meta len (λ q. while_pass grammar q os) p all t u v c.args.out.now c.loop-frame.out c.holds.new.out c.holds.new.way test.part test.next
    (subst P split c.loop-frame.invariant.left) (subst Q split c.loop-frame.invariant.same) tests in
    let again = frames-same _ u v grown rest numbers in
    let S : List FrameData → Type 0 = λ l. IsBegun s.meta (while_pass grammar (place_at v c.holds.new.way) (map earlier l)).part all.part t v c.args.out.now c.holds.new.out in
    let T : List FrameData → Type 0 = λ l. (while_pass grammar (place_at v c.holds.new.way) (map earlier l)).place ≡ all.place in
    record {
      stack = pass-stack s.meta len (λ q. while_pass grammar q os) p all t u v c.args.out.now c.loop-frame.out c.holds.new.out c.holds.new.way test.part test.next tests;
      at = c.in-Ok-true.ensures.tests.within;
      frames = numbers-known _ u v grown rest numbers;
      left = subst S (sym again) on.0;
      same = subst T (sym again) on.1;
      room = c.in-Ok-true.ensures.room;
    }

pub returns-in-Ok-false-clause-passes : goal.returns-in-Ok-false-clause-passes
returns-in-Ok-false-clause-passes g c =
    let s = g.R.LineRules.language c.args.level.now.rules.now in
    let t = g.S.States.tables c.args.table.now in
    let u = g.S.States.tables c.loop-frame.table in
    let v = g.S.States.tables c.holds.new.table in
    let len = length c.args.level.now.text.now in
    let grammar = grammar_at s c.args.level.now.depth c.args.level.now.text.now in
    let p = place_at u c.loop-frame.way in
    let rest = c.pop.new.self.items in
    let o = earlier (frame_at u c.in-Some.frame) in
    let os = map earlier (frames_at u rest) in
    let all = while_pass grammar (place_at t c.args.way.now) (map earlier (frames_at t c.args.frames.now.items)) in
    let test = tested grammar p o in
    let split : frames_at u c.loop-frame.frames.items ≡ frame_at u c.in-Some.frame ∷ frames_at u rest = ap (frames_at u) c.in-Some.ensures.items ∙ frames-last u rest c.in-Some.frame in
    let P : List FrameData → Type 0 = λ l. IsBegun s.meta (while_pass grammar p (map earlier l)).part all.part t u c.args.out.now c.loop-frame.out in
    let Q : List FrameData → Type 0 = λ l. (while_pass grammar p (map earlier l)).place ≡ all.place in
    pass-stops s.meta len (λ q. while_pass grammar q os) p all t u v c.args.out.now c.loop-frame.out c.holds.new.out c.holds.new.way test.part test.next _
    (subst P split c.loop-frame.invariant.left) (subst Q split c.loop-frame.invariant.same) (rw c.in-Ok-false.field-0-test at c.in-Ok-false.ensures.tests)

pub returns-in-Err-clause-passes : goal.returns-in-Err-clause-passes
returns-in-Err-clause-passes g c =
    let s = g.R.LineRules.language c.args.level.now.rules.now in
    let t = g.S.States.tables c.args.table.now in
    let u = g.S.States.tables c.loop-frame.table in
    let v = g.S.States.tables c.holds.new.table in
    let len = length c.args.level.now.text.now in
    let grammar = grammar_at s c.args.level.now.depth c.args.level.now.text.now in
    let p = place_at u c.loop-frame.way in
    let rest = c.pop.new.self.items in
    let o = earlier (frame_at u c.in-Some.frame) in
    let os = map earlier (frames_at u rest) in
    let all = while_pass grammar (place_at t c.args.way.now) (map earlier (frames_at t c.args.frames.now.items)) in
    let test = tested grammar p o in
    let split : frames_at u c.loop-frame.frames.items ≡ frame_at u c.in-Some.frame ∷ frames_at u rest = ap (frames_at u) c.in-Some.ensures.items ∙ frames-last u rest c.in-Some.frame in
    let P : List FrameData → Type 0 = λ l. IsBegun s.meta (while_pass grammar p (map earlier l)).part all.part t u c.args.out.now c.loop-frame.out in
    pass-fails s.meta len (λ q. while_pass grammar q os) p all t u v c.args.out.now c.loop-frame.out c.holds.new.out c.holds.new.way test.part test.next c.in-Err.fault
    (subst P split c.loop-frame.invariant.left) c.in-Err.ensures.tests

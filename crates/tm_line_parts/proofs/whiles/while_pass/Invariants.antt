use Rattle.std.proofs.Common.{◌≡◌, ◌≤◌, length, map}
use Rattle.tm_line_turns.specs.Language.{grammar_at}
use Rattle.tm_line_turns.specs.LineRun.{earlier}
use Rattle.tm_line_turns.specs.WhilePass.{while_pass}
use Rattle.tm_line_parts.specs.Stacks.{AreNumbers, IsStack, frames_at, place_at}
use Rattle.tm_line_parts.proofs.Adding.{IsBegun}
use Rattle.tm_line_parts.proofs.whiles.while_pass.Given as goal

abbrev pub invariant-loop-frame : goal.invariant-loop-frame
invariant-loop-frame g l =
    let s = g.R.LineRules.language l.level.rules.now in
    let t = g.S.States.tables l.fn.table in
    let u = g.S.States.tables l.table in
    let grammar = grammar_at s l.level.depth l.level.text.now in
    record {
      stack : IsStack u l.way.stack;
      at : l.way.at ≤ length l.level.text.now;
      frames : AreNumbers u l.frames.items;
      left : IsBegun s.meta (while_pass grammar (place_at u l.way) (map earlier (frames_at u l.frames.items))).part (while_pass grammar (place_at t l.fn.way) (map earlier (frames_at t l.fn.frames.items))).part t u l.fn.out l.out;
      same : (while_pass grammar (place_at u l.way) (map earlier (frames_at u l.frames.items))).place ≡ (while_pass grammar (place_at t l.fn.way) (map earlier (frames_at t l.fn.frames.items))).place;
      room : g.R.LineRules.Fits l.level.rules.now u l.level.text.now l.room;
    }

abbrev pub decreases-loop-frame : goal.decreases-loop-frame
decreases-loop-frame g l = length l.frames.items

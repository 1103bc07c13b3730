use Rattle.std.proofs.Common.{List, sym, subst}
use Rattle.tm_defs.specs.declared.frames.FrameData.{FrameData}
use Rattle.tm_line_turns.specs.Line.{start_made}
use Rattle.tm_line_turns.specs.LineRun.{makes}
use Rattle.tm_line_parts.specs.Adds.{Adds}
use Rattle.tm_line_parts.specs.declared.stack.Way.{Way}
use Rattle.tm_line_parts.proofs.start.start_way.Goals as goal

pub returns-in-None-clause-adds : goal.returns-in-None-clause-adds
returns-in-None-clause-adds g c meta o =
    let P : List FrameData → Type 0 = λ s. Adds {X = Way} meta (makes (start_made c.args.scopes.now s)) (g.S.States.tables c.args.table.now) (g.S.States.tables c.opening.new.table) o o c.opening.result in
    subst P (sym c.in-None.ensures.parts) (c.opening.ensures.adds meta o)

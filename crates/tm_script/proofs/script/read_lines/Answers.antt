use Rattle.std.proofs.Common.{map, refl, List, ℕ}
use Rattle.std.specs.Borrow.{Bor}
use Rattle.tm_script.specs.Steps.{said_in}
use Rattle.tm_script.proofs.Answered.{begins}
use Rattle.tm_script.proofs.script.read_lines.Goals as goal

pub loop-bytes-init : goal.loop-bytes-init
loop-bytes-init c =
    let b = begins c.new-steps.result.items (map (λ (line : Bor (List ℕ)). said_in line.now) c.args.lines.now) c.new-steps.ensures.items in
    record { answer = b.0; few = b.1; count = refl }

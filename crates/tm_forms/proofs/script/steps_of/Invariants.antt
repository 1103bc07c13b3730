use Rattle.std.proofs.Common.{◌≡◌, ◌++◌, drop, map, List, ℕ}
use Rattle.std.specs.Prelude.{option_map}
use Rattle.std.specs.Borrow.{Bor}
use Rattle.tm_forms.specs.Script.{steps_from}
use Rattle.tm_forms.specs.declared.script.Scripted.{Scripted}
use Rattle.tm_forms.proofs.script.steps_of.Given as goal

abbrev pub invariant-loop-text : goal.invariant-loop-text
invariant-loop-text l =
    option_map (λ (rest : List Scripted). l.steps.items ++ rest) (steps_from l.next (map (λ (t : Bor (List ℕ)). t.now) (drop l.text-index l.lines)))
    ≡ steps_from 0 (map (λ (t : Bor (List ℕ)). t.now) l.lines)

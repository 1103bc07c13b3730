use Rattle.std.proofs.Common.{map, option_map, ap, sym, ◌∙◌, List, ℕ, Vec, Global}
use Rattle.std.specs.Borrow.{Bor}
use Rattle.tm_forms.specs.declared.script.Scripted.{Scripted}
use Rattle.tm_forms.proofs.BuiltSteps.{steps-built}
use Rattle.tm_forms.proofs.script.ScriptForm.read.Goals as goal

-- The steps read are `steps_from` of the lines, and each of those is built.
pub invariant_of-result : goal.invariant_of-result
invariant_of-result c =
    steps-built 0 (map (λ (t : Bor (List ℕ)). t.now) c.as_slice.result.now) c.in-Some-2.steps.items
    (sym c.in_ok-steps.ensures ∙ ap (option_map (λ (v : Vec Scripted Global). v.items)) c.in-Some-2.is)

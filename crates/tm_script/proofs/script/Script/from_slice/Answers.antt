use Rattle.std.proofs.Common.{ap, map, sym, ◌∙◌, List, ℕ}
use Rattle.std.specs.Borrow.{Bor}
use Rattle.std.specs.List.{list_any}
use Rattle.tm_script.specs.Script.{is_to_come}
use Rattle.tm_script.proofs.Answered.{few-lines, script-ok, script-to_come, script-refused}
use Rattle.tm_script.proofs.script.Script.from_slice.Goals as goal

pub read_lines-requires : goal.read_lines-requires
read_lines-requires c = few-lines c.args.bytes.now c.as_slice.result.now
    (ap (map (λ (line : Bor (List ℕ)). line.now)) c.as_slice.ensures.value ∙ c.in_ok-lines.ensures) c.requires

pub returns-in_err-steps-clause-fault : goal.returns-in_err-steps-clause-fault
returns-in_err-steps-clause-fault c = script-refused c.args.bytes.now c.as_slice.result.now
    (ap (map (λ (line : Bor (List ℕ)). line.now)) c.as_slice.ensures.value ∙ c.in_ok-lines.ensures)
    c.from_residual-in_err-steps.result c.in_err-steps.field-0.0 c.from_residual-in_err-steps.ensures c.in_err-steps.ensures.fault

pub returns-then-has_workers-clause-fault : goal.returns-then-has_workers-clause-fault
returns-then-has_workers-clause-fault c = script-to_come c.args.bytes.now c.as_slice.result.now
    (ap (map (λ (line : Bor (List ℕ)). line.now)) c.as_slice.ensures.value ∙ c.in_ok-lines.ensures)
    c.in_ok-steps.steps.items c.in_ok-steps.ensures.ok
    (sym (ap (list_any is_to_come) c.as_slice-2.ensures.value) ∙ sym c.has_workers.ensures ∙ c.if-has_workers.true)

pub returns-clause-ok : goal.returns-clause-ok
returns-clause-ok c = script-ok c.args.bytes.now c.as_slice.result.now
    (ap (map (λ (line : Bor (List ℕ)). line.now)) c.as_slice.ensures.value ∙ c.in_ok-lines.ensures)
    c.in_ok-steps.steps.items c.in_ok-steps.ensures.ok
    (sym (ap (list_any is_to_come) c.as_slice-2.ensures.value) ∙ sym c.has_workers.ensures ∙ c.if-has_workers.false)

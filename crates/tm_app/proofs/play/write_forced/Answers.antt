use Rattle.std.proofs.Common.{◌++◌, [], arith, ap, ◌∙◌}
use Rattle.std.proofs.lemmas.List.{append-nil}
use Rattle.tm_app.specs.Printed.{blocked_text}
use Rattle.tm_app.proofs.PlayRuns.{takes-none, if_err}
use Rattle.tm_app.proofs.ShownLines.{show-stops}
use Rattle.tm_app.proofs.play.write_forced.Goals as goal

pub returns-in-Ok-write_line-clause-err : goal.returns-in-Ok-write_line-clause-err
returns-in-Ok-write_line-clause-err g c = if_err c.write_blocked.result _ _ (λ fault h. show-stops _ _ _ c.as_str.result.now (blocked_text c.args.blocked) [] _ _ _ _ fault
    (ap (λ l. c.as_str.result.now ++ l) (append-nil (blocked_text c.args.blocked)) ∙ ap (λ l. l ++ blocked_text c.args.blocked) (c.as_str.ensures.value ∙ c.in-Ok.ensures)) c.in-Ok-write_line.ensures.ok c.write_line.ensures.never_falls h)
    c.write_blocked.ensures.err

pub returns-in-Ok-clause-err : goal.returns-in-Ok-clause-err
returns-in-Ok-clause-err g c = show-stops _ _ _ [] c.as_str.result.now (blocked_text c.args.blocked) _ _ _ _ c.in-Err-write_line.fault
    (ap (λ l. l ++ blocked_text c.args.blocked) (c.as_str.ensures.value ∙ c.in-Ok.ensures)) (takes-none (g.S.Sink.taken c.args.out.now)) (omega arith) c.in-Err-write_line.ensures.err

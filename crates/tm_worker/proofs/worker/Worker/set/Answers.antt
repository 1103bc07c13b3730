use Rattle.std.proofs.Common.{ap, ap₂, sym, ◌∙◌}
use Rattle.tm_rebase.specs.declared.orders.Order.TheVariants as order
use Rattle.tm_worker.specs.Working.{obeyed_worker}
use Rattle.tm_worker.proofs.WorkerSteps.{map-false}
use Rattle.tm_worker.proofs.worker.Worker.set.Goals as goal

pub returns-clause-ok : goal.returns-clause-ok
returns-clause-ok g c =
    ap₂ (λ h m. record { held = h; fresh = m }) c.setting.ensures (c.clear.ensures ∙ sym (map-false c.self.inside.fresh.marks)) ∙ ap (λ w. obeyed_worker w (order.Setting c.args.number)) c.self.view_is

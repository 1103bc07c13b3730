use Rattle.std.proofs.Common.{ap, arith, map, subst, sym, ◌∙◌}
use Rattle.tm_rebase.specs.Right.{IsRightBatch}
use Rattle.tm_worker.proofs.Posts.{none-items, posted-is, right-batch}
use Rattle.tm_worker.proofs.WorkerSteps.{cleared-is}
use Rattle.tm_worker.proofs.worker.Worker.post.Goals as goal

pub new-requires : goal.new-requires
new-requires g c =
    subst (λ settings. IsRightBatch g.T.LineTok.tokenized (map g.T.LineTok.plain settings) (record { epoch = c.epoch-epoch.result; version = c.version-version.result; runs = c.in_ok-runs.runs.items })) (sym (c.settings-settings.ensures ∙ ap (λ w. w.held.settings) c.self.view_is))
    (right-batch g.T.LineTok.plain g.T.LineTok.tokenized g.T.LineTok.plain_cost g.T.LineTok.entries_made c.args.self.now.held c.epoch-epoch.result c.version-version.result c.in_ok-runs.runs.items c.runs_to_post.ensures.setting (c.epoch-epoch.ensures ∙ ap (λ w. w.held.epoch) c.self.view_is) c.in_ok-runs.ensures.right c.in_ok-runs.ensures.few)

pub returns-then-len-eq0-clause-posted : goal.returns-then-len-eq0-clause-posted
returns-then-len-eq0-clause-posted g c = sym c.in_ok-runs.ensures.items ∙ none-items c.in_ok-runs.runs.items (omega arith)

pub returns-clause-posted : goal.returns-clause-posted
returns-clause-posted g c =
    posted-is c.args.self.now c.new.result c.in_ok-runs.runs.items c.epoch-epoch.result c.version-version.result c.new.ensures (c.epoch-epoch.ensures ∙ ap (λ w. w.held.epoch) c.self.view_is) (c.version-version.ensures ∙ ap (λ w. w.held.version) c.self.view_is)
    c.in_ok-runs.ensures.items c.in_ok-runs.ensures.apart (omega arith)

pub returns-clause-right : goal.returns-clause-right
returns-clause-right g c =
    subst (λ batch. IsRightBatch g.T.LineTok.tokenized (map g.T.LineTok.plain c.args.self.now.held.settings) batch) (sym c.new.ensures)
    (right-batch g.T.LineTok.plain g.T.LineTok.tokenized g.T.LineTok.plain_cost g.T.LineTok.entries_made c.args.self.now.held c.epoch-epoch.result c.version-version.result c.in_ok-runs.runs.items c.runs_to_post.ensures.setting (c.epoch-epoch.ensures ∙ ap (λ w. w.held.epoch) c.self.view_is) c.in_ok-runs.ensures.right c.in_ok-runs.ensures.few)

pub returns-clause-others : goal.returns-clause-others
returns-clause-others g c = cleared-is c.self.inside.document c.self.inside.fresh.marks c.clear.new.self.marks c.args.self.now c.clear.ensures c.self.view_is

use Rattle.std.proofs.Common.{◌∙◌}
use Rattle.tm_app.proofs.Layers.{settings-next, list-stop}
use Rattle.tm_app.proofs.ReadStops.{grown-trans}
use Rattle.tm_app.proofs.setup.load_list.Goals as goal

pub returns-in-Err-clause-err : goal.returns-in-Err-clause-err
returns-in-Err-clause-err g c =
    let inv = c.loop-named.invariant in
    list-stop (g.F.Files.bytes c.args.files.now) (g.F.Files.bytes c.loop-named.files) inv.kept c.args.list.now c.loop-named.settings.items c.loop-named.named-index c.named-item.result
    (g.F.Files.failed c.args.files.now) (g.F.Files.failed c.loop-named.files) _ c.in-Err.status c.loop-named-test.true c.named-item.is inv.given inv.grows c.in-Err.ensures.err

pub loop-named-preserved : goal.loop-named-preserved
loop-named-preserved g c =
    let inv = c.loop-named.invariant in
    record {
      given = rw c.in-Ok-push.ensures.items (settings-next (g.F.Files.bytes c.args.files.now) (g.F.Files.bytes c.loop-named.files) inv.kept c.args.list.now c.loop-named.settings.items c.loop-named.named-index c.named-item.result c.in-Ok.setting
          c.loop-named-test.true c.named-item.is inv.given c.in-Ok.ensures.ok);
      grows = grown-trans _ _ _ inv.grows c.load_setting.ensures.grows;
      kept = λ other. c.load_setting.ensures.kept other ∙ inv.kept other;
    }

use Rattle.std.proofs.Common.{◌∙◌}
use Rattle.tm_app.proofs.Layers.{trees-next, trees-stop}
use Rattle.tm_app.proofs.ReadStops.{grown-trans}
use Rattle.tm_app.proofs.setup.load_trees.Goals as goal

pub returns-in-Err-clause-err : goal.returns-in-Err-clause-err
returns-in-Err-clause-err g c =
    let inv = c.loop-name.invariant in
    trees-stop (g.F.Files.bytes c.args.files.now) (g.F.Files.bytes c.loop-name.files) inv.kept c.args.names.now c.loop-name.trees.items c.loop-name.name-index c.name-item.result c.as_str.result.now
    (g.F.Files.failed c.args.files.now) (g.F.Files.failed c.loop-name.files) _ c.in-Err.status c.loop-name-test.true c.name-item.is c.as_str.ensures.value inv.given inv.grows c.in-Err.ensures.err

pub loop-name-preserved : goal.loop-name-preserved
loop-name-preserved g c =
    let inv = c.loop-name.invariant in
    record {
      given = rw c.in-Ok-push.ensures.items (trees-next (g.F.Files.bytes c.args.files.now) (g.F.Files.bytes c.loop-name.files) inv.kept c.args.names.now c.loop-name.trees.items c.loop-name.name-index c.name-item.result c.as_str.result.now c.in-Ok.tree
          c.loop-name-test.true c.name-item.is c.as_str.ensures.value inv.given c.in-Ok.ensures.ok);
      grows = grown-trans _ _ _ inv.grows c.load.ensures.grows;
      kept = λ other. c.load.ensures.kept other ∙ inv.kept other;
    }

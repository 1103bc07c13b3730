use Rattle.std.proofs.Common.{map, string_bytes}
use Rattle.tm_app.proofs.Layers.{root-stop, more-stop, many-stop, setting-is, both_ok}
use Rattle.tm_app.proofs.PlayRuns.{if_err}
use Rattle.tm_app.proofs.setup.load_setting.Goals as goal

pub returns-in-Err-clause-err : goal.returns-in-Err-clause-err
returns-in-Err-clause-err g c = root-stop (g.F.Files.bytes c.args.files.now) c.args.named.now c.grammar.result.now _ _ c.in-Err.status c.grammar.ensures c.in-Err.ensures.err

pub returns-in-Ok-load_trees-clause-ok : goal.returns-in-Ok-load_trees-clause-ok
returns-in-Ok-load_trees-clause-ok g c =
    both_ok c.built.result _ _ _ (λ setting few is. setting-is (g.F.Files.bytes c.args.files.now) (g.F.Files.bytes c.load.new.files) c.load.ensures.kept c.args.named.now c.grammar.result.now (map string_bytes c.grammars.result.now) c.in-Ok.root c.in-Ok-load_trees.more.items setting
    c.grammar.ensures c.in-Ok.ensures.ok c.grammars.ensures c.in-Ok-load_trees.ensures.ok few is) c.built.ensures.few c.built.ensures.setting

pub returns-in-Ok-load_trees-clause-err : goal.returns-in-Ok-load_trees-clause-err
returns-in-Ok-load_trees-clause-err g c =
    if_err c.built.result _ _ (λ ended stop. many-stop (g.F.Files.bytes c.args.files.now) (g.F.Files.bytes c.load.new.files) c.load.ensures.kept c.args.named.now c.grammar.result.now c.grammar-in-Ok-load_trees.result.now (map string_bytes c.grammars.result.now) c.in-Ok.root c.in-Ok-load_trees.more.items _ _ ended
    c.grammar.ensures c.grammar-in-Ok-load_trees.ensures c.in-Ok.ensures.ok c.grammars.ensures c.in-Ok-load_trees.ensures.ok stop) c.built.ensures.err

pub returns-in-Err-load_trees-clause-err : goal.returns-in-Err-load_trees-clause-err
returns-in-Err-load_trees-clause-err g c =
    more-stop (g.F.Files.bytes c.args.files.now) (g.F.Files.bytes c.load.new.files) c.load.ensures.kept c.args.named.now c.grammar.result.now (map string_bytes c.grammars.result.now) c.in-Ok.root
    (g.F.Files.failed c.args.files.now) (g.F.Files.failed c.load.new.files) _ c.in-Err-load_trees.status c.grammar.ensures c.in-Ok.ensures.ok c.grammars.ensures c.load.ensures.grows c.in-Err-load_trees.ensures.err

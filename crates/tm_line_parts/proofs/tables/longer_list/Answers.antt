use Rattle.std.proofs.Common.{◌++◌, ◌∷◌, []}
use Rattle.tm_defs.specs.Tables.{only_text, only_path, path_at}
use Rattle.tm_defs.proofs.Chains.{grows-then, full_err-then, path_at-grown, text_at-is}
use Rattle.tm_line_parts.proofs.tables.longer_list.Goals as goal

pub returns-in-Ok-clause-grows : goal.returns-in-Ok-clause-grows
returns-in-Ok-clause-grows g c =
    let t = g.S.States.tables c.args.table.now in
    let u = g.S.States.tables c.text.new.self in
    let kept = path_at-grown _ t u c.args.list c.requires c.in-Ok.ensures.grows in
    let said = text_at-is u c.in-Ok.text c.args.name.now c.in-Ok.ensures.ok in
    grows-then (only_text c.args.name.now) (only_path (path_at (g.S.States.tables c.args.table.now) c.args.list ++ c.args.name.now ∷ [])) _ _ _ c.in-Ok.ensures.grows (rw (kept, said) at c.push.ensures.grows)

pub returns-in-Ok-clause-full : goal.returns-in-Ok-clause-full
returns-in-Ok-clause-full g c =
    let t = g.S.States.tables c.args.table.now in
    let u = g.S.States.tables c.text.new.self in
    let kept = path_at-grown _ t u c.args.list c.requires c.in-Ok.ensures.grows in
    let said = text_at-is u c.in-Ok.text c.args.name.now c.in-Ok.ensures.ok in
    full_err-then (only_text c.args.name.now) (only_path (path_at (g.S.States.tables c.args.table.now) c.args.list ++ c.args.name.now ∷ [])) _ c.push.result (rw (kept, said) at c.push.ensures.full)

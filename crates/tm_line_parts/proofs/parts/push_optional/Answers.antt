use Rattle.std.proofs.Common.{Some, [], ap, sym, ◌∙◌}
use Rattle.std.proofs.lemmas.List.{append-nil}
use Rattle.std.proofs.lemmas.Option.{slice_get-get_or}
use Rattle.tm_defs.specs.Tables.{path_at}
use Rattle.tm_line_parts.proofs.parts.push_optional.Goals as goal

pub returns-in-Some-clause-adds : goal.returns-in-Some-clause-adds
returns-in-Some-clause-adds g c meta o = rw c.in-Some.is (c.push_group.ensures.adds meta o)

pub returns-in-None-clause-ok : goal.returns-in-None-clause-ok
returns-in-None-clause-ok g c =
    let t = g.S.States.tables c.args.table.now in
    rw c.in-None.is (slice_get-get_or t.paths c.args.list.0 [] c.requires.list ∙ ap Some (sym (append-nil (path_at t c.args.list))))

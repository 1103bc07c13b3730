use Rattle.std.proofs.Common.{◌∙◌, Some, [], ap, sym}
use Rattle.std.proofs.lemmas.List.{append-nil}
use Rattle.std.proofs.lemmas.Option.{slice_get-get_or, slice_get_within}
use Rattle.tm_defs.specs.Tables.{none_made, path_at}
use Rattle.tm_defs.proofs.Growth.{tables-refl}
use Rattle.tm_line_parts.proofs.Paths.{item-of, listed-more, grows-more, grows-all, full-all}
use Rattle.tm_line_parts.proofs.tables.named_list.Goals as goal

pub loop-name-init : goal.loop-name-init
loop-name-init g c =
    let t = g.S.States.tables c.args.table.now in
    record {
      listed = slice_get-get_or t.paths c.args.list.0 [] c.requires ∙ ap Some (sym (append-nil (path_at t c.args.list)));
      grows = tables-refl none_made t;
    }

pub longer_list-requires : goal.longer_list-requires
longer_list-requires g c = slice_get_within _ _ _ c.loop-name.invariant.listed

pub returns-in-Err-clause-grows : goal.returns-in-Err-clause-grows
returns-in-Err-clause-grows g c =
    let t = g.S.States.tables c.args.table.now in
    let item = item-of c.args.names.now c.as_slice-name-items.result.now c.loop-name.name-index c.name-item.result c.as_slice-name-items.ensures c.loop-name-test.true c.name-item.is in
    grows-all t (g.S.States.tables c.loop-name.table) (path_at t c.args.list) c.args.names.now c.loop-name.name-index item.0 c.loop-name.longer c.loop-name.invariant.listed c.loop-name.invariant.grows
    (g.S.States.tables c.longer_list.new.table) (rw item.1 at c.in-Err.ensures.grows)

pub returns-in-Err-clause-full : goal.returns-in-Err-clause-full
returns-in-Err-clause-full g c =
    let t = g.S.States.tables c.args.table.now in
    let item = item-of c.args.names.now c.as_slice-name-items.result.now c.loop-name.name-index c.name-item.result c.as_slice-name-items.ensures c.loop-name-test.true c.name-item.is in
    full-all t (g.S.States.tables c.loop-name.table) (path_at t c.args.list) c.args.names.now c.loop-name.name-index item.0 c.loop-name.longer c.loop-name.invariant.listed c.loop-name.invariant.grows
    (g.S.States.tables c.longer_list.new.table) c.in-Err.fault (rw item.1 at c.in-Err.ensures.full)

pub loop-name-preserved : goal.loop-name-preserved
loop-name-preserved g c =
    let t = g.S.States.tables c.args.table.now in
    let item = item-of c.args.names.now c.as_slice-name-items.result.now c.loop-name.name-index c.name-item.result c.as_slice-name-items.ensures c.loop-name-test.true c.name-item.is in
    record {
      listed = listed-more t (g.S.States.tables c.loop-name.table) (path_at t c.args.list) c.args.names.now c.loop-name.name-index item.0 c.loop-name.longer c.loop-name.invariant.listed c.loop-name.invariant.grows
          (g.S.States.tables c.longer_list.new.table) c.in-Ok.next (rw item.1 at c.in-Ok.ensures.ok);
      grows = grows-more t (g.S.States.tables c.loop-name.table) (path_at t c.args.list) c.args.names.now c.loop-name.name-index item.0 c.loop-name.longer c.loop-name.invariant.listed c.loop-name.invariant.grows
          (g.S.States.tables c.longer_list.new.table) (rw item.1 at c.in-Ok.ensures.grows);
    }

use Rattle.std.proofs.Common.{◌≡◌, ◌∙◌, ap, refl, sym, length, None, Some}
use Rattle.std.specs.Prelude.{option_map, slice_get}
use Rattle.std.specs.Option.{is_some}
use Rattle.std.proofs.lemmas.Option.{slice_get_read, slice_get-map, get_or_from_slice_get}
use Rattle.tm_onig_class.specs.Tree.{tree_of}
use Rattle.tm_onig_scan.specs.Winner.{trees_of}
use Rattle.tm_onig_scan.proofs.Readable.{readable}
use Rattle.tm_onig_scan.proofs.Scanner.readable.Goals as goal

-- the tree at the place of the number
got : (c : goal.After-is_program) → slice_get (trees_of c.args.self.now) c.args.number ≡ Some (option_map tree_of c.index.result.now)
got c =
    let items = c.args.self.now in
    slice_get-map (option_map tree_of) items c.args.number
    ∙ ap (option_map (option_map tree_of)) (slice_get_read items (length items) c.args.number c.index.result.now refl c.requires (rw c.self.view_is at c.index.ensures))

pub returns-clause-is : goal.returns-clause-is
returns-clause-is c = rw c.is_program.ensures (readable c.index.result.now (trees_of c.args.self.now) c.args.number (got c))

pub returns-clause-told : goal.returns-clause-told
returns-clause-told c = c.is_program.ensures ∙ ap is_some (sym (get_or_from_slice_get (trees_of c.args.self.now) c.args.number _ None (got c)))

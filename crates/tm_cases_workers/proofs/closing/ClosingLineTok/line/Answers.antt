use Rattle.std.proofs.Common.{◌≡◌, [], ◌∷◌, ◌++◌, None, List, ℕ, false, subst}
use Rattle.std.proofs.lemmas.Option.{get_or_from_slice_get}
use Rattle.tm_defs.specs.declared.tables.TableFault.TheVariants.{TableFull}
use Rattle.tm_defs.specs.Tables.{IsFullForSome, only_state, path_at, state_at}
use Rattle.tm_cases_workers.proofs.closing.ClosingLineTok.line.Goals as goal

pub returns-in-Err-TableFull-clause-cause : goal.returns-in-Err-TableFull-clause-cause
returns-in-Err-TableFull-clause-cause g c =
    let t = g.S.States.tables c.args.table.now in
    let empty : path_at t (record { 0 = 0 }) ≡ [] = get_or_from_slice_get t.paths 0 [] [] c.prove_known.ensures.empty_path in
    let full = subst (λ (p : List (List ℕ)). IsFullForSome (only_state (state_at t c.args.start ++ record { rule = 2; end = None; names = p; contents = p; at_eol = false } ∷ [])) (g.S.States.tables c.intern.new.self) (TableFull c.in-Err-TableFull.count)) empty
    (rw c.in-Err-TableFull.field-0-is at c.in-Err-TableFull.ensures.full) in
    rw c.in-Err-TableFull.count-is full

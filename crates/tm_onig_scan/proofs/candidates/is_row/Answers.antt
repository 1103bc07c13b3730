use Rattle.std.proofs.Common.{◌≡◌, ◌<◌, Some, slice_get, length, ap, sym, ◌∙◌, arith}
use Rattle.std.proofs.lemmas.Bool.Decides.{nat_tests}
use Rattle.std.proofs.lemmas.Option.{slice_get-get_or}
use Rattle.tm_onig_scan.specs.declared.candidates.Row.{Row}
use Rattle.tm_onig_scan.specs.Rows.{places_of}
use Rattle.tm_onig_scan.proofs.candidates.is_row.Goals as goal

pub returns-in-Some : goal.returns-in-Some
returns-in-Some c = λ yes.
    let at = c.in-Some.ensures.lookup.0 in
    let low : c.args.number < length c.args.rows.now = grind (arith, nat_tests) in
    let got : slice_get c.args.rows.now c.args.number ≡ Some c.in-Some.row.now =
    slice_get-get_or c.args.rows.now c.args.number c.in-Some.row.now low ∙ ap (λ (r : Row). Some r) (sym c.in-Some.ensures.lookup.1) in (
      low,
      ap places_of got ∙ sym c.as_slice.ensures.value ∙ c.are_same.ensures yes,
    )

use Rattle.std.proofs.Common.{ℕ, List, slice_get, sym, ap, ◌∙◌, subst}
use Rattle.tm_onig_scan.specs.declared.candidates.Row.{Row}
use Rattle.tm_onig_scan.specs.Winner.{patterns_at}
use Rattle.tm_onig_scan.specs.Rows.{IsRow, places_of, row_at}
use Rattle.tm_onig_scan.proofs.candidates.row_of.Goals as goal

pub returns-in-Some : goal.returns-in-Some
returns-in-Some c = λ patterns next are same.
    let rows = c.args.candidates.now.rows.items in
    let right = c.rows_behind.ensures patterns are next in
    subst (λ (l : List ℕ). IsRow c.args.behind next 0 (patterns_at patterns c.args.candidates.now.numbers.items) l)
    (ap (row_at rows) (ap (slice_get c.rows_behind.result.now) same ∙ sym c.in-Some.ensures) ∙ ap (λ (rs : List Row). places_of (slice_get rs c.in-Some.number)) (sym c.as_slice.ensures.value)
    ∙ sym c.places_at.ensures) right

pub returns-in-None : goal.returns-in-None
returns-in-None c = λ patterns next are same.
    let rows = c.args.candidates.now.rows.items in
    let right = c.rows_behind.ensures patterns are next in
    subst (λ (l : List ℕ). IsRow c.args.behind next 0 (patterns_at patterns c.args.candidates.now.numbers.items) l)
    (ap (row_at rows) (ap (slice_get c.rows_behind.result.now) same ∙ sym c.in-None.ensures)) right

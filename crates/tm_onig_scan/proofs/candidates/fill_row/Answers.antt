use Rattle.std.proofs.Common.{◌≡◌, ℕ, ◌+◌, ◌<◌, List, [], ◌∷◌, ◌++◌, Option, length, sym, subst, arith}
use Rattle.tm_onig_class.specs.Tree.{Tree}
use Rattle.tm_onig_scan.specs.Winner.{trees_of, pattern_at, patterns_at}
use Rattle.tm_onig_scan.specs.Rows.{NeverStartsIf}
use Rattle.tm_onig_scan.proofs.Rows.{IsMadeTo, made_takes, made_skips, made_all, length_at}
use Rattle.tm_onig_scan.proofs.candidates.fill_row.Goals as goal
use Rattle.tm_onig_scan.proofs.candidates.fill_row.Goals.{then-may_start+in_ok-push, else-may_start}

pub loop-place-preserved : goal.loop-place-preserved
loop-place-preserved c = λ next same.
    let ps = patterns_at (trees_of c.args.programs.now) c.args.numbers.now in
    let long = length_at (trees_of c.args.programs.now) c.args.numbers.now in
    let inside = c.loop-place-test.true in
    let low : c.loop-place.place < length ps = omega arith in
    let was = c.loop-place.invariant next same in
    let made : IsMadeTo c.args.behind next ps (c.loop-place.place + 1) c.if-may_start.places.items = elim c.if-may_start.branch [
      | then-may_start+in_ok-push w ↦
          let is = w.places-is in
          let pushed = w.in_ok-push.ensures in
          let e : c.if-may_start.places.items ≡ c.loop-place.places.items ++ c.loop-place.place ∷ [] = cc in
          subst (λ (l : List ℕ). IsMadeTo c.args.behind next ps (c.loop-place.place + 1) l) (sym e) (made_takes c.args.behind next ps c.loop-place.place c.loop-place.places.items low was)
      | else-may_start w ↦
          let is = w.places-is in
          let e : c.if-may_start.places.items ≡ c.loop-place.places.items = cc in
          let never : NeverStartsIf (pattern_at ps c.loop-place.place) c.args.behind next =
          subst (λ (t : Option Tree). NeverStartsIf t c.args.behind next) c.program_of_place-program.ensures (c.may_start.ensures w.if-may_start.false next same) in
          subst (λ (l : List ℕ). IsMadeTo c.args.behind next ps (c.loop-place.place + 1) l) (sym e) (made_skips c.args.behind next ps c.loop-place.place c.loop-place.places.items low never was)
    ] in made

pub returns : goal.returns
returns c = λ next same.
    let ps = patterns_at (trees_of c.args.programs.now) c.args.numbers.now in
    let long = length_at (trees_of c.args.programs.now) c.args.numbers.now in
    let outside = c.loop-place-test.false in
    made_all c.args.behind next ps c.loop-place.place c.loop-place.places.items (omega arith) (c.loop-place.invariant next same)

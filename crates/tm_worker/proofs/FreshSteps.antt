-- The steps on marks, by their ranges.
use Rattle.std.proofs.Common.{◌≡◌, ℕ, suc, ◌+◌, ◌-◌, ◌<◌, ◌≤◌, ◌++◌, Bool, true, false, List, [], ◌∷◌, length, drop, get_or, replicate, refl, sym, ap, ◌∙◌, arith, subst, append-nil}
use Rattle.std.specs.Prelude.{◌||◌, nat_eq, nat_lt}
use Rattle.std.proofs.lemmas.Bool.Decides.{nat_tests}
use Rattle.std.proofs.lemmas.Option.{slice_get_read}
use Rattle.tm_machine.specs.Changes.{spliced}
use Rattle.tm_machine.specs.Machine as machine
use Rattle.tm_store.specs.declared.spans.Span.{Span}
use Rattle.tm_store.specs.Spans.{AreFrom, marked}
use Rattle.tm_worker.specs.Fresh.{covers, cut_range, cut_ranges, marks_of}
use Rattle.tm_worker.proofs.Cuts.{covers-cut, cut_test}
use Rattle.tm_worker.proofs.Ranges.{AreBelow, covers-marked}
use Rattle.tm_worker.proofs.Segments.{drop-past, drop-there}
use Rattle.tm_worker.proofs.Tests.{length-tests, tests-alike, tests-false, tests-marked, tests-spliced}

module _ (n : ℕ) (rs : List Span) (marks : List Bool) (is : marks_of n rs ≡ marks) where
  pub marks-length : length marks ≡ n
  marks-length = sym (ap length is) ∙ length-tests (covers rs) 0 n

  pub marks-read : (part : List Span) → part ≡ rs → marks ≡ marks_of (length marks) part
  marks-read part same = sym is ∙ ap (marks_of n) (sym same) ∙ ap (λ m. marks_of m part) (sym marks-length)

  pub marks-cleared : marks_of n [] ≡ replicate (length marks) false
  marks-cleared = tests-false (covers []) 0 n (λ j lt. refl) ∙ ap (λ m. replicate m false) (sym marks-length)

  pub marks-marked : (i : ℕ) (after : List Span) → AreFrom 0 rs → i < length marks → after ≡ marked i rs → marks_of n after ≡ machine.marked marks i
  marks-marked i after apart lt done =
      let i0 : 0 + i ≡ i = omega arith in
      ap (marks_of n) done
      ∙ tests-alike (covers (marked i rs)) (λ j. nat_eq j (0 + i) || covers rs j) 0 0 n (λ j l. covers-marked 0 i (0 + j) rs apart ∙ ap (λ x. nat_eq (0 + j) x || covers rs (0 + j)) (sym i0))
      ∙ sym (tests-marked (covers rs) 0 n i (omega (arith, lt, marks-length)))
      ∙ ap (λ m. machine.marked m i) is

  pub marks-replaced : (first old new m : ℕ) (after : List Span) → AreFrom 0 rs → first + old ≤ length marks → m ≡ n + new - old → after ≡ cut_ranges first old new rs → marks_of m after ≡ spliced first old (replicate new false) marks
  marks-replaced first old new m after apart le count done =
      ap (λ x. marks_of x after) count ∙ ap (marks_of (n + new - old)) done
      ∙ tests-spliced (covers rs) (covers (cut_ranges first old new rs)) first old new n (omega (arith, le, marks-length))
      (λ j lt. covers-cut first old new 0 j rs apart ∙ low j lt)
      (λ j lt. covers-cut first old new 0 (first + j) rs apart ∙ mid j lt)
      (λ j. covers-cut first old new 0 (first + new + j) rs apart ∙ high j)
      ∙ ap (spliced first old (replicate new false)) is
    where
      low : (j : ℕ) → j < first → cut_test first old new (covers rs) j ≡ covers rs j
      low j lt = let t : nat_lt j first ≡ true = grind (arith, nat_tests) in rw t refl

      mid : (j : ℕ) → j < new → cut_test first old new (covers rs) (first + j) ≡ false
      mid j lt =
          let t : nat_lt (first + j) first ≡ false = grind (arith, nat_tests) in
          let u : nat_lt (first + j) (first + new) ≡ true = grind (arith, nat_tests) in
          rw (t, u) refl

      high : (j : ℕ) → cut_test first old new (covers rs) (first + new + j) ≡ covers rs (first + old + j)
      high j =
          let t : nat_lt (first + new + j) first ≡ false = grind (arith, nat_tests) in
          let u : nat_lt (first + new + j) (first + new) ≡ false = grind (arith, nat_tests) in
          let back : first + new + j + old - new ≡ first + old + j = omega arith in
          rw (t, u) (ap (covers rs) back)

-- one range more of those that a loop goes over
pub drop-read : {A : Type 0} (xs : List A) (i : ℕ) (x : A) → i < length xs → x ≡ get_or xs i x → drop i xs ≡ x ∷ drop (i + 1) xs
drop-read xs i x lt is =
    let next : suc i ≡ i + 1 = omega arith in
    drop-there xs i x (slice_get_read xs (length xs) i x refl lt is) ∙ ap (λ n. x ∷ drop n xs) next

module _ (first old new : ℕ) (next after : List Span) (spans : List Span) (i : ℕ) (r : Span) (there : drop i spans ≡ r ∷ drop (i + 1) spans) where
  pub cut-next : (whole : List Span) → ((rest : List Span) → after ++ rest ≡ next ++ cut_range first old new r rest) → next ++ cut_ranges first old new (drop i spans) ≡ whole → after ++ cut_ranges first old new (drop (i + 1) spans) ≡ whole
  cut-next whole pushed so_far = pushed (cut_ranges first old new (drop (i + 1) spans)) ∙ ap (λ xs. next ++ cut_ranges first old new xs) (sym there) ∙ so_far

  pub range-there : (k n : ℕ) → AreFrom k (drop i spans) → AreBelow n (drop i spans) → (k ≤ r.first) × (r.first < r.end) × AreFrom (suc r.end) (drop (i + 1) spans) × (r.end ≤ n) × AreBelow n (drop (i + 1) spans)
  range-there k n apart below =
      let a = subst (AreFrom k) there apart in
      let b = subst (AreBelow n) there below in
      (a.0, a.1, a.2, b.0, b.1)

-- behind the last range
pub cut-last : (first old new : ℕ) (next spans whole : List Span) (i : ℕ) → length spans ≤ i → next ++ cut_ranges first old new (drop i spans) ≡ whole → next ≡ whole
cut-last first old new next spans whole i le h = sym (append-nil next) ∙ ap (λ xs. next ++ cut_ranges first old new xs) (sym (drop-past spans i le)) ∙ h

-- The ranges of a test are canonical, and have the characters that pass.
use Rattle.std.proofs.Common.{◌≡◌, ◌≢◌, ℕ, zero, suc, ◌+◌, ◌≤◌, Bool, true, false, ◌||◌, ◌&&◌, ◌==◌, inl, inr, ⊎_elim, List, [], ◌∷◌, refl, sym, ap, ap₂, subst, ◌∙◌, arith, eqb-true, eq-eqb}
use Rattle.std.specs.Prelude.{nat_le}
use Rattle.std.proofs.lemmas.Bool.{cases_Bool, cases_lt, and_parts, or_cases, both_ways}
use Rattle.std.proofs.lemmas.Bool.Decides.{nat_tests}
use Rattle.regex_class.specs.Ranges.{Range, in_range, in_ranges, rises_from, fits_from, IsCanonical}
use Rattle.regex_class.proofs.RangesLemmas.{fits_from-true, le-fits_from, in_ranges-nil, in_ranges-outside, rises_from-at, or_assoc}
use Rattle.tm_onig_class.specs.Ranks.{char_of, chars_of, rank_of, AreRanks}
use Rattle.tm_onig_class.specs.Members.{has_char, IsChar, add_front, runs_below, ranges_of}
use Rattle.tm_onig_class.proofs.Members.{has_char-ranks, rank_bound}
use Rattle.tm_onig_class.proofs.Rising.{same_ranks}

-- what the ranges from n on are: canonical, and the numbers from n on that pass
record Runs (n : ℕ) (test : ℕ → Bool) (rs : List Range) : Type 0 where
  rises : rises_from n rs ≡ true
  members : (r : ℕ) → n ≤ r → r ≤ 0x10F7FF → in_ranges rs r ≡ test r
  bounded : AreRanks rs

-- two tests that hold
both : (a b : Bool) → a ≡ true → b ≡ true → (a && b) ≡ true
both a b x y = ap₂ ◌&&◌ x y

-- what rises from later on rises from earlier on
weaker : (n : ℕ) (rs : List Range) → rises_from (suc n) rs ≡ true → rises_from n rs ≡ true
unfolding rises_from
weaker n [] h = refl
weaker n (r ∷ rs) h =
    let parts = and_parts (fits_from (suc n) r) (rises_from (r.1 + 2) rs) h in
    let fits = fits_from-true (suc n) r parts.0 in
    both _ _ (le-fits_from n r (omega (arith, fits.0)) fits.1 fits.2) parts.1

-- a number in front of what rises after it
front_rises : (n : ℕ) (rs : List Range) → n ≤ 0x10F7FF → rises_from (suc n) rs ≡ true → rises_from n (add_front n rs) ≡ true
unfolding rises_from
front_rises n [] le h = both _ _ (le-fits_from n (n, n) (omega arith) (omega arith) (omega arith)) refl
front_rises n (r ∷ rs) le h =
    let parts = and_parts (fits_from (suc n) r) (rises_from (r.1 + 2) rs) h in
    let fits = fits_from-true (suc n) r parts.0 in
    elim (cases_Bool (r.0 == n + 1)) [
      | inl touch ↦ rw touch (both _ _ (le-fits_from n (n, r.1) (omega arith) (omega (arith, fits.0, fits.1)) fits.2) parts.1)
      | inr apart ↦
          let other : r.0 ≢ n + 1 = λ e. both_ways _ apart (eq-eqb _ _ e) in
          rw apart (both _ _ (le-fits_from n (n, n) (omega arith) (omega arith) (omega arith)) (both _ _ (le-fits_from (n + 2) r (omega (arith, fits.0)) fits.1 fits.2) parts.1))
    ]

-- a number before a range that it touches
touch_range : (n a b x : ℕ) → a ≡ n + 1 → a ≤ b → (nat_le n x && nat_le x b) ≡ ((n == x) || (nat_le a x && nat_le x b))
touch_range n a b x e le = grind (arith, nat_tests)

-- a number as a range
one_number : (n x : ℕ) → (nat_le n x && nat_le x n) ≡ (n == x)
one_number n x = grind (arith, nat_tests)

-- the members with a number in front
front_members : (n : ℕ) (rs : List Range) (x : ℕ) → rises_from (suc n) rs ≡ true → in_ranges (add_front n rs) x ≡ ((n == x) || in_ranges rs x)
unfolding in_ranges in_range rises_from
front_members n [] x h = ap (λ t. t || false) (one_number n x)
front_members n (r ∷ rs) x h =
    let fits = fits_from-true (suc n) r (and_parts (fits_from (suc n) r) (rises_from (r.1 + 2) rs) h).0 in
    elim (cases_Bool (r.0 == n + 1)) [
      | inl touch ↦ rw touch (ap (λ t. t || in_ranges rs x) (touch_range n r.0 r.1 x (eqb-true _ _ touch) fits.1) ∙ sym (or_assoc (n == x) (nat_le r.0 x && nat_le x r.1) (in_ranges rs x)))
      | inr apart ↦ rw apart (ap (λ t. t || ((nat_le r.0 x && nat_le x r.1) || in_ranges rs x)) (one_number n x))
    ]

-- what rises after a number lacks it
not_before : (n : ℕ) (rs : List Range) → rises_from (suc n) rs ≡ true → in_ranges rs n ≡ false
not_before n rs h = in_ranges-outside rs n (λ k hk. inl (omega (arith, (rises_from-at (suc n) rs k h hk).0)))

-- one number more, which passes
passing : (n : ℕ) (test : ℕ → Bool) (rs : List Range) → n ≤ 0x10F7FF → test n ≡ true → Runs (suc n) test rs → Runs n test (add_front n rs)
passing n test rs le is runs = record {
  rises = front_rises n rs le runs.rises;
  members = λ r from top. front_members n rs r runs.rises ∙ elim (cases_Bool (n == r)) [
    | inl same ↦ ap (λ t. t || in_ranges rs r) same ∙ sym (subst (λ k. test k ≡ true) (eqb-true n r same) is)
    | inr apart ↦
        let other : n ≢ r = λ e. both_ways _ apart (eq-eqb n r e) in
        ap (λ t. t || in_ranges rs r) apart ∙ runs.members r (omega arith) top
  ];
  bounded = λ r h. ⊎_elim (λ same. let e = eqb-true n r same in omega arith) (runs.bounded r) (or_cases _ _ (sym (front_members n rs r runs.rises) ∙ h));
}

-- one number more, which does not
failing : (n : ℕ) (test : ℕ → Bool) (rs : List Range) → test n ≡ false → Runs (suc n) test rs → Runs n test rs
failing n test rs not_so runs = record {
  rises = weaker n rs runs.rises;
  members = λ r from top. elim (cases_lt n r) [
    | inl after ↦ runs.members r after top
    | inr before ↦
        let e : n ≡ r = omega arith in
        subst (λ k. in_ranges rs k ≡ test k) e (not_before n rs runs.rises ∙ sym not_so)
  ];
  bounded = runs.bounded;
}

-- the numbers before, one by one
all_runs : (n : ℕ) (test : ℕ → Bool) (rs : List Range) → n ≤ 0x10F800 → Runs n test rs → Runs 0 test (runs_below n test rs)
unfolding runs_below
all_runs zero test rs le runs = runs
all_runs (suc n) test rs le runs = all_runs n test _ (omega arith) (elim (cases_Bool (test n)) [
  | inl is ↦ rw is (passing n test rs (omega arith) is runs)
  | inr not_so ↦ rw not_so (failing n test rs not_so runs)
])

-- past the last rank nothing is left
none_yet : (test : ℕ → Bool) → Runs 0x10F800 test []
unfolding rises_from
none_yet test = record {
  rises = refl;
  members = λ r from top. absurd (omega arith);
  bounded = λ r h. absurd (both_ways _ (in_ranges-nil r) h);
}

-- the character of its rank
char_of-rank_of : (c : ℕ) → IsChar c → char_of (rank_of c) ≡ c
char_of-rank_of c is = grind (arith, nat_tests)

-- ranges with the characters that pass are the test's
pub exact : (rs : List Range) (test : ℕ → Bool) → IsCanonical rs → AreRanks rs → ((c : ℕ) → IsChar c → has_char (chars_of rs) c ≡ test c) → chars_of rs ≡ ranges_of test
exact rs test canonical bounded same =
    let of_rank = λ (r : ℕ). test (char_of r) in
    let ys = runs_below 0x10F800 of_rank [] in
    let runs : Runs 0 of_rank ys = all_runs 0x10F800 of_rank [] (omega arith) (none_yet of_rank) in
    ap chars_of (same_ranks rs ys canonical runs.rises bounded runs.bounded
    (λ c is. same c is ∙ sym (has_char-ranks ys c is ∙ runs.members (rank_of c) (omega arith) (rank_bound c is) ∙ ap test (char_of-rank_of c is))))

-- the characters of a test's ranges are those that pass
pub has_char-ranges_of : (test : ℕ → Bool) (c : ℕ) → IsChar c → has_char (ranges_of test) c ≡ test c
has_char-ranges_of test c is =
    let of_rank = λ (r : ℕ). test (char_of r) in
    let ys = runs_below 0x10F800 of_rank [] in
    let runs : Runs 0 of_rank ys = all_runs 0x10F800 of_rank [] (omega arith) (none_yet of_rank) in
    has_char-ranks ys c is ∙ runs.members (rank_of c) (omega arith) (rank_bound c is) ∙ ap test (char_of-rank_of c is)

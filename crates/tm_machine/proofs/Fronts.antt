-- The front, and the entries before it.
use Rattle.std.proofs.Common.{◌≡◌, ℕ, zero, suc, ◌+◌, ◌<◌, ◌≤◌, Bool, true, false, not, cond, List, [], ◌∷◌, length, take, get_or, Some, None, refl, sym, ap, ◌∙◌, arith, add-one}
use Rattle.std.specs.Prelude.{nat_lt, ◌&&◌, slice_get}
use Rattle.std.specs.List.{list_all, prefix_len}
use Rattle.std.proofs.lemmas.Bool.{and_parts, and_from}
use Rattle.std.proofs.lemmas.Bool.Decides.{nat_tests}
use Rattle.std.proofs.lemmas.List.Quantifiers.{position-Some}
use Rattle.std.proofs.lemmas.List.Sums.{prefix_len_is}
use Rattle.std.proofs.lemmas.Option.{slice_get_within, get_or_from_slice_get}
use Rattle.tm_machine.specs.declared.entries.Entry.{Entry}
use Rattle.tm_machine.specs.Entries.{blank, front, is_accurate, is_settled}

pub not-false : (b : Bool) → not b ≡ false → b ≡ true
not-false true h = refl
not-false false h = absurd cc

pub not-true : (b : Bool) → not b ≡ true → b ≡ false
not-true false h = refl
not-true true h = absurd cc

and-false : (b : Bool) → (b && false) ≡ false
and-false true = refl
and-false false = refl

module _ {S : Type 0} where
  -- the first n entries are good
  abbrev pub are_good : ℕ → List (Entry S) → Bool
  are_good n es = list_all (λ (e : Entry S). e.good) (take n es)

  pub good-each : (n : ℕ) (es : List (Entry S)) (d : Entry S) → ((k : ℕ) → k < n → (get_or es k d).good ≡ true) → are_good n es ≡ true
  good-each zero es d h = refl
  good-each (suc n) [] d h = refl
  good-each (suc n) (e ∷ es) d h = and_from e.good (are_good n es) (h 0 (omega arith)) (good-each n es d (λ k lt. h (suc k) (omega arith)))

  pub good-at : (n : ℕ) (es : List (Entry S)) (d : Entry S) (k : ℕ) → are_good n es ≡ true → k < n → k < length es → (get_or es k d).good ≡ true
  good-at zero es d k h lt there = absurd (omega arith)
  good-at (suc n) [] d k h lt there = absurd (omega arith)
  good-at (suc n) (e ∷ es) d zero h lt there = (and_parts e.good (are_good n es) h).0
  good-at (suc n) (e ∷ es) d (suc k) h lt there = good-at n es d k (and_parts e.good (are_good n es) h).1 (omega arith) (omega arith)

  pub bad-at : (n : ℕ) (es : List (Entry S)) (d : Entry S) (f : ℕ) → f < n → f < length es → (get_or es f d).good ≡ false → are_good n es ≡ false
  bad-at zero es d f lt there bad = absurd (omega arith)
  bad-at (suc n) [] d f lt there bad = absurd (omega arith)
  bad-at (suc n) (e ∷ es) d zero lt there bad = ap (λ b. b && are_good n es) bad
  bad-at (suc n) (e ∷ es) d (suc f) lt there bad = ap (λ b. e.good && b) (bad-at n es d f (omega arith) (omega arith) bad) ∙ and-false e.good

  -- what the front is
  pub front-facts : (es : List (Entry S)) (f : ℕ) (d : Entry S) → front es ≡ Some f → (f < length es) × ((get_or es f d).good ≡ false) × ((k : ℕ) → k < f → (get_or es k d).good ≡ true)
  front-facts es f d at =
      let p = position-Some (λ (e : Entry S). not e.good) es f d at in
      (p.0, not-true (get_or es f d).good p.1, λ k lt. not-false (get_or es k d).good (p.2 k lt))

  -- a line is accurate exactly where it stands before the front
  pub accurate-front : (es : List (Entry S)) (i f : ℕ) → front es ≡ Some f → is_accurate es i ≡ nat_lt i f
  accurate-front es i f at = go (nat_lt i f) refl
    where
      go : (b : Bool) → nat_lt i f ≡ b → is_accurate es i ≡ nat_lt i f
      go true is =
          let p = front-facts es f (blank None) at in
          let lt : i < f = grind (arith, nat_tests) in
          rw add-one (good-each (suc i) es (blank None) (λ k le. p.2 k (omega arith))) ∙ sym is
      go false is =
          let p = front-facts es f (blank None) at in
          let le : f ≤ i = grind (arith, nat_tests) in
          rw add-one (bad-at (suc i) es (blank None) f (omega arith) p.0 p.1) ∙ sym is

  prefix-settled : (es : List (Entry S)) → length es ≤ prefix_len (λ (e : Entry S). not (not e.good)) es → is_settled es ≡ true
  prefix-settled [] h = refl
  prefix-settled (e ∷ es) h = go (prefix-settled es) e.good refl
    where
      go : (length es ≤ prefix_len (λ (x : Entry S). not (not x.good)) es → is_settled es ≡ true) → (b : Bool) → e.good ≡ b → is_settled (e ∷ es) ≡ true
      go rest true is = and_from e.good (is_settled es) is (rest (omega (arith, rw is at h)))
      go rest false is = absurd (omega (arith, rw is at h))

  -- without a front all entries are good
  pub settled-none : (es : List (Entry S)) → front es ≡ None → is_settled es ≡ true
  settled-none es at = prefix-settled es (grind (arith, nat_tests))

  pub good-settled : (n : ℕ) (es : List (Entry S)) → is_settled es ≡ true → are_good n es ≡ true
  good-settled zero es h = refl
  good-settled (suc n) [] h = refl
  good-settled (suc n) (e ∷ es) h = let p = and_parts e.good (is_settled es) h in and_from e.good (are_good n es) p.0 (good-settled n es p.1)

  pub accurate-none : (es : List (Entry S)) (i : ℕ) → front es ≡ None → is_accurate es i ≡ true
  accurate-none es i at = good-settled (i + 1) es (settled-none es at)

  -- an entry that is not good behind good ones is the front
  pub front-behind : (es : List (Entry S)) (n : ℕ) (d : Entry S) → n < length es → are_good n es ≡ true → (get_or es n d).good ≡ false → front es ≡ Some n
  front-behind es n d there good bad =
      let p : prefix_len (λ (e : Entry S). not (not e.good)) es ≡ n = prefix_len_is (λ (e : Entry S). not (not e.good)) es n d (omega arith)
      (λ k lt. ap (λ b. not (not b)) (good-at n es d k good lt (omega arith))) (λ lt. ap (λ b. not (not b)) bad) in
      ap (λ m. cond (nat_lt m (length es)) (Some m) None) p ∙ grind (arith, nat_tests)

  -- with all entries good there is no front
  pub front-settled : (es : List (Entry S)) (n : ℕ) → length es ≤ n → are_good n es ≡ true → front es ≡ None
  front-settled es n le good =
      let q : Entry S → Bool = λ e. not (not e.good) in
      let p : prefix_len q es ≡ length es = prefix_len_is q es (length es) (blank None) (omega arith)
      (λ k lt. ap (λ b. not (not b)) (good-at n es (blank None) k good (omega arith) lt)) (λ lt. absurd (omega arith)) in
      ap (λ m. cond (nat_lt m (length es)) (Some m) None) p ∙ grind (arith, nat_tests)

  -- one more entry
  pub good-next : (n : ℕ) (es : List (Entry S)) (e : Entry S) → are_good n es ≡ true → slice_get es n ≡ Some e → e.good ≡ true → are_good (suc n) es ≡ true
  good-next zero [] e h at good = refl
  good-next zero (x ∷ es) e h at good =
      let same : x ≡ e = cc in
      let is : x.good ≡ true = ap (λ (y : Entry S). y.good) same ∙ good in
      and_from x.good true is refl
  good-next (suc n) [] e h at good = refl
  good-next (suc n) (x ∷ es) e h at good = let p = and_parts x.good (are_good n es) h in and_from x.good (are_good (suc n) es) p.0 (good-next n es e p.1 at good)

  pub front-next : (n : ℕ) (es : List (Entry S)) (e : Entry S) → are_good n es ≡ true → slice_get es n ≡ Some e → e.good ≡ false → front es ≡ Some n
  front-next n es e h at bad = front-behind es n e (slice_get_within es n e at) h (ap (λ (y : Entry S). y.good) (get_or_from_slice_get es n e e at) ∙ bad)

-- What is posted of a text, range by range of fresh lines.
use Rattle.std.proofs.Common.{◌≡◌, ℕ, zero, suc, ◌+◌, ◌-◌, ◌<◌, ◌≤◌, Bool, true, false, List, [], ◌∷◌, ◌++◌, length, take, drop, Some, refl, sym, ap, ap₂, ◌∙◌, arith, append_assoc}
use Rattle.std.specs.Prelude.{slice_get, ◌&&◌, nat_lt, nat_le, option_and_then}
use Rattle.std.proofs.lemmas.Bool.Decides.{nat_tests}
use Rattle.tm_defs.specs.declared.frames.FrameData.{FrameData}
use Rattle.tm_machine.specs.declared.entries.Entry.{Entry}
use Rattle.tm_machine.specs.Entries.{end_at, start_at}
use Rattle.tm_machine.specs.Turns.{opening}
use Rattle.tm_rebase.specs.Batches.{Placed}
use Rattle.tm_store.specs.declared.spans.Span.{Span}
use Rattle.tm_store.specs.Spans.{AreFrom}
use Rattle.tm_worker.specs.Fresh.{covers, tests_from}
use Rattle.tm_worker.specs.Posted.{fresh_placed, placed_if}
use Rattle.tm_worker.specs.inner.Segments.{good_placed, segment, segments}
use Rattle.tm_worker.proofs.Ranges.{AreBelow, from-less}
use Rattle.tm_worker.proofs.Tests.{tests-alike}

pub drop-there : {A : Type 0} (xs : List A) (i : ℕ) (x : A) → slice_get xs i ≡ Some x → drop i xs ≡ x ∷ drop (suc i) xs
drop-there [] i x h = absurd cc
drop-there (y ∷ xs) zero x h = let same : y ≡ x = cc in ap (λ z. z ∷ xs) same
drop-there (y ∷ xs) (suc i) x h = drop-there xs i x h

pub get-there : {A : Type 0} (xs : List A) (i : ℕ) → i < length xs → (x : A) × (slice_get xs i ≡ Some x)
get-there [] i lt = absurd (omega (arith, lt))
get-there (x ∷ xs) zero lt = (x, refl)
get-there (x ∷ xs) (suc i) lt = get-there xs i (omega (arith, lt))

pub drop-past : {A : Type 0} (xs : List A) (n : ℕ) → length xs ≤ n → drop n xs ≡ []
drop-past [] zero le = refl
drop-past [] (suc n) le = refl
drop-past (x ∷ xs) zero le = absurd (omega (arith, le))
drop-past (x ∷ xs) (suc n) le = drop-past xs n (omega (arith, le))

module _ (lines : List (List ℕ)) (es : List (Entry (List FrameData))) where
  pub segment-none : (a b : ℕ) → b ≤ a → segment lines es a b ≡ []
  segment-none a b le = let none : b - a ≡ 0 = omega (arith, le) in rw none refl

  pub segment-step : (a b : ℕ) (line : List ℕ) (e : Entry (List FrameData)) → a < b → slice_get lines a ≡ Some line → slice_get es a ≡ Some e →
      segment lines es a b ≡ placed_if e.good a line (start_at opening es a) e.tokens e.end ++ segment lines es (suc a) b
  segment-step a b line e lt there at =
      let more : b - a ≡ suc (b - suc a) = omega (arith, lt) in
      let end_is : end_at es a ≡ e.end = ap (option_and_then (λ (x : Entry (List FrameData)). x.end)) at in
      ap (λ n. good_placed a (start_at opening es a) (take n (drop a lines)) (take n (drop a es))) more
      ∙ ap₂ (λ ls xs. good_placed a (start_at opening es a) (take (suc (b - suc a)) ls) (take (suc (b - suc a)) xs)) (drop-there lines a line there) (drop-there es a e at)
      ∙ ap (λ s. placed_if e.good a line (start_at opening es a) e.tokens e.end ++ good_placed (suc a) s (take (b - suc a) (drop (suc a) lines)) (take (b - suc a) (drop (suc a) es))) (sym end_is)

  module _ (n : ℕ) (beside : length lines ≡ n) (kept : length es ≡ n) where
    abbrev from : (ℕ → Bool) → ℕ → List (Placed (List FrameData))
    from f a = fresh_placed a (start_at opening es a) (drop a lines) (drop a es) (tests_from f a (n - a))

    from-step : (f : ℕ → Bool) (a : ℕ) (line : List ℕ) (e : Entry (List FrameData)) → a < n → slice_get lines a ≡ Some line → slice_get es a ≡ Some e →
        from f a ≡ placed_if (f a && e.good) a line (start_at opening es a) e.tokens e.end ++ from f (suc a)
    from-step f a line e lt there at =
        let more : n - a ≡ suc (n - suc a) = omega (arith, lt) in
        let end_is : end_at es a ≡ e.end = ap (option_and_then (λ (x : Entry (List FrameData)). x.end)) at in
        ap (λ m. fresh_placed a (start_at opening es a) (drop a lines) (drop a es) (tests_from f a m)) more
        ∙ ap₂ (λ ls xs. fresh_placed a (start_at opening es a) ls xs (tests_from f a (suc (n - suc a)))) (drop-there lines a line there) (drop-there es a e at)
        ∙ ap (λ s. placed_if (f a && e.good) a line (start_at opening es a) e.tokens e.end ++ fresh_placed (suc a) s (drop (suc a) lines) (drop (suc a) es) (tests_from f (suc a) (n - suc a))) (sym end_is)

    from-end : (f : ℕ → Bool) (a : ℕ) → n ≤ a → from f a ≡ []
    from-end f a le = ap (λ ls. fresh_placed a (start_at opening es a) ls (drop a es) (tests_from f a (n - a))) (drop-past lines a (omega (arith, le, beside)))

    from-alike : (f g : ℕ → Bool) (a : ℕ) → ((j : ℕ) → f (a + j) ≡ g (a + j)) → from f a ≡ from g a
    from-alike f g a h = ap (fresh_placed a (start_at opening es a) (drop a lines) (drop a es)) (tests-alike f g a a (n - a) (λ j lt. h j))

    -- lines that are not fresh
    from-skip : (f : ℕ → Bool) (m a : ℕ) → a + m ≤ n → ((j : ℕ) → j < m → f (a + j) ≡ false) → from f a ≡ from f (a + m)
    from-skip f zero a le h = ap (from f) (let e : a ≡ a + 0 = omega arith in e)
    from-skip f (suc m) a le h =
        let line = get-there lines a (omega (arith, le, beside)) in
        let e = get-there es a (omega (arith, le, kept)) in
        let here : f a ≡ false = ap f (let z : a ≡ a + 0 = omega arith in z) ∙ h 0 (omega arith) in
        let next : suc a + m ≡ a + suc m = omega arith in
        from-step f a line.0 e.0 (omega (arith, le)) line.1 e.1
        ∙ ap (λ b. placed_if (b && e.0.good) a line.0 (start_at opening es a) e.0.tokens e.0.end ++ from f (suc a)) here
        ∙ from-skip f m (suc a) (omega (arith, le)) (λ j lt. ap f (let s : suc a + j ≡ a + suc j = omega arith in s) ∙ h (suc j) (omega (arith, lt)))
        ∙ ap (from f) next

    -- lines that are all fresh
    from-all : (f : ℕ → Bool) (m a : ℕ) → a + m ≤ n → ((j : ℕ) → j < m → f (a + j) ≡ true) → from f a ≡ segment lines es a (a + m) ++ from f (a + m)
    from-all f zero a le h =
        let same : a ≡ a + 0 = omega arith in
        ap (from f) same ∙ ap (λ xs. xs ++ from f (a + 0)) (sym (segment-none a (a + 0) (omega arith)))
    from-all f (suc m) a le h =
        let line = get-there lines a (omega (arith, le, beside)) in
        let e = get-there es a (omega (arith, le, kept)) in
        let here : f a ≡ true = ap f (let z : a ≡ a + 0 = omega arith in z) ∙ h 0 (omega arith) in
        let next : suc a + m ≡ a + suc m = omega arith in
        let first : List (Placed (List FrameData)) = placed_if e.0.good a line.0 (start_at opening es a) e.0.tokens e.0.end in
        from-step f a line.0 e.0 (omega (arith, le)) line.1 e.1
        ∙ ap (λ b. placed_if (b && e.0.good) a line.0 (start_at opening es a) e.0.tokens e.0.end ++ from f (suc a)) here
        ∙ ap (λ xs. first ++ xs) (from-all f m (suc a) (omega (arith, le)) (λ j lt. ap f (let s : suc a + j ≡ a + suc j = omega arith in s) ∙ h (suc j) (omega (arith, lt))))
        ∙ ap (λ x. first ++ (segment lines es (suc a) x ++ from f x)) next
        ∙ sym (append_assoc first (segment lines es (suc a) (a + suc m)) (from f (a + suc m)))
        ∙ ap (λ xs. xs ++ from f (a + suc m)) (sym (segment-step a (a + suc m) line.0 e.0 (omega arith) line.1 e.1))

    -- a line below all ranges is in none
    covers-none : (k j : ℕ) (rs : List Span) → AreFrom k rs → j < k → covers rs j ≡ false
    covers-none k j [] h lt = refl
    covers-none k j (r ∷ rs) h lt =
        let low : nat_le r.first j ≡ false = grind (arith, nat_tests, lt, h.0) in
        rw low (covers-none (suc r.end) j rs h.2 (omega (arith, lt, h.0, h.1)))

    covers-here : (r : Span) (rs : List Span) (j : ℕ) → r.first ≤ j → j < r.end → covers (r ∷ rs) j ≡ true
    covers-here r rs j le lt =
        let a : nat_le r.first j ≡ true = grind (arith, nat_tests) in
        let b : nat_lt j r.end ≡ true = grind (arith, nat_tests) in
        rw (a, b) refl

    covers-behind : (r : Span) (rs : List Span) (j : ℕ) → r.first < r.end → r.end ≤ j → covers (r ∷ rs) j ≡ covers rs j
    covers-behind r rs j some le =
        let a : nat_le r.first j ≡ true = grind (arith, nat_tests) in
        let b : nat_lt j r.end ≡ false = grind (arith, nat_tests) in
        rw (a, b) refl

    pub segments-from : (rs : List Span) (a : ℕ) → a ≤ n → AreFrom a rs → AreBelow n rs → from (covers rs) a ≡ segments lines es rs
    segments-from [] a le h below =
        let rest : a + (n - a) ≡ n = omega (arith, le) in
        from-skip (covers []) (n - a) a (omega (arith, rest)) (λ j lt. refl) ∙ ap (from (covers [])) rest ∙ from-end (covers []) n (omega arith)
    segments-from (r ∷ rs) a le h below =
        let to_first : a + (r.first - a) ≡ r.first = omega (arith, h.0) in
        let to_end : r.first + (r.end - r.first) ≡ r.end = omega (arith, h.1) in
        let f : ℕ → Bool = covers (r ∷ rs) in
        from-skip f (r.first - a) a (omega (arith, h.0, h.1, below.0)) (λ j lt. covers-none r.first (a + j) (r ∷ rs) (omega arith, h.1, h.2) (omega (arith, lt)))
        ∙ ap (from f) to_first
        ∙ from-all f (r.end - r.first) r.first (omega (arith, h.1, below.0)) (λ j lt. covers-here r rs (r.first + j) (omega arith) (omega (arith, lt)))
        ∙ ap (λ x. segment lines es r.first x ++ from f x) to_end
        ∙ ap (λ xs. segment lines es r.first r.end ++ xs)
        (from-alike f (covers rs) r.end (λ j. covers-behind r rs (r.end + j) h.1 (omega arith))
        ∙ segments-from rs r.end below.0 (from-less r.end (suc r.end) rs (omega arith) h.2) below.1)

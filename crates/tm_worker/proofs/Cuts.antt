-- Ranges of marked lines where lines are replaced by others that are not marked.
use Rattle.std.proofs.Common.{◌≡◌, ℕ, suc, ◌+◌, ◌-◌, ◌<◌, ◌≤◌, Bool, true, false, List, [], ◌∷◌, refl, ap, ◌∙◌, arith}
use Rattle.std.specs.Prelude.{◌&&◌, ◌||◌, nat_lt, nat_le, if◌then◌else◌}
use Rattle.std.proofs.lemmas.Bool.Decides.{nat_tests}
use Rattle.tm_store.specs.declared.spans.Span.{Span}
use Rattle.tm_store.specs.Spans.{AreFrom}
use Rattle.tm_worker.specs.Fresh.{covers, cut_range, cut_ranges}
use Rattle.tm_worker.proofs.Ranges.{AreBelow, from-less}

module _ (first old new : ℕ) where
  -- what the test on a line behind the change says of the lines before it
  abbrev pub cut_test : (ℕ → Bool) → ℕ → Bool
  cut_test f j = if nat_lt j first then f j else (if nat_lt j (first + new) then false else f (j + old - new))

  cut_or : (f g : ℕ → Bool) (j : ℕ) → (cut_test f j || cut_test g j) ≡ cut_test (λ i. f i || g i) j
  cut_or f g j = go (nat_lt j first) refl (nat_lt j (first + new)) refl
    where
      go : (a : Bool) → nat_lt j first ≡ a → (b : Bool) → nat_lt j (first + new) ≡ b → (cut_test f j || cut_test g j) ≡ cut_test (λ i. f i || g i) j
      go true ea b eb = rw ea refl
      go false ea true eb = rw (ea, eb) refl
      go false ea false eb = rw (ea, eb) refl

  abbrev in_range : Span → ℕ → Bool
  in_range r i = nat_le r.first i && nat_lt i r.end

  covers-range : (r : Span) (rest : List Span) (j : ℕ) → r.first < r.end → covers (cut_range first old new r rest) j ≡ (cut_test (in_range r) j || covers rest j)
  covers-range r rest j some = grind (arith, nat_tests)

  pub covers-cut : (k j : ℕ) (rs : List Span) → AreFrom k rs → covers (cut_ranges first old new rs) j ≡ cut_test (covers rs) j
  covers-cut k j [] h = go (nat_lt j first) (nat_lt j (first + new))
    where
      go : (a b : Bool) → false ≡ (if a then false else (if b then false else false))
      go true b = refl
      go false true = refl
      go false false = refl
  covers-cut k j (r ∷ rs) h =
      covers-range r (cut_ranges first old new rs) j h.1
      ∙ ap (λ x. cut_test (in_range r) j || x) (covers-cut (suc r.end) j rs h.2)
      ∙ cut_or (in_range r) (covers rs) j

  -- where ranges from a number on may begin behind the change
  abbrev next_from : ℕ → ℕ
  next_from k = if nat_le k first then k else (if nat_le k (first + old) then first + new else k + new - old)

  next-more : (k l : ℕ) → k ≤ l → 0 < old → 0 < new → next_from k ≤ next_from l
  next-more k l le o n = grind (arith, nat_tests)

  abbrev left_end : Span → ℕ
  left_end r = if nat_lt first r.end then first else r.end

  abbrev right_first : Span → ℕ
  right_first r = (if nat_lt r.first (first + old) then first + old else r.first) + new - old

  abbrev right_end : Span → ℕ
  right_end r = r.end + new - old

  left-facts : (k : ℕ) (r : Span) → 0 < old → 0 < new → k ≤ r.first → r.first < r.end → r.first < first → (next_from k ≤ r.first) × (r.first < left_end r) × (suc (left_end r) ≤ next_from (suc r.end))
  left-facts k r o n le lt before = (grind (arith, nat_tests), grind (arith, nat_tests), grind (arith, nat_tests))

  right-facts : (k : ℕ) (r : Span) → 0 < old → 0 < new → k ≤ r.first → r.first < r.end → first ≤ r.first → first + old < r.end → (next_from k ≤ right_first r) × (right_first r < right_end r) × (suc (right_end r) ≤ next_from (suc r.end))
  right-facts k r o n le lt from behind = (grind (arith, nat_tests), grind (arith, nat_tests), grind (arith, nat_tests))

  both-facts : (r : Span) → 0 < old → 0 < new → r.first < first → first + old < r.end → (suc (left_end r) ≤ right_first r) × (right_first r < right_end r) × (suc (right_end r) ≤ next_from (suc r.end))
  both-facts r o n before behind = (grind (arith, nat_tests), grind (arith, nat_tests), grind (arith, nat_tests))

  pub from-cut : (k : ℕ) (rs : List Span) → 0 < old → 0 < new → AreFrom k rs → AreFrom (next_from k) (cut_ranges first old new rs)
  from-cut k [] o n h = tt
  from-cut k (r ∷ rs) o n h = go (nat_lt r.first first) refl (nat_lt (first + old) r.end) refl (from-cut (suc r.end) rs o n h.2)
    where
      go : (a : Bool) → nat_lt r.first first ≡ a → (b : Bool) → nat_lt (first + old) r.end ≡ b → AreFrom (next_from (suc r.end)) (cut_ranges first old new rs) → AreFrom (next_from k) (cut_ranges first old new (r ∷ rs))
      go false ea false eb more = rw (ea, eb) (from-less (next_from k) (next_from (suc r.end)) (cut_ranges first old new rs) (next-more k (suc r.end) (omega (arith, h.0, h.1)) o n) more)
      go true ea false eb more =
          let f = left-facts k r o n h.0 h.1 (grind (arith, nat_tests)) in
          rw (ea, eb) (f.0, f.1, from-less (suc (left_end r)) (next_from (suc r.end)) (cut_ranges first old new rs) f.2 more)
      go false ea true eb more =
          let f = right-facts k r o n h.0 h.1 (grind (arith, nat_tests)) (grind (arith, nat_tests)) in
          rw (ea, eb) (f.0, f.1, from-less (suc (right_end r)) (next_from (suc r.end)) (cut_ranges first old new rs) f.2 more)
      go true ea true eb more =
          let f = left-facts k r o n h.0 h.1 (grind (arith, nat_tests)) in
          let g = both-facts r o n (grind (arith, nat_tests)) (grind (arith, nat_tests)) in
          rw (ea, eb) (f.0, f.1, (g.0, g.1, from-less (suc (right_end r)) (next_from (suc r.end)) (cut_ranges first old new rs) g.2 more))

  -- and none ends behind the text
  pub below-cut : (n m : ℕ) (rs : List Span) → first + old ≤ n → n + new ≤ m + old → AreBelow n rs → AreBelow m (cut_ranges first old new rs)
  below-cut n m [] in_text few h = tt
  below-cut n m (r ∷ rs) in_text few h = go (nat_lt r.first first) refl (nat_lt (first + old) r.end) refl (below-cut n m rs in_text few h.1)
    where
      go : (a : Bool) → nat_lt r.first first ≡ a → (b : Bool) → nat_lt (first + old) r.end ≡ b → AreBelow m (cut_ranges first old new rs) → AreBelow m (cut_ranges first old new (r ∷ rs))
      go false ea false eb more = rw (ea, eb) more
      go true ea false eb more = rw (ea, eb) (grind (arith, nat_tests, h.0), more)
      go false ea true eb more = rw (ea, eb) (grind (arith, nat_tests, h.0), more)
      go true ea true eb more = rw (ea, eb) (grind (arith, nat_tests, h.0), (grind (arith, nat_tests, h.0), more))

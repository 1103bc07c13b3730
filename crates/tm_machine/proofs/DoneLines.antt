-- Lines done one after another rise, so that none is done twice, and a good line whose start stays is not done.
use Rattle.std.proofs.Common.{◌≡◌, ℕ, zero, suc, ◌+◌, ◌<◌, ◌≤◌, Bool, true, false, List, [], ◌∷◌, length, get_or, Some, None, refl, sym, ap, ◌∙◌, subst, arith, inl, inr, ◌⊎◌, ◌++◌, add-one}
use Rattle.std.specs.Prelude.{slice_get}
use Rattle.std.specs.List.Sorted.{IsStrictlyIncreasing}
use Rattle.std.proofs.lemmas.Bool.{and_parts, and_from, cases_lt}
use Rattle.std.proofs.lemmas.Bool.Decides.{nat_tests}
use Rattle.std.proofs.lemmas.Option.{get_or_from_slice_get}
use Rattle.tm_defs.specs.declared.events.Turn.TheVariants.{Done}
use Rattle.tm_defs.specs.declared.frames.FrameData.{FrameData}
use Rattle.tm_defs.specs.declared.tokens.Token.{Token}
use Rattle.tm_machine.specs.declared.entries.Entry.{Entry}
use Rattle.tm_machine.specs.Entries.{blank, front, put, stored, end_at, start_at, is_accurate, is_end}
use Rattle.tm_machine.specs.Turns.{Turns, DoesLines, opening}
use Rattle.tm_machine.specs.Scratch.{Tokenizing}
use Rattle.tm_machine.proofs.Fronts.{are_good, good-each, bad-at, front-facts, accurate-front}
use Rattle.tm_machine.proofs.SameStates.{is_end-self}

-- each number is above all before it, and the first is at least n
abbrev pub RisesFrom : ℕ → List ℕ → Type 0
RisesFrom n [] = Unit {0}
RisesFrom n (i ∷ is) = (n ≤ i) × RisesFrom (suc i) is

rises-next : (n : ℕ) (is : List ℕ) (k : ℕ) → RisesFrom n is → suc k < length is → get_or is k 0 < get_or is (suc k) 0
rises-next n [] k h lt = absurd (omega arith)
rises-next n (i ∷ []) k h lt = absurd (omega arith)
rises-next n (i ∷ (j ∷ is)) zero h lt = omega (arith, h.1.0)
rises-next n (i ∷ (j ∷ is)) (suc k) h lt = rises-next (suc i) (j ∷ is) k h.1 (omega arith)

pub increasing-rises : (n : ℕ) (is : List ℕ) → RisesFrom n is → IsStrictlyIncreasing is
increasing-rises n is h k lt = rw add-one (rises-next n is k h (omega arith))

-- rising numbers below m are not more than m
pub few-rises : (n m : ℕ) (is : List ℕ) → RisesFrom n is → ((k : ℕ) (d : ℕ) → k < length is → get_or is k d < m) → n ≤ m → n + length is ≤ m
few-rises n m [] h below le = omega arith
few-rises n m (i ∷ is) h below le =
    let lt : i < m = below 0 0 (omega arith) in
    omega (arith, h.0, few-rises (suc i) m is h.1 (λ k d there. below (suc k) d (omega arith)) (omega arith))

rises-above : (n : ℕ) (is : List ℕ) (m d : ℕ) → RisesFrom n is → m < length is → n ≤ get_or is m d
rises-above n [] m d h lt = absurd (omega arith)
rises-above n (i ∷ is) zero d h lt = h.0
rises-above n (i ∷ is) (suc m) d h lt = omega (arith, h.0, rises-above (suc i) is m d h.1 (omega arith))

module _ {S : Type 0} where
  pub length-put : (es : List (Entry S)) (i : ℕ) (tokens : List Token) (end : S) (same : Bool) → length (put es i tokens end same) ≡ length es
  length-put [] i tokens end same = refl
  length-put (e ∷ es) zero tokens end true = refl
  length-put (e ∷ []) zero tokens end false = refl
  length-put (e ∷ (f ∷ es)) zero tokens end false = refl
  length-put (e ∷ es) (suc i) tokens end same = ap suc (length-put es i tokens end same)

  -- the line that is done is good, and so are those before it
  pub good-put : (es : List (Entry S)) (i : ℕ) (tokens : List Token) (end : S) (same : Bool) → are_good i es ≡ true → are_good (suc i) (put es i tokens end same) ≡ true
  good-put [] i tokens end same h = refl
  good-put (e ∷ es) zero tokens end same h = refl
  good-put (e ∷ es) (suc i) tokens end same h =
      let p = and_parts e.good (are_good i es) h in
      and_from e.good (are_good (suc i) (put es i tokens end same)) p.0 (good-put es i tokens end same p.1)

  end-put-here : (es : List (Entry S)) (i : ℕ) (tokens : List Token) (end : S) (same : Bool) → i < length es → end_at (put es i tokens end same) i ≡ Some end
  end-put-here [] i tokens end same h = absurd (omega arith)
  end-put-here (e ∷ es) zero tokens end same h = refl
  end-put-here (e ∷ es) (suc i) tokens end same h = end-put-here es i tokens end same (omega arith)

  -- the ends of other lines stay
  end-put-before : (es : List (Entry S)) (i j : ℕ) (tokens : List Token) (end : S) (same : Bool) → j < i → end_at (put es i tokens end same) j ≡ end_at es j
  end-put-before [] i j tokens end same h = refl
  end-put-before (e ∷ es) zero j tokens end same h = absurd (omega arith)
  end-put-before (e ∷ es) (suc i) zero tokens end same h = refl
  end-put-before (e ∷ es) (suc i) (suc j) tokens end same h = end-put-before es i j tokens end same (omega arith)

  end-put-behind : (es : List (Entry S)) (i j : ℕ) (tokens : List Token) (end : S) (same : Bool) → i < j → end_at (put es i tokens end same) j ≡ end_at es j
  end-put-behind [] i j tokens end same h = refl
  end-put-behind (e ∷ es) zero zero tokens end same h = absurd (omega arith)
  end-put-behind (e ∷ es) zero (suc j) tokens end true h = refl
  end-put-behind (e ∷ []) zero (suc j) tokens end false h = refl
  end-put-behind (e ∷ (f ∷ es)) zero (suc zero) tokens end false h = refl
  end-put-behind (e ∷ (f ∷ es)) zero (suc (suc j)) tokens end false h = refl
  end-put-behind (e ∷ es) (suc i) zero tokens end same h = absurd (omega arith)
  end-put-behind (e ∷ es) (suc i) (suc j) tokens end same h = end-put-behind es i j tokens end same (omega arith)

  -- the entries behind the next one stay, and the next one where the end is the same
  entry-put-next : (es : List (Entry S)) (i : ℕ) (tokens : List Token) (end : S) → slice_get (put es i tokens end true) (suc i) ≡ slice_get es (suc i)
  entry-put-next [] i tokens end = refl
  entry-put-next (e ∷ es) zero tokens end = refl
  entry-put-next (e ∷ es) (suc i) tokens end = entry-put-next es i tokens end

  entry-put-behind : (es : List (Entry S)) (i j : ℕ) (tokens : List Token) (end : S) (same : Bool) → suc i < j → slice_get (put es i tokens end same) j ≡ slice_get es j
  entry-put-behind [] i j tokens end same h = refl
  entry-put-behind (e ∷ es) zero zero tokens end same h = absurd (omega arith)
  entry-put-behind (e ∷ es) zero (suc zero) tokens end same h = absurd (omega arith)
  entry-put-behind (e ∷ es) zero (suc (suc j)) tokens end true h = refl
  entry-put-behind (e ∷ []) zero (suc (suc j)) tokens end false h = refl
  entry-put-behind (e ∷ (f ∷ es)) zero (suc (suc j)) tokens end false h = refl
  entry-put-behind (e ∷ es) (suc i) zero tokens end same h = absurd (omega arith)
  entry-put-behind (e ∷ es) (suc i) (suc j) tokens end same h = entry-put-behind es i j tokens end same (omega arith)

-- the front is not among the first good ones
front-above : (es : List (Entry (List FrameData))) (n i : ℕ) → are_good n es ≡ true → front es ≡ Some i → n ≤ i
front-above es n i good at = elim (cases_lt i n) [
  | inl lt ↦
      let p = front-facts es i (blank None) at in
      absurd (let bad = bad-at n es (blank None) i lt p.0 p.1 in cc)
  | inr le ↦ le
]

-- where not every line up to the last one is good, the front is not behind it
front-up_to : (es : List (Entry (List FrameData))) (last i : ℕ) → is_accurate es last ≡ false → front es ≡ Some i → i ≤ last
front-up_to es last i not at = elim (cases_lt last i) [
  | inl lt ↦
      let same = accurate-front es last i at in
      absurd (grind (arith, nat_tests))
  | inr le ↦ le
]

module _ (k : Tokenizing) (budget : ℕ) (lines : List (List ℕ)) (last : ℕ) where
  -- what the front line gives
  abbrev gives : List FrameData → List ℕ → List (Entry (List FrameData)) → ℕ → Bool
  gives start line es i = is_end (end_at es i) (k.tokenized start line).end

  length-done : (es : List (Entry (List FrameData))) (i : ℕ) (mid : List (Entry (List FrameData))) → Turns k budget lines es (Done i) mid → length mid ≡ length es
  length-done es i mid t = ap length t.3 ∙ length-put es i (k.tokenized t.0 t.1).tokens (k.tokenized t.0 t.1).end (gives t.0 t.1 es i)

  -- one more line is good behind a turn that did one
  pub good-done : (es : List (Entry (List FrameData))) (i : ℕ) (mid : List (Entry (List FrameData))) → Turns k budget lines es (Done i) mid → are_good (suc i) mid ≡ true
  good-done es i mid t =
      let p = front-facts es i (blank None) t.2.at_front in
      ap (are_good (suc i)) t.3 ∙ good-put es i (k.tokenized t.0 t.1).tokens (k.tokenized t.0 t.1).end (gives t.0 t.1 es i) (good-each i es (blank None) (λ j lt. p.2 j lt))

  pub does-rises : (n : ℕ) (es : List (Entry (List FrameData))) (done : List ℕ) (after : List (Entry (List FrameData))) → are_good n es ≡ true → DoesLines k budget lines last es done after → RisesFrom n done
  does-rises n es [] after good d = tt
  does-rises n es (i ∷ done) after good d = (front-above es n i good d.1.1.2.at_front, does-rises (suc i) d.1.0 done after (good-done es i d.1.0 d.1.1) d.1.2)

  pub does-length : (es : List (Entry (List FrameData))) (done : List ℕ) (after : List (Entry (List FrameData))) → DoesLines k budget lines last es done after → length after ≡ length es
  does-length es [] after d = ap length d
  does-length es (i ∷ done) after d = does-length d.1.0 done after d.1.2 ∙ length-done es i d.1.0 d.1.1

  pub does-within : (es : List (Entry (List FrameData))) (done : List ℕ) (after : List (Entry (List FrameData))) → DoesLines k budget lines last es done after → (j d : ℕ) → j < length done → (get_or done j d < length es) × (get_or done j d ≤ last)
  does-within es [] after h j d lt = absurd (omega arith)
  does-within es (i ∷ done) after h zero d lt = ((front-facts es i (blank None) h.1.1.2.at_front).0, front-up_to es last i h.0 h.1.1.2.at_front)
  does-within es (i ∷ done) after h (suc j) d lt =
      let rest = does-within h.1.0 done after h.1.2 j d (omega arith) in
      (omega (arith, rest.0, length-done es i h.1.0 h.1.1), rest.1)

  -- a turn that does a line has one outcome
  done-one : (es : List (Entry (List FrameData))) (i j : ℕ) (a b : List (Entry (List FrameData))) → Turns k budget lines es (Done i) a → Turns k budget lines es (Done j) b → (i ≡ j) × (a ≡ b)
  done-one es i j a b t u =
      let same : i ≡ j = cc (t.2.at_front, u.2.at_front) in
      let start : Some t.0 ≡ Some u.0 = sym t.2.begins ∙ ap (start_at opening es) same ∙ u.2.begins in
      let line : Some t.1 ≡ Some u.1 = sym t.2.holds ∙ ap (slice_get lines) same ∙ u.2.holds in
      let at_start : t.0 ≡ u.0 = cc in
      let at_line : t.1 ≡ u.1 = cc in (
        same,
        t.3 ∙ ap (λ n. stored es n (k.tokenized t.0 t.1)) same ∙ ap (λ z. stored es j (k.tokenized z t.1)) at_start ∙ ap (λ z. stored es j (k.tokenized u.0 z)) at_line ∙ sym u.3,
      )

  -- and so has a run of so many lines
  pub does-one : (es : List (Entry (List FrameData))) (done more : List ℕ) (a b : List (Entry (List FrameData))) → DoesLines k budget lines last es done a → DoesLines k budget lines last es more b → length done ≡ length more → (done ≡ more) × (a ≡ b)
  does-one es [] [] a b d e same = (refl, d ∙ sym e)
  does-one es [] (j ∷ more) a b d e same = absurd (omega arith)
  does-one es (i ∷ done) [] a b d e same = absurd (omega arith)
  does-one es (i ∷ done) (j ∷ more) a b d e same =
      let one = done-one es i j d.1.0 e.1.0 d.1.1 e.1.1 in
      let P : List (Entry (List FrameData)) → Type 0 = λ xs. DoesLines k budget lines last xs done a in
      let rest = does-one e.1.0 done more a b (subst P one.1 d.1.2) e.1.2 (omega arith) in
      (ap (λ n. n ∷ done) one.0 ∙ ap (λ xs. j ∷ xs) rest.0, rest.1)

  -- one more line
  pub does-next : (es mid after : List (Entry (List FrameData))) (done : List ℕ) (i : ℕ) → DoesLines k budget lines last es done mid → is_accurate mid last ≡ false → Turns k budget lines mid (Done i) after → DoesLines k budget lines last es (done ++ i ∷ []) after
  does-next es mid after [] i d open_ t =
      let P : List (Entry (List FrameData)) → Type 0 = λ xs. (is_accurate xs last ≡ false) × ((m : List (Entry (List FrameData))) × Turns k budget lines xs (Done i) m × (after ≡ m)) in
      subst P d (open_, (after, t, refl))
  does-next es mid after (j ∷ done) i d open_ t = (d.0, (d.1.0, d.1.1, does-next d.1.0 mid after done i d.1.2 open_ t))

  -- each line is done once
  pub does-increasing : (es : List (Entry (List FrameData))) (done : List ℕ) (after : List (Entry (List FrameData))) → DoesLines k budget lines last es done after → IsStrictlyIncreasing done
  does-increasing es done after d = increasing-rises 0 done (does-rises 0 es done after refl d)

  pub does-few : (es : List (Entry (List FrameData))) (done : List ℕ) (after : List (Entry (List FrameData))) → DoesLines k budget lines last es done after → length done ≤ length es
  does-few es done after d = omega (arith, few-rises 0 (length es) done (does-rises 0 es done after refl d) (λ j e lt. (does-within es done after d j e lt).0) (omega arith))

  -- ends before all lines that are done stay
  end-does : (n j : ℕ) (es : List (Entry (List FrameData))) (done : List ℕ) (after : List (Entry (List FrameData))) → RisesFrom n done → j < n → DoesLines k budget lines last es done after → end_at after j ≡ end_at es j
  end-does n j es [] after rises lt d = ap (λ xs. end_at xs j) d
  end-does n j es (i ∷ done) after rises lt d =
      end-does (suc i) j d.1.0 done after rises.1 (omega (arith, rises.0)) d.1.2
      ∙ ap (λ xs. end_at xs j) d.1.1.3
      ∙ end-put-before es i j (k.tokenized d.1.1.0 d.1.1.1).tokens (k.tokenized d.1.1.0 d.1.1.1).end (gives d.1.1.0 d.1.1.1 es i) (omega (arith, rises.0))

  -- a good line whose start stays
  abbrev Stays : List (Entry (List FrameData)) → List (Entry (List FrameData)) → ℕ → Type 0
  Stays es after j = (e : Entry (List FrameData)) → slice_get es j ≡ Some e → e.good ≡ true → start_at opening es j ≡ start_at opening after j → ⊥

  -- one turn on a line before it
  stays-behind : (es mid after : List (Entry (List FrameData))) (i j : ℕ) → Turns k budget lines es (Done i) mid → i < j → Stays mid after (suc j) → Stays es after (suc j)
  stays-behind es mid after i j t lt rest e there good same =
      let r = k.tokenized t.0 t.1 in
      rest e (ap (λ xs. slice_get xs (suc j)) t.3 ∙ entry-put-behind es i (suc j) r.tokens r.end (gives t.0 t.1 es i) (omega arith) ∙ there) good
      (ap (λ xs. end_at xs j) t.3 ∙ end-put-behind es i j r.tokens r.end (gives t.0 t.1 es i) lt ∙ same)

  stays-next : (es mid after : List (Entry (List FrameData))) (i : ℕ) → Turns k budget lines es (Done i) mid → end_at after i ≡ end_at mid i → Stays mid after (suc i) → Stays es after (suc i)
  stays-next es mid after i t kept rest e there good same = go (gives t.0 t.1 es i) refl
    where
      go : (b : Bool) → gives t.0 t.1 es i ≡ b → ⊥
      go true is =
          let r = k.tokenized t.0 t.1 in
          let put-is : mid ≡ put es i r.tokens r.end true = t.3 ∙ ap (put es i r.tokens r.end) is in
          rest e (ap (λ xs. slice_get xs (suc i)) put-is ∙ entry-put-next es i r.tokens r.end ∙ there) good (sym kept)
      go false is =
          let r = k.tokenized t.0 t.1 in
          let p = front-facts es i (blank None) t.2.at_front in
          let new : end_at mid i ≡ Some r.end = ap (λ xs. end_at xs i) t.3 ∙ end-put-here es i r.tokens r.end (gives t.0 t.1 es i) p.0 in
          let old : end_at es i ≡ Some r.end = same ∙ kept ∙ new in
          let yes : is_end (end_at es i) r.end ≡ true = ap (λ o. is_end o r.end) old ∙ is_end-self r.end in
          cc

  -- is not done
  pub does-stays : (es : List (Entry (List FrameData))) (done : List ℕ) (after : List (Entry (List FrameData))) (m j : ℕ) → DoesLines k budget lines last es done after → m < length done → get_or done m j ≡ j → Stays es after j
  does-stays es [] after m j d lt at = absurd (omega arith)
  does-stays es (i ∷ done) after zero j d lt at = λ e there good same.
      let p = front-facts es i (blank None) d.1.1.2.at_front in
      let here : slice_get es i ≡ Some e = ap (slice_get es) at ∙ there in
      let is : get_or es i (blank None) ≡ e = get_or_from_slice_get es i e (blank None) here in
      let bad : e.good ≡ false = ap (λ (x : Entry (List FrameData)). x.good) (sym is) ∙ p.1 in
      cc
  does-stays es (i ∷ done) after (suc m) zero d lt at =
      let up = rises-above (suc i) done m zero (does-rises (suc i) d.1.0 done after (good-done es i d.1.0 d.1.1) d.1.2) (omega arith) in
      absurd (omega arith)
  does-stays es (i ∷ done) after (suc m) (suc j) d lt at = go (cases_lt i j) (does-stays d.1.0 done after m (suc j) d.1.2 (omega arith) at)
    where
      go : (i < j) ⊎ (j ≤ i) → Stays d.1.0 after (suc j) → Stays es after (suc j)
      go (inl less) rest = stays-behind es d.1.0 after i j d.1.1 less rest
      go (inr most) rest =
          let rises = does-rises (suc i) d.1.0 done after (good-done es i d.1.0 d.1.1) d.1.2 in
          let up = rises-above (suc i) done m (suc j) rises (omega arith) in
          let same : i ≡ j = omega arith in
          let P : ℕ → Type 0 = λ n. Stays d.1.0 after (suc n) → Stays es after (suc n) in
          subst P same (stays-next es d.1.0 after i d.1.1 (end-does (suc i) i d.1.0 done after rises (omega arith) d.1.2)) rest

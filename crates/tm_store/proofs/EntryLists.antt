-- Steps on a list of entries.
use Rattle.std.proofs.Common.{◌≡◌, ℕ, suc, zero, ◌+◌, ◌<◌, ◌≤◌, Bool, true, false, List, [], ◌∷◌, length, get_or, set, Some, None, Option, refl, ap, ap₂, not, ◌-◌, ◌++◌, replicate, take, drop, arith, add-one, ◌∙◌}
use Rattle.std.proofs.lemmas.List.Quantifiers.{position-Some}
use Rattle.tm_defs.specs.declared.tokens.Token.{Token}
use Rattle.tm_machine.specs.declared.entries.Entry.{Entry}
use Rattle.tm_machine.specs.Entries.{front, put, invalid, block, blank, blanks, last_end, end_at}
use Rattle.tm_store.specs.Stores.{guess}

module _ {S : Type 0} where
  abbrev stored : List Token → S → Entry S
  stored tokens end = record { tokens = Some tokens; end = Some end; good = true; blocked = false }

  pub put-same : (es : List (Entry S)) (i : ℕ) (tokens : List Token) (end : S) → set es i (stored tokens end) ≡ put es i tokens end true
  put-same [] i tokens end = refl
  put-same (e ∷ es) zero tokens end = refl
  put-same (e ∷ es) (suc i) tokens end = ap (λ r. e ∷ r) (put-same es i tokens end)

  pub put-last : (es : List (Entry S)) (i : ℕ) (tokens : List Token) (end : S) (same : Bool) → length es ≤ suc i → set es i (stored tokens end) ≡ put es i tokens end same
  put-last [] i tokens end same h = refl
  put-last (e ∷ []) zero tokens end true h = refl
  put-last (e ∷ []) zero tokens end false h = refl
  put-last (e ∷ f ∷ es) zero tokens end same h = absurd (omega arith)
  put-last (e ∷ es) (suc i) tokens end same h = ap (λ r. e ∷ r) (put-last es i tokens end same (omega arith))

  put-invalid : (es : List (Entry S)) (i : ℕ) (tokens : List Token) (end : S) (d : Entry S) → suc i < length es →
      set (set es i (stored tokens end)) (suc i) (invalid (get_or (set es i (stored tokens end)) (suc i) d)) ≡ put es i tokens end false
  put-invalid [] i tokens end d h = refl
  put-invalid (e ∷ []) zero tokens end d h = absurd (omega arith)
  put-invalid (e ∷ f ∷ es) zero tokens end d h = refl
  put-invalid (e ∷ es) (suc i) tokens end d h = ap (λ r. e ∷ r) (put-invalid es i tokens end d (omega arith))

  -- an end that differs puts the next entry invalid
  pub put-changed : (es : List (Entry S)) (i : ℕ) (tokens : List Token) (end : S) (x : Entry S) → i + 1 < length es → x ≡ get_or (set es i (stored tokens end)) (i + 1) x →
      set (set es i (stored tokens end)) (i + 1) (invalid x) ≡ put es i tokens end false
  put-changed es i tokens end x h is =
      let at : Entry S → List (Entry S) = λ y. set (set es i (stored tokens end)) (i + 1) (invalid y) in
      ap at is ∙ rw add-one (put-invalid es i tokens end x (omega arith))

  abbrev guessed : Entry S → List Token → S → Entry S
  guessed e tokens end = record e { tokens = Some tokens; end = Some end }

  guess-here : (es : List (Entry S)) (i : ℕ) (tokens : List Token) (end : S) (d : Entry S) → i < length es → set es i (guessed (get_or es i d) tokens end) ≡ guess es i tokens end true
  guess-here [] i tokens end d h = refl
  guess-here (e ∷ es) zero tokens end d h = refl
  guess-here (e ∷ es) (suc i) tokens end d h = ap (λ r. e ∷ r) (guess-here es i tokens end d (omega arith))

  -- tokens and end are guessed where the next entry stays
  pub guess-same : (es : List (Entry S)) (i : ℕ) (tokens : List Token) (end : S) (x : Entry S) → i < length es → x ≡ get_or es i x → set es i (guessed x tokens end) ≡ guess es i tokens end true
  guess-same es i tokens end x h is = ap (λ y. set es i (guessed y tokens end)) is ∙ guess-here es i tokens end x h

  guess-end : (es : List (Entry S)) (i : ℕ) (tokens : List Token) (end : S) (same : Bool) → length es ≤ suc i → guess es i tokens end true ≡ guess es i tokens end same
  guess-end [] i tokens end same h = refl
  guess-end (e ∷ []) zero tokens end true h = refl
  guess-end (e ∷ []) zero tokens end false h = refl
  guess-end (e ∷ f ∷ es) zero tokens end same h = absurd (omega arith)
  guess-end (e ∷ es) (suc i) tokens end same h = ap (λ r. e ∷ r) (guess-end es i tokens end same (omega arith))

  -- where there is none
  pub guess-last : (es : List (Entry S)) (i : ℕ) (tokens : List Token) (end : S) (same : Bool) (x : Entry S) → i < length es → length es ≤ suc i → x ≡ get_or es i x → set es i (guessed x tokens end) ≡ guess es i tokens end same
  guess-last es i tokens end same x h l is = guess-same es i tokens end x h is ∙ guess-end es i tokens end same l

  guess-invalid : (es : List (Entry S)) (i : ℕ) (tokens : List Token) (end : S) (d : Entry S) → suc i < length es →
      set (guess es i tokens end true) (suc i) (invalid (get_or (guess es i tokens end true) (suc i) d)) ≡ guess es i tokens end false
  guess-invalid [] i tokens end d h = refl
  guess-invalid (e ∷ []) zero tokens end d h = absurd (omega arith)
  guess-invalid (e ∷ f ∷ es) zero tokens end d h = refl
  guess-invalid (e ∷ es) (suc i) tokens end d h = ap (λ r. e ∷ r) (guess-invalid es i tokens end d (omega arith))

  -- and where it is not good any more
  pub guess-changed : (es : List (Entry S)) (i : ℕ) (tokens : List Token) (end : S) (x y : Entry S) → i + 1 < length es → x ≡ get_or es i x → y ≡ get_or (set es i (guessed x tokens end)) (i + 1) y →
      set (set es i (guessed x tokens end)) (i + 1) (invalid y) ≡ guess es i tokens end false
  guess-changed es i tokens end x y h is at =
      ap₂ (λ es' z. set es' (i + 1) (invalid z)) first (at ∙ ap (λ es'. get_or es' (i + 1) y) first)
      ∙ rw add-one (guess-invalid es i tokens end y (omega arith))
    where
      first : set es i (guessed x tokens end) ≡ guess es i tokens end true
      first = guess-same es i tokens end x (omega arith) is

  pub block-set : (es : List (Entry S)) (i : ℕ) (d : Entry S) → set es i (record (get_or es i d) { blocked = true }) ≡ block es i
  block-set [] i d = refl
  block-set (e ∷ es) zero d = refl
  block-set (e ∷ es) (suc i) d = ap (λ r. e ∷ r) (block-set es i d)

blanks-snoc : {S : Type 0} (n : ℕ) (end : Option S) → replicate n (blank None) ++ blank end ∷ [] ≡ blanks (suc n) end
blanks-snoc zero end = refl
blanks-snoc (suc n) end = ap (λ es. blank None ∷ es) (blanks-snoc n end)

-- blank entries, the last of them apart
pub blanks-last : {S : Type 0} (n : ℕ) (end : Option S) → 0 < n → replicate (n - 1) (blank None) ++ blank end ∷ [] ≡ blanks n end
blanks-last zero end h = absurd (omega arith)
blanks-last (suc n) end h =
    let less : suc n - 1 ≡ n = omega arith in
    ap (λ m. replicate m (blank None) ++ blank end ∷ []) less ∙ blanks-snoc n end

-- the number of an entry that is not good
pub front-within : {S : Type 0} (es : List (Entry S)) (i : ℕ) → front es ≡ Some i → i < length es
front-within es i h = (position-Some (λ (e : Entry _). not e.good) es i (blank None) h).0

-- every entry up to the one before i is blank
pub blank-next : {S : Type 0} (now before : List (Entry S)) (i : ℕ) → i < length before → now ≡ replicate i (blank None) ++ drop i before → set now i (blank None) ≡ replicate (i + 1) (blank None) ++ drop (i + 1) before
blank-next {S = S} now before i lt e = ap (λ es. set es i (blank None)) e ∙ rw add-one (at before i lt)
  where
    at : (es : List (Entry S)) (j : ℕ) → j < length es → set (replicate j (blank None) ++ drop j es) j (blank None) ≡ replicate (suc j) (blank None) ++ drop (suc j) es
    at [] j l = absurd (omega arith)
    at (x ∷ xs) zero l = refl
    at (x ∷ xs) (suc j) l = ap (λ r. blank None ∷ r) (at xs j (omega arith))

-- the end of the last replaced entry
pub last-end : {S : Type 0} (es : List (Entry S)) (first old : ℕ) → 0 < old → first + old ≤ length es → end_at es (first + old - 1) ≡ last_end None (take old (drop first es))
last-end es first old lt le = ap (end_at es) (let p : first + old - 1 ≡ first + (old - 1) = omega arith in p) ∙ skip es first (old - 1) (omega arith) ∙ ap (λ n. last_end None (take n (drop first es))) (let p : suc (old - 1) ≡ old = omega arith in p)
  where
    here : {S : Type 0} (es : List (Entry S)) (end : Option S) (n : ℕ) → n < length es → end_at es n ≡ last_end end (take (suc n) es)
    here [] end n l = absurd (omega arith)
    here (e ∷ es) end zero l = refl
    here (e ∷ es) end (suc n) l = here es e.end n (omega arith)

    skip : {S : Type 0} (es : List (Entry S)) (f n : ℕ) → f + n < length es → end_at es (f + n) ≡ last_end None (take (suc n) (drop f es))
    skip [] f n l = absurd (omega arith)
    skip (e ∷ es) zero n l = ap (end_at (e ∷ es)) (let p : 0 + n ≡ n = omega arith in p) ∙ here (e ∷ es) None n (omega arith)
    skip (e ∷ es) (suc f) n l = ap (end_at (e ∷ es)) (let p : suc f + n ≡ suc (f + n) = omega arith in p) ∙ skip es f n (omega arith)

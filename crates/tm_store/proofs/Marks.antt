-- Runs where one more entry is not good, and so where tokens and an end are stored or guessed.
use Rattle.std.proofs.Common.{◌≡◌, ℕ, suc, zero, ◌+◌, ◌<◌, ◌≤◌, Bool, true, false, List, [], ◌∷◌, ◌++◌, length, take, drop, set, get_or, refl, ap, ap₂, arith, ◌∙◌, sym, add-one}
use Rattle.std.specs.Prelude.{nat_lt, nat_le, if◌then◌else◌, ◌==◌}
use Rattle.std.proofs.lemmas.Bool.Decides.{nat_tests}
use Rattle.std.proofs.lemmas.List.{get_or_default}
use Rattle.tm_defs.specs.declared.tokens.Token.{Token}
use Rattle.tm_machine.specs.declared.entries.Entry.{Entry}
use Rattle.tm_machine.specs.Entries.{put, invalid}
use Rattle.tm_store.specs.declared.spans.Span.{Span}
use Rattle.tm_store.specs.Spans.{AreFrom, span, joined, runs, fixed, marked}
use Rattle.tm_store.specs.Stores.{guess}
use Rattle.tm_store.proofs.Runs.{from-runs, no-lt, yes-lt, no-le, yes-le, is-eq, not-eq, put-same-runs}

-- entry j is not good any more
abbrev pub bad_at : {S : Type 0} → List (Entry S) → ℕ → List (Entry S)
bad_at [] j = []
bad_at (e ∷ es) zero = invalid e ∷ es
bad_at (e ∷ es) (suc j) = e ∷ bad_at es j

pub joined-twice : (a b c : ℕ) (rs : List Span) → joined a b (joined b c rs) ≡ joined a c rs
joined-twice a b c [] = rw (is-eq b b refl) refl
joined-twice a b c (r ∷ rs) = go (r.first == c) refl
  where
    go : (t : Bool) → (r.first == c) ≡ t → joined a b (joined b c (r ∷ rs)) ≡ joined a c (r ∷ rs)
    go true e = rw (e, is-eq b b refl) refl
    go false e = rw (e, is-eq b b refl) refl

joined-touching : (k c a : ℕ) (rs : List Span) → a ≡ suc k → joined k (suc k) (joined a c rs) ≡ joined k c rs
joined-touching k c a rs e = ap (λ b. joined k (suc k) (joined b c rs)) e ∙ joined-twice k (suc k) c rs

joined-far : (k a b : ℕ) (rs : List Span) → (a == suc k) ≡ false → joined k (suc k) (joined a b rs) ≡ span k (suc k) ∷ joined a b rs
joined-far k a b [] far = rw far refl
joined-far k a b (r ∷ rs) far = go (r.first == b) refl
  where
    go : (t : Bool) → (r.first == b) ≡ t → joined k (suc k) (joined a b (r ∷ rs)) ≡ span k (suc k) ∷ joined a b (r ∷ rs)
    go true e = rw (e, far) refl
    go false e = rw (e, far) refl

marked-joined : (k i : ℕ) (rs : List Span) → k < i → AreFrom (suc k) rs → joined k (suc k) (marked i rs) ≡ marked i (joined k (suc k) rs)
marked-joined k i [] lt h = go (i == suc k) refl
  where
    go : (t : Bool) → (i == suc k) ≡ t → joined k (suc k) (marked i []) ≡ marked i (joined k (suc k) [])
    go true e = rw (e, yes-le i (suc k) (grind (arith, nat_tests)), is-eq (suc k) i (grind (arith, nat_tests))) refl
    go false e = rw (e, no-le i (suc k) (grind (arith, nat_tests))) refl
marked-joined k i (r ∷ rs) lt h = go (r.first == suc k) refl (nat_le i r.end) refl (r.end == i) refl (nat_lt i r.first) refl (i == suc k) refl
  where
    go : (a : Bool) → (r.first == suc k) ≡ a → (b : Bool) → nat_le i r.end ≡ b → (c : Bool) → (r.end == i) ≡ c → (d : Bool) → nat_lt i r.first ≡ d → (f : Bool) → (i == suc k) ≡ f →
        joined k (suc k) (marked i (r ∷ rs)) ≡ marked i (joined k (suc k) (r ∷ rs))
    go true ea false eb c ec d ed f ef = rw (ea, eb, ea) refl
    go true ea true eb true ec d ed f ef = rw (ea, eb, ec) (joined-touching k (suc i) r.first rs (grind (arith, nat_tests)))
    go true ea true eb false ec true ed f ef = absurd (grind (arith, nat_tests))
    go true ea true eb false ec false ed f ef = rw (ea, eb, ec, ed, no-lt i k (omega arith), ea) refl
    go false ea false eb c ec d ed true ef = absurd (grind (arith, nat_tests, h.0, h.1))
    go false ea true eb true ec d ed true ef = absurd (grind (arith, nat_tests, h.0, h.1))
    go false ea true eb false ec true ed true ef =
        rw (ea, eb, ec, ed, yes-le i (suc k) (grind (arith, nat_tests)), is-eq (suc k) i (grind (arith, nat_tests))) (joined-touching k (suc i) i (r ∷ rs) (grind (arith, nat_tests)))
    go false ea true eb false ec false ed true ef = absurd (grind (arith, nat_tests, h.0, h.1))
    go false ea false eb c ec d ed false ef = rw (ea, eb, no-le i (suc k) (grind (arith, nat_tests)), ea) refl
    go false ea true eb true ec d ed false ef = rw (ea, eb, ec, no-le i (suc k) (grind (arith, nat_tests))) (joined-far k r.first (suc i) rs ea)
    go false ea true eb false ec true ed false ef = rw (ea, eb, ec, ed, no-le i (suc k) (grind (arith, nat_tests))) (joined-far k i (suc i) (r ∷ rs) ef)
    go false ea true eb false ec false ed false ef = rw (ea, eb, ec, ed, no-le i (suc k) (grind (arith, nat_tests)), ea) refl

pub marked-runs : {S : Type 0} (k j : ℕ) (es : List (Entry S)) → j < length es → runs k (bad_at es j) ≡ marked (k + j) (runs k es)
marked-runs k j [] lt = absurd (omega arith)
marked-runs k zero (e ∷ es) lt = go e.good refl ∙ ap (λ n. marked n (runs k (e ∷ es))) (omega arith)
  where
    base : (rs : List Span) → AreFrom (suc k) rs → joined k (suc k) rs ≡ marked k rs
    base [] h = refl
    base (r ∷ rs) h = rw (yes-le k r.end (omega (arith, h.0, h.1)), not-eq r.end k (λ e. omega (arith, e, h.0, h.1)), yes-lt k r.first (omega (arith, h.0))) refl

    again : (rs : List Span) → AreFrom (suc k) rs → joined k (suc k) rs ≡ marked k (joined k (suc k) rs)
    again [] h = rw (yes-le k (suc k) (omega arith), not-eq (suc k) k (λ e. omega (arith, e)), no-lt k k (omega arith)) refl
    again (r ∷ rs) h = touch (r.first == suc k) refl
      where
        touch : (t : Bool) → (r.first == suc k) ≡ t → joined k (suc k) (r ∷ rs) ≡ marked k (joined k (suc k) (r ∷ rs))
        touch true g = rw (g, yes-le k r.end (omega (arith, h.0, h.1)), not-eq r.end k (λ e. omega (arith, e, h.0, h.1)), no-lt k k (omega arith)) refl
        touch false g = rw (g, yes-le k (suc k) (omega arith), not-eq (suc k) k (λ e. omega (arith, e)), no-lt k k (omega arith)) refl

    go : (t : Bool) → e.good ≡ t → joined k (suc k) (runs (suc k) es) ≡ marked k (runs k (e ∷ es))
    go true g = rw g (base (runs (suc k) es) (from-runs (suc k) es))
    go false g = rw g (again (runs (suc k) es) (from-runs (suc k) es))
marked-runs k (suc j) (e ∷ es) lt = go e.good refl (marked-runs (suc k) j es (omega arith) ∙ ap (λ n. marked n (runs (suc k) es)) move)
  where
    move : suc k + j ≡ k + suc j
    move = omega arith

    go : (t : Bool) → e.good ≡ t → runs (suc k) (bad_at es j) ≡ marked (k + suc j) (runs (suc k) es) → runs k (bad_at (e ∷ es) (suc j)) ≡ marked (k + suc j) (runs k (e ∷ es))
    go true g ih = rw g ih
    go false g ih = rw g (ap (joined k (suc k)) ih ∙ marked-joined k (k + suc j) (runs (suc k) es) (omega arith) (from-runs (suc k) es))

put-bad : {S : Type 0} (es : List (Entry S)) (i : ℕ) (tokens : List Token) (end : S) → put es i tokens end false ≡ bad_at (put es i tokens end true) (suc i)
put-bad [] i tokens end = refl
put-bad (e ∷ []) zero tokens end = refl
put-bad (e ∷ (f ∷ es)) zero tokens end = refl
put-bad (e ∷ es) (suc i) tokens end = ap (λ r. e ∷ r) (put-bad es i tokens end)

guess-bad : {S : Type 0} (es : List (Entry S)) (i : ℕ) (tokens : List Token) (end : S) → guess es i tokens end false ≡ bad_at (guess es i tokens end true) (suc i)
guess-bad [] i tokens end = refl
guess-bad (e ∷ []) zero tokens end = refl
guess-bad (e ∷ (f ∷ es)) zero tokens end = refl
guess-bad (e ∷ es) (suc i) tokens end = ap (λ r. e ∷ r) (guess-bad es i tokens end)

guess-runs : {S : Type 0} (k i : ℕ) (es : List (Entry S)) (tokens : List Token) (end : S) → runs k (guess es i tokens end true) ≡ runs k es
guess-runs k i [] tokens end = refl
guess-runs k zero (e ∷ es) tokens end = refl
guess-runs k (suc i) (e ∷ es) tokens end = ap (λ rs. if e.good then rs else joined k (suc k) rs) (guess-runs (suc k) i es tokens end)

bad-last : {S : Type 0} (es : List (Entry S)) (j : ℕ) → length es ≤ j → bad_at es j ≡ es
bad-last [] j le = refl
bad-last (e ∷ es) zero le = absurd (omega arith)
bad-last (e ∷ es) (suc j) le = ap (λ r. e ∷ r) (bad-last es j (omega arith))

pub length-put : {S : Type 0} (es : List (Entry S)) (j : ℕ) (tokens : List Token) (end : S) (same : Bool) → length (put es j tokens end same) ≡ length es
length-put [] j tokens end same = refl
length-put (e ∷ es) zero tokens end true = refl
length-put (e ∷ []) zero tokens end false = refl
length-put (e ∷ (f ∷ es)) zero tokens end false = refl
length-put (e ∷ es) (suc j) tokens end same = ap suc (length-put es j tokens end same)

pub length-guess : {S : Type 0} (es : List (Entry S)) (j : ℕ) (tokens : List Token) (end : S) (same : Bool) → length (guess es j tokens end same) ≡ length es
length-guess [] j tokens end same = refl
length-guess (e ∷ es) zero tokens end true = refl
length-guess (e ∷ []) zero tokens end false = refl
length-guess (e ∷ (f ∷ es)) zero tokens end false = refl
length-guess (e ∷ es) (suc j) tokens end same = ap suc (length-guess es j tokens end same)

-- the next entry is not good any more, if there is one and its start has changed
next-runs : {S : Type 0} (rs : List Span) (es : List (Entry S)) (i : ℕ) (same next : Bool) → rs ≡ runs 0 es → next ≡ (if same then false else nat_lt (i + 1) (length es)) →
    (if next then marked (i + 1) rs else rs) ≡ runs 0 (if same then es else bad_at es (suc i))
next-runs rs es i true next h is = rw is h
next-runs rs es i false next h is = go (nat_lt (i + 1) (length es)) refl
  where
    go : (t : Bool) → nat_lt (i + 1) (length es) ≡ t → (if next then marked (i + 1) rs else rs) ≡ runs 0 (bad_at es (suc i))
    go true e = rw (is, e, add-one) (ap (marked (suc i)) h ∙ ap (λ n. marked n (runs 0 es)) (let z : suc i ≡ 0 + suc i = omega arith in z) ∙ sym (marked-runs 0 (suc i) es (grind (arith, nat_tests))))
    go false e = rw (is, e) (h ∙ ap (runs 0) (sym (bad-last es (suc i) (grind (arith, nat_tests)))))

good-runs : {S : Type 0} (bad : List Span) (es : List (Entry S)) (i : ℕ) (tokens : List Token) (end : S) → bad ≡ runs 0 es → i < length es → fixed i bad ≡ runs 0 (put es i tokens end true)
good-runs bad es i tokens end h lt = ap (fixed i) h ∙ ap (λ n. fixed n (runs 0 es)) (let z : i ≡ 0 + i = omega arith in z) ∙ sym (put-same-runs 0 i es tokens end lt)

-- what becomes of the runs where tokens and end are stored
pub stored-runs : {S : Type 0} (bad : List Span) (es : List (Entry S)) (i : ℕ) (tokens : List Token) (end : S) (same next : Bool) →
    bad ≡ runs 0 es → i < length es → next ≡ (if same then false else nat_lt (i + 1) (length es)) →
    (if next then marked (i + 1) (fixed i bad) else fixed i bad) ≡ runs 0 (put es i tokens end same)
stored-runs bad es i tokens end same next h lt is =
    next-runs (fixed i bad) (put es i tokens end true) i same next (good-runs bad es i tokens end h lt)
    (is ∙ ap (λ (n : ℕ). if same then false else nat_lt (i + 1) n) (sym (length-put es i tokens end true)))
    ∙ ap (runs 0) (pick same)
  where
    pick : (t : Bool) → (if t then put es i tokens end true else bad_at (put es i tokens end true) (suc i)) ≡ put es i tokens end t
    pick true = refl
    pick false = sym (put-bad es i tokens end)

-- and where they are guessed
pub guessed-runs : {S : Type 0} (bad : List Span) (es : List (Entry S)) (i : ℕ) (tokens : List Token) (end : S) (same next : Bool) →
    bad ≡ runs 0 es → next ≡ (if same then false else nat_lt (i + 1) (length es)) →
    (if next then marked (i + 1) bad else bad) ≡ runs 0 (guess es i tokens end same)
guessed-runs bad es i tokens end same next h is =
    next-runs bad (guess es i tokens end true) i same next (h ∙ sym (guess-runs 0 i es tokens end))
    (is ∙ ap (λ (n : ℕ). if same then false else nat_lt (i + 1) n) (sym (length-guess es i tokens end true)))
    ∙ ap (runs 0) (pick same)
  where
    pick : (t : Bool) → (if t then guess es i tokens end true else bad_at (guess es i tokens end true) (suc i)) ≡ guess es i tokens end t
    pick true = refl
    pick false = sym (guess-bad es i tokens end)

-- a run takes in the number at its end, in a vector
grown-next-at : (rs : List Span) (k i : ℕ) (d r next : Span) → suc k < length rs → r ≡ get_or rs k r → next ≡ get_or rs (suc k) next → next.first ≡ suc i →
    set (take (suc k) rs ++ drop (suc (suc k)) rs) k (span r.first next.end) ≡ take k rs ++ joined (get_or rs k d).first (suc i) (drop (suc k) rs)
grown-next-at [] k i d r next lt er en e = absurd (omega arith)
grown-next-at (x ∷ []) zero i d r next lt er en e = absurd (omega arith)
grown-next-at (x ∷ (y ∷ ys)) zero i d r next lt er en e =
    rw (is-eq y.first (suc i) (ap (λ s. s.first) (sym en) ∙ e)) (ap₂ (λ a b. span a.first b.end ∷ ys) er en)
grown-next-at (x ∷ xs) (suc k) i d r next lt er en e = ap (λ s. x ∷ s) (grown-next-at xs k i d r next (omega arith) er en e)

pub grown-next : (rs removed : List Span) (k i : ℕ) (d r next : Span) → k + 1 < length rs → r ≡ get_or rs k r → next ≡ get_or rs (k + 1) next → next.first ≡ i + 1 →
    removed ≡ take (k + 1) rs ++ drop (k + 1 + 1) rs → set removed k (span r.first next.end) ≡ take k rs ++ joined (get_or rs k d).first (suc i) (drop (suc k) rs)
grown-next rs removed k i d r next lt er en e is =
    ap (λ (s : List Span). set s k (span r.first next.end)) (is ∙ ap₂ (λ a b. take a rs ++ drop b rs) (let p : k + 1 ≡ suc k = omega arith in p) (let p : k + 1 + 1 ≡ suc (suc k) = omega arith in p))
    ∙ grown-next-at rs k i d r next (omega arith) er (en ∙ ap (λ n. get_or rs n next) (let p : k + 1 ≡ suc k = omega arith in p)) (e ∙ omega arith)

grown-alone-at : (rs : List Span) (k i : ℕ) (d r : Span) → k < length rs → r ≡ get_or rs k r → (suc k < length rs → ((get_or rs (suc k) d).first == suc i) ≡ false) →
    set rs k (span r.first (suc i)) ≡ take k rs ++ joined (get_or rs k d).first (suc i) (drop (suc k) rs)
grown-alone-at [] k i d r lt er far = absurd (omega arith)
grown-alone-at (x ∷ []) zero i d r lt er far = ap (λ (a : Span). span a.first (suc i) ∷ []) er
grown-alone-at (x ∷ (y ∷ ys)) zero i d r lt er far =
    let e : (y.first == suc i) ≡ false = far (omega arith) in
    rw e (ap (λ (a : Span). span a.first (suc i) ∷ (y ∷ ys)) er)
grown-alone-at (x ∷ xs) (suc k) i d r lt er far = ap (λ s. x ∷ s) (grown-alone-at xs k i d r (omega arith) er (λ l. far (omega (arith, l))))

pub grown-last : (rs : List Span) (k i : ℕ) (d r : Span) → k < length rs → length rs ≤ k + 1 → r ≡ get_or rs k r →
    set rs k (span r.first (i + 1)) ≡ take k rs ++ joined (get_or rs k d).first (suc i) (drop (suc k) rs)
grown-last rs k i d r lt le er =
    ap (λ n. set rs k (span r.first n)) (add-one i) ∙ grown-alone-at rs k i d r lt er (λ l. absurd (omega (arith, l)))

pub grown-far : (rs : List Span) (k i : ℕ) (d r next : Span) → k + 1 < length rs → r ≡ get_or rs k r → next ≡ get_or rs (k + 1) next → (next.first ≡ i + 1 → ⊥) →
    set rs k (span r.first (i + 1)) ≡ take k rs ++ joined (get_or rs k d).first (suc i) (drop (suc k) rs)
grown-far rs k i d r next lt er en far =
    ap (λ n. set rs k (span r.first n)) (add-one i) ∙ grown-alone-at rs k i d r (omega arith) er
    (λ l. not-eq (get_or rs (suc k) d).first (suc i) (λ e. far (ap (λ s. s.first) (en ∙ same) ∙ e ∙ omega arith)))
  where
    same : get_or rs (k + 1) next ≡ get_or rs (suc k) d
    same = ap (λ n. get_or rs n next) (let p : k + 1 ≡ suc k = omega arith in p) ∙ get_or_default rs (suc k) next d (omega arith)

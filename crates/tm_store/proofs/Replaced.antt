-- Runs of a list that loses its first entries, and of one whose first number is another.
use Rattle.std.proofs.Common.{◌≡◌, ℕ, suc, zero, ◌+◌, ◌<◌, ◌≤◌, ◌-◌, Bool, true, false, List, [], ◌∷◌, ◌++◌, drop, refl, ap, ap₂, arith, ◌∙◌, sym, take, length, subst, Option}
use Rattle.std.proofs.lemmas.List.{drop-drop, length-append, length-take-le, length-drop}
use Rattle.tm_machine.specs.Changes.{spliced}
use Rattle.tm_defs.specs.declared.changes.LineEffect.{LineEffect}
use Rattle.tm_machine.specs.Entries.{blanks, end_at, replaced}
use Rattle.tm_store.proofs.EntryLists.{last-end}
use Rattle.std.specs.Prelude.{nat_lt, ◌==◌, All}
use Rattle.std.proofs.lemmas.Bool.Decides.{nat_tests}
use Rattle.tm_machine.specs.declared.entries.Entry.{Entry}
use Rattle.tm_store.specs.declared.spans.Span.{Span}
use Rattle.tm_store.specs.Spans.{AreFrom, span, joined, runs, trimmed, moved_by, swept, renewed}
use Rattle.tm_store.proofs.Marks.{joined-twice}
use Rattle.tm_store.proofs.Runs.{from-runs, no-lt, yes-lt, is-eq}

trimmed-all : (k : ℕ) (rs : List Span) → AreFrom k rs → trimmed k rs ≡ rs
trimmed-all k [] h = refl
trimmed-all k (r ∷ rs) h = rw (yes-lt k r.end (omega (arith, h.0, h.1)), no-lt r.first k (omega (arith, h.0))) refl

trimmed-joined : (k m : ℕ) (rs : List Span) → k < m → AreFrom (suc k) rs → trimmed m (joined k (suc k) rs) ≡ trimmed m rs
trimmed-joined k m [] lt h = rw (no-lt m (suc k) (omega arith)) refl
trimmed-joined k m (r ∷ rs) lt h = go (r.first == suc k) refl (nat_lt m r.end) refl (nat_lt r.first m) refl
  where
    go : (a : Bool) → (r.first == suc k) ≡ a → (b : Bool) → nat_lt m r.end ≡ b → (c : Bool) → nat_lt r.first m ≡ c → trimmed m (joined k (suc k) (r ∷ rs)) ≡ trimmed m (r ∷ rs)
    go true ea true eb true ec = rw (ea, eb, ec, yes-lt k m lt) refl
    go true ea true eb false ec =
        let is : m ≡ r.first = grind (arith, nat_tests) in
        rw (ea, eb, ec, yes-lt k m lt) (ap (λ n. span n r.end ∷ rs) is)
    go true ea false eb c ec = rw (ea, eb) refl
    go false ea b eb c ec = rw (ea, no-lt m (suc k) (omega arith)) refl

pub trimmed-runs : {S : Type 0} (k j : ℕ) (es : List (Entry S)) → trimmed (k + j) (runs k es) ≡ runs (k + j) (drop j es)
trimmed-runs k zero [] = refl
trimmed-runs k (suc j) [] = refl
trimmed-runs k zero (e ∷ es) =
    let same : k + 0 ≡ k = omega arith in
    rw same (trimmed-all k (runs k (e ∷ es)) (from-runs k (e ∷ es)))
trimmed-runs k (suc j) (e ∷ es) = go e.good refl (ap (λ n. trimmed n (runs (suc k) es)) (sym move) ∙ trimmed-runs (suc k) j es ∙ ap (λ n. runs n (drop j es)) move)
  where
    move : suc k + j ≡ k + suc j
    move = omega arith

    go : (t : Bool) → e.good ≡ t → trimmed (k + suc j) (runs (suc k) es) ≡ runs (k + suc j) (drop j es) → trimmed (k + suc j) (runs k (e ∷ es)) ≡ runs (k + suc j) (drop j es)
    go true g ih = rw g ih
    go false g ih = rw g (trimmed-joined k (k + suc j) (runs (suc k) es) (omega arith) (from-runs (suc k) es) ∙ ih)

moved-joined : (f : ℕ → ℕ) (a b : ℕ) (rs : List Span) → ((n : ℕ) → f (a + n) ≡ b + n) → AreFrom (suc a) rs → joined b (suc b) (moved_by f rs) ≡ moved_by f (joined a (suc a) rs)
moved-joined f a b rs m h = go rs h (at a (omega arith) ∙ omega arith) (at (suc a) (omega arith) ∙ omega arith)
  where
    at : (x : ℕ) → a ≤ x → f x ≡ b + (x - a)
    at x le = ap f (let e : x ≡ a + (x - a) = omega arith in e) ∙ m (x - a)

    go : (rs : List Span) → AreFrom (suc a) rs → f a ≡ b → f (suc a) ≡ suc b → joined b (suc b) (moved_by f rs) ≡ moved_by f (joined a (suc a) rs)
    go [] h fa fs = rw (fa, fs) refl
    go (r ∷ rs) h fa fs = touch (r.first == suc a) refl (at r.first (omega (arith, h.0)))
      where
        touch : (t : Bool) → (r.first == suc a) ≡ t → f r.first ≡ b + (r.first - a) → joined b (suc b) (moved_by f (r ∷ rs)) ≡ moved_by f (joined a (suc a) (r ∷ rs))
        touch true e q =
            let p : r.first ≡ suc a = grind (arith, nat_tests) in
            rw (e, is-eq (f r.first) (suc b) (q ∙ omega (arith, p)), fa) refl
        touch false e q =
            let p : (f r.first == suc b) ≡ false = grind (arith, nat_tests, q, h.0) in
            rw (e, p, fa, fs) refl

pub moved-runs : {S : Type 0} (f : ℕ → ℕ) (a b : ℕ) (es : List (Entry S)) → ((n : ℕ) → f (a + n) ≡ b + n) → runs b es ≡ moved_by f (runs a es)
moved-runs f a b [] m = refl
moved-runs f a b (e ∷ es) m = go e.good refl (moved-runs f (suc a) (suc b) es (λ n. ap f (omega arith) ∙ m (suc n) ∙ omega arith))
  where
    go : (t : Bool) → e.good ≡ t → runs (suc b) es ≡ moved_by f (runs (suc a) es) → runs b (e ∷ es) ≡ moved_by f (runs a (e ∷ es))
    go true g ih = rw g ih
    go false g ih = rw g (ap (joined b (suc b)) ih ∙ moved-joined f a b (runs (suc a) es) m (from-runs (suc a) es))

-- runs of which the first begins at m
abbrev pub BeginAt : ℕ → List Span → Type 0
BeginAt m [] = ⊥
BeginAt m (r ∷ rs) = r.first ≡ m

swept-all : (k : ℕ) (rest rs : List Span) → AreFrom k rs → rest ≡ swept k rest rs
swept-all k rest [] h = refl
swept-all k rest (r ∷ rs) h = rw (no-lt r.first k (omega (arith, h.0))) refl

swept-joined : (k m : ℕ) (rest rs : List Span) → k < m → BeginAt m rest → AreFrom (suc k) rs → joined k (suc k) (swept m rest rs) ≡ swept m rest (joined k (suc k) rs)
swept-joined k m [] rs lt at h = absurd at
swept-joined k m (s ∷ ss) [] lt at h = go (s.first == suc k) refl
  where
    go : (a : Bool) → (s.first == suc k) ≡ a → joined k (suc k) (swept m (s ∷ ss) []) ≡ swept m (s ∷ ss) (joined k (suc k) [])
    go true e = rw (e, yes-lt k m lt, no-lt (suc k) m (grind (arith, nat_tests))) refl
    go false e = rw (e, yes-lt k m lt, yes-lt (suc k) m (grind (arith, nat_tests))) refl
swept-joined k m (s ∷ ss) (r ∷ rs) lt at h = go (r.first == suc k) refl (nat_lt r.first m) refl (nat_lt r.end m) refl (s.first == suc k) refl
  where
    go : (a : Bool) → (r.first == suc k) ≡ a → (b : Bool) → nat_lt r.first m ≡ b → (c : Bool) → nat_lt r.end m ≡ c → (d : Bool) → (s.first == suc k) ≡ d →
        joined k (suc k) (swept m (s ∷ ss) (r ∷ rs)) ≡ swept m (s ∷ ss) (joined k (suc k) (r ∷ rs))
    go true ea true eb true ec d ed = rw (ea, eb, ec, yes-lt k m lt, ea) refl
    go true ea true eb false ec d ed = rw (ea, eb, ec, yes-lt k m lt, ea) refl
    go true ea false eb true ec d ed = absurd (grind (arith, nat_tests, h.1))
    go true ea false eb false ec true ed = rw (ea, eb, ec, yes-lt k m lt, ed) refl
    go true ea false eb false ec false ed = absurd (grind (arith, nat_tests))
    go false ea true eb true ec d ed = rw (ea, eb, ec, yes-lt k m lt, yes-lt (suc k) m (grind (arith, nat_tests, h.0)), ea) refl
    go false ea true eb false ec d ed = rw (ea, eb, ec, yes-lt k m lt, yes-lt (suc k) m (grind (arith, nat_tests, h.0)), ea) refl
    go false ea false eb c ec true ed = rw (ea, eb, yes-lt k m lt, no-lt (suc k) m (grind (arith, nat_tests)), ed) refl
    go false ea false eb c ec false ed = rw (ea, eb, yes-lt k m lt, yes-lt (suc k) m (grind (arith, nat_tests)), ed) refl

-- the runs of a list whose entries from j on are others, of which the first is not good
pub swept-runs : {S : Type 0} (k j : ℕ) (es others : List (Entry S)) → j ≤ length es → BeginAt (k + j) (runs (k + j) others) →
    runs k (take j es ++ others) ≡ swept (k + j) (runs (k + j) others) (runs k es)
swept-runs k zero es others le at =
    let same : k + 0 ≡ k = omega arith in
    rw same (swept-all k (runs k others) (runs k es) (from-runs k es))
swept-runs k (suc j) [] others le at = absurd (omega arith)
swept-runs k (suc j) (e ∷ es) others le at = go e.good refl
    (swept-runs (suc k) j es others (omega arith) (subst (λ n. BeginAt n (runs n others)) (sym move) at) ∙ ap (λ n. swept n (runs n others) (runs (suc k) es)) move)
  where
    move : suc k + j ≡ k + suc j
    move = omega arith

    go : (t : Bool) → e.good ≡ t → runs (suc k) (take j es ++ others) ≡ swept (k + suc j) (runs (k + suc j) others) (runs (suc k) es) →
        runs k (take (suc j) (e ∷ es) ++ others) ≡ swept (k + suc j) (runs (k + suc j) others) (runs k (e ∷ es))
    go true g ih = rw g ih
    go false g ih = rw g (ap (joined k (suc k)) ih ∙ swept-joined k (k + suc j) (runs (k + suc j) others) (runs (suc k) es) (omega arith) at (from-runs (suc k) es))

-- blank entries are one run, with what it touches
blanks-runs : {S : Type 0} (k n : ℕ) (end : Option S) (es : List (Entry S)) → runs k (blanks (suc n) end ++ es) ≡ joined k (k + suc n) (runs (k + suc n) es)
blanks-runs k zero end es = ap (λ m. joined k m (runs m es)) (omega arith)
blanks-runs k (suc n) end es =
    ap (joined k (suc k)) (blanks-runs (suc k) n end es) ∙ joined-twice k (suc k) (suc k + suc n) (runs (suc k + suc n) es)
    ∙ ap (λ m. joined k m (runs m es)) (omega arith)

pub begin-joined : (a b : ℕ) (rs : List Span) → BeginAt a (joined a b rs)
begin-joined a b [] = refl
begin-joined a b (r ∷ rs) = go (r.first == b) refl
  where
    go : (t : Bool) → (r.first == b) ≡ t → BeginAt a (joined a b (r ∷ rs))
    go true e = rw e refl
    go false e = rw e refl

-- a change of lines: old lines from the first on become new ones, and later runs move
pub replaced-runs : {S : Type 0} (f : ℕ → ℕ) (first old n : ℕ) (end : Option S) (es : List (Entry S)) → first + old ≤ length es → ((x : ℕ) → f (first + old + x) ≡ first + suc n + x) →
    runs 0 (spliced first old (blanks (suc n) end) es) ≡ swept first (joined first (first + suc n) (moved_by f (trimmed (first + old) (runs 0 es)))) (runs 0 es)
replaced-runs {S = S} f first old n end es le m =
    swept-runs 0 first es (blanks (suc n) end ++ ys) (omega arith) (subst (λ p. BeginAt p (runs p (blanks (suc n) end ++ ys))) (sym (none first)) (subst (λ rs. BeginAt first rs) (sym (blanks-runs first n end ys)) (begin-joined first (first + suc n) (runs (first + suc n) ys))))
    ∙ ap (λ p. swept p (runs p (blanks (suc n) end ++ ys)) (runs 0 es)) (none first)
    ∙ ap (λ rs. swept first rs (runs 0 es)) (blanks-runs first n end ys ∙ ap (joined first (first + suc n)) (moved-runs f (first + old) (first + suc n) ys m ∙ ap (moved_by f) late))
  where
    ys : List (Entry S)
    ys = drop old (drop first es)

    none : (x : ℕ) → 0 + x ≡ x
    none x = omega arith

    late : runs (first + old) (drop old (drop first es)) ≡ trimmed (first + old) (runs 0 es)
    late = ap (runs (first + old)) (drop-drop old first es) ∙ sym (ap (λ p. trimmed p (runs 0 es)) (sym (none (first + old))) ∙ trimmed-runs 0 (first + old) es ∙ ap (λ p. runs p (drop (first + old) es)) (none (first + old)))

pub renewed-runs : {S : Type 0} (first old new : ℕ) (end : Option S) (es : List (Entry S)) → 0 < new → first + old ≤ length es →
    runs 0 (spliced first old (blanks new end) es) ≡ renewed first old new (runs 0 es)
renewed-runs first old zero end es lt le = absurd (omega arith)
renewed-runs first old (suc n) end es lt le = replaced-runs (λ x. x + suc n - old) first old n end es le (λ x. omega arith)

length-blanks-with : {S : Type 0} (n : ℕ) (end : Option S) → length (blanks n end) ≡ n
length-blanks-with zero end = refl
length-blanks-with (suc zero) end = refl
length-blanks-with (suc (suc n)) end = ap suc (length-blanks-with (suc n) end)

pub length-replaced : {S : Type 0} (first old new : ℕ) (end : Option S) (es : List (Entry S)) → first + old ≤ length es → length (spliced first old (blanks new end) es) + old ≡ length es + new
length-replaced first old new end es le =
    let whole = length-append (take first es) (blanks new end ++ drop old (drop first es)) in
    let front = length-take-le first es (omega (arith, le)) in
    let back = length-append (blanks new end) (drop old (drop first es)) in
    let count = length-blanks-with new end in
    let late = length-drop old (drop first es) in
    let rest = length-drop first es in
    omega (arith, whole, front, back, count, late, rest, le)

-- the numbers of runs lie within the entries
within-joined : (k b : ℕ) (rs : List Span) → suc k ≤ b → All (λ r. r.end ≤ b) rs → All (λ r. r.end ≤ b) (joined k (suc k) rs)
within-joined k b [] le h = one
  where
    one : All (λ r. r.end ≤ b) (span k (suc k) ∷ [])
    one zero d lt = le
    one (suc j) d lt = absurd (omega arith)
within-joined k b (r ∷ rs) le h = go (r.first == suc k) refl
  where
    go : (t : Bool) → (r.first == suc k) ≡ t → All (λ r. r.end ≤ b) (joined k (suc k) (r ∷ rs))
    go true e = rw e both
      where
        both : All (λ r. r.end ≤ b) (span k r.end ∷ rs)
        both zero d lt = h zero d (omega arith)
        both (suc j) d lt = h (suc j) d lt
    go false e = rw e both
      where
        both : All (λ r. r.end ≤ b) (span k (suc k) ∷ (r ∷ rs))
        both zero d lt = le
        both (suc j) d lt = h j d (omega (arith, lt))

within-runs : {S : Type 0} (k : ℕ) (es : List (Entry S)) → All (λ r. r.end ≤ k + length es) (runs k es)
within-runs k [] = λ j d lt. absurd (omega arith)
within-runs k (e ∷ es) = go e.good refl (subst (λ n. All (λ r. r.end ≤ n) (runs (suc k) es)) (let p : suc k + length es ≡ k + suc (length es) = omega arith in p) (within-runs (suc k) es))
  where
    go : (t : Bool) → e.good ≡ t → All (λ r. r.end ≤ k + suc (length es)) (runs (suc k) es) → All (λ r. r.end ≤ k + suc (length es)) (runs k (e ∷ es))
    go true g ih = rw g ih
    go false g ih = rw g (within-joined k (k + suc (length es)) (runs (suc k) es) (omega arith) ih)

pub spans-apart : {S : Type 0} (bad : List Span) (es : List (Entry S)) → bad ≡ runs 0 es → AreFrom 0 bad
spans-apart bad es h = subst (AreFrom 0) (sym h) (from-runs 0 es)

pub spans-within : {S : Type 0} (b : ℕ) (bad : List Span) (es : List (Entry S)) → bad ≡ runs 0 es → length es < b → All (λ r. r.end < b) bad
spans-within b bad es h less = subst (λ rs. All (λ r. r.end < b) rs) (sym h) (λ j d lt. let p = within-runs 0 es j d lt in omega (arith, p, less))

-- a vector whose range was replaced by blank entries
module _ {S : Type 0} (e : LineEffect) (es kept added items : List (Entry S)) (end : Option S) (same : kept ≡ es) (blank-ones : added ≡ blanks e.new end)
    (is : items ≡ take e.first kept ++ (added ++ drop e.old (drop e.first kept))) (le : e.first + e.old ≤ length es) where
  spliced-items : items ≡ spliced e.first e.old (blanks e.new end) es
  spliced-items = is ∙ ap₂ (λ xs a. take e.first xs ++ (a ++ drop e.old (drop e.first xs))) same blank-ones

  pub replaced-items : 0 < e.old → end ≡ end_at es (e.first + e.old - 1) → items ≡ replaced e es
  replaced-items lt at = spliced-items ∙ ap (λ n. spliced e.first e.old (blanks e.new n) es) (at ∙ last-end es e.first e.old lt le)

  pub replaced-spans : (bad now : List Span) → bad ≡ runs 0 es → now ≡ renewed e.first e.old e.new bad → 0 < e.new → now ≡ runs 0 items
  replaced-spans bad now h r lt = r ∙ ap (renewed e.first e.old e.new) h ∙ sym (renewed-runs e.first e.old e.new end es lt le) ∙ ap (runs 0) (sym spliced-items)

  pub replaced-length : length items + e.old ≡ length es + e.new
  replaced-length = ap (λ xs. length xs + e.old) spliced-items ∙ length-replaced e.first e.old e.new end es le

-- Runs of entries, by recursion.
use Rattle.std.proofs.Common.{◌≡◌, ℕ, suc, zero, ◌+◌, ◌<◌, ◌≤◌, Bool, true, false, List, [], ◌∷◌, ◌++◌, length, take, drop, Some, None, Option, refl, ap, not, cond, arith, ◌∙◌, set, get_or, sym, subst, insert, add-one}
use Rattle.std.specs.Prelude.{nat_lt, nat_le, if◌then◌else◌, ◌==◌, position, replicate}
use Rattle.std.specs.List.{prefix_len, position_or_len}
use Rattle.std.proofs.lemmas.List.Sums.{prefix_len-le-length}
use Rattle.std.proofs.lemmas.Grind.{common_steps}
use Rattle.std.proofs.lemmas.List.{take-append-drop}
use Rattle.std.proofs.Math.Seq.{drop-cons}
use Rattle.std.proofs.lemmas.Bool.Decides.{nat_tests}
use Rattle.tm_defs.specs.declared.tokens.Token.{Token}
use Rattle.tm_machine.specs.declared.entries.Entry.{Entry}
use Rattle.tm_machine.specs.Entries.{front, put, block, blank}
use Rattle.tm_store.specs.declared.spans.Span.{Span}
use Rattle.tm_store.specs.Spans.{AreFrom, span, joined, runs, walked, passed, fixed}

from-less : (j k : ℕ) (rs : List Span) → j ≤ k → AreFrom k rs → AreFrom j rs
from-less j k [] le h = h
from-less j k (r ∷ rs) le h = (omega (arith, h.0), h.1, h.2)

from-joined : (k : ℕ) (rs : List Span) → AreFrom (suc k) rs → AreFrom k (joined k (suc k) rs)
from-joined k [] h = (omega arith, omega arith, tt)
from-joined k (r ∷ rs) h = go (r.first == suc k) refl
  where
    go : (t : Bool) → (r.first == suc k) ≡ t → AreFrom k (joined k (suc k) (r ∷ rs))
    go true e = rw e (omega arith, omega (arith, h.0, h.1), h.2)
    go false e = rw e (omega arith, omega arith, (grind (arith, nat_tests, h.0), h.1, h.2))

pub from-runs : {S : Type 0} (k : ℕ) (es : List (Entry S)) → AreFrom k (runs k es)
from-runs k [] = tt
from-runs k (e ∷ es) = go e.good refl (from-runs (suc k) es)
  where
    go : (t : Bool) → e.good ≡ t → AreFrom (suc k) (runs (suc k) es) → AreFrom k (runs k (e ∷ es))
    go true g ih = rw g (from-less k (suc k) (runs (suc k) es) (omega arith) ih)
    go false g ih = rw g (from-joined k (runs (suc k) es) ih)

pub one-more : (n : ℕ) → 1 + n ≡ suc n
one-more n = omega arith

-- a walk by place
pub walked-place : (stop : Span → Bool) (f : List Span → List Span) (rs : List Span) → walked stop f rs ≡ take (passed stop rs) rs ++ f (drop (passed stop rs) rs)
walked-place stop f [] = refl
walked-place stop f (r ∷ rs) = go (stop r) refl (walked-place stop f rs)
  where
    go : (t : Bool) → stop r ≡ t → walked stop f rs ≡ take (passed stop rs) rs ++ f (drop (passed stop rs) rs) → walked stop f (r ∷ rs) ≡ take (passed stop (r ∷ rs)) (r ∷ rs) ++ f (drop (passed stop (r ∷ rs)) (r ∷ rs))
    go true e ih = rw e refl
    go false e ih = rw (e, one-more (passed stop rs)) (ap (λ x. r ∷ x) ih)

pub at-place : (stop : Span → Bool) (f : List Span → List Span) (rs : List Span) (k : ℕ) (d : Span) → k ≡ passed stop rs → k < length rs →
    walked stop f rs ≡ take k rs ++ f (get_or rs k d ∷ drop (suc k) rs)
at-place stop f rs k d e lt = subst (λ n. n < length rs → walked stop f rs ≡ take n rs ++ f (get_or rs n d ∷ drop (suc n) rs)) (sym e)
    (λ l. walked-place stop f rs ∙ ap (λ x. take (passed stop rs) rs ++ f x) (drop-cons rs (passed stop rs) d l)) lt

pub past-place : (stop : Span → Bool) (f : List Span → List Span) (rs : List Span) (k : ℕ) → k ≡ passed stop rs → length rs ≤ k →
    walked stop f rs ≡ rs ++ f []
past-place stop f rs k e le = subst (λ n. length rs ≤ n → walked stop f rs ≡ rs ++ f []) (sym e)
    (λ l. walked-place stop f rs ∙ past (passed stop rs) l) le
  where
    past : (n : ℕ) → length rs ≤ n → take n rs ++ f (drop n rs) ≡ rs ++ f []
    past n l = grind (arith, common_steps)

pub set-at : {A : Type 0} (xs : List A) (k : ℕ) (x : A) → k < length xs → set xs k x ≡ take k xs ++ x ∷ drop (suc k) xs
set-at [] k x lt = absurd (omega arith)
set-at (y ∷ ys) zero x lt = refl
set-at (y ∷ ys) (suc k) x lt = ap (λ r. y ∷ r) (set-at ys k x (omega arith))

pub unjoined : {A : Type 0} (xs : List A) → xs ++ [] ≡ xs
unjoined [] = refl
unjoined (x ∷ xs) = ap (λ r. x ∷ r) (unjoined xs)

pub insert-at : {A : Type 0} (xs : List A) (k : ℕ) (x : A) → k ≤ length xs → insert xs k x ≡ take k xs ++ x ∷ drop k xs
insert-at xs k x le = refl

insert-set : {A : Type 0} (xs : List A) (k : ℕ) (x y : A) → k < length xs → insert (set xs k x) (suc k) y ≡ take k xs ++ x ∷ (y ∷ drop (suc k) xs)
insert-set [] k x y lt = absurd (omega arith)
insert-set (z ∷ xs) zero x y lt = refl
insert-set (z ∷ xs) (suc k) x y lt = ap (λ r. z ∷ r) (insert-set xs k x y (omega arith))

pub insert-last : {A : Type 0} (xs : List A) (k : ℕ) (x : A) → k ≡ length xs → insert xs k x ≡ xs ++ x ∷ []
insert-last [] k x e = rw e refl
insert-last (y ∷ ys) k x e = rw e (ap (λ r. y ∷ r) (insert-last ys (length ys) x refl))

pub is-eq : (a b : ℕ) → a ≡ b → (a == b) ≡ true
is-eq a b e = grind (arith, nat_tests)

pub not-eq : (a b : ℕ) → (a ≡ b → ⊥) → (a == b) ≡ false
not-eq a b e = grind (arith, nat_tests)

-- a change behind k does not touch what is joined at k
pub no-le : (a b : ℕ) → b < a → nat_le a b ≡ false
no-le a b lt = grind (arith, nat_tests)

pub yes-le : (a b : ℕ) → a ≤ b → nat_le a b ≡ true
yes-le a b le = grind (arith, nat_tests)

pub no-lt : (a b : ℕ) → b ≤ a → nat_lt a b ≡ false
no-lt a b le = grind (arith, nat_tests)

pub yes-lt : (a b : ℕ) → a < b → nat_lt a b ≡ true
yes-lt a b lt = grind (arith, nat_tests)

-- a run that begins behind the place where one ends is not joined to it
joined-apart : (k : ℕ) (rs : List Span) → AreFrom (suc (suc k)) rs → joined k (suc k) rs ≡ span k (suc k) ∷ rs
joined-apart k [] h = refl
joined-apart k (a ∷ rs) h =
    let e : (a.first == suc k) ≡ false = grind (arith, nat_tests, h.0) in
    rw e refl

fixed-joined : (k i : ℕ) (rs : List Span) → k < i → AreFrom (suc k) rs → fixed i (joined k (suc k) rs) ≡ joined k (suc k) (fixed i rs)
fixed-joined k i [] lt h = rw (no-lt i (suc k) (omega arith)) refl
fixed-joined k i (r ∷ rs) lt h = go (r.first == suc k) refl (nat_lt i r.end) refl (nat_lt i r.first) refl (nat_lt r.first i) refl (nat_lt (suc i) r.end) refl
  where
    go : (a : Bool) → (r.first == suc k) ≡ a → (b : Bool) → nat_lt i r.end ≡ b → (c : Bool) → nat_lt i r.first ≡ c → (d : Bool) → nat_lt r.first i ≡ d → (e : Bool) → nat_lt (suc i) r.end ≡ e →
        fixed i (joined k (suc k) (r ∷ rs)) ≡ joined k (suc k) (fixed i (r ∷ rs))
    go true ea false eb c ec d ed e ee = rw (ea, eb, ea) refl
    go true ea true eb true ec d ed e ee = absurd (grind (arith, nat_tests))
    go true ea true eb false ec true ed true ee = rw (ea, eb, ec, no-lt i k (omega arith), yes-lt k i lt, ee, ed, ea) refl
    go true ea true eb false ec true ed false ee = rw (ea, eb, ec, no-lt i k (omega arith), yes-lt k i lt, ee, ed, ea) refl
    go true ea true eb false ec false ed true ee =
        let is : i ≡ suc k = grind (arith, nat_tests) in
        let far : (suc i == suc k) ≡ false = grind (arith, nat_tests) in
        rw (ea, eb, ec, no-lt i k (omega arith), yes-lt k i lt, ee, ed, far) (ap (λ n. span k n ∷ (span (suc i) r.end ∷ rs)) is)
    go true ea true eb false ec false ed false ee =
        let is : i ≡ suc k = grind (arith, nat_tests) in
        rw (ea, eb, ec, no-lt i k (omega arith), yes-lt k i lt, ee, ed) (ap (λ n. span k n ∷ rs) is ∙ sym (joined-apart k rs (from-less (suc (suc k)) (suc r.end) rs (omega (arith, h.0, h.1)) h.2)))
    go false ea false eb c ec d ed e ee = rw (ea, no-lt i (suc k) (omega arith), eb, ea) refl
    go false ea true eb true ec d ed e ee = rw (ea, no-lt i (suc k) (omega arith), eb, ec, ea) refl
    go false ea true eb false ec true ed true ee = rw (ea, no-lt i (suc k) (omega arith), eb, ec, ed, ee, ea) refl
    go false ea true eb false ec true ed false ee = rw (ea, no-lt i (suc k) (omega arith), eb, ec, ed, ee, ea) refl
    go false ea true eb false ec false ed true ee =
        let far : (suc i == suc k) ≡ false = grind (arith, nat_tests) in
        rw (ea, no-lt i (suc k) (omega arith), eb, ec, ed, ee, far) refl
    go false ea true eb false ec false ed false ee =
        rw (ea, no-lt i (suc k) (omega arith), eb, ec, ed, ee) (sym (joined-apart k rs (from-less (suc (suc k)) (suc r.end) rs (omega (arith, h.0, h.1)) h.2)))

-- what a vector does at the place of a walk
module _ (stop : Span → Bool) (f : List Span → List Span) (rs : List Span) (k : ℕ) (r : Span) (e : k ≡ passed stop rs) (lt : k < length rs) (at : r ≡ get_or rs k r) where
  here : walked stop f rs ≡ take k rs ++ f (r ∷ drop (suc k) rs)
  here = at-place stop f rs k r e lt ∙ ap (λ y. take k rs ++ f (y ∷ drop (suc k) rs)) (sym at)

  pub take-walked : (ys : List Span) → f (r ∷ drop (suc k) rs) ≡ ys → take k rs ++ ys ≡ walked stop f rs
  take-walked ys h = ap (λ y. take k rs ++ y) (sym h) ∙ sym here

  pub set-walked : (x : Span) → f (r ∷ drop (suc k) rs) ≡ x ∷ drop (suc k) rs → set rs k x ≡ walked stop f rs
  set-walked x h = set-at rs k x lt ∙ ap (λ y. take k rs ++ y) (sym h) ∙ sym here

  pub remove-walked : f (r ∷ drop (suc k) rs) ≡ drop (suc k) rs → take k rs ++ drop (k + 1) rs ≡ walked stop f rs
  remove-walked h = rw add-one (ap (λ y. take k rs ++ y) (sym h) ∙ sym here)

  pub keep-walked : f (r ∷ drop (suc k) rs) ≡ r ∷ drop (suc k) rs → rs ≡ walked stop f rs
  keep-walked h = sym (take-append-drop k rs) ∙ ap (λ y. take k rs ++ y) (drop-cons rs k r lt ∙ ap (λ y. y ∷ drop (suc k) rs) (sym at) ∙ sym h) ∙ sym here

  pub insert-walked : (x : Span) → f (r ∷ drop (suc k) rs) ≡ x ∷ (r ∷ drop (suc k) rs) → insert rs k x ≡ walked stop f rs
  insert-walked x h = insert-at rs k x (omega arith) ∙ ap (λ y. take k rs ++ x ∷ y) (drop-cons rs k r lt ∙ ap (λ y. y ∷ drop (suc k) rs) (sym at)) ∙ ap (λ y. take k rs ++ y) (sym h) ∙ sym here

  pub split-walked : (x y : Span) → f (r ∷ drop (suc k) rs) ≡ x ∷ (y ∷ drop (suc k) rs) → insert (set rs k x) (k + 1) y ≡ walked stop f rs
  split-walked x y h = rw add-one (insert-set rs k x y lt ∙ ap (λ z. take k rs ++ z) (sym h) ∙ sym here)

-- entry j is good now
pub put-same-runs : {S : Type 0} (k j : ℕ) (es : List (Entry S)) (tokens : List Token) (end : S) → j < length es → runs k (put es j tokens end true) ≡ fixed (k + j) (runs k es)
put-same-runs k j [] tokens end lt = absurd (omega arith)
put-same-runs k zero (e ∷ es) tokens end lt = go e.good refl ∙ ap (λ n. fixed n (runs k (e ∷ es))) (omega arith)
  where
    base : (rs : List Span) → AreFrom (suc k) rs → rs ≡ fixed k rs
    base [] h = refl
    base (r ∷ rs) h = rw (yes-lt k r.end (omega (arith, h.0, h.1)), yes-lt k r.first (omega (arith, h.0))) refl

    split : (rs : List Span) → AreFrom (suc k) rs → rs ≡ fixed k (joined k (suc k) rs)
    split [] h = rw (yes-lt k (suc k) (omega arith), no-lt k k (omega arith), no-lt (suc k) (suc k) (omega arith)) refl
    split (r ∷ rs) h = touch (r.first == suc k) refl
      where
        touch : (t : Bool) → (r.first == suc k) ≡ t → r ∷ rs ≡ fixed k (joined k (suc k) (r ∷ rs))
        touch true f =
            let is : r.first ≡ suc k = grind (arith, nat_tests) in
            rw (f, yes-lt k r.end (omega (arith, h.0, h.1)), no-lt k k (omega arith), yes-lt (suc k) r.end (omega (arith, h.0, h.1))) (ap (λ n. span n r.end ∷ rs) is)
        touch false f = rw (f, yes-lt k (suc k) (omega arith), no-lt k k (omega arith), no-lt (suc k) (suc k) (omega arith)) refl

    go : (t : Bool) → e.good ≡ t → runs (suc k) es ≡ fixed k (runs k (e ∷ es))
    go true g = rw g (base (runs (suc k) es) (from-runs (suc k) es))
    go false g = rw g (split (runs (suc k) es) (from-runs (suc k) es))
put-same-runs k (suc j) (e ∷ es) tokens end lt = go e.good refl (put-same-runs (suc k) j es tokens end (omega arith) ∙ ap (λ n. fixed n (runs (suc k) es)) move)
  where
    move : suc k + j ≡ k + suc j
    move = omega arith

    go : (t : Bool) → e.good ≡ t → runs (suc k) (put es j tokens end true) ≡ fixed (k + suc j) (runs (suc k) es) → runs k (put (e ∷ es) (suc j) tokens end true) ≡ fixed (k + suc j) (runs k (e ∷ es))
    go true g ih = rw g ih
    go false g ih = rw g (ap (joined k (suc k)) ih ∙ sym (fixed-joined k (k + suc j) (runs (suc k) es) (omega arith) (from-runs (suc k) es)))

-- the first entry that is not good begins the first run
abbrev pub first_of_runs : List Span → Option ℕ
first_of_runs [] = None
first_of_runs (r ∷ rs) = Some r.first

abbrev pub place_in : {S : Type 0} → List (Entry S) → ℕ
place_in es = prefix_len (λ (e : Entry _). not (not e.good)) es

runs-front : {S : Type 0} (k : ℕ) (es : List (Entry S)) → first_of_runs (runs k es) ≡ cond (nat_lt (place_in es) (length es)) (Some (k + place_in es)) None
runs-front k [] = refl
runs-front k (e ∷ es) = go e.good refl (runs-front (suc k) es)
  where
    head : (rs : List Span) → first_of_runs (joined k (suc k) rs) ≡ Some k
    head [] = refl
    head (r ∷ rs) = touch (r.first == suc k) refl
      where
        touch : (t : Bool) → (r.first == suc k) ≡ t → first_of_runs (joined k (suc k) (r ∷ rs)) ≡ Some k
        touch true f = rw f refl
        touch false f = rw f refl

    go : (t : Bool) → e.good ≡ t → first_of_runs (runs (suc k) es) ≡ cond (nat_lt (place_in es) (length es)) (Some (suc k + place_in es)) None →
        first_of_runs (runs k (e ∷ es)) ≡ cond (nat_lt (place_in (e ∷ es)) (length (e ∷ es))) (Some (k + place_in (e ∷ es))) None
    go true g ih = rw g (ih ∙ same (nat_lt (place_in es) (length es)) refl)
      where
        same : (t : Bool) → nat_lt (place_in es) (length es) ≡ t → cond (nat_lt (place_in es) (length es)) (Some (suc k + place_in es)) None ≡ cond (nat_lt (1 + place_in es) (suc (length es))) (Some (k + (1 + place_in es))) None
        same t f = grind (arith, nat_tests)
    go false g ih = rw g (head (runs (suc k) es) ∙ grind (arith, nat_tests))

pub front-runs : {S : Type 0} (es : List (Entry S)) → first_of_runs (runs 0 es) ≡ front es
front-runs es = runs-front 0 es ∙ ap (λ n. cond (nat_lt (place_in es) (length es)) (Some n) None) (omega arith)

-- a position is a count
pub position-at : {X : Type 0} (p : X → Bool) (xs : List X) (k : ℕ) → position p xs ≡ Some k → (k ≡ prefix_len (λ x. not (p x)) xs) × (k ≤ length xs)
position-at p xs k h = go (nat_lt (position_or_len p xs) (length xs)) refl
  where
    go : (t : Bool) → nat_lt (position_or_len p xs) (length xs) ≡ t → (k ≡ prefix_len (λ x. not (p x)) xs) × (k ≤ length xs)
    go t e = grind (arith, nat_tests)

pub position-none : {X : Type 0} (p : X → Bool) (xs : List X) → position p xs ≡ None → length xs ≡ prefix_len (λ x. not (p x)) xs
position-none p xs h =
    let le = prefix_len-le-length (λ x. not (p x)) xs in
    grind (arith, nat_tests)

pub block-runs : {S : Type 0} (k j : ℕ) (es : List (Entry S)) → runs k (block es j) ≡ runs k es
block-runs k j [] = refl
block-runs k zero (e ∷ es) = refl
block-runs k (suc j) (e ∷ es) = ap (λ rs. if e.good then rs else joined k (suc k) rs) (block-runs (suc k) j es)

-- blank entries are one run
pub blank-runs : (S : Type 0) (k n : ℕ) → runs k (replicate (suc n) (blank {S = S} None)) ≡ span k (suc (k + n)) ∷ []
blank-runs S k zero = ap (λ m. span k m ∷ []) (omega arith)
blank-runs S k (suc n) = ap (joined k (suc k)) (blank-runs S (suc k) n) ∙ rw (is-eq (suc k) (suc k) refl) (ap (λ m. span k m ∷ []) (omega arith))

pub new-runs : (S : Type 0) (n : ℕ) → 0 < n → span 0 n ∷ [] ≡ runs 0 (replicate n (blank {S = S} None))
new-runs S zero lt = absurd (omega arith)
new-runs S (suc n) lt = sym (blank-runs S 0 n ∙ ap (λ m. span 0 (suc m) ∷ []) (omega arith))

pub length-blanks : (S : Type 0) (n : ℕ) → length (replicate n (blank {S = S} None)) ≡ n
length-blanks S zero = refl
length-blanks S (suc n) = ap suc (length-blanks S n)

pub length-block : {S : Type 0} (es : List (Entry S)) (j : ℕ) → length (block es j) ≡ length es
length-block [] j = refl
length-block (e ∷ es) zero = refl
length-block (e ∷ es) (suc j) = ap suc (length-block es j)

-- the same where no entry follows
pub put-last-runs : {S : Type 0} (es : List (Entry S)) (j : ℕ) (tokens : List Token) (end : S) (same : Bool) → length es ≤ suc j → put es j tokens end same ≡ put es j tokens end true
put-last-runs [] j tokens end same h = refl
put-last-runs (e ∷ []) zero tokens end true h = refl
put-last-runs (e ∷ []) zero tokens end false h = refl
put-last-runs (e ∷ (f ∷ es)) zero tokens end same h = absurd (omega arith)
put-last-runs (e ∷ es) (suc j) tokens end same h = ap (λ r. e ∷ r) (put-last-runs es j tokens end same (omega arith))

-- the front, of a vector of runs
pub front-none : {S : Type 0} (bad : List Span) (es : List (Entry S)) → bad ≡ runs 0 es → length bad ≡ 0 → None ≡ front es
front-none [] es h e = ap first_of_runs h ∙ front-runs es
front-none (r ∷ rs) es h e = absurd (omega arith)

pub front-some : {S : Type 0} (bad : List Span) (es : List (Entry S)) (r : Span) → bad ≡ runs 0 es → 0 < length bad → r ≡ get_or bad 0 r → Some r.first ≡ front es
front-some [] es r h e at = absurd (omega arith)
front-some (s ∷ rs) es r h e at = ap (λ x. Some x.first) at ∙ ap first_of_runs h ∙ front-runs es

none-more : (n : ℕ) → 0 + n ≡ n
none-more n = omega arith

good-runs : {S : Type 0} (bad : List Span) (es : List (Entry S)) (i : ℕ) (tokens : List Token) (end : S) → bad ≡ runs 0 es → i < length es → fixed i bad ≡ runs 0 (put es i tokens end true)
good-runs bad es i tokens end h lt = ap (fixed i) h ∙ ap (λ n. fixed n (runs 0 es)) (sym (none-more i)) ∙ sym (put-same-runs 0 i es tokens end lt)

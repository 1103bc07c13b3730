-- The runs behind a change of lines, by place.
use Rattle.std.proofs.Common.{◌≡◌, ℕ, suc, zero, ◌+◌, ◌-◌, ◌<◌, ◌≤◌, Bool, true, false, List, [], ◌∷◌, ◌++◌, length, take, drop, get_or, refl, ap, arith, ◌∙◌, sym, subst}
use Rattle.std.specs.Prelude.{nat_lt, nat_le, if◌then◌else◌, All}
use Rattle.std.proofs.lemmas.Bool.Decides.{nat_tests}
use Rattle.std.proofs.Math.Seq.{drop-cons}
use Rattle.std.proofs.lemmas.List.{drop_all, take_all, append_assoc, length-drop}
use Rattle.tm_store.specs.declared.spans.Span.{Span}
use Rattle.tm_store.specs.Spans.{AreFrom, span, joined, passed, trimmed, moved_by, glued, swept, renewed, start_in}
use Rattle.tm_store.proofs.Runs.{no-lt, yes-lt, is-eq, not-eq, one-more}
use Rattle.tm_store.proofs.Replaced.{BeginAt, begin-joined}

pub passed-stops : (stop : Span → Bool) (rs : List Span) (d : Span) → passed stop rs < length rs → stop (get_or rs (passed stop rs) d) ≡ true
passed-stops stop [] d lt = absurd (omega arith)
passed-stops stop (r ∷ rs) d lt = go (stop r) refl (passed-stops stop rs d)
  where
    go : (t : Bool) → stop r ≡ t → (passed stop rs < length rs → stop (get_or rs (passed stop rs) d) ≡ true) → stop (get_or (r ∷ rs) (passed stop (r ∷ rs)) d) ≡ true
    go true e ih = rw e e
    go false e ih = rw (e, one-more (passed stop rs)) (ih (less e lt))
      where
        less : stop r ≡ false → passed stop (r ∷ rs) < length (r ∷ rs) → passed stop rs < length rs
        less f l = let m : passed stop (r ∷ rs) ≡ 1 + passed stop rs = rw f refl in omega (arith, l, m)

pub from-all : (k : ℕ) (rs : List Span) → AreFrom k rs → All (λ r. (k ≤ r.first) × (r.first < r.end)) rs
from-all k [] h j d lt = absurd (omega arith)
from-all k (r ∷ rs) h zero d lt = (h.0, h.1)
from-all k (r ∷ rs) h (suc j) d lt = let q = from-all (suc r.end) rs h.2 j d (omega arith) in (omega (arith, h.0, h.1, q.0), q.1)

pub from-drop : (k : ℕ) (rs : List Span) (j : ℕ) (d : Span) → AreFrom k rs → j < length rs → AreFrom (suc (get_or rs j d).end) (drop (suc j) rs)
from-drop k [] j d h lt = absurd (omega arith)
from-drop k (r ∷ rs) zero d h lt = h.2
from-drop k (r ∷ rs) (suc j) d h lt = from-drop (suc r.end) rs j d h.2 (omega arith)

glued-self : (m : ℕ) (rest : List Span) → BeginAt m rest → rest ≡ glued m rest
glued-self m [] at = absurd at
glued-self m (r ∷ rs) at = ap (λ n. span n r.end ∷ rs) at

swept-place : (k m : ℕ) (rest rs : List Span) → AreFrom k rs → BeginAt m rest →
    swept m rest rs ≡ take (passed (λ r. nat_le m r.end) rs) rs ++ glued (start_in m (drop (passed (λ r. nat_le m r.end) rs) rs)) rest
swept-place k m rest [] h at = glued-self m rest at
swept-place k m rest (r ∷ rs) h at = go (nat_le m r.end) refl (nat_lt r.first m) refl (swept-place (suc r.end) m rest rs h.2 at)
  where
    go : (a : Bool) → nat_le m r.end ≡ a → (b : Bool) → nat_lt r.first m ≡ b →
        swept m rest rs ≡ take (passed (λ r. nat_le m r.end) rs) rs ++ glued (start_in m (drop (passed (λ r. nat_le m r.end) rs) rs)) rest →
        swept m rest (r ∷ rs) ≡ take (passed (λ r. nat_le m r.end) (r ∷ rs)) (r ∷ rs) ++ glued (start_in m (drop (passed (λ r. nat_le m r.end) (r ∷ rs)) (r ∷ rs))) rest
    go true ea true eb ih = rw (ea, eb, no-lt r.end m (grind (arith, nat_tests))) refl
    go true ea false eb ih = rw (ea, eb) (glued-self m rest at)
    go false ea true eb ih = rw (ea, eb, yes-lt r.end m (grind (arith, nat_tests)), one-more (passed (λ r. nat_le m r.end) rs)) (ap (λ x. r ∷ x) ih)
    go false ea false eb ih = absurd (grind (arith, nat_tests, h.1))

-- what lies at m and above, of runs of which the first reaches beyond m
abbrev clipped : ℕ → List Span → List Span
clipped m [] = []
clipped m (r ∷ rs) = if nat_lt r.first m then span m r.end ∷ rs else r ∷ rs

trimmed-place : (m : ℕ) (rs : List Span) → trimmed m rs ≡ clipped m (drop (passed (λ r. nat_lt m r.end) rs) rs)
trimmed-place m [] = refl
trimmed-place m (r ∷ rs) = go (nat_lt m r.end) refl (trimmed-place m rs)
  where
    go : (t : Bool) → nat_lt m r.end ≡ t → trimmed m rs ≡ clipped m (drop (passed (λ r. nat_lt m r.end) rs) rs) → trimmed m (r ∷ rs) ≡ clipped m (drop (passed (λ r. nat_lt m r.end) (r ∷ rs)) (r ∷ rs))
    go true e ih = rw e refl
    go false e ih = rw (e, one-more (passed (λ r. nat_lt m r.end) rs)) ih

-- the run of new lines, before what lies behind the replaced ones
module _ (first old new a : ℕ) where
  f : ℕ → ℕ
  f x = x + new - old

  block-alone : glued a (joined first (first + new) (moved_by (λ x. x + new - old) (clipped (first + old) []))) ≡ span a (first + new) ∷ []
  block-alone = refl

  block-touches : (r : Span) (rs : List Span) → r.first ≤ first + old →
      glued a (joined first (first + new) (moved_by (λ x. x + new - old) (clipped (first + old) (r ∷ rs)))) ≡ span a (r.end + new - old) ∷ moved_by (λ x. x + new - old) rs
  block-touches r rs le = go (nat_lt r.first (first + old)) refl
    where
      go : (t : Bool) → nat_lt r.first (first + old) ≡ t → glued a (joined first (first + new) (moved_by (λ x. x + new - old) (clipped (first + old) (r ∷ rs)))) ≡ span a (r.end + new - old) ∷ moved_by (λ x. x + new - old) rs
      go true e = rw (e, is-eq (first + old + new - old) (first + new) (omega arith)) refl
      go false e =
          let is : r.first ≡ first + old = grind (arith, nat_tests) in
          rw (e, is-eq (r.first + new - old) (first + new) (omega (arith, is))) refl

  block-far : (r : Span) (rs : List Span) → first + old < r.first →
      glued a (joined first (first + new) (moved_by (λ x. x + new - old) (clipped (first + old) (r ∷ rs)))) ≡ span a (first + new) ∷ moved_by (λ x. x + new - old) (r ∷ rs)
  block-far r rs lt = rw (no-lt r.first (first + old) (omega arith), not-eq (r.first + new - old) (first + new) (λ e. omega (arith, e, lt))) refl

renewed-place : (first old new : ℕ) (rs : List Span) → AreFrom 0 rs →
    renewed first old new rs ≡ take (passed (λ r. nat_le first r.end) rs) rs
    ++ glued (start_in first (drop (passed (λ r. nat_le first r.end) rs) rs)) (joined first (first + new) (moved_by (λ x. x + new - old) (clipped (first + old) (drop (passed (λ r. nat_lt (first + old) r.end) rs) rs))))
renewed-place first old new rs h =
    swept-place 0 first (joined first (first + new) (moved_by (λ x. x + new - old) (trimmed (first + old) rs))) rs h (begin-joined first (first + new) (moved_by (λ x. x + new - old) (trimmed (first + old) rs)))
    ∙ ap (λ t. take (passed (λ r. nat_le first r.end) rs) rs ++ glued (start_in first (drop (passed (λ r. nat_le first r.end) rs) rs)) (joined first (first + new) (moved_by (λ x. x + new - old) t))) (trimmed-place (first + old) rs)

module _ (first old new : ℕ) (rs : List Span) (h : AreFrom 0 rs) (p q a : ℕ) (ep : p ≡ passed (λ r. nat_le first r.end) rs) (eq : q ≡ passed (λ r. nat_lt (first + old) r.end) rs) (ea : a ≡ start_in first (drop p rs)) where
  by-place : renewed first old new rs ≡ take p rs ++ glued a (joined first (first + new) (moved_by (λ x. x + new - old) (clipped (first + old) (drop q rs))))
  by-place =
      renewed-place first old new rs h
      ∙ ap (λ n. take n rs ++ glued (start_in first (drop n rs)) (joined first (first + new) (moved_by (λ x. x + new - old) (clipped (first + old) (drop (passed (λ r. nat_lt (first + old) r.end) rs) rs))))) (sym ep)
      ∙ ap (λ n. take p rs ++ glued (start_in first (drop p rs)) (joined first (first + new) (moved_by (λ x. x + new - old) (clipped (first + old) (drop n rs))))) (sym eq)
      ∙ ap (λ n. take p rs ++ glued n (joined first (first + new) (moved_by (λ x. x + new - old) (clipped (first + old) (drop q rs))))) (sym ea)

  from-here : (ds ys : List Span) → drop q rs ≡ ds → glued a (joined first (first + new) (moved_by (λ x. x + new - old) (clipped (first + old) ds))) ≡ ys → take p rs ++ ys ≡ renewed first old new rs
  from-here ds ys e g = sym (by-place ∙ ap (λ t. take p rs ++ glued a (joined first (first + new) (moved_by (λ x. x + new - old) (clipped (first + old) t)))) e ∙ ap (λ t. take p rs ++ t) g)

  pub renewed-touches : (r : Span) → q < length rs → r ≡ get_or rs q r → r.first ≤ first + old →
      take p rs ++ (span a (r.end + new - old) ∷ moved_by (λ x. x + new - old) (drop (suc q) rs)) ≡ renewed first old new rs
  renewed-touches r lt at le =
      from-here (r ∷ drop (suc q) rs) _ (drop-cons rs q r lt ∙ ap (λ y. y ∷ drop (suc q) rs) (sym at)) (block-touches first old new a r (drop (suc q) rs) le)

  pub renewed-far : (r : Span) → q < length rs → r ≡ get_or rs q r → first + old < r.first →
      take p rs ++ (span a (first + new) ∷ moved_by (λ x. x + new - old) (drop q rs)) ≡ renewed first old new rs
  renewed-far r lt at less =
      ap (λ t. take p rs ++ (span a (first + new) ∷ moved_by (λ x. x + new - old) t)) open-up
      ∙ from-here (r ∷ drop (suc q) rs) _ open-up (block-far first old new a r (drop (suc q) rs) less)
    where
      open-up : drop q rs ≡ r ∷ drop (suc q) rs
      open-up = drop-cons rs q r lt ∙ ap (λ y. y ∷ drop (suc q) rs) (sym at)

  pub renewed-last : length rs ≤ q → take p rs ++ (span a (first + new) ∷ moved_by (λ x. x + new - old) (drop q rs)) ≡ renewed first old new rs
  renewed-last le =
      ap (λ t. take p rs ++ (span a (first + new) ∷ moved_by (λ x. x + new - old) t)) (drop_all q rs le)
      ∙ from-here [] _ (drop_all q rs le) (block-alone first old new a)

pub rest-part : {A : Type 0} (k : ℕ) (xs : List A) → k ≤ length xs → take (length xs - k) (drop k xs) ≡ drop k xs
rest-part k xs le = take_all (length xs - k) (drop k xs) (let l = length-drop k xs in omega (arith, l))

take-none : (n : ℕ) → take {A = Span} n [] ≡ []
take-none zero = refl
take-none (suc n) = refl

-- a vector that is made of a front, one more and the rest
pub assembled : {A : Type 0} (xs ys : List A) (s : A) (a b c d : List A) → a ≡ [] → b ≡ a ++ xs → c ≡ b ++ s ∷ [] → d ≡ c ++ ys → d ≡ xs ++ (s ∷ ys)
assembled xs ys s a b c d ea eb ec ed = ed ∙ ap (λ w. w ++ ys) (ec ∙ ap (λ w. w ++ s ∷ []) (eb ∙ ap (λ w. w ++ xs) ea)) ∙ append_assoc xs (s ∷ []) ys

drop-within : (b n : ℕ) (rs : List Span) → All (λ r. r.end < b) rs → All (λ r. r.end < b) (drop n rs)
drop-within b zero rs h = h
drop-within b (suc n) [] h = h
drop-within b (suc n) (r ∷ rs) h = drop-within b n rs (λ j d lt. h (suc j) d (omega (arith, lt)))

from-here-on : (k : ℕ) (rs : List Span) (j : ℕ) (d : Span) → AreFrom k rs → j < length rs → AreFrom (get_or rs j d).first (drop j rs)
from-here-on k [] j d h lt = absurd (omega arith)
from-here-on k (r ∷ rs) zero d h lt = (omega arith, h.1, h.2)
from-here-on k (r ∷ rs) (suc j) d h lt = from-here-on (suc r.end) rs j d h.2 (omega arith)

-- runs of which the first begins at k or above
late : (k old b : ℕ) (rs : List Span) → old ≤ k → AreFrom k rs → All (λ r. r.end < b) rs → All (λ r. (old ≤ r.first) × (r.first < r.end) × (r.end < b)) rs
late k old b rs le h w j d lt = let q = from-all k rs h j d lt in (omega (arith, q.0), q.1, w j d lt)

module _ (first old b : ℕ) (rs : List Span) (h : AreFrom 0 rs) (w : All (λ r. r.end < b) rs) (q : ℕ) (eq : q ≡ passed (λ r. nat_lt (first + old) r.end) rs) where
  pub reaches-beyond : (d : Span) → q < length rs → first + old < (get_or rs q d).end
  reaches-beyond d lt =
      let s : nat_lt (first + old) (get_or rs q d).end ≡ true = go q eq lt in
      grind (arith, nat_tests)
    where
      go : (n : ℕ) → n ≡ passed (λ r. nat_lt (first + old) r.end) rs → n < length rs → nat_lt (first + old) (get_or rs n d).end ≡ true
      go n e l = ap (λ m. nat_lt (first + old) (get_or rs m d).end) e ∙ passed-stops (λ r. nat_lt (first + old) r.end) rs d (omega (arith, e, l))

  pub behind-touching : (part : List Span) → q < length rs → part ≡ take (length rs - (q + 1)) (drop (q + 1) rs) → All (λ r. (old ≤ r.first) × (r.first < r.end) × (r.end < b)) part
  behind-touching part lt e =
      subst (λ x. All (λ r. (old ≤ r.first) × (r.first < r.end) × (r.end < b)) x) (sym (e ∙ rest-part (q + 1) rs (omega arith) ∙ ap (λ n. drop n rs) (let p : q + 1 ≡ suc q = omega arith in p)))
      (late (suc (get_or rs q (span 0 0)).end) old b (drop (suc q) rs) (let f = reaches-beyond (span 0 0) lt in omega (arith, f)) (from-drop 0 rs q (span 0 0) h lt) (drop-within b (suc q) rs w))

  pub behind-far : (part : List Span) (d : Span) → q < length rs → first + old < (get_or rs q d).first → part ≡ take (length rs - q) (drop q rs) → All (λ r. (old ≤ r.first) × (r.first < r.end) × (r.end < b)) part
  behind-far part d lt less e =
      subst (λ x. All (λ r. (old ≤ r.first) × (r.first < r.end) × (r.end < b)) x) (sym (e ∙ rest-part q rs (omega arith)))
      (late (get_or rs q d).first old b (drop q rs) (omega (arith, less)) (from-here-on 0 rs q d h lt) (drop-within b q rs w))

  pub behind-last : (part : List Span) → length rs ≤ q → part ≡ take (length rs - q) (drop q rs) → All (λ r. (old ≤ r.first) × (r.first < r.end) × (r.end < b)) part
  behind-last part le e = subst (λ x. All (λ r. (old ≤ r.first) × (r.first < r.end) × (r.end < b)) x) (sym (e ∙ none)) (λ j d lt. absurd (omega (arith, lt)))
    where
      none : take (length rs - q) (drop q rs) ≡ []
      none = ap (take (length rs - q)) (drop_all q rs le) ∙ take-none (length rs - q)

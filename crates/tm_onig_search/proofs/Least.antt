-- The starts are tried in their order, so that the first success has the least start.
use Rattle.std.proofs.Common.{◌≡◌, ℕ, zero, suc, ◌+◌, ◌-◌, ◌<◌, ◌≤◌, Bool, true, false, ◌==◌, List, length, Option, Some, None, refl, sym, subst, arith}
use Rattle.std.proofs.lemmas.Option.{none-some}
use Rattle.std.proofs.lemmas.Bool.{eqb-true, eqb-false}
use Rattle.tm_onig_class.specs.Tree.{Tree}
use Rattle.tm_onig_search.specs.Outcomes.{Caps, Hit, accept}
use Rattle.tm_onig_search.specs.Places.{Subject, subject}
use Rattle.tm_onig_search.specs.Find.{found_or, with_whole, at_start, first_of, first_match, IsLeast, AreWithin, blank, last_group}
use Rattle.std.specs.Prelude.{replicate}
use Rattle.tm_onig_search.proofs.Ends.{accept_ends, tree_ends}
use Rattle.tm_onig_search.proofs.Within.{within_set}
use Rattle.tm_onig_search.proofs.Spans.{match_kept}

module _ (s : Subject) (t : Tree) where
  -- the first success among n starts from one on
  record LeastOf (n from : ℕ) (caps : Caps) : Type 0 where
    start : ℕ
    hit : Hit
    low : from ≤ start
    high : start < from + n
    matches : (at_start s t start).hit ≡ Some hit
    none_before : (q : ℕ) → from ≤ q → q < start → (at_start s t q).hit ≡ None
    groups : caps ≡ with_whole start hit

  -- what holds at the first start and after it holds from it on
  from_here : (P : ℕ → Type 0) (from q : ℕ) → P from → (from + 1 ≤ q → P q) → from ≤ q → P q
  from_here P from q here later low = split (from == q) refl
    where
      split : (b : Bool) → (from == q) ≡ b → P q
      split true same = subst P (eqb-true from q same) here
      split false differs = let apart : from ≡ q → ⊥ = eqb-false from q differs in later (omega arith)

  least_of : (n from : ℕ) (caps : Caps) → (first_of s t n from).found ≡ Some caps → LeastOf n from caps
  unfolding first_of
  least_of zero from caps e = absurd (none-some caps e)
  least_of (suc n) from caps e = go (at_start s t from).hit refl (least_of n (from + 1) caps) e
    where
      go : (o : Option Hit) → (at_start s t from).hit ≡ o → ((first_of s t n (from + 1)).found ≡ Some caps → LeastOf n (from + 1) caps) →
          (found_or from o (at_start s t from).cost (first_of s t n (from + 1))).found ≡ Some caps → LeastOf (suc n) from caps
      go (Some hit) here later same =
          record { start = from; hit = hit; low = omega arith; high = omega arith; matches = here; none_before = λ q low high. absurd (omega arith); groups = let eq : Some (with_whole from hit) ≡ Some caps = same in cc }
      go None here later same =
          let rest = later same in
          let low = rest.low in
          let high = rest.high in
          record {
            start = rest.start;
            hit = rest.hit;
            low = omega arith;
            high = omega arith;
            matches = rest.matches;
            none_before = λ q above below. from_here (λ p. (at_start s t p).hit ≡ None) from q here (λ on. rest.none_before q on below) above;
            groups = rest.groups;
          }

  pub none_of : (n from : ℕ) → (first_of s t n from).found ≡ None → (q : ℕ) → from ≤ q → q < from + n → (at_start s t q).hit ≡ None
  unfolding first_of
  none_of zero from e q low high = absurd (omega arith)
  none_of (suc n) from e q low high = go (at_start s t from).hit refl (none_of n (from + 1)) e
    where
      go : (o : Option Hit) → (at_start s t from).hit ≡ o →
          ((first_of s t n (from + 1)).found ≡ None → (p : ℕ) → from + 1 ≤ p → p < from + 1 + n → (at_start s t p).hit ≡ None) →
          (found_or from o (at_start s t from).cost (first_of s t n (from + 1))).found ≡ None → (at_start s t q).hit ≡ None
      go (Some hit) here later same = absurd (none-some (with_whole from hit) (sym same))
      go None here later same = from_here (λ p. (at_start s t p).hit ≡ None) from q here (λ on. later same q on (omega arith)) low

pub is_least : (t : Tree) (line : List ℕ) (from : ℕ) (allow_a allow_g : Bool) (caps : Caps) → first_match t line from allow_a allow_g ≡ Some caps → IsLeast t line from allow_a allow_g caps
is_least t line from allow_a allow_g caps e =
    let least = least_of (subject line from allow_a allow_g) t (length line + 1 - from) from caps e in
    let low = least.low in
    let high = least.high in
    record {
      start = least.start;
      hit = least.hit;
      from_first = low;
      to_end = omega arith;
      matches = least.matches;
      none_before = least.none_before;
      groups = least.groups;
    }

blank_within : (n count : ℕ) → AreWithin n (replicate count None)
blank_within n zero group start end e = absurd (none-some _ e)
blank_within n (suc count) zero start end e = absurd cc
blank_within n (suc count) (suc group) start end e = blank_within n count group start end e

pub within : (t : Tree) (line : List ℕ) (from : ℕ) (allow_a allow_g : Bool) (caps : Caps) → first_match t line from allow_a allow_g ≡ Some caps → AreWithin (length line) caps
within t line from allow_a allow_g caps e =
    let least = is_least t line from allow_a allow_g caps e in
    let s = subject line from allow_a allow_g in
    let none = blank_within (length line) (last_group t + 1) in
    let ends = tree_ends s t accept least.start least.start (blank t) (omega arith) least.to_end (accept_ends s least.start) least.hit least.matches in
    subst (AreWithin (length line)) (sym least.groups)
    (within_set (length line) least.hit.caps 0 least.start least.hit.end ends.0 ends.1
    (match_kept s t least.start (blank t) least.hit least.to_end none least.matches))

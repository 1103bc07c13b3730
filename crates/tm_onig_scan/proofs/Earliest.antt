-- The winner is found earliest of its patterns, and is the first of those found there.
use Rattle.std.proofs.Common.{◌≡◌, ℕ, zero, suc, ◌+◌, ◌-◌, ◌<◌, ◌≤◌, Bool, true, false, cond, List, [], ◌∷◌, length, Some, None, Option, refl, ap, ◌∙◌, arith, nat_lt, replicate, add-one, subst}
use Rattle.std.specs.Prelude.{slice_get, slice_set, MatchOption, option_map}
use Rattle.std.proofs.lemmas.Bool.Decides.{nat_tests}
use Rattle.tm_onig_class.specs.Tree.{Tree}
use Rattle.tm_onig_search.specs.Outcomes.{Caps, Hit, accept}
use Rattle.tm_onig_search.specs.Places.{subject}
use Rattle.tm_onig_search.specs.Find.{hit_at, blank, last_group, with_whole, IsLeast}
use Rattle.tm_onig_search.proofs.Least.{is_least, none_of}
use Rattle.tm_onig_scan.specs.Winner.{start_of, found, earlier, winner_from, earliest_winner}
use Rattle.tm_onig_scan.specs.WinnerLaws.{IsWinner, IsEarliest}
use Rattle.tm_onig_scan.proofs.Kept.{tree_kept, accept_kept}

-- there is a place for the whole match
abbrev HasWhole : Caps → Type 0
HasWhole caps = 0 < length caps

set_whole : (caps : Caps) (number start end : ℕ) → HasWhole caps → HasWhole (slice_set caps number (Some (start, end)))
set_whole [] number start end has = has
set_whole (c ∷ cs) zero start end has = omega arith
set_whole (c ∷ cs) (suc number) start end has = omega arith

blank_whole : (n : ℕ) → HasWhole (replicate (n + 1) None)
blank_whole n = rw (add-one n) (omega arith)

start_of-whole : (start : ℕ) (hit : Hit) → HasWhole hit.caps → start_of (with_whole start hit) ≡ start
start_of-whole start hit = go hit.caps
  where
    go : (caps : Caps) → HasWhole caps → start_of (slice_set caps 0 (Some (start, hit.end))) ≡ start
    go [] has = absurd (omega (arith, has))
    go (c ∷ cs) has = refl

module _ (line : List ℕ) (from : ℕ) (allow_a allow_g : Bool) where
  -- the start of a first match stands in its groups
  pub start_of-least : (t : Tree) (caps : Caps) → (least : IsLeast t line from allow_a allow_g caps) → start_of caps ≡ least.start
  start_of-least t caps least =
      ap start_of least.groups
      ∙ start_of-whole least.start least.hit
      (tree_kept (subject line from allow_a allow_g) HasWhole set_whole t accept (accept_kept (subject line from allow_a allow_g) HasWhole set_whole) least.start (blank t) least.hit (blank_whole (last_group t)) least.matches)

  -- the pattern matches at no start before q
  abbrev Misses : Option Tree → ℕ → Type 0
  Misses p q = (tree : Tree) (start : ℕ) → p ≡ Some tree → from ≤ start → start < q → hit_at tree line from allow_a allow_g start ≡ None

  misses-less : (p : Option Tree) (q r : ℕ) → r ≤ q → Misses p q → Misses p r
  misses-less p q r le miss tree start is low high = miss tree start is low (omega arith)

  -- what a pattern that is found says of its groups
  record Finds (p : Option Tree) (caps : Caps) : Type 0 where
    pub tree : Tree
    pub is : p ≡ Some tree
    pub least : IsLeast tree line from allow_a allow_g caps
    pub misses : Misses p (start_of caps)
    pub inside : start_of caps ≤ length line

  finds : (p : Option Tree) (caps : Caps) → found line from allow_a allow_g p ≡ Some caps → Finds p caps
  finds None caps e = absurd cc
  finds (Some tree) caps e =
      let least = is_least tree line from allow_a allow_g caps e in
      let start : start_of caps ≡ least.start = start_of-least tree caps least in
      let inside = least.to_end in
      record {
        tree = tree;
        is = refl;
        least = least;
        misses = λ t q same low high. let one : tree ≡ t = cc in subst (λ x. hit_at x line from allow_a allow_g q ≡ None) one (least.none_before q low (omega arith));
        inside = omega arith;
      }

  misses : (p : Option Tree) → found line from allow_a allow_g p ≡ None → Misses p (length line + 1)
  misses None e tree start is low high = absurd cc
  misses (Some t) e tree start is low high =
      let one : t ≡ tree = cc in
      subst (λ x. hit_at x line from allow_a allow_g start ≡ None) one
      (none_of (subject line from allow_a allow_g) t (length line + 1 - from) from e start low (omega arith))

  -- of patterns that are numbered from n on one wins
  record Wins (n : ℕ) (ps : List (Option Tree)) (winner : ℕ × Caps) : Type 0 where
    pub index : ℕ
    pub number : winner.0 ≡ n + index
    pub pattern : Option Tree
    pub listed : slice_get ps index ≡ Some pattern
    pub finds : Finds pattern winner.1
    pub none_earlier : (j : ℕ) (p : Option Tree) → slice_get ps j ≡ Some p → Misses p (start_of winner.1)
    pub none_before : (j : ℕ) (p : Option Tree) → j < index → slice_get ps j ≡ Some p → Misses p (start_of winner.1 + 1)

  abbrev AllMiss : List (Option Tree) → Type 0
  AllMiss ps = (j : ℕ) (p : Option Tree) → slice_get ps j ≡ Some p → Misses p (length line + 1)

  -- the winner of a longer list
  later : (n : ℕ) (p : Option Tree) (ps : List (Option Tree)) (f : ℕ × Caps) → Misses p (start_of f.1 + 1) → Wins (n + 1) ps f → Wins n (p ∷ ps) f
  later n p ps f miss h = record {
    index = suc h.index;
    number = let is = h.number in omega arith;
    pattern = h.pattern;
    listed = h.listed;
    finds = h.finds;
    none_earlier = early;
    none_before = ahead;
  }
    where
      early : (j : ℕ) (q : Option Tree) → slice_get (p ∷ ps) j ≡ Some q → Misses q (start_of f.1)
      early zero q e = let same : p ≡ q = cc in subst (λ x. Misses x (start_of f.1)) same (misses-less p (start_of f.1 + 1) (start_of f.1) (omega arith) miss)
      early (suc j) q e = h.none_earlier j q e

      ahead : (j : ℕ) (q : Option Tree) → j < suc h.index → slice_get (p ∷ ps) j ≡ Some q → Misses q (start_of f.1 + 1)
      ahead zero q lt e = let same : p ≡ q = cc in subst (λ x. Misses x (start_of f.1 + 1)) same miss
      ahead (suc j) q lt e = h.none_before j q (omega arith) e

  -- the first of a list wins
  head : (n : ℕ) (p : Option Tree) (ps : List (Option Tree)) (caps : Caps) → Finds p caps → ((j : ℕ) (q : Option Tree) → slice_get ps j ≡ Some q → Misses q (start_of caps)) → Wins n (p ∷ ps) (n, caps)
  head n p ps caps f below = record {
    index = 0;
    number = omega arith;
    pattern = p;
    listed = refl;
    finds = f;
    none_earlier = early;
    none_before = λ j q lt e. absurd (omega arith);
  }
    where
      early : (j : ℕ) (q : Option Tree) → slice_get (p ∷ ps) j ≡ Some q → Misses q (start_of caps)
      early zero q e = let same : p ≡ q = cc in subst (λ x. Misses x (start_of caps)) same f.misses
      early (suc j) q e = below j q e

  wins : (n : ℕ) (ps : List (Option Tree)) → MatchOption (winner_from line from allow_a allow_g n ps) (AllMiss ps) (Wins n ps)
  wins n [] = λ j p e. absurd cc
  wins n (p ∷ ps) = go (found line from allow_a allow_g p) refl (winner_from line from allow_a allow_g (n + 1) ps) (wins (n + 1) ps)
    where
      go : (x : Option Caps) → found line from allow_a allow_g p ≡ x → (w : Option (ℕ × Caps)) → MatchOption w (AllMiss ps) (Wins (n + 1) ps) →
          MatchOption (earlier (option_map (λ caps. (n, caps)) x) w) (AllMiss (p ∷ ps)) (Wins n (p ∷ ps))
      go None e None h = none
        where
          none : AllMiss (p ∷ ps)
          none zero q is = let same : p ≡ q = cc in subst (λ x. Misses x (length line + 1)) same (misses p e)
          none (suc j) q is = h j q is
      go None e (Some f) h = let inside = h.finds.inside in later n p ps f (misses-less p (length line + 1) (start_of f.1 + 1) (omega arith) (misses p e)) h
      go (Some caps) e None h =
          let f = finds p caps e in
          let inside = f.inside in
          head n p ps caps f (λ j q is. misses-less q (length line + 1) (start_of caps) (omega arith) (h j q is))
      go (Some caps) e (Some b) h = by (nat_lt (start_of b.1) (start_of caps)) refl
        where
          by : (t : Bool) → nat_lt (start_of b.1) (start_of caps) ≡ t → MatchOption (cond t (Some b) (Some (n, caps))) (AllMiss (p ∷ ps)) (Wins n (p ∷ ps))
          by true is =
              let lt : start_of b.1 < start_of caps = grind (arith, nat_tests) in
              later n p ps b (misses-less p (start_of caps) (start_of b.1 + 1) (omega arith) (finds p caps e).misses) h
          by false is =
              let le : start_of caps ≤ start_of b.1 = grind (arith, nat_tests) in
              head n p ps caps (finds p caps e) (λ j q got. misses-less q (start_of b.1) (start_of caps) le (h.none_earlier j q got))

  winner : (ps : List (Option Tree)) (w : ℕ × Caps) → Wins 0 ps w → IsWinner line from allow_a allow_g ps w
  winner ps w h =
      let f = h.finds in
      let number : h.index ≡ w.0 = let is = h.number in omega arith in
      let start : start_of w.1 ≡ f.least.start = start_of-least f.tree w.1 f.least in
      record {
        tree = f.tree;
        listed = subst (λ i. slice_get ps i ≡ Some (Some f.tree)) number (h.listed ∙ ap Some f.is);
        least = f.least;
        none_earlier = λ j other q e low high. h.none_earlier j (Some other) e other q refl low (omega arith);
        none_before = λ j other lt e.
            let low = f.least.from_first in h.none_before j (Some other) (omega arith) e other f.least.start refl low (omega arith);
      }

  pub earliest : (ps : List (Option Tree)) → IsEarliest line from allow_a allow_g ps
  earliest ps = go (earliest_winner line from allow_a allow_g ps) (wins 0 ps)
    where
      go : (w : Option (ℕ × Caps)) → MatchOption w (AllMiss ps) (Wins 0 ps) →
          MatchOption w
          ((j : ℕ) (tree : Tree) (start : ℕ) → slice_get ps j ≡ Some (Some tree) → from ≤ start → start ≤ length line → hit_at tree line from allow_a allow_g start ≡ None)
          (IsWinner line from allow_a allow_g ps)
      go None h = λ j tree start e low high. h j (Some tree) e tree start refl low (omega arith)
      go (Some w) h = winner ps w h

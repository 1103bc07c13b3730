-- There is one winner.
use Rattle.std.proofs.Common.{◌≡◌, ℕ, ◌<◌, ◌≤◌, length, Bool, true, false, List, Some, None, Option, refl, ap, sym, ◌∙◌, arith, nat_lt}
use Rattle.std.specs.Prelude.{slice_get, MatchOption}
use Rattle.std.proofs.lemmas.Bool.Decides.{nat_tests}
use Rattle.tm_onig_class.specs.Tree.{Tree}
use Rattle.tm_onig_search.specs.Outcomes.{Caps}
use Rattle.tm_onig_search.specs.Find.{hit_at, with_whole}
use Rattle.tm_onig_scan.specs.Winner.{earliest_winner}
use Rattle.tm_onig_scan.specs.WinnerLaws.{IsWinner}
use Rattle.tm_onig_scan.proofs.Earliest.{earliest}

none_some : {A : Type 0} (o : Option A) (x : A) → o ≡ None → o ≡ Some x → ⊥
none_some o x e f = cc

equal : (a b : ℕ) → (a < b → ⊥) → (b < a → ⊥) → a ≡ b
equal a b below above = go (nat_lt a b) refl (nat_lt b a) refl
  where
    go : (x : Bool) → nat_lt a b ≡ x → (y : Bool) → nat_lt b a ≡ y → a ≡ b
    go true e y f = absurd (below (grind (arith, nat_tests)))
    go false e true f = absurd (above (grind (arith, nat_tests)))
    go false e false f = grind (arith, nat_tests)

pair : (a c : ℕ) (b d : Caps) → a ≡ c → b ≡ d → ◌≡◌ {A = ℕ × Caps} (a, b) (c, d)
pair a c b d e f = rw (e, f) refl

module _ (line : List ℕ) (from : ℕ) (allow_a allow_g : Bool) (ps : List (Option Tree)) where
  not_earlier : (v w : ℕ × Caps) → (g : IsWinner line from allow_a allow_g ps v) → (h : IsWinner line from allow_a allow_g ps w) → g.least.start < h.least.start → ⊥
  not_earlier v w g h lt =
      none_some (hit_at g.tree line from allow_a allow_g g.least.start) g.least.hit (h.none_earlier v.0 g.tree g.least.start g.listed g.least.from_first lt) g.least.matches

  not_before : (v w : ℕ × Caps) → (g : IsWinner line from allow_a allow_g ps v) → (h : IsWinner line from allow_a allow_g ps w) → g.least.start ≡ h.least.start → v.0 < w.0 → ⊥
  not_before v w g h start lt =
      none_some (hit_at g.tree line from allow_a allow_g g.least.start) g.least.hit (rw start (h.none_before v.0 g.tree lt g.listed)) g.least.matches

  same : (v w : ℕ × Caps) → IsWinner line from allow_a allow_g ps v → IsWinner line from allow_a allow_g ps w → v ≡ w
  same v w g h =
      let start : g.least.start ≡ h.least.start = equal g.least.start h.least.start (not_earlier v w g h) (not_earlier w v h g) in
      let number : v.0 ≡ w.0 = equal v.0 w.0 (not_before v w g h start) (not_before w v h g (sym start)) in
      let both : Some (Some g.tree) ≡ Some (Some h.tree) = sym g.listed ∙ ap (slice_get ps) number ∙ h.listed in
      let tree : g.tree ≡ h.tree = cc in
      let hits : Some g.least.hit ≡ Some h.least.hit =
      sym g.least.matches ∙ ap (λ t. hit_at t line from allow_a allow_g g.least.start) tree ∙ ap (hit_at h.tree line from allow_a allow_g) start ∙ h.least.matches in
      let hit : g.least.hit ≡ h.least.hit = cc in
      let caps : v.1 ≡ w.1 = g.least.groups ∙ ap (λ s. with_whole s g.least.hit) start ∙ ap (with_whole h.least.start) hit ∙ sym h.least.groups in
      pair v.0 w.0 v.1 w.1 number caps

  pub only : (w : ℕ × Caps) → IsWinner line from allow_a allow_g ps w → earliest_winner line from allow_a allow_g ps ≡ Some w
  only w h = go (earliest_winner line from allow_a allow_g ps) (earliest line from allow_a allow_g ps)
    where
      go : (o : Option (ℕ × Caps)) → MatchOption o
          ((j : ℕ) (tree : Tree) (start : ℕ) → slice_get ps j ≡ Some (Some tree) → from ≤ start → start ≤ length line → hit_at tree line from allow_a allow_g start ≡ None)
          (IsWinner line from allow_a allow_g ps) → o ≡ Some w
      go None miss =
          absurd (none_some (hit_at h.tree line from allow_a allow_g h.least.start) h.least.hit (miss w.0 h.tree h.least.start h.listed h.least.from_first h.least.to_end) h.least.matches)
      go (Some v) g = ap Some (same v w g h)

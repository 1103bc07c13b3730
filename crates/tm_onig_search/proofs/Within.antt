-- Groups within a text, and where a look-behind succeeds.
use Rattle.std.proofs.Common.{◌≡◌, ℕ, zero, suc, ◌-◌, ◌≤◌, [], ◌∷◌, Option, Some, ⊎_elim, ap, arith}
use Rattle.std.specs.Prelude.{slice_set, min, nat_le, ◌&&◌}
use Rattle.tm_onig_search.specs.Outcomes.{Caps, Hit, Outcome, fail}
use Rattle.tm_onig_search.specs.Search.{look_back}
use Rattle.tm_onig_search.specs.Search.{nearest, width_or}
use Rattle.tm_onig_search.specs.Find.{AreWithin}
use Rattle.tm_onig_search.proofs.Hits.{or_else_hit, cond_hit, fail_hit}

pair_same : (x y : ℕ × ℕ) → Some (Some x) ≡ Some (Some y) → x ≡ y
pair_same x y e = cc

-- one more group is set
pub within_set : (n : ℕ) (caps : Caps) (number start end : ℕ) → start ≤ end → end ≤ n → AreWithin n caps → AreWithin n (slice_set caps number (Some (start, end)))
within_set n [] number start end low high all i a b e = all i a b e
within_set n (c ∷ cs) zero start end low high all zero a b e =
    let same = pair_same (start, end) (a, b) e in
    let first : start ≡ a = ap (λ (x : ℕ × ℕ). x.0) same in
    let second : end ≡ b = ap (λ (x : ℕ × ℕ). x.1) same in
    (omega arith, omega arith)
within_set n (c ∷ cs) zero start end low high all (suc i) a b e = all (suc i) a b e
within_set n (c ∷ cs) (suc number) start end low high all zero a b e = all zero a b e
within_set n (c ∷ cs) (suc number) start end low high all (suc i) a b e = within_set n cs number start end low high (λ j x y got. all (suc j) x y got) i a b e

nearest_hit : (attempt : ℕ → Outcome) (n q : ℕ) (h : Hit) → (nearest attempt n q).hit ≡ Some h → (p : ℕ) × (p ≤ q) × ((attempt p).hit ≡ Some h)
unfolding nearest
nearest_hit attempt zero q h e = (q, omega arith, e)
nearest_hit attempt (suc n) q h e =
    ⊎_elim (λ here. (q, omega arith, here))
    (λ later. let found = nearest_hit attempt n (q - 1) h later in let low = found.1 in (found.0, omega arith, found.2))
    (or_else_hit (attempt q) (nearest attempt n (q - 1)) h e)

pub behind_hit : (attempt : ℕ → Outcome) (least : ℕ) (greatest : Option ℕ) (pos : ℕ) (h : Hit) → (look_back attempt least greatest pos).hit ≡ Some h →
    (p : ℕ) × (p ≤ pos) × ((attempt p).hit ≡ Some h)
behind_hit attempt least greatest pos h e =
    let more = min pos (width_or greatest pos) - least in
    let tried = nearest attempt more (pos - least) in
    let from_start : tried.hit ≡ Some h → (p : ℕ) × (p ≤ pos) × ((attempt p).hit ≡ Some h) =
    λ got. let found = nearest_hit attempt more (pos - least) h got in let low = found.1 in (found.0, omega arith, found.2) in
    ⊎_elim from_start (λ none. absurd (fail_hit h none)) (cond_hit (nat_le least pos && nat_le least (width_or greatest pos)) tried fail h e)

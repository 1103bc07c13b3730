-- A text that stands in a line, character by character.
use Rattle.std.proofs.Common.{◌≡◌, ℕ, zero, suc, ◌+◌, ◌<◌, ◌≤◌, Bool, true, false, ◌&&◌, List, [], ◌∷◌, length, get_or, drop, slice_get, refl, sym, ap, ◌∙◌, arith}
use Rattle.std.proofs.Math.Seq.{drop-cons}
use Rattle.std.proofs.Math.ListN.{drop_of_length-le}
use Rattle.tm_onig_search.specs.Places.{passes, matches, begins}

begins-cons : (fold : Bool) (c : ℕ) (cs line : List ℕ) (at : ℕ) → begins fold (c ∷ cs) (drop at line) ≡ (passes (matches fold c) (slice_get line at) && begins fold cs (drop (suc at) line))
begins-cons fold c cs [] zero = refl
begins-cons fold c cs [] (suc at) = refl
begins-cons fold c cs (d ∷ ds) zero = refl
begins-cons fold c cs (d ∷ ds) (suc at) = begins-cons fold c cs ds at

module _ (fold : Bool) (text line : List ℕ) (pos i c : ℕ) (inside : i < length text) (is : c ≡ get_or text i c) (whole : Bool)
    (was : whole ≡ begins fold (drop i text) (drop (pos + i) line)) where
  split : whole ≡ (passes (matches fold c) (slice_get line (pos + i)) && begins fold (drop (suc i) text) (drop (suc (pos + i)) line))
  split =
      was ∙ ap (λ (cs : List ℕ). begins fold cs (drop (pos + i) line)) (drop-cons text i c inside ∙ ap (λ (x : ℕ). x ∷ drop (suc i) text) (sym is))
      ∙ begins-cons fold c (drop (suc i) text) line (pos + i)

  pub differs : false ≡ passes (matches fold c) (slice_get line (pos + i)) → false ≡ whole
  differs e = ap (λ (b : Bool). b && begins fold (drop (suc i) text) (drop (suc (pos + i)) line)) e ∙ sym split

  pub agrees : true ≡ passes (matches fold c) (slice_get line (pos + i)) → whole ≡ begins fold (drop (i + 1) text) (drop (pos + (i + 1)) line)
  agrees e =
      let at : suc (pos + i) ≡ pos + (i + 1) = omega arith in
      let next : suc i ≡ i + 1 = omega arith in
      rw (← at, ← next) (split ∙ ap (λ (b : Bool). b && begins fold (drop (suc i) text) (drop (suc (pos + i)) line)) (sym e))

-- the whole text was compared
pub ended : (fold : Bool) (text rest : List ℕ) (i : ℕ) → length text ≤ i → true ≡ begins fold (drop i text) rest
ended fold text rest i high = rw (drop_of_length-le text high) refl

-- How many include-only rules are not open, when one more is opened.
use Rattle.std.proofs.Common.{◌≡◌, ℕ, zero, suc, ◌+◌, ◌<◌, ◌≤◌, ◌≢◌, ◌&&◌, not, true, false, List, ◌∷◌, Option, Some, length, slice_get, inl, inr, refl, ap, ap₂, sym, ◌∙◌, arith}
use Rattle.std.specs.Prelude.{None, nat_eq, if◌then◌else◌}
use Rattle.std.proofs.lemmas.Bool.{eq-eqb}
use Rattle.std.proofs.lemmas.Bool.Decides.{eqb_tells, nat_tests}
use Rattle.std.proofs.lemmas.Option.{slice_get_within}
use Rattle.tm_rules.specs.Candidates.{is_among, unopened_below, unopened}
use Rattle.tm_rules.specs.Readers.{is_only}
use Rattle.tm_defs.specs.declared.rules.Rule.{Rule}

pub apart-eq : (m n : ℕ) → (m ≢ n) → nat_eq m n ≡ false
apart-eq m n h = grind (arith, nat_tests)

pub same-eq : (n : ℕ) → nat_eq n n ≡ true
same-eq n = eq-eqb n n refl

-- a number with an include-only rule is that of a rule
only_at : (rules : List Rule) (n : ℕ) (r : Option Rule) → slice_get rules n ≡ r → is_only r ≡ true → n < length rules
only_at rules n None e h = absurd (cc)
only_at rules n (Some r) e h = slice_get_within rules n r e

pub only_within : (rules : List Rule) (n : ℕ) → is_only (slice_get rules n) ≡ true → n < length rules
only_within rules n h = only_at rules n (slice_get rules n) refl h

module _ (rules : List Rule) (opened : List ℕ) (n : ℕ) where
  abbrev here : List ℕ → ℕ → ℕ
  here opened m = if is_only (slice_get rules m) && not (is_among m opened) then 1 else 0

  -- of other rules it is not told
  here_other : (m : ℕ) → (m ≢ n) → here opened m ≡ here (n ∷ opened) m
  here_other m h = rw (apart-eq m n h) refl

  unopened-before : (m : ℕ) → m ≤ n → unopened_below rules opened m ≡ unopened_below rules (n ∷ opened) m
  unopened-before zero h = refl
  unopened-before (suc m) h = ap₂ (λ (a b : ℕ). a + b) (here_other m (λ e. absurd (omega arith))) (unopened-before m (omega arith))

  module _ (only : is_only (slice_get rules n) ≡ true) (closed : is_among n opened ≡ false) where
    here_before : here opened n ≡ 1
    here_before = rw (only, closed) refl

    here_after : here (n ∷ opened) n ≡ 0
    here_after = rw (only, same-eq n) refl

    one_more : (u : ℕ) → 1 + u ≡ suc (0 + u)
    one_more u = omega arith

    moved : (a u : ℕ) → a + suc u ≡ suc (a + u)
    moved a u = omega arith

    above : (m : ℕ) → n < suc m → (m ≢ n) → n < m
    above m h apart = omega (arith, apart)

    unopened-behind : (m : ℕ) → n < m → unopened_below rules opened m ≡ suc (unopened_below rules (n ∷ opened) m)
    unopened-behind zero h = absurd (omega arith)
    unopened-behind (suc m) h = elim (eqb_tells m n) [
      | inl e ↦ ap₂ (λ (a b : ℕ). a + b) (ap (here opened) e.1 ∙ here_before) (unopened-before m (omega (arith, e.1)))
          ∙ one_more (unopened_below rules (n ∷ opened) m)
          ∙ sym (ap (λ (a : ℕ). suc (a + unopened_below rules (n ∷ opened) m)) (ap (here (n ∷ opened)) e.1 ∙ here_after))
      | inr e ↦ ap₂ (λ (a b : ℕ). a + b) (here_other m e.1) (unopened-behind m (above m h e.1)) ∙ moved (here (n ∷ opened) m) (unopened_below rules (n ∷ opened) m)
    ]

    -- one less is not open
    pub unopened-opened : unopened rules opened ≡ suc (unopened rules (n ∷ opened))
    unopened-opened = unopened-behind (length rules) (only_within rules n only)

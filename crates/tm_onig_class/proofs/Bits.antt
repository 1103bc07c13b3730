-- A bit that is set in a table of 128 bits.
use Rattle.std.proofs.Common.{◌≡◌, ℕ, ◌*◌, ◌<◌, ◌^◌, ◌%◌, max, bit_or, Bool, true, false, ◌||◌, ◌==◌, inl, inr, refl, sym, ap, subst, ◌∙◌, arith, eqb-true, eq-eqb}
use Rattle.std.specs.Int.{bit_at}
use Rattle.std.proofs.lemmas.Bool.{cases_Bool, both_ways}
use Rattle.std.proofs.lemmas.Bool.Decides.{nat_tests}
use Rattle.std.proofs.lemmas.Nat.{one_shl}
use Rattle.std.proofs.lemmas.Nat.Bits.{bit_at_or, bit_at-pow_same, bit_at-pow_other}
use Rattle.tm_onig_class.specs.Ascii.{has_bit}

-- a bit that is set here
bit_same : (a b : ℕ) → b ≡ 1 → a < 2 → (max a b == 1) ≡ true
bit_same a b e lt = grind (arith, nat_tests)

-- a bit that is set elsewhere
bit_other : (a b : ℕ) → b ≡ 0 → (max a b == 1) ≡ (a == 1)
bit_other a b e = grind (arith, nat_tests)

-- the table with one more bit
pub set_bit : (table code i : ℕ) → code < 128 → has_bit (bit_or table (1 * 2 ^ code % 2 ^ 128)) i ≡ (has_bit table i || (i == code))
set_bit table code i lt =
    ap (λ m. has_bit (bit_or table m) i) (one_shl code 128 lt) ∙ ap (λ b. b == 1) (bit_at_or table (2 ^ code) i)
    ∙ elim (cases_Bool (i == code)) [
      | inl same ↦
          let at : bit_at (2 ^ code) i ≡ 1 = subst (λ k. bit_at (2 ^ code) k ≡ 1) (sym (eqb-true i code same)) (bit_at-pow_same code) in
          bit_same (bit_at table i) (bit_at (2 ^ code) i) at (omega arith) ∙ sym (ap (λ b. has_bit table i || b) same ∙ or_true (has_bit table i))
      | inr apart ↦
          let at : bit_at (2 ^ code) i ≡ 0 = bit_at-pow_other code i (λ e. both_ways _ apart (eq-eqb i code e)) in
          bit_other (bit_at table i) (bit_at (2 ^ code) i) at ∙ sym (ap (λ b. has_bit table i || b) apart ∙ or_false (has_bit table i))
    ]
  where
    or_true : (b : Bool) → (b || true) ≡ true
    or_true true = refl
    or_true false = refl

    or_false : (b : Bool) → (b || false) ≡ b
    or_false true = refl
    or_false false = refl

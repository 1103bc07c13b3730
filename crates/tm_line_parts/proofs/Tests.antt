-- What a test of the code says in the words of the definitions.
use Rattle.std.proofs.Common.{◌≡◌, ℕ, ◌<◌, Bool, true, false, nat_lt, refl, arith}
use Rattle.std.proofs.lemmas.Bool.Decides.{nat_tests}

pub is-less : (a b : ℕ) → a < b → nat_lt a b ≡ true
is-less a b h = grind (arith, nat_tests)

pub not-less : (a b : ℕ) → (a < b → ⊥) → nat_lt a b ≡ false
not-less a b h = by-test (nat_lt a b) refl
  where
    by-test : (x : Bool) → nat_lt a b ≡ x → nat_lt a b ≡ false
    by-test true e = absurd (h (grind (arith, nat_tests)))
    by-test false e = e

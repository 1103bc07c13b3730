-- Ranks keep the order of characters.
use Rattle.std.proofs.Common.{◌≡◌, ℕ, ◌<◌, ◌≤◌, Bool, true, false, ◌||◌, ◌&&◌, inl, inr, ⊎_elim, List, [], ◌∷◌, refl, sym, ap₂, ◌∙◌, arith, leb-true}
use Rattle.std.specs.Prelude.{nat_le}
use Rattle.std.proofs.lemmas.Bool.Decides.{nat_tests}
use Rattle.regex_class.specs.Ranges.{Range, in_range, in_ranges, IsCanonical, HasExactly}
use Rattle.std.specs.Char.{IsScalar}
use Rattle.std.proofs.Math.Utf8.{scalar_cases}
use Rattle.std.proofs.lemmas.Bool.{and_parts, or_cases, both_ways, cases_lt}
use Rattle.regex_class.proofs.RangesLemmas.{in_ranges-above_max}
use Rattle.tm_onig_class.specs.Ranks.{rank_of, char_of, chars_of, AreRanks}
use Rattle.tm_onig_class.specs.Members.{has_char, IsChar}

-- the order of ranks is that of characters
le_left : (a c : ℕ) → IsChar c → nat_le (char_of a) c ≡ nat_le a (rank_of c)
le_left a c is = grind (arith, nat_tests)

-- the order of ranks is that of characters
le_right : (a c : ℕ) → IsChar c → nat_le c (char_of a) ≡ nat_le (rank_of c) a
le_right a c is = grind (arith, nat_tests)

-- a character lies in ranges where its rank lies in those of ranks
pub has_char-ranks : (rs : List (ℕ × ℕ)) (c : ℕ) → IsChar c → has_char (chars_of rs) c ≡ in_ranges rs (rank_of c)
unfolding in_ranges in_range
has_char-ranks [] c is = refl
has_char-ranks (r ∷ rs) c is = ap₂ ◌||◌ (ap₂ ◌&&◌ (le_left r.0 c is) (le_right r.1 c is)) (has_char-ranks rs c is)

-- the last rank bounds those of characters
pub rank_bound : (c : ℕ) → IsChar c → rank_of c ≤ 0x10F7FF
rank_bound c is = grind (arith, nat_tests)

-- ranks are no greater than code points
pub rank_small : (c : ℕ) → IsChar c → rank_of c ≤ 0x10FFFF
rank_small c is = grind (arith, nat_tests)

-- characters with one rank are one
pub rank_apart : (a b : ℕ) → IsChar a → IsChar b → rank_of a ≡ rank_of b → a ≡ b
rank_apart a b x y e = grind (arith, nat_tests)

-- each character is within the last rank
pub within_all : (c : ℕ) → IsChar c → (b : Bool) → (nat_le (rank_of c) 0x10F7FF && b) ≡ b
within_all c is b = let t : nat_le (rank_of c) 0x10F7FF ≡ true = grind (arith, nat_tests) in rw t refl

-- a scalar value is a character
pub scalar_is : (c : ℕ) → IsScalar c → IsChar c
scalar_is c is = ⊎_elim inl (λ high. inr (high.0, omega arith)) (scalar_cases c is)

-- a range of ranks has the characters between
pub one_range : (first last c : ℕ) → IsChar first → IsChar last → IsChar c →
    in_ranges ((rank_of first, rank_of last) ∷ []) (rank_of c) ≡ (nat_le first c && nat_le c last)
unfolding in_ranges in_range
one_range first last c f l is = rw or_false (ap₂ ◌&&◌ (ranks_le first c f is) (ranks_le c last is l))
  where
    or_false : (b : Bool) → (b || false) ≡ b
    or_false true = refl
    or_false false = refl

    ranks_le : (a b : ℕ) → IsChar a → IsChar b → nat_le (rank_of a) (rank_of b) ≡ nat_le a b
    ranks_le a b x y = grind (arith, nat_tests)

-- where a class has exactly what a test passes, and only ranks pass
pub AreRanks-of : (rs : List Range) (p : ℕ → Bool) → IsCanonical rs → HasExactly rs p → ((r : ℕ) → p r ≡ true → r ≤ 0x10F7FF) → AreRanks rs
AreRanks-of rs p canonical has within r is = elim (cases_lt 0x10_FFFF r) [
  | inl above ↦ absurd (both_ways _ (in_ranges-above_max rs r canonical above) is)
  | inr le ↦ within r (sym (has r le) ∙ is)
]

-- members of either are ranks
pub ranks_or : (xs ys : List Range) → AreRanks xs → AreRanks ys → (r : ℕ) → (in_ranges xs r || in_ranges ys r) ≡ true → r ≤ 0x10F7FF
ranks_or xs ys x y r h = ⊎_elim (x r) (y r) (or_cases _ _ h)

-- members of both are ranks
pub ranks_and : (xs ys : List Range) → AreRanks xs → (r : ℕ) → (in_ranges xs r && in_ranges ys r) ≡ true → r ≤ 0x10F7FF
ranks_and xs ys x r h = x r (and_parts _ _ h).0

-- what is within the last rank is one
pub ranks_within : (b : Bool) (r : ℕ) → (nat_le r 0x10F7FF && b) ≡ true → r ≤ 0x10F7FF
ranks_within b r h = leb-true _ _ (and_parts _ _ h).0

-- a range of ranks
pub ranks_one : (first last : ℕ) → IsChar last → (r : ℕ) → in_ranges ((rank_of first, rank_of last) ∷ []) r ≡ true → r ≤ 0x10F7FF
unfolding in_ranges in_range
ranks_one first last l r h = let b = rank_bound last l in grind (arith, nat_tests)

-- in ASCII a character is its rank
pub rank_ascii : (c : ℕ) → c < 128 → rank_of c ≡ c
rank_ascii c lt = grind (arith, nat_tests)

-- Ranges of code points as ranges of ranks.
use Rattle.std.proofs.Common.{◌≡◌, ℕ, ◌+◌, ◌<◌, ◌≤◌, Bool, true, false, ◌||◌, ◌&&◌, ◌==◌, ⊎_elim, List, [], ◌∷◌, ◌++◌, length, take, get_or, refl, sym, ap, ap₂, ◌∙◌, arith, leb-true}
use Rattle.std.specs.Prelude.{nat_le}
use Rattle.std.proofs.lemmas.Bool.{and_parts, or_cases}
use Rattle.std.proofs.lemmas.Bool.Decides.{nat_tests}
use Rattle.std.proofs.lemmas.List.{take_more}
use Rattle.regex_class.specs.Ranges.{Range, in_range, in_ranges}
use Rattle.regex_class.proofs.RangesLemmas.{in_ranges-push, or_assoc, or-false}
use Rattle.ucd_table.specs.Rows.{in_ranges as in_kit_ranges}
use Rattle.ucd_sets.specs.declared.set.Set.{Set as KitSet}
use Rattle.ucd_sets.specs.Sets.{in_set}
use Rattle.tm_onig_class.specs.Ranks.{rank_of, AreRanks, rank_from, rank_to}
use Rattle.tm_onig_class.specs.Members.{IsChar}
use Rattle.tm_onig_class.specs.Listed.{in_one, among}

-- ranks from a code point on are characters from it on
le_from : (a c : ℕ) → IsChar c → nat_le (rank_from a) (rank_of c) ≡ nat_le a c
le_from a c is = grind (arith, nat_tests)

-- ranks up to a code point are characters up to it
le_to : (b c : ℕ) → IsChar c → nat_le (rank_of c) (rank_to b) ≡ nat_le c b
le_to b c is = grind (arith, nat_tests)

-- the last rank bounds them
rank_to_bound : (b : ℕ) → rank_to b ≤ 0x10F7FF
rank_to_bound b = grind (arith, nat_tests)

-- a range of code points as one of ranks
pub in_range-codes : (r : Range) (c : ℕ) → IsChar c → in_range (rank_from r.0, rank_to r.1) (rank_of c) ≡ in_range r c
unfolding in_range
in_range-codes r c is = ap₂ ◌&&◌ (le_from r.0 c is) (le_to r.1 c is)

-- one range more is one of ranks
pub AreRanks-push : (ranks : List Range) (a b last : ℕ) → last ≡ rank_to b → AreRanks ranks → AreRanks (ranks ++ (a, last) ∷ [])
unfolding in_range
AreRanks-push ranks a b last e h r is = ⊎_elim (h r)
    (λ here. let le = leb-true r last (and_parts (nat_le a r) (nat_le r last) here).1 in let bound = rank_to_bound b in omega arith)
    (or_cases _ _ (sym (in_ranges-push ranks (a, last) r) ∙ is))

-- both crates read ranges alike
pub same_ranges : (rs : List Range) (c : ℕ) → in_ranges rs c ≡ in_kit_ranges rs c
unfolding in_ranges in_range in_kit_ranges
same_ranges [] c = refl
same_ranges (r ∷ rs) c = ap (λ b. (nat_le r.0 c && nat_le c r.1) || b) (same_ranges rs c)

-- what two lists of sets have
in_one-append : (xs ys : List KitSet) (c : ℕ) → in_one (xs ++ ys) c ≡ (in_one xs c || in_one ys c)
unfolding in_one
in_one-append [] ys c = refl
in_one-append (x ∷ xs) ys c = ap (λ b. in_set x c || b) (in_one-append xs ys c) ∙ or_assoc (in_set x c) (in_one xs c) (in_one ys c)

-- what one set more has
pub in_one-more : (xs : List KitSet) (i c : ℕ) (d : KitSet) → i < length xs → in_one (take (i + 1) xs) c ≡ (in_one (take i xs) c || in_set (get_or xs i d) c)
unfolding in_one
in_one-more xs i c d h =
    ap (λ l. in_one l c) (take_more xs i d h) ∙ in_one-append (take i xs) (get_or xs i d ∷ []) c
    ∙ ap (λ b. in_one (take i xs) c || b) (or-false _)

-- no sets have nothing
pub in_one-nil : (c : ℕ) → in_one [] c ≡ false
unfolding in_one
in_one-nil c = refl

-- the last of three may come first
pub or_middle : (x y z : Bool) → ((x || y) || z) ≡ ((x || z) || y)
or_middle true y z = refl
or_middle false true true = refl
or_middle false true false = refl
or_middle false false true = refl
or_middle false false false = refl

-- one set alone
pub among_alone : (s : KitSet) (c : ℕ) → among (s ∷ []) [] c ≡ in_set s c
unfolding in_one in_ranges
among_alone s c = or-false _ ∙ or-false _

-- one code point as a range
pub one_code : (c : ℕ) → (c == 0x85) ≡ (nat_le 0x85 c && nat_le c 0x85)
one_code c = grind (arith, nat_tests)

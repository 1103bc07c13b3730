-- The characters of words in ASCII.
use Rattle.std.proofs.Common.{◌≡◌, ℕ, zero, suc, ◌<◌, ◌==◌, Bool, true, false, not, ◌&&◌, if◌then◌else◌, true≢false, refl, sym, ap, ◌∙◌, arith}
use Rattle.std.proofs.lemmas.Bool.Decides.{nat_tests}
use Rattle.regex_class.specs.Ranges.{in_ranges}
use Rattle.ucd_category.proofs.Computing.{ucd_category}
use Rattle.ucd_sets.specs.Sets.{in_set}
use Rattle.tm_onig_class.specs.Ascii.{has_bit}
use Rattle.tm_onig_class.specs.Listed.{in_one, in_listed}
use Rattle.tm_onig_class.specs.declared.listed.Listed.TheVariants as L

abbrev same : Bool → Bool → Bool
same true b = b
same false b = not b

-- below n the two tests agree
unfoldable agree : (ℕ → Bool) → (ℕ → Bool) → ℕ → Bool
agree f g zero = true
agree f g (suc n) = same (f n) (g n) && agree f g n

same_is : (a b : Bool) → same a b ≡ true → a ≡ b
same_is true true e = refl
same_is true false e = absurd (true≢false (sym e))
same_is false true e = absurd (true≢false (sym e))
same_is false false e = refl

both : (a b : Bool) → (a && b) ≡ true → (a ≡ true) × (b ≡ true)
both true true e = (refl, refl)
both true false e = absurd (true≢false (sym e))
both false b e = absurd (true≢false (sym e))

-- where they agree at n, and at c if it is below n
step : (f g : ℕ → Bool) (n c : ℕ) → same (f n) (g n) ≡ true → (c < n → f c ≡ g c) → c < suc n → f c ≡ g c
step f g n c last below low = go (c == n) refl
  where
    go : (b : Bool) → (c == n) ≡ b → f c ≡ g c
    go true is = let e : c ≡ n = grind (arith, nat_tests) in rw e (same_is (f n) (g n) last)
    go false is = let lower : c < n = grind (arith, nat_tests) in below lower

agreed : (f g : ℕ → Bool) (n c : ℕ) → agree f g n ≡ true → c < n → f c ≡ g c
unfolding agree
agreed f g zero c all low = absurd (omega arith)
agreed f g (suc n) c all low =
    let parts = both (same (f n) (g n)) (agree f g n) all in step f g n c parts.0 (λ lower. agreed f g n c parts.1 lower) low

all_agree : agree (has_bit 0x07FFFFFE87FFFFFE03FF000000000000) (in_listed L.Word) 128 ≡ true
unfolding agree in_listed in_one in_set in_ranges ucd_category
all_agree = refl

pub ascii_word : (c : ℕ) → c < 128 → has_bit 0x07FFFFFE87FFFFFE03FF000000000000 c ≡ in_listed L.Word c
ascii_word c low = agreed (has_bit 0x07FFFFFE87FFFFFE03FF000000000000) (in_listed L.Word) 128 c all_agree low

others_agree : agree (has_bit 0xF800000178000001FC00FFFFFFFFFFFF) (λ c. not (has_bit 0x07FFFFFE87FFFFFE03FF000000000000 c)) 128 ≡ true
unfolding agree
others_agree = refl

pub ascii_other : (c : ℕ) → c < 128 → has_bit 0xF800000178000001FC00FFFFFFFFFFFF c ≡ not (in_listed L.Word c)
ascii_other c low = agreed (has_bit 0xF800000178000001FC00FFFFFFFFFFFF) (λ d. not (has_bit 0x07FFFFFE87FFFFFE03FF000000000000 d)) 128 c others_agree low ∙ ap not (ascii_word c low)

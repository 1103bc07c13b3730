-- The ranges of characters of a canonical class of ranks rise.
use Rattle.std.proofs.Common.{◌<◌, ◌≡◌, ◌+◌, ◌≤◌, Bool, true, false, ℕ, sym, ap, inl, inr, ◌&&◌, List, [], ◌∷◌, refl, ap₂, ◌∙◌, arith, le-leb}
use Rattle.std.proofs.lemmas.Bool.{cases_Bool, cases_lt, and_parts, or_left, or_right}
use Rattle.std.proofs.lemmas.Bool.Decides.{nat_tests}
use Rattle.regex_class.specs.Ranges.{Range, in_range, in_ranges, rises_from, fits_from}
use Rattle.regex_class.proofs.RangesLemmas.{fits_from-true, in_ranges-cons, same_members-same}
use Rattle.tm_onig_class.specs.Ranks.{rank_of, char_of, chars_of, AreRanks}
use Rattle.tm_onig_class.specs.Members.{has_char, IsChar}
use Rattle.tm_onig_class.proofs.Members.{has_char-ranks}
use Rattle.regex_class.specs.Ranges.{IsCanonical}
use Rattle.tm_onig_class.specs.Members.{next_char, is_char, is_range_from, ranges_rise}

-- a rank has a character
char_is : (r : ℕ) → r ≤ 0x10F7FF → is_char (char_of r) ≡ true
char_is r le = grind (arith, nat_tests)

-- characters are in the order of ranks
chars_le : (a b : ℕ) → a ≤ b → char_of a ≤ char_of b
chars_le a b le = grind (arith, nat_tests)

-- ranks that do not touch have characters that do not
after_gap : (a b : ℕ) → a + 2 ≤ b → next_char (char_of a) + 1 ≤ char_of b
after_gap a b le = grind (arith, nat_tests)

-- two tests that hold
both : (a b : Bool) → a ≡ true → b ≡ true → (a && b) ≡ true
both a b x y = ap₂ ◌&&◌ x y

-- the last member of a range is a member
last_is : (r : Range) (rs : List Range) → r.0 ≤ r.1 → in_ranges (r ∷ rs) r.1 ≡ true
unfolding in_ranges in_range
last_is r rs le = or_left _ _ (both _ _ (le-leb r.0 r.1 le) (le-leb r.1 r.1 (omega arith)))

-- ranges of characters rise as those of ranks do
rises : (n from : ℕ) (rs : List Range) → rises_from n rs ≡ true → ((b : ℕ) → n ≤ b → from ≤ char_of b) → AreRanks rs → ranges_rise from (chars_of rs) ≡ true
unfolding rises_from ranges_rise
rises n from [] h starts ranks = refl
rises n from (r ∷ rs) h starts ranks =
    let parts = and_parts (fits_from n r) (rises_from (r.1 + 2) rs) h in
    let fits = fits_from-true n r parts.0 in
    let last : r.1 ≤ 0x10F7FF = ranks r.1 (last_is r rs fits.1) in
    both (is_range_from from (char_of r.0, char_of r.1)) _
    (both _ _ (both _ _ (char_is r.0 (omega (arith, fits.1))) (char_is r.1 last)) (both _ _ (le-leb from (char_of r.0) (starts r.0 fits.0)) (le-leb (char_of r.0) (char_of r.1) (chars_le r.0 r.1 fits.1))))
    (rises (r.1 + 2) (next_char (char_of r.1) + 1) rs parts.1 (after_gap r.1) (λ x m. ranks x (in_ranges-cons r rs x ∙ or_right _ _ m)))

-- the ranges of a class rise
pub canonical-rises : (rs : List Range) → rises_from 0 rs ≡ true → AreRanks rs → ranges_rise 0 (chars_of rs) ≡ true
canonical-rises rs h ranks = rises 0 0 rs h (λ b le. omega arith) ranks

-- a rank has a character
char_of-IsChar : (r : ℕ) → r ≤ 0x10F7FF → IsChar (char_of r)
char_of-IsChar r le = grind (arith, nat_tests)

-- the rank of its character
rank_of-char_of : (r : ℕ) → rank_of (char_of r) ≡ r
rank_of-char_of r = grind (arith, nat_tests)

-- two classes of ranks with the same characters are one
pub same_ranks : (xs ys : List Range) → IsCanonical xs → IsCanonical ys → AreRanks xs → AreRanks ys →
    ((c : ℕ) → IsChar c → has_char (chars_of xs) c ≡ has_char (chars_of ys) c) → xs ≡ ys
same_ranks xs ys hx hy bx by same = same_members-same xs ys hx hy (λ r le. elim (cases_lt 0x10F7FF r) [
  | inl above ↦ none xs bx r above ∙ sym (none ys by r above)
  | inr within ↦
      let c = char_of r in
      let is = char_of-IsChar r within in
      ap (in_ranges xs) (sym (rank_of-char_of r)) ∙ sym (has_char-ranks xs c is) ∙ same c is ∙ has_char-ranks ys c is ∙ ap (in_ranges ys) (rank_of-char_of r)
])
  where
    none : (rs : List Range) → AreRanks rs → (r : ℕ) → 0x10F7FF < r → in_ranges rs r ≡ false
    none rs bounded r above = elim (cases_Bool (in_ranges rs r)) [ inl is ↦ let le = bounded r is in absurd (omega arith) | inr lacks ↦ lacks ]

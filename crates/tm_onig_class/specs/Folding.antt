-- Two characters match under folding where their simple foldings are one.
use Rattle.std.specs.Prelude.{◌≡◌, ℕ, zero, suc, Bool, false, ◌&&◌, ◌||◌, ◌==◌, List, [], ◌∷◌, IsTrue, Contains}
use Rattle.regex_class.specs.Ranges.{Range, in_ranges}
use Rattle.ucd_case.specs.CaseFolding.{simple_fold}
use Rattle.tm_onig_class.specs.Ranks.{rank_of}
use Rattle.tm_onig_class.specs.Members.{IsChar, is_char, has_char}

-- the test passes at some number below n
unfoldable pub any_below : ℕ → (ℕ → Bool) → Bool
any_below zero test = false
any_below (suc n) test = test n || any_below n test

-- some member folds as the character does
abbrev pub has_alike : List Range → ℕ → Bool
has_alike ranges c = any_below 0x110000 (λ m. is_char m && (has_char ranges m && (simple_fold m == simple_fold c)))

-- the same as a fact
pub record HasAlike (ranges : List Range) (c : ℕ) : Type 0 where
  pub member : ℕ
  pub is_char : IsChar member
  pub is_member : IsTrue (has_char ranges member)
  pub alike : simple_fold member ≡ simple_fold c

-- some pair leads from a member to the character, both by rank
unfoldable pub any_alike : List (ℕ × ℕ) → List Range → ℕ → Bool
any_alike [] ranks r = false
any_alike (p ∷ ps) ranks r = (in_ranges ranks (rank_of p.0) && (rank_of p.1 == r)) || any_alike ps ranks r

-- some pair leads from the character to a member, which is given by rank
pub record LeadsTo (pairs : List (ℕ × ℕ)) (ranks : List Range) (c : ℕ) : Type 0 where
  pub other : ℕ
  pub listed : Contains pairs (c, other)
  pub is_member : IsTrue (in_ranges ranks (rank_of other))

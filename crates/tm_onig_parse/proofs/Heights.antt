-- A part is nested at most as deep as what it is a part of.
use Rattle.std.proofs.Common.{◌≡◌, ℕ, ◌+◌, ◌≤◌, max, Bool, true, false, cond, List, [], ◌∷◌, ◌++◌, Option, arith}
use Rattle.std.proofs.lemmas.Bool.Decides.{nat_tests}
use Rattle.tm_onig_parse.specs.declared.groups.Opener.{Opener}
use Rattle.tm_onig_parse.specs.declared.groups.Opener.TheVariants.{Captures, Groups, Sets, Keeps, Looks}
use Rattle.tm_onig_parse.specs.declared.quantifiers.Manner.{Manner}
use Rattle.tm_onig_parse.specs.declared.quantifiers.Manner.TheVariants.{Greedy, Lazy, Possessive, Optional}
use Rattle.tm_onig_parse.specs.Meaning.{Built, highest, row_built, alts_built, enclosed, repeated, is_greedy, around, quantified}

-- the second is at most the greater
max_right : (a b : ℕ) → max a b ≤ 200 → b ≤ 200
max_right a b h = grind (arith, nat_tests)

-- the first is at most the greater
max_left : (a b : ℕ) → max a b ≤ 200 → a ≤ 200
max_left a b h = grind (arith, nat_tests)

-- both bound the greater
max_both : (a b : ℕ) → a ≤ 200 → b ≤ 200 → max a b ≤ 200
max_both a b h k = grind (arith, nat_tests)

-- 0 is never the greater
max_zero : (a : ℕ) → max a 0 ≡ a
max_zero a = grind (arith, nat_tests)

-- the parts of a row
pub row_low : (ts : List Built) → (row_built ts).height ≤ 200 → highest ts ≤ 200
row_low [] h = omega arith
row_low (t ∷ []) h = rw max_zero h
row_low (t ∷ u ∷ ts) h = h

-- alternatives
pub alts_low : (ts : List Built) → (alts_built ts).height ≤ 200 → highest ts ≤ 200
alts_low [] h = omega arith
alts_low (t ∷ []) h = rw max_zero h
alts_low (t ∷ u ∷ ts) h = h

-- those in front
pub front_low : (xs ys : List Built) → highest (xs ++ ys) ≤ 200 → highest xs ≤ 200
front_low [] ys h = omega arith
front_low (x ∷ xs) ys h = max_both x.height (highest xs) (max_left x.height (highest (xs ++ ys)) h) (front_low xs ys (max_right x.height (highest (xs ++ ys)) h))

-- those behind
pub back_low : (xs ys : List Built) → highest (xs ++ ys) ≤ 200 → highest ys ≤ 200
back_low [] ys h = h
back_low (x ∷ xs) ys h = back_low xs ys (max_right x.height (highest (xs ++ ys)) h)

-- the last
pub last_low : (xs : List Built) (y : Built) → highest (xs ++ y ∷ []) ≤ 200 → y.height ≤ 200
last_low [] y h = max_left y.height 0 h
last_low (x ∷ xs) y h = last_low xs y (max_right x.height (highest (xs ++ y ∷ [])) h)

-- what stands in a group
pub enclosed_low : (k : Opener) (n : ℕ) (b : Built) → (enclosed k n b).height ≤ 200 → b.height ≤ 200
enclosed_low Captures n b h = omega arith
enclosed_low Groups n b h = omega arith
enclosed_low Sets n b h = omega arith
enclosed_low Keeps n b h = omega arith
enclosed_low (Looks ahead negative) n b h = omega arith

-- one more or none
at_least : (is : Bool) (h : ℕ) → cond is (h + 1) h ≤ 200 → h ≤ 200
at_least true h e = omega arith
at_least false h e = e

-- what is repeated
repeated_low : (least : ℕ) (greatest : Option ℕ) (greedy : Bool) (b : Built) → (repeated least greatest greedy b).height ≤ 200 → b.height ≤ 200
repeated_low least greatest greedy b h = at_least b.repeated b.height h

-- a repetition in what its manner makes of it
pub around_low : (manner : Manner) (b : Built) → (around manner b).height ≤ 200 → b.height ≤ 200
around_low Greedy b h = h
around_low Lazy b h = h
around_low Possessive b h = h
around_low Optional b h = at_least b.repeated b.height h

-- what stands before a quantifier
pub quantified_low : (least : ℕ) (greatest : Option ℕ) (manner : Manner) (b : Built) → (quantified least greatest manner b).height ≤ 200 → b.height ≤ 200
quantified_low least greatest manner b h =
    repeated_low least greatest (is_greedy manner) b (around_low manner (repeated least greatest (is_greedy manner) b) h)

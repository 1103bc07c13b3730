-- Births of lines: which change made a line, and which of its new lines it was. No program keeps them:
-- they say which line is which while texts change.
use Rattle.std.specs.Prelude.{◌≡◌, ℕ, zero, suc, ◌≤◌, Bool, ◌&&◌, ◌==◌, List, [], ◌∷◌, Option, Some, None, option_map, if◌then◌else◌}

-- the version that the change made, and the place among its new lines
pub record Birth : Type 0 where
  pub version : ℕ
  pub index : ℕ

abbrev pub is_birth : Birth → Birth → Bool
is_birth a b = (a.version == b.version) && (a.index == b.index)

-- the place of a birth in a list of births, or none
abbrev pub place_of : List Birth → Birth → Option ℕ
place_of [] b = None
place_of (x ∷ xs) b = if is_birth x b then Some 0 else option_map suc (place_of xs b)

-- the births of n new lines, from an index on
abbrev pub born_from : (version index n : ℕ) → List Birth
born_from version index zero = []
born_from version index (suc n) = record { version = version; index = index } ∷ born_from version (suc index) n

abbrev pub born : (version n : ℕ) → List Birth
born version n = born_from version 0 n

-- no birth stands twice
abbrev pub AllDiffer : List Birth → Type 0
AllDiffer [] = Unit {0}
AllDiffer (x ∷ xs) = (place_of xs x ≡ None) × AllDiffer xs

-- each birth is of this version or an earlier one
abbrev pub NoLaterThan : ℕ → List Birth → Type 0
NoLaterThan version [] = Unit {0}
NoLaterThan version (x ∷ xs) = (x.version ≤ version) × NoLaterThan version xs

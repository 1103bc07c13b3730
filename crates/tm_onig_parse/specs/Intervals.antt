-- Bounds between braces, `{n}`, `{n,}`, `{,m}`, `{n,m}`: a brace that begins them is no character.
use Rattle.std.specs.Prelude.{◌≡◌, ℕ, ◌+◌, ◌<◌, ◌≤◌, true, List, [], ◌∷◌, ◌++◌, length, Option, Some, None}
use Rattle.std.specs.Str.Parse.{digits_value}
use Rattle.std.specs.List.{list_all}
use Rattle.std.specs.Char.{is_ascii_digit}

-- The digits before and behind the comma, if there is one.
pub data Bounds : Type 0 where
  Exactly : List ℕ → Bounds
  Between : List ℕ → List ℕ → Bounds

-- What stands behind the `{`.
abbrev pub bounds_text : Bounds → List ℕ
bounds_text (Exactly n) = n ++ 125 ∷ []
bounds_text (Between n m) = n ++ 44 ∷ (m ++ 125 ∷ [])

-- There are digits, at least on one side.
abbrev pub IsBounds : Bounds → Type 0
IsBounds (Exactly n) = (list_all is_ascii_digit n ≡ true) × (0 < length n)
IsBounds (Between n m) = (list_all is_ascii_digit n ≡ true) × (list_all is_ascii_digit m ≡ true) × (0 < length n + length m)

-- No bounds stand at the front.
abbrev pub NoBounds : List ℕ → Type 0
NoBounds t = (b : Bounds) (more : List ℕ) → IsBounds b → t ≡ bounds_text b ++ more → ⊥

-- The least number that they allow.
abbrev pub least_in : Bounds → ℕ
least_in (Exactly n) = digits_value 10 n
least_in (Between n m) = digits_value 10 n

-- The greatest, if there is one.
abbrev pub greatest_in : Bounds → Option ℕ
greatest_in (Exactly n) = Some (digits_value 10 n)
greatest_in (Between n []) = None
greatest_in (Between n (d ∷ m)) = Some (digits_value 10 (d ∷ m))

-- No number is above 100,000, and the first is at most the second.
abbrev pub AreLimited : Bounds → Type 0
AreLimited (Exactly n) = digits_value 10 n ≤ 100000
AreLimited (Between n []) = digits_value 10 n ≤ 100000
AreLimited (Between n (d ∷ m)) = (digits_value 10 n ≤ digits_value 10 (d ∷ m)) × (digits_value 10 (d ∷ m) ≤ 100000)

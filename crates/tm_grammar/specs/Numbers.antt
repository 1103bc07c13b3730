-- The numbers of captures: below 65,536, as keys in decimal digits or as places of a list.
use Rattle.std.specs.Prelude.{ℕ, ◌+◌, ◌-◌, ◌*◌, List, [], ◌∷◌, Bool, ◌&&◌, Option, Some, None, if◌then◌else◌, nat_lt, nat_le, nat_eq, length}

abbrev pub capture_limit : ℕ
capture_limit = 65536

-- `0` to `9`
abbrev pub is_digit : ℕ → Bool
is_digit c = nat_le 48 c && nat_le c 57

-- the place of a list as a capture's number
abbrev pub place_number : ℕ → Option ℕ
place_number place = if nat_lt place capture_limit then Some place else None

-- the number of n followed by these decimal digits
abbrev pub number_from : ℕ → List ℕ → Option ℕ
number_from n [] = place_number n
number_from n (c ∷ cs) = if is_digit c then number_from (10 * n + (c - 48)) cs else None

-- the number of a key: one or more decimal digits, leading zeros allowed
abbrev pub key_number : List ℕ → Option ℕ
key_number key = if nat_eq (length key) 0 then None else number_from 0 key

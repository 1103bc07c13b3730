-- Names of groups, and what a reference means.
use Rattle.std.specs.Prelude.{◌≡◌, ℕ, ◌+◌, ◌<◌, ◌≤◌, ◌==◌, ◌&&◌, ◌||◌, not, nat_le, Bool, true, false, List, [], ◌∷◌, ◌++◌, length, Option, Some, None, bytes_eq, if◌then◌else◌}
use Rattle.std.specs.List.{list_all}
use Rattle.std.specs.Char.{is_ascii_digit, is_ascii_alphanumeric}
use Rattle.std.specs.Str.Parse.{digits_value}
use Rattle.tm_onig_atom.specs.Escapes.{begins}

-- An ASCII letter, a digit or `_`.
abbrev pub is_name_char : ℕ → Bool
is_name_char c = is_ascii_alphanumeric c || (c == 95)

-- There is a first character, and it is no digit.
abbrev pub starts_name : List ℕ → Bool
starts_name [] = false
starts_name (c ∷ t) = not (is_ascii_digit c)

-- A name: such characters, of which the first is no digit.
abbrev pub IsName : List ℕ → Type 0
IsName name = (list_all is_name_char name ≡ true) × (starts_name name ≡ true)

-- The capturing groups of a pattern in the order of their opening, each with its name if it has one.
abbrev pub Names : Type 0
Names = List (Option (List ℕ))

-- The group has the name.
abbrev pub is_called : List ℕ → Option (List ℕ) → Bool
is_called name None = false
is_called name (Some other) = bytes_eq other name

-- The numbers of the groups that have the name, where the first group has the number n.
unfoldable pub called_from : ℕ → List ℕ → Names → List ℕ
called_from n name [] = []
called_from n name (g ∷ gs) = if is_called name g then n ∷ called_from (n + 1) name gs else called_from (n + 1) name gs

-- A list that has something.
abbrev pub some_in : List ℕ → Option (List ℕ)
some_in [] = None
some_in (n ∷ ns) = Some (n ∷ ns)

-- A reference: by the digits of a number behind a backslash, by those between `\k<` and `>`, or by a
-- name, between `\k'` and `'` if it is quoted so, else between `\k<` and `>`.
pub data Reference : Type 0 where
  Digits : List ℕ → Reference
  Numbered : List ℕ → Reference
  Called : Bool → List ℕ → Reference

-- How it is spelled, behind the backslash.
abbrev pub reference_text : Reference → List ℕ
reference_text (Digits n) = n
reference_text (Numbered n) = 107 ∷ 60 ∷ (n ++ 62 ∷ [])
reference_text (Called true name) = 107 ∷ 39 ∷ (name ++ 39 ∷ [])
reference_text (Called false name) = 107 ∷ 60 ∷ (name ++ 62 ∷ [])

-- A digit stands at the front.
abbrev pub begins_digit : List ℕ → Bool
begins_digit [] = false
begins_digit (c ∷ t) = is_ascii_digit c

-- It is one before what follows: all digits at the front count, and the first of those directly behind
-- a backslash is not 0. No pattern has so many groups that a number above 100,000 could mean one.
abbrev pub IsReference : Reference → List ℕ → Type 0
IsReference (Digits n) rest =
    (list_all is_ascii_digit n ≡ true) × (0 < length n) × (begins 48 n ≡ false) × (begins_digit rest ≡ false) × (digits_value 10 n ≤ 100000)
IsReference (Numbered n) rest = (list_all is_ascii_digit n ≡ true) × (0 < length n) × (digits_value 10 n ≤ 100000)
IsReference (Called quoted name) rest = IsName name

-- What a reference says: a number or a name.
pub data Key : Type 0 where
  Number : ℕ → Key
  Name : List ℕ → Key

-- What this one says.
abbrev pub key_of : Reference → Key
key_of (Digits n) = Number (digits_value 10 n)
key_of (Numbered n) = Number (digits_value 10 n)
key_of (Called quoted name) = Name name

-- The groups that it means, in rising order: that of the number, or all of the name; none if the pattern
-- has no such group.
abbrev pub meant : Names → Key → Option (List ℕ)
meant names (Number n) = if nat_le 1 n && nat_le n (length names) then Some (n ∷ []) else None
meant names (Name name) = some_in (called_from 1 name names)

-- The same where the groups are known; where they are not yet, any reference stands, and means none.
abbrev pub meant_in : Option Names → Key → Option (List ℕ)
meant_in None key = Some []
meant_in (Some names) key = meant names key

-- Names and paths of names, and the scopes that they match (TextMate 1.x manual, Scope Selectors).
use Rattle.std.specs.Prelude.{ℕ, zero, suc, ◌==◌, ◌&&◌, ◌||◌, List, [], ◌∷◌, length, Bool, true, false, if◌then◌else◌, Option, Some, None, slice_get, nat_eq, is_some, option_and_then}
use Rattle.std.specs.List.{starts_with}

-- the end of the scope, or a dot
abbrev pub ends_a_part : Option ℕ → Bool
ends_a_part None = true
ends_a_part (Some c) = c == 46

-- a name matches the scope that it is, and each that begins with it and a dot
abbrev pub covers : List ℕ → List ℕ → Bool
covers name scope = starts_with nat_eq scope name && ends_a_part (slice_get scope (length name))

abbrev pub is_covered : List ℕ → Option (List ℕ) → Bool
is_covered name None = false
is_covered name (Some scope) = covers name scope

-- the nearest place above another, of the places 0 to n - 1 from the outermost scope, whose scope the name matches
abbrev pub place_above : List ℕ → List (List ℕ) → ℕ → Option ℕ
place_above name scopes zero = None
place_above name scopes (suc n) = if is_covered name (slice_get scopes n) then Some n else place_above name scopes n

-- the place of the first of these names, where the last is matched as near to the innermost scope as can be, and each other
-- one as near as can be above the one behind it; without a name, the place behind all scopes
abbrev pub path_place : List (List ℕ) → List (List ℕ) → Option ℕ
path_place scopes [] = Some (length scopes)
path_place scopes (name ∷ names) = option_and_then (place_above name scopes) (path_place scopes names)

-- a path of names matches
abbrev pub is_path_of : List (List ℕ) → List (List ℕ) → Bool
is_path_of names scopes = is_some (path_place scopes names)

-- the names match some of the scopes, in order
abbrev pub in_order : List (List ℕ) → List (List ℕ) → Bool
in_order [] scopes = true
in_order (name ∷ names) [] = false
in_order (name ∷ names) (scope ∷ scopes) = (covers name scope && in_order names scopes) || in_order (name ∷ names) scopes

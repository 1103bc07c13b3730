-- The first value of a grammar file that is not what it ought to be: a value stands before its parts, items stand in
-- their order, and members in the order of their keys' bytes, in which an object has them.
use Rattle.std.specs.Prelude.{ℕ, ◌+◌, List, [], ◌++◌, codes, Bool, true, false, Option, Some, None, option_map, is_some, if◌then◌else◌}
use Rattle.std.specs.Option.{option_or}
use Rattle.serde_json.specs.Data.{Data, null, boolean, number, string, array, object, Items, no_items, item, Members, no_members, member}
use Rattle.serde_json.specs.Find.{get}
use Rattle.tm_grammar.specs.Paths.{key_step, place_step}
use Rattle.tm_grammar.specs.Shapes.{fits, member_shape, item_shape}
use Rattle.tm_grammar.specs.declared.shapes.Shape.{Shape}
use Rattle.tm_grammar.specs.declared.shapes.Shape.TheVariants.{Ignored, Grammar}

-- whether the value is not looked at, nor what it holds
abbrev pub is_ignored : Shape → Bool
is_ignored Ignored = true
is_ignored shape = false

-- the path of the value itself where it does not fit, or else that of the first wrong value inside it
abbrev pub self_or_inside : Shape → Bool → Option (List ℕ) → Option (List ℕ)
self_or_inside shape fitting inside = if is_ignored shape then None else (if fitting then inside else Some [])

-- a path inside a part, behind the step to the part
abbrev pub below : List ℕ → Option (List ℕ) → Option (List ℕ)
below step path = option_map (λ inside. step ++ inside) path

abbrev mutual
  -- the path to the first wrong value, from the value itself
  pub first_wrong : Shape → Data → Option (List ℕ)
  first_wrong shape (array ds) = self_or_inside shape (fits shape (array ds)) (wrong_item shape 0 ds)
  first_wrong shape (object ms) = self_or_inside shape (fits shape (object ms)) (wrong_member shape ms)
  first_wrong shape null = self_or_inside shape (fits shape null) None
  first_wrong shape (boolean b) = self_or_inside shape (fits shape (boolean b)) None
  first_wrong shape (number n) = self_or_inside shape (fits shape (number n)) None
  first_wrong shape (string s) = self_or_inside shape (fits shape (string s)) None

  -- the same in the items from a place on
  pub wrong_item : Shape → ℕ → Items → Option (List ℕ)
  wrong_item shape place no_items = None
  wrong_item shape place (item d ds) = option_or (below (place_step place) (first_wrong (item_shape shape place) d)) (wrong_item shape (place + 1) ds)

  -- the same in members
  pub wrong_member : Shape → Members → Option (List ℕ)
  wrong_member shape no_members = None
  wrong_member shape (member key d ms) = option_or (below (key_step key) (first_wrong (member_shape shape key) d)) (wrong_member shape ms)

-- an absent scope name is found after all others
abbrev pub absent_scope : Data → Option (List ℕ)
absent_scope d = if is_some (get (codes "scopeName") d) then None else Some (key_step (codes "scopeName"))

-- the path of the first wrong value of a grammar file
abbrev pub wrong_in : Data → Option (List ℕ)
wrong_in d = option_or (first_wrong Grammar d) (absent_scope d)

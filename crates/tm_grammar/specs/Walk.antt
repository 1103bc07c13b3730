-- The walk over a grammar file in other words: the list of what it looks at.
use Rattle.std.specs.Prelude.{◌≡◌, ℕ, ◌+◌, List, [], ◌∷◌, ◌++◌, map, Bool, false, IsTrue, Some, None, if◌then◌else◌}
use Rattle.std.specs.List.{list_all}
use Rattle.serde_json.specs.Data.{Data, null, boolean, number, string, array, object, Items, no_items, item, Members, no_members, member}
use Rattle.tm_grammar.specs.Paths.{key_step, place_step}
use Rattle.tm_grammar.specs.Shapes.{fits, member_shape, item_shape}
use Rattle.tm_grammar.specs.Wrong.{is_ignored, first_wrong}
use Rattle.tm_grammar.specs.declared.shapes.Shape.{Shape}

-- a value with its path, and what it ought to be
pub record Visit : Type 0 where
  pub path : List ℕ
  pub shape : Shape
  pub value : Data

abbrev pub is_fitting : Visit → Bool
is_fitting visit = fits visit.shape visit.value

-- a visit inside a part, behind the step to the part
abbrev pub behind : List ℕ → Visit → Visit
behind step visit = record visit { path = step ++ visit.path }

-- a value and then its parts, or nothing
abbrev pub itself_and : Shape → Data → List Visit → List Visit
itself_and shape d inside = if is_ignored shape then [] else record { path = []; shape = shape; value = d } ∷ inside

abbrev mutual
  -- what the walk looks at, in its order
  pub visits : Shape → Data → List Visit
  visits shape (array ds) = itself_and shape (array ds) (item_visits shape 0 ds)
  visits shape (object ms) = itself_and shape (object ms) (member_visits shape ms)
  visits shape null = itself_and shape null []
  visits shape (boolean b) = itself_and shape (boolean b) []
  visits shape (number n) = itself_and shape (number n) []
  visits shape (string s) = itself_and shape (string s) []

  pub item_visits : Shape → ℕ → Items → List Visit
  item_visits shape place no_items = []
  item_visits shape place (item d ds) = map (behind (place_step place)) (visits (item_shape shape place) d) ++ item_visits shape (place + 1) ds

  pub member_visits : Shape → Members → List Visit
  member_visits shape no_members = []
  member_visits shape (member key d ms) = map (behind (key_step key)) (visits (member_shape shape key) d) ++ member_visits shape ms

-- the path is that of a visit that does not fit, and all visits before it fit
abbrev pub IsFirstMisfit : List ℕ → List Visit → Type 0
IsFirstMisfit path all = (before : List Visit) × (visit : Visit) × (after : List Visit)
    × (all ≡ before ++ visit ∷ after) × IsTrue (list_all is_fitting before) × (is_fitting visit ≡ false) × (visit.path ≡ path)

-- a wrong path is that of the first visit that does not fit
abbrev pub IsFirst : Type 0
IsFirst = (shape : Shape) (d : Data) (path : List ℕ) → first_wrong shape d ≡ Some path → IsFirstMisfit path (visits shape d)

-- where there is no wrong path, all visits fit
abbrev pub AllFit : Type 0
AllFit = (shape : Shape) (d : Data) → first_wrong shape d ≡ None → IsTrue (list_all is_fitting (visits shape d))

-- The members of a class, from its first part to its last.
use Rattle.std.specs.Prelude.{ℕ, Bool, true, false, ◌&&◌, ◌||◌, List, [], ◌∷◌, Option, Some, None, if◌then◌else◌}
use Rattle.regex_class.specs.Ranges.{Range as CharRange, in_ranges}
use Rattle.tm_onig_class.specs.Members.{has_char}
use Rattle.tm_onig_atom.specs.declared.parts.Part.{Part}
use Rattle.tm_onig_atom.specs.declared.class_sets.Gathered.{Gathered}
use Rattle.tm_onig_atom.specs.Widening.{widened}
use Rattle.tm_onig_atom.specs.Classes.{part_has, is_meets}

-- the sides before have the character
abbrev pub met_has : Option (List CharRange) → ℕ → Bool
met_has None c = true
met_has (Some set) c = has_char set c

-- the present side has it
abbrev pub side_now : Bool → Gathered → ℕ → Bool
side_now fold g c = widened fold (in_ranges g.ranges.items) c || has_char g.set c

-- whether the sides before have it, behind one more part
abbrev pub met_after : Part → Bool → Bool → Bool
met_after p met side = if is_meets p then met && side else met

-- whether the present side has it, behind one more part
abbrev pub side_after : Bool → Part → Bool → ℕ → Bool
side_after fold p side c = if is_meets p then false else side || part_has fold p c

-- whether all sides have it, behind all parts
unfoldable pub walked : Bool → List Part → Bool → Bool → ℕ → Bool
walked fold [] met side c = met && side
walked fold (p ∷ ps) met side c = walked fold ps (met_after p met side) (side_after fold p side c) c

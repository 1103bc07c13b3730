-- What is wrong in a value of a JSON file: none, or the path (JSON Pointer, RFC 6901) from the value to the first in it
-- that is not what it ought to be, the empty one where it is the value itself.
use Rattle.std.specs.Prelude.{ℕ, ◌+◌, List, [], Bool, false, ◌&&◌, ◌||◌, nat_le, Option, Some, None, is_some, option_and_then, if◌then◌else◌}
use Rattle.std.specs.Option.{option_or}
use Rattle.serde_json.specs.Data.{Data, Items, no_items, item, Members, no_members, member}
use Rattle.serde_json.specs.Find.{get, as_null, as_str, as_array, as_object}
use Rattle.tm_grammar.specs.Paths.{key_step, place_step}
use Rattle.tm_grammar.specs.Wrong.{below}
use Rattle.tm_forms.specs.Edits.{whole_number_of}
use Rattle.tm_forms.specs.Json.{has_key}

-- the value itself, where it does not fit
abbrev pub itself_unless : Bool → Option (List ℕ)
itself_unless fits = if fits then None else Some []

abbrev pub wrong_text : Data → Option (List ℕ)
wrong_text d = itself_unless (is_some (as_str d))

abbrev pub wrong_text_or_null : Data → Option (List ℕ)
wrong_text_or_null d = itself_unless (is_some (as_str d) || is_some (as_null d))

abbrev pub wrong_object : Data → Option (List ℕ)
wrong_object d = itself_unless (is_some (as_object d))

abbrev pub is_within : ℕ → ℕ → Option ℕ → Bool
is_within least greatest None = false
is_within least greatest (Some n) = nat_le least n && nat_le n greatest

-- a whole number from the least to the greatest
abbrev pub wrong_number : ℕ → ℕ → Data → Option (List ℕ)
wrong_number least greatest d = itself_unless (is_within least greatest (whole_number_of d))

-- behind a key, where it is there
abbrev pub wrong_at : List ℕ → (Data → Option (List ℕ)) → Data → Option (List ℕ)
wrong_at key check d = option_and_then (λ found. below (key_step key) (check found)) (get key d)

-- the key itself, where it is absent
abbrev pub absent_at : List ℕ → Data → Option (List ℕ)
absent_at key d = if has_key key d then None else Some (key_step key)

-- in the items from a place on, in their order
abbrev pub wrong_item : (Data → Option (List ℕ)) → ℕ → Items → Option (List ℕ)
wrong_item check place no_items = None
wrong_item check place (item d ds) = option_or (below (place_step place) (check d)) (wrong_item check (place + 1) ds)

abbrev pub wrong_items : (Data → Option (List ℕ)) → Option Items → Option (List ℕ)
wrong_items check None = Some []
wrong_items check (Some ds) = wrong_item check 0 ds

-- a list
abbrev pub wrong_list : (Data → Option (List ℕ)) → Data → Option (List ℕ)
wrong_list check d = wrong_items check (as_array d)

-- in the members, which an object has in the order of their keys' bytes
abbrev pub wrong_member : (Data → Option (List ℕ)) → Members → Option (List ℕ)
wrong_member check no_members = None
wrong_member check (member key d ms) = option_or (below (key_step key) (check d)) (wrong_member check ms)

abbrev pub wrong_members : (Data → Option (List ℕ)) → Option Members → Option (List ℕ)
wrong_members check None = Some []
wrong_members check (Some ms) = wrong_member check ms

-- an object whose values are all alike
abbrev pub wrong_map : (Data → Option (List ℕ)) → Data → Option (List ℕ)
wrong_map check d = wrong_members check (as_object d)

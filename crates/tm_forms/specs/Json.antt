-- JSON files, and looks into their values.
use Rattle.std.specs.Prelude.{List, ℕ, Bool, Option, is_some, option_and_then, unwrap_or}
use Rattle.tm_forms.specs.Utf8.{without_mark, text_of_utf8}
use Rattle.serde_json.specs.Data.{Data, Items, no_items}
use Rattle.serde_json.specs.Find.{get, as_array}
use Rattle.serde_json.specs.Read.{read}

-- the value of a JSON file
abbrev pub json_in : List ℕ → Option Data
json_in bytes = option_and_then read (text_of_utf8 (without_mark bytes))

-- whether an object has a member with this key
abbrev pub has_key : List ℕ → Data → Bool
has_key key d = is_some (get key d)

-- the items of the list at a key, and none where there is no list
abbrev pub items_at : List ℕ → Data → Items
items_at key d = unwrap_or (option_and_then as_array (get key d)) no_items

-- Values as data without a look at how numbers are rounded, and of which values it is what `serde_json` reads.
use Rattle.std.specs.Prelude.{ℕ, List, length, Bool, true, false, ◌&&◌, nat_lt, nat_le, if◌then◌else◌}
use Rattle.std.specs.List.{list_all}
use Rattle.std.specs.Char.{is_ascii_digit}
use Rattle.std.specs.Str.Parse.{digits_value}
use Rattle.json.specs.Json as json
use Rattle.serde_json.specs.Data.{unsigned, Data, null, boolean, number, string, array, object, Items, no_items, item, Members, no_members, put}

-- digits alone
abbrev pub is_whole : List ℕ → Bool
is_whole s = nat_lt 0 (length s) && list_all is_ascii_digit s

abbrev pub whole_data : List ℕ → Data
whole_data s = if is_whole s then number (unsigned (digits_value 10 s)) else null

-- the last value of a key stays
abbrev mutual
  pub plain_data : json.Json → Data
  plain_data json.null = null
  plain_data (json.boolean b) = boolean b
  plain_data (json.number s) = whole_data s
  plain_data (json.string s) = string s
  plain_data (json.array js) = array (plain_items js)
  plain_data (json.object ms) = object (plain_members ms no_members)

  pub plain_items : json.Items → Items
  plain_items json.no_items = no_items
  plain_items (json.item j js) = item (plain_data j) (plain_items js)

  pub plain_members : json.Members → Members → Members
  plain_members json.no_members found = found
  plain_members (json.member k j ms) found = plain_members ms (put k (plain_data j) found)

-- so few digits that the number is below 2 ^ 64
abbrev pub is_short : List ℕ → Bool
is_short s = is_whole s && nat_le (length s) 19

abbrev pub is_plain_item : json.Json → Bool
is_plain_item json.null = false
is_plain_item (json.boolean b) = false
is_plain_item (json.number s) = is_short s
is_plain_item (json.string s) = true
is_plain_item (json.array js) = false
is_plain_item (json.object ms) = false

abbrev pub are_plain_items : json.Items → Bool
are_plain_items json.no_items = true
are_plain_items (json.item j js) = is_plain_item j && are_plain_items js

abbrev pub is_plain_value : json.Json → Bool
is_plain_value json.null = false
is_plain_value (json.boolean b) = false
is_plain_value (json.number s) = is_short s
is_plain_value (json.string s) = true
is_plain_value (json.array js) = are_plain_items js
is_plain_value (json.object ms) = false

abbrev pub are_plain_members : json.Members → Bool
are_plain_members json.no_members = true
are_plain_members (json.member k j ms) = is_plain_value j && are_plain_members ms

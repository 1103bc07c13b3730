-- The values of a step's keys.
use Rattle.std.specs.Prelude.{ℕ, ◌^◌, List, Option, Some, None, option_map, option_and_then, if◌then◌else◌, nat_lt}
use Rattle.std.specs.Str.{is_utf8, chars}
use Rattle.serde_json.specs.Data.{Data, Items}
use Rattle.serde_json.specs.Events.{items_len}
use Rattle.serde_json.specs.Find.{get, at, as_str, as_array, as_number, as_u64}
use Rattle.serde_json.specs.Read.{read}

abbrev pub utf8_in : List ℕ → Option (List ℕ)
utf8_in bytes = if is_utf8 bytes then Some bytes else None

-- the JSON value of a line
abbrev pub json_in : List ℕ → Option Data
json_in line = option_and_then read (utf8_in line)

abbrev pub within_u32 : ℕ → Option ℕ
within_u32 n = if nat_lt n (2 ^ 32) then Some n else None

-- a whole number from 0 to 4,294,967,295; a number with a point, an exponent or a minus is none
abbrev pub whole_number : Data → Option ℕ
whole_number d = option_and_then within_u32 (option_and_then as_u64 (as_number d))

abbrev pub number_of : List ℕ → Data → Option ℕ
number_of key d = option_and_then whole_number (get key d)

abbrev pub number_at : ℕ → Data → Option ℕ
number_at i d = option_and_then whole_number (at i d)

abbrev pub items_in : Option Items → ℕ
items_in None = 0
items_in (Some ds) = items_len ds

-- how many items a list has; another value has none
abbrev pub item_count : Data → ℕ
item_count d = items_in (as_array d)

-- the characters of the text at a key
abbrev pub text_of : List ℕ → Data → Option (List ℕ)
text_of key d = option_map chars (option_and_then as_str (get key d))

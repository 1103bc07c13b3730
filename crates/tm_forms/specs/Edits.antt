-- The step `edit` of a script: `{"step": "edit", "at": [LINE, COLUMN, LINE, COLUMN], "text": TEXT}`.
use Rattle.std.specs.Prelude.{ℕ, ◌^◌, List, Option, Some, None, option_map, option_and_then, if◌then◌else◌, nat_lt, nat_eq, codes}
use Rattle.std.specs.List.{list_all}
use Rattle.serde_json.specs.Data.{Data, Items}
use Rattle.serde_json.specs.Events.{items_len}
use Rattle.serde_json.specs.Find.{get, at, as_str, as_array, as_number, as_u64}
use Rattle.tm_defs.specs.declared.changes.Change.{Change}
use Rattle.tm_forms.specs.Text.{is_text_character}

abbrev pub items_in : Option Items → ℕ
items_in None = 0
items_in (Some ds) = items_len ds

-- how many items a list has
abbrev pub item_count : Data → ℕ
item_count d = items_in (as_array d)

abbrev pub within_u32 : ℕ → Option ℕ
within_u32 n = if nat_lt n (2 ^ 32) then Some n else None

-- a whole number below 2 ^ 32; a number with a point or an exponent is none
abbrev pub whole_number_of : Data → Option ℕ
whole_number_of d = option_and_then within_u32 (option_and_then as_u64 (as_number d))

abbrev pub number_at : ℕ → Data → Option ℕ
number_at i d = option_and_then whole_number_of (at i d)

-- a text that may stand in a text file
abbrev pub plain_text_of : List ℕ → Option (List ℕ)
plain_text_of text = if list_all is_text_character text then Some text else None

abbrev pub inserted_of : Data → Option (List ℕ)
inserted_of d = option_and_then plain_text_of (option_and_then as_str (get (codes "text") d))

-- four numbers, and the text of the step
abbrev pub change_at : Data → Data → Option Change
change_at d places = if nat_eq (item_count places) 4
    then option_and_then (λ from_line. option_and_then (λ from_col. option_and_then (λ to_line. option_and_then (λ to_col. option_map (λ text.
    record { from_line = from_line; from_col = from_col; to_line = to_line; to_col = to_col; text = text })
    (inserted_of d)) (number_at 3 places)) (number_at 2 places)) (number_at 1 places)) (number_at 0 places)
    else None

abbrev pub change_of : Data → Option Change
change_of d = option_and_then (change_at d) (get (codes "at") d)

-- The settings file: `{"settings": [{"grammar": TEXT, "grammars": [TEXT, ..]}, ..], "budget": NUMBER}`, with further keys
-- that are checked and not built yet. Unknown keys are passed over.
use Rattle.std.specs.Prelude.{ℕ, List, [], ◌∷◌, codes, Bool, false, not, ◌&&◌, ◌||◌, nat_le, Option, Some, None, is_some, option_and_then, unwrap_or, Result, if◌then◌else◌}
use Rattle.std.specs.Option.{option_or}
use Rattle.serde_json.specs.Data.{Data, Items, no_items, item}
use Rattle.serde_json.specs.Find.{get, as_null, as_str}
use Rattle.tm_forms.specs.Checks.{wrong_text, wrong_text_or_null, wrong_object, wrong_number, wrong_list, wrong_map, wrong_at, absent_at}
use Rattle.tm_forms.specs.Edits.{whole_number_of, item_count}
use Rattle.tm_forms.specs.Json.{has_key, items_at, json_in}
use Rattle.tm_forms.specs.Refusals.{json_answer, value_answer}
use Rattle.tm_forms.specs.declared.form.Refusal.{Refusal}

-- a setting: the name of its grammar's file, and of further grammars' files
pub record SettingFilesData : Type 0 where
  pub grammar : List ℕ
  pub grammars : List (List ℕ)

-- the settings, and how many steps of plain search a line may take
pub record SettingsData : Type 0 where
  pub settings : List SettingFilesData
  pub budget : ℕ

abbrev pub setting_files : List ℕ → List (List ℕ) → SettingFilesData
setting_files grammar grammars = record { grammar = grammar; grammars = grammars }

abbrev pub settings_data : List SettingFilesData → ℕ → SettingsData
settings_data settings budget = record { settings = settings; budget = budget }

-- ---- what is wrong, in the order of the walk: a value before its parts, keys in the order of their bytes

abbrev pub wrong_budget : Data → Option (List ℕ)
wrong_budget = wrong_number 1000 1000000000

abbrev pub wrong_texts : Data → Option (List ℕ)
wrong_texts = wrong_list wrong_text

abbrev pub wrong_language : Data → Option (List ℕ)
wrong_language = wrong_number 0 255

abbrev pub wrong_languages : Data → Option (List ℕ)
wrong_languages = wrong_map wrong_language

-- an object with these keys, each of which may be absent here
abbrev pub wrong_setting : Data → Option (List ℕ)
wrong_setting d =
    option_or (wrong_object d) (
    option_or (wrong_at (codes "grammar") wrong_text d) (
    option_or (wrong_at (codes "grammars") wrong_texts d) (
    option_or (wrong_at (codes "injected") wrong_texts d) (
    option_or (wrong_at (codes "languages") wrong_languages d) (
    option_or (wrong_at (codes "theme") wrong_text_or_null d) (
    wrong_at (codes "unbalanced") wrong_texts d))))))

-- how many settings a file may list
abbrev pub is_count : ℕ → Bool
is_count n = nat_le 1 n && nat_le n 64

-- a list of so many settings; another count is wrong before any of them
abbrev pub wrong_settings : Data → Option (List ℕ)
wrong_settings d = if is_count (item_count d) then wrong_list wrong_setting d else Some []

-- an object with these keys, each of which may be absent here
abbrev pub wrong_value : Data → Option (List ℕ)
wrong_value d =
    option_or (wrong_object d) (
    option_or (wrong_at (codes "budget") wrong_budget d) (
    wrong_at (codes "settings") wrong_settings d))

-- `settings`, and `grammar` in each setting, have to be there
abbrev pub absent_grammar : Data → Option (List ℕ)
absent_grammar = absent_at (codes "grammar")

abbrev pub absent_key : Data → Option (List ℕ)
absent_key d = option_or (absent_at (codes "settings") d) (wrong_at (codes "settings") (wrong_list absent_grammar) d)

-- an absent key is found after all wrong values
abbrev pub wrong_in : Data → Option (List ℕ)
wrong_in d = option_or (wrong_value d) (absent_key d)

-- ---- what is not built yet

abbrev pub is_theme : Option Data → Bool
is_theme None = false
is_theme (Some d) = not (is_some (as_null d))

-- a setting with a key that is not built yet, or with a theme other than null
abbrev pub is_later_setting : Data → Bool
is_later_setting d = has_key (codes "injected") d || has_key (codes "languages") d || has_key (codes "unbalanced") d || is_theme (get (codes "theme") d)

abbrev pub has_later_setting : Items → Bool
has_later_setting no_items = false
has_later_setting (item d ds) = is_later_setting d || has_later_setting ds

abbrev pub is_later : Data → Bool
is_later d = has_later_setting (items_at (codes "settings") d)

-- ---- what is read, where nothing is wrong

abbrev pub text_of : Option Data → List ℕ
text_of found = unwrap_or (option_and_then as_str found) []

abbrev pub texts_of : Items → List (List ℕ)
texts_of no_items = []
texts_of (item d ds) = text_of (Some d) ∷ texts_of ds

abbrev pub files_of : Data → SettingFilesData
files_of d = setting_files (text_of (get (codes "grammar") d)) (texts_of (items_at (codes "grammars") d))

abbrev pub all_files : Items → List SettingFilesData
all_files no_items = []
all_files (item d ds) = files_of d ∷ all_files ds

abbrev pub default_budget : ℕ
default_budget = 100000000

abbrev pub budget_of : Data → ℕ
budget_of d = unwrap_or (option_and_then whole_number_of (get (codes "budget") d)) default_budget

abbrev pub settings_of : Data → SettingsData
settings_of d = settings_data (all_files (items_at (codes "settings") d)) (budget_of d)

abbrev pub settings_from : Data → Result SettingsData Refusal
settings_from d = value_answer (wrong_in d) (is_later d) (settings_of d)

abbrev pub settings_in : List ℕ → Result SettingsData Refusal
settings_in bytes = json_answer settings_from (json_in bytes)

-- A settings file that is read has a setting.
use Rattle.std.proofs.Common.{◌≡◌, ℕ, zero, suc, ◌<◌, List, [], length, Bool, true, false, Option, Some, None, Ok, refl, arith, subst, if◌then◌else◌, codes, option_and_then, is_some}
use Rattle.std.specs.Prelude.{unwrap_or}
use Rattle.std.specs.Option.{option_or}
use Rattle.serde_json.specs.Data.{Data, Items, no_items, item}
use Rattle.serde_json.specs.Find.{get, as_array}
use Rattle.tm_grammar.specs.Paths.{key_step}
use Rattle.tm_grammar.specs.Wrong.{below}
use Rattle.tm_forms.specs.Checks.{wrong_list, wrong_object, wrong_at, absent_at}
use Rattle.tm_forms.specs.Edits.{item_count, items_in}
use Rattle.tm_forms.specs.Json.{json_in, items_at}
use Rattle.tm_forms.specs.Refusals.{json_answer, value_answer}
use Rattle.tm_forms.specs.Settings.{SettingsData, wrong_budget, wrong_setting, wrong_settings, wrong_value, absent_key, absent_grammar, wrong_in, is_count, is_later, all_files, settings_of, settings_from, settings_in}

none-or : {X : Type 0} (a b : Option X) → option_or a b ≡ None → (a ≡ None) × (b ≡ None)
none-or None b e = (refl, e)
none-or (Some x) b e = absurd cc

below-none : (step : List ℕ) (o : Option (List ℕ)) → below step o ≡ None → o ≡ None
below-none step None e = refl
below-none step (Some path) e = absurd cc

count-holds : (v : Data) → wrong_settings v ≡ None → is_count (item_count v) ≡ true
count-holds v e = go (is_count (item_count v)) refl e
  where
    go : (b : Bool) → is_count (item_count v) ≡ b → (if b then wrong_list wrong_setting v else Some []) ≡ None → is_count (item_count v) ≡ true
    go true h k = h
    go false h k = absurd cc

count-some : (n : ℕ) → is_count n ≡ true → 0 < n
count-some zero e = absurd cc
count-some (suc n) e = omega arith

files-some : (o : Option Items) → 0 < items_in o → 0 < length (all_files (unwrap_or o no_items))
files-some None h = absurd (omega (arith, h))
files-some (Some no_items) h = absurd (omega (arith, h))
files-some (Some (item d ds)) h = omega arith

behind-key : (step : List ℕ) (o : Option Data) → (if is_some o then None else Some step) ≡ None → option_and_then (λ found. below step (wrong_settings found)) o ≡ None → 0 < length (all_files (unwrap_or (option_and_then as_array o) no_items))
behind-key step None h k = absurd cc
behind-key step (Some v) h k = files-some (as_array v) (count-some (item_count v) (count-holds v (below-none step (wrong_settings v) k)))

listed-some : (d : Data) → wrong_in d ≡ None → 0 < length (all_files (items_at (codes "settings") d))
listed-some d e =
    let both = none-or (wrong_value d) (absent_key d) e in
    behind-key (key_step (codes "settings")) (get (codes "settings") d)
    (none-or (absent_at (codes "settings") d) (wrong_at (codes "settings") (wrong_list absent_grammar) d) both.1).0
    (none-or (wrong_at (codes "budget") wrong_budget d) (wrong_at (codes "settings") wrong_settings d) (none-or (wrong_object d) (option_or (wrong_at (codes "budget") wrong_budget d) (wrong_at (codes "settings") wrong_settings d)) both.0).1).1

pub settings-some : (bytes : List ℕ) (says : SettingsData) → settings_in bytes ≡ Ok says → 0 < length says.settings
settings-some bytes says e = go (json_in bytes) e
  where
    by-later : (d : Data) (b : Bool) → wrong_in d ≡ None → value_answer None b (settings_of d) ≡ Ok says → 0 < length says.settings
    by-later d true w k = absurd cc
    by-later d false w k = let same : settings_of d ≡ says = cc in let P : SettingsData → Type 0 = λ z. 0 < length z.settings in subst P same (listed-some d w)

    by-wrong : (d : Data) (o : Option (List ℕ)) → wrong_in d ≡ o → value_answer o (is_later d) (settings_of d) ≡ Ok says → 0 < length says.settings
    by-wrong d (Some path) w k = absurd cc
    by-wrong d None w k = by-later d (is_later d) w k

    go : (o : Option Data) → json_answer settings_from o ≡ Ok says → 0 < length says.settings
    go None k = absurd cc
    go (Some d) k = by-wrong d (wrong_in d) refl k

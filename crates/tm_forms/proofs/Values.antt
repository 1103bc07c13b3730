-- Values, and the lists that they hold.
use Rattle.std.proofs.Common.{◌≡◌, ℕ, suc, List, [], ◌∷◌, length, Some, refl, ap, sym, ◌∙◌}
use Rattle.serde_json.specs.Data.{Data}
use Rattle.serde_json.specs.Events.{items_len}
use Rattle.tm_forms.specs.Edits.{item_count, items_in}
use Rattle.serde_json.specs.Find.{as_array}
use Rattle.serde_json.specs.View.{items_view}
use Rattle.serde_json.specs.declared.value.Value.{Value}

items_len-view : (vs : List Value) → items_len (items_view vs) ≡ length vs
items_len-view [] = refl
items_len-view (v ∷ vs) = ap suc (items_len-view vs)

pub length-is : (d : Data) (vs : List Value) (n : ℕ) → Some (items_view vs) ≡ as_array d → n ≡ length vs → n ≡ item_count d
length-is d vs n e h = h ∙ sym (items_len-view vs) ∙ ap items_in e

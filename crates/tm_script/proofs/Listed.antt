-- Bytes that are text, and how many items a list has.
use Rattle.std.proofs.Common.{◌≡◌, ℕ, suc, List, [], ◌∷◌, length, Some, None, Bool, true, false, refl, ap, sym, ◌∙◌, if◌then◌else◌}
use Rattle.std.specs.Str.{is_utf8, IsUtf8}
use Rattle.std.proofs.lemmas.Str.{is_utf8-from_IsUtf8, IsUtf8-from_is_utf8}
use Rattle.serde_json.specs.Data.{Data}
use Rattle.serde_json.specs.Events.{items_len}
use Rattle.serde_json.specs.Find.{as_array}
use Rattle.serde_json.specs.View.{items_view}
use Rattle.serde_json.specs.declared.value.Value.{Value}
use Rattle.tm_script.specs.Values.{item_count, items_in, utf8_in}

pub utf8-some : (bytes text : List ℕ) → text ≡ bytes → IsUtf8 bytes → Some text ≡ utf8_in bytes
utf8-some bytes text e h = rw (is_utf8-from_IsUtf8 bytes h) (ap Some e)

none-unless : (bytes : List ℕ) (t : Bool) → ¬ (t ≡ true) → None ≡ (if t then Some bytes else None)
none-unless bytes true h = absurd (h refl)
none-unless bytes false h = refl

pub utf8-none : (bytes : List ℕ) → ¬ (IsUtf8 bytes) → None ≡ utf8_in bytes
utf8-none bytes h = none-unless bytes (is_utf8 bytes) (λ e. h (IsUtf8-from_is_utf8 bytes e))

items_len-view : (vs : List Value) → items_len (items_view vs) ≡ length vs
items_len-view [] = refl
items_len-view (v ∷ vs) = ap suc (items_len-view vs)

pub length-is : (d : Data) (vs : List Value) (n : ℕ) → Some (items_view vs) ≡ as_array d → n ≡ length vs → n ≡ item_count d
length-is d vs n e h = h ∙ sym (items_len-view vs) ∙ ap items_in e

-- The value of a file by its text.
use Rattle.std.proofs.Common.{◌≡◌, List, ℕ, sym, Some, None, Option, Bool, true, false, refl, if◌then◌else◌}
use Rattle.std.specs.Str.{is_utf8, IsUtf8}
use Rattle.std.proofs.lemmas.Str.{is_utf8-from_IsUtf8, IsUtf8-from_is_utf8}
use Rattle.serde_json.specs.Data.{Data}
use Rattle.serde_json.specs.Read.{read}
use Rattle.tm_grammar.specs.File.{value_in}

pub value-some : (bytes : List ℕ) (d : Data) → IsUtf8 bytes → read bytes ≡ Some d → Some d ≡ value_in bytes
value-some bytes d h is = rw (is_utf8-from_IsUtf8 bytes h) (sym is)

none-if : (t : Bool) (o : Option Data) → (t ≡ true → o ≡ None) → None ≡ (if t then o else None)
none-if true o h = sym (h refl)
none-if false o h = refl

pub value-none : (bytes : List ℕ) → (IsUtf8 bytes → read bytes ≡ None) → None ≡ value_in bytes
value-none bytes h = none-if (is_utf8 bytes) (read bytes) (λ e. h (IsUtf8-from_is_utf8 bytes e))

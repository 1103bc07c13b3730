-- Bytes as text.
use Rattle.std.proofs.Common.{◌≡◌, List, ℕ, ap, Some, None, Bool, true, false, refl, if◌then◌else◌}
use Rattle.std.specs.Str.{is_utf8, IsUtf8}
use Rattle.std.proofs.lemmas.Str.{is_utf8-from_IsUtf8, IsUtf8-from_is_utf8}
use Rattle.tm_forms.specs.Utf8.{text_of_utf8}

pub text-some : (bytes text : List ℕ) → text ≡ bytes → IsUtf8 bytes → Some text ≡ text_of_utf8 bytes
text-some bytes text e h = rw (is_utf8-from_IsUtf8 bytes h) (ap Some e)

none-if : (bytes : List ℕ) (t : Bool) → ¬ (t ≡ true) → None ≡ (if t then Some bytes else None)
none-if bytes true h = absurd (h refl)
none-if bytes false h = refl

pub text-none : (bytes : List ℕ) → ¬ (IsUtf8 bytes) → None ≡ text_of_utf8 bytes
text-none bytes h = none-if bytes (is_utf8 bytes) (λ e. h (IsUtf8-from_is_utf8 bytes e))

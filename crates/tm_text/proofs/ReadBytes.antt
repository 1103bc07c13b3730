-- Bytes read as characters, and these as a text.
use Rattle.std.proofs.Common.{◌≡◌, ℕ, ◌<◌, ◌≤◌, List, Ok, Err, refl, ap, ◌∙◌}
use Rattle.std.specs.Prelude.{IfOk, IfErr, Result}
use Rattle.std.specs.Str.{IsUtf8, chars}
use Rattle.tm_machine.specs.Changes.{lines_of}
use Rattle.tm_text.specs.Texts.{TextLines, IsTextFault, characters_of}
use Rattle.tm_text.specs.declared.faults.TextFault.{TextFault}
use Rattle.tm_text.specs.declared.faults.TextFault.TheVariants.{NotUtf8, TextFull, OutOfMemory}

module _ (bytes cs : List ℕ) (utf8 : IsUtf8 bytes) (is : cs ≡ chars bytes) where
  pub read-ok : (r : Result TextLines TextFault) → IfOk r (λ t. (t.lines ≡ lines_of cs) × (characters_of t.lines ≤ 16777216)) →
      IfOk r (λ t. IsUtf8 bytes × (t.lines ≡ lines_of (chars bytes)) × (characters_of t.lines ≤ 16777216))
  read-ok (Ok t) h = (utf8, h.0 ∙ ap lines_of is, h.1)
  read-ok (Err f) h = h

  pub read-fault : (r : Result TextLines TextFault) → ((n : ℕ) → r ≡ Err (TextFull n) → (n ≡ characters_of (lines_of cs)) × (16777216 < n)) → ((n : ℕ) → r ≡ Err (NotUtf8 n) → ⊥) → IfErr r (IsTextFault bytes)
  read-fault (Ok t) full bad = tt
  read-fault (Err (NotUtf8 n)) full bad = absurd (bad n refl)
  read-fault (Err (TextFull n)) full bad = let h = full n refl in (utf8, h.0 ∙ ap (λ x. characters_of (lines_of x)) is, h.1)
  read-fault (Err OutOfMemory) full bad = tt

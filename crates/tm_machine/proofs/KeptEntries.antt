-- A change keeps the entry of a birth that stays.
use Rattle.std.proofs.Common.{◌≡◌, ℕ, zero, suc, length, take, drop, Option, Some, None, refl, sym, ap, ◌∙◌, subst, arith}
use Rattle.std.specs.Prelude.{option_and_then, slice_get}
use Rattle.tm_defs.specs.declared.changes.Change.{Change}
use Rattle.tm_defs.specs.declared.changes.LineEffect.{LineEffect}
use Rattle.tm_machine.specs.Births.{Birth, place_of}
use Rattle.tm_machine.specs.Changes.{moved, effect_of, changed}
use Rattle.tm_machine.specs.Documents.{Rules, edited}
use Rattle.tm_machine.specs.Entries.{blanks, last_end}
use Rattle.tm_machine.specs.Machine.{Side, entry_of, seen, with_births}
use Rattle.tm_machine.specs.Places.{IsIn}
use Rattle.tm_machine.specs.Sound.{IsSoundSide}
use Rattle.tm_machine.specs.Turns.{opening}
use Rattle.tm_machine.proofs.BirthPlaces.{effect}
use Rattle.tm_machine.proofs.BornTexts.{place-changed, place_version}
use Rattle.tm_machine.proofs.EntrySteps.{length-right}
use Rattle.tm_machine.proofs.SplicedLists.{get-spliced}

length-blanks : {S : Type 0} (n : ℕ) (end : Option S) → length (blanks n end) ≡ n
length-blanks zero end = refl
length-blanks (suc zero) end = refl
length-blanks (suc (suc n)) end = ap suc (length-blanks (suc n) end)

pub entry-edited : (r : Rules) (s : Side) (c : Change) (b : Birth) (i j : ℕ) → IsSoundSide r s → IsIn s.text.lines c → place_of s.text.births b ≡ Some i → place_of (changed s.text c).births b ≡ Some j → entry_of (with_births (changed s.text c) (edited (seen s) c)) b ≡ entry_of s b
entry-edited r s c b i j h within p q =
    let e : LineEffect = effect_of s.text.lines c in
    let m : moved e i ≡ Some j = sym (place-changed s.text c b h.born within (place_version s.text.version s.text.births b i h.born.no_later p) ∙ ap (option_and_then (moved e)) p) ∙ q in
    let end = last_end None (take e.old (drop e.first s.entries)) in
    let l = length-right (r.setting s.epoch) r.budget opening s.text.lines s.entries h.right in
    ap (option_and_then (slice_get (edited (seen s) c).entries)) q
    ∙ get-spliced e.first e.old (blanks e.new end) s.entries i j (omega (arith, within.first, l)) (subst (λ n. moved (effect e.first e.old n) i ≡ Some j) (sym (length-blanks e.new end)) m)
    ∙ sym (ap (option_and_then (slice_get s.entries)) p)

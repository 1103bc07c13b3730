-- The front of a list of entries, and how many lines a turn tokenizes.
use Rattle.std.proofs.Common.{◌≡◌, ℕ, suc, zero, ◌<◌, true, false, List, [], ◌∷◌, length, get_or, Some, None, refl, ap, not, arith, ◌∙◌}
use Rattle.std.specs.Prelude.{if◌then◌else◌}
use Rattle.std.proofs.lemmas.List.Quantifiers.{position-Some}
use Rattle.tm_machine.specs.declared.entries.Entry.{Entry}
use Rattle.tm_machine.specs.Entries.{front, blocked_at, blank}
use Rattle.tm_machine.specs.Turns.{lines_tried, turn_ticks}

-- the number of an entry that is not good
pub front-within : {S : Type 0} (es : List (Entry S)) (i : ℕ) → front es ≡ Some i → i < length es
front-within es i h = (position-Some (λ (e : Entry _). not e.good) es i (blank None) h).0

pub blocked-read : {S : Type 0} (es : List (Entry S)) (i : ℕ) (d : Entry S) → i < length es → (get_or es i d).blocked ≡ blocked_at es i
blocked-read [] i d h = absurd (omega arith)
blocked-read (e ∷ es) zero d h = refl
blocked-read (e ∷ es) (suc i) d h = blocked-read es i d (omega arith)

-- how many lines a turn tokenizes
pub ticks-idle : {S : Type 0} (es : List (Entry S)) → front es ≡ None → turn_ticks es ≡ 0
ticks-idle es e = ap (lines_tried es) e

pub ticks-blocked : {S : Type 0} (es : List (Entry S)) (i : ℕ) → front es ≡ Some i → blocked_at es i ≡ true → turn_ticks es ≡ 0
ticks-blocked es i e b = ap (lines_tried es) e ∙ ap (λ x. if x then 0 else 1) b

pub ticks-front : {S : Type 0} (es : List (Entry S)) (i : ℕ) → front es ≡ Some i → blocked_at es i ≡ false → turn_ticks es ≡ 1
ticks-front es i e b = ap (lines_tried es) e ∙ ap (λ x. if x then 0 else 1) b

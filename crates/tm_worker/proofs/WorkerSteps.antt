-- The marks of a worker's lines through its steps.
use Rattle.std.proofs.Common.{◌≡◌, ℕ, zero, suc, Bool, false, List, [], ◌∷◌, length, map, replicate, refl, sym, ap, ◌∙◌}
use Rattle.tm_document.specs.Held.{Held}
use Rattle.tm_machine.specs.Machine.{marked}
use Rattle.tm_worker.specs.Working.{Working}

pub length-marked : (fs : List Bool) (i : ℕ) → length (marked fs i) ≡ length fs
length-marked [] i = refl
length-marked (f ∷ fs) zero = refl
length-marked (f ∷ fs) (suc i) = ap suc (length-marked fs i)

-- no line is fresh
pub map-false : (fs : List Bool) → map (λ f. false) fs ≡ replicate (length fs) false
map-false [] = refl
map-false (f ∷ fs) = ap (λ xs. false ∷ xs) (map-false fs)

pub cleared-is : {T : Type 0} (held : Held T) (marks now : List Bool) (w : Working T) → now ≡ replicate (length marks) false → record { held = held; fresh = marks } ≡ w → record { held = held; fresh = now } ≡ record w { fresh = map (λ f. false) w.fresh }
cleared-is {T} held marks now w cleared is =
    let with_marks : List Bool → Working T = λ m. record { held = held; fresh = m } in
    let none : now ≡ map (λ f. false) marks = cleared ∙ sym (map-false marks) in
    ap with_marks none ∙ ap (λ (x : Working T). record x { fresh = map (λ f. false) x.fresh }) is

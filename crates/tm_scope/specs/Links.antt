-- Lists that are numbered by their last part and the number of the rest.
use Rattle.std.specs.Prelude.{ℕ, ◌+◌, ◌<◌, ◌++◌, List, [], ◌∷◌, slice_index_or, ⊤}

-- the lists that the links add to those that stand already
abbrev pub resolved : {X L : Type 0} → (L → X) → (L → ℕ) → List (List X) → List L → List (List X)
resolved part rest done [] = done
resolved part rest done (link ∷ links) = resolved part rest (done ++ (slice_index_or done (rest link) [] ++ part link ∷ []) ∷ []) links

-- each link leads to an entry before its own; the first count entries are there already
abbrev pub LeadBack : {L : Type 0} → (L → ℕ) → ℕ → List L → Type 0
LeadBack rest count [] = ⊤
LeadBack rest count (link ∷ links) = (rest link < count) × LeadBack rest (count + 1) links

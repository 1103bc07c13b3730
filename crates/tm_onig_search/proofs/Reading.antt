-- A text that stands at a position ends within the line.
use Rattle.std.proofs.Common.{◌≡◌, ℕ, ◌+◌, ◌-◌, ◌≤◌, Bool, true, false, List, [], ◌∷◌, length, drop, sym, arith, true≢false}
use Rattle.std.specs.Prelude.{◌&&◌}
use Rattle.std.proofs.lemmas.List.{length-drop}
use Rattle.tm_onig_search.specs.Places.{matches, begins}

begins_short : (fold : Bool) (cs ds : List ℕ) → begins fold cs ds ≡ true → length cs ≤ length ds
begins_short fold [] ds fits = omega arith
begins_short fold (c ∷ cs) [] fits = absurd (true≢false (sym fits))
begins_short fold (c ∷ cs) (d ∷ ds) fits = go (matches fold c d) (begins_short fold cs ds) fits
  where
    go : (b : Bool) → (begins fold cs ds ≡ true → length cs ≤ length ds) → (b && begins fold cs ds) ≡ true → length (c ∷ cs) ≤ length (d ∷ ds)
    go true on rest = let shorter : length cs ≤ length ds = on rest in omega arith
    go false on rest = absurd (true≢false (sym rest))

pub begins_within : (line : List ℕ) (pos : ℕ) (fold : Bool) (text : List ℕ) → pos ≤ length line → begins fold text (drop pos line) ≡ true → pos + length text ≤ length line
begins_within line pos fold text within fits =
    let shorter : length text ≤ length (drop pos line) = begins_short fold text (drop pos line) fits in
    let rest : length (drop pos line) ≡ length line - pos = length-drop pos line in
    omega arith

-- A piece that ends behind a place is painted that far.
use Rattle.std.proofs.Common.{ℕ, zero, suc, ◌<◌, ◌≤◌, List, [], ◌∷◌, length, get_or, arith}
use Rattle.tm_line_turns.specs.declared.painter.Painted.{Painted}
use Rattle.tm_line_turns.specs.Painted.{furthest}

pub reach : (ps : List Painted) (i : ℕ) (d : Painted) (n : ℕ) → i < length ps → n ≤ (get_or ps i d).end → n ≤ furthest ps
reach [] i d n lt le = absurd (omega (arith, lt))
reach (p ∷ ps) zero d n lt le = grind (arith, le)
reach (p ∷ ps) (suc i) d n lt le = let rest = reach ps i d n (omega (arith, lt)) le in grind (arith, rest)

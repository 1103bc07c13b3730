-- A text file is short, so its text is never full.
use Rattle.std.proofs.Common.{◌≡◌, ℕ, ◌<◌, ◌≤◌, false, List, length, arith}
use Rattle.tm_machine.specs.Changes.{lines_of}
use Rattle.tm_machine.specs.Sizes.{characters_of}
use Rattle.tm_text.proofs.Sizes.{size-lines_after}

pub never-full : (text : List ℕ) (n : ℕ) → length text ≤ 1000000 → n ≡ characters_of (lines_of text) → 16777216 < n → ⊥
never-full text n short is full = let s = size-lines_after false text in omega (arith, s, short, is, full)

-- A table of 128 bits for the characters of ASCII.
use Rattle.std.specs.Prelude.{◌≡◌, ℕ, ◌<◌, ◌==◌, Bool, List}
use Rattle.std.specs.Int.{bit_at}
use Rattle.regex_class.specs.Ranges.{Range, in_ranges}
use Rattle.tm_onig_class.specs.Ranks.{AreRanks}

-- the bit is set
abbrev pub has_bit : ℕ → ℕ → Bool
has_bit table c = bit_at table c == 1

-- below n, the bits are the members
abbrev pub AgreeBelow : ℕ → ℕ → List Range → Type 0
AgreeBelow n table ranges = (c : ℕ) → c < n → has_bit table c ≡ in_ranges ranges c

-- each member is a character's rank, and the table has those below 128
pub record IsTied (ranks : List Range) (table : ℕ) : Type 0 where
  pub bounded : AreRanks ranks
  pub ascii : AgreeBelow 128 table ranks

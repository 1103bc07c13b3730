-- What becomes of what was made of a line elsewhere. An end is a state, or the number of one.
use Rattle.std.specs.Prelude.{ℕ, zero, suc, Bool, false, List, [], ◌∷◌, Option, if◌then◌else◌}
use Rattle.tm_defs.specs.declared.tokens.Token.{Token}
use Rattle.tm_machine.specs.declared.entries.Entry.{Entry}
use Rattle.tm_machine.specs.Entries.{end_at, start_at, put, guess}

-- a line, the state that it began in, and what was made of it
pub record Made (S : Type 0) : Type 0 where
  pub line : List ℕ
  pub start : S
  pub tokens : List Token
  pub end : S

-- it was behind the text; its line was replaced; the present line has other characters; the present line is good;
-- it began as the present line does, and is kept; it is a guess
pub data Use : Type 0 where
  Beyond : Use
  Touched : Use
  Unlike : Use
  Held : Use
  Kept : Use
  Guessed : Use

pub record Counts : Type 0 where
  pub kept : ℕ
  pub guessed : ℕ
  pub held : ℕ
  pub touched : ℕ
  pub beyond : ℕ
  pub unlike : ℕ

abbrev pub no_counts : Counts
no_counts = record { kept = 0; guessed = 0; held = 0; touched = 0; beyond = 0; unlike = 0 }

abbrev pub counted : Counts → Use → Counts
counted c Beyond = record c { beyond = suc c.beyond }
counted c Touched = record c { touched = suc c.touched }
counted c Unlike = record c { unlike = suc c.unlike }
counted c Held = record c { held = suc c.held }
counted c Kept = record c { kept = suc c.kept }
counted c Guessed = record c { guessed = suc c.guessed }

abbrev pub counts_from : Counts → List Use → Counts
counts_from c [] = c
counts_from c (u ∷ us) = counts_from (counted c u) us

abbrev pub good_at : {S : Type 0} → List (Entry S) → ℕ → Bool
good_at [] i = false
good_at (e ∷ es) zero = e.good
good_at (e ∷ es) (suc i) = good_at es i

-- the test says whether an end is this state
module _ {S : Type 0} (is : Option S → S → Bool) where
  -- at line i, whose characters are alike or not
  abbrev pub use_of : (first : Option S) → List (Entry S) → (alike : Bool) → (start : S) → ℕ → Use
  use_of first es alike start i = if alike then (if good_at es i then Held else (if is (start_at first es i) start then Kept else Guessed)) else Unlike

  abbrev pub used_at : Use → List (Entry S) → List Token → (end : S) → ℕ → List (Entry S)
  used_at Kept es tokens end i = put es i tokens end (is (end_at es i) end)
  used_at Guessed es tokens end i = guess es i tokens end (is (end_at es i) end)
  used_at _ es tokens end i = es

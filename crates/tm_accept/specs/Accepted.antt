-- What becomes of a batch in a text that was changed since: each item's line is taken through the effects of the later
-- changes, and the item is used where it arrives. An end is a state, or the number of one.
use Rattle.std.specs.Prelude.{◌≡◌, ℕ, ◌+◌, ◌-◌, ◌<◌, ◌≤◌, ◌^◌, Bool, nat_lt, nat_eq, List, [], ◌∷◌, drop, length, Option, Some, None, if◌then◌else◌}
use Rattle.tm_defs.specs.declared.changes.LineEffect.{LineEffect}
use Rattle.tm_defs.specs.declared.frames.FrameData.{FrameData}
use Rattle.tm_machine.specs.declared.entries.Entry.{Entry}
use Rattle.tm_machine.specs.Accepts.{Use, Beyond, Touched, Unlike, Counts, no_counts, counts_from, use_of, used_at}
use Rattle.tm_machine.specs.Births.{place_of}
use Rattle.tm_machine.specs.Changes.{BornText, line_after}
use Rattle.tm_machine.specs.Machine.{Item}
use Rattle.tm_machine.specs.Places.{line_at}
use Rattle.tm_machine.specs.Scratch.{Tokenizing}
use Rattle.tm_machine.specs.States.{same_text}
use Rattle.tm_rebase.specs.Batches.{Placed, Posted}

-- how many lines a text had before changes, behind which it has n
abbrev pub count_before : List LineEffect → ℕ → ℕ
count_before [] n = n
count_before (e ∷ es) n = count_before es n + e.old - e.new

-- effects behind which a text has n lines: what each put in is in the text behind it, and no text has 2^31 lines
abbrev pub Fit : List LineEffect → ℕ → Type 0
Fit [] n = n < 2 ^ 31
Fit (e ∷ es) n = (count_before (e ∷ es) n < 2 ^ 31) × (e.first + e.new ≤ count_before es n) × Fit es n

-- the effects of the changes after a version, where those after the oldest are kept
abbrev pub effects_after : (oldest : ℕ) → List LineEffect → (version : ℕ) → List LineEffect
effects_after oldest effects version = drop (version - oldest) effects

-- which batch may be used: it knows of changes that are yet to come; the changes since are not kept any more; it is by another
-- setting; it is used
pub data Verdict : Type 0 where
  TooNew : Verdict
  TooOld : Verdict
  ByAnother : Verdict
  Usable : Verdict

abbrev pub verdict : (oldest version epoch : ℕ) → Posted → Verdict
verdict oldest version epoch b =
    if nat_lt version b.version then TooNew
    else (if nat_lt b.version oldest then TooOld else (if nat_eq b.epoch epoch then Usable else ByAnother))

-- the test says whether an end is this state
module _ {S : Type 0} (is : Option S → S → Bool) (first : Option S) (effects : List LineEffect) (lines : List (List ℕ)) where
  -- an item whose line has arrived, if it was not replaced
  abbrev pub use_met : List (Entry S) → Placed S → Option ℕ → Use
  use_met es x None = Touched
  use_met es x (Some i) = use_of is first es (same_text x.line (line_at lines i)) x.start i

  abbrev pub placed_use : List (Entry S) → Placed S → Use
  placed_use es x = if nat_lt x.place (count_before effects (length lines)) then use_met es x (line_after effects x.place) else Beyond

  abbrev pub used_met : Use → List (Entry S) → Placed S → Option ℕ → List (Entry S)
  used_met of es x None = es
  used_met of es x (Some i) = used_at is of es x.tokens x.end i

  abbrev pub placed_entries : List (Entry S) → Placed S → List (Entry S)
  placed_entries es x = used_met (placed_use es x) es x (line_after effects x.place)

  -- items in order: the entries behind them, and what each became
  abbrev pub all_placed : List (Entry S) → List (Placed S) → List (Entry S)
  all_placed es [] = es
  all_placed es (x ∷ xs) = all_placed (placed_entries es x) xs

  abbrev pub placed_uses : List (Entry S) → List (Placed S) → List Use
  placed_uses es [] = []
  placed_uses es (x ∷ xs) = placed_use es x ∷ placed_uses (placed_entries es x) xs

  abbrev pub placed_counts : List (Entry S) → List (Placed S) → Counts
  placed_counts es xs = counts_from no_counts (placed_uses es xs)

  -- the characters of an item that is unlike its line, and those of the line
  abbrev pub pair_of : Use → Placed S → Option ℕ → Option (List ℕ × List ℕ)
  pair_of Unlike x (Some i) = Some (x.line, line_at lines i)
  pair_of _ x _ = None

  -- the first such pair
  abbrev pub pair_before : Option (List ℕ × List ℕ) → Option (List ℕ × List ℕ) → Option (List ℕ × List ℕ)
  pair_before (Some pair) later = Some pair
  pair_before None later = later

  abbrev pub first_pair : List (Entry S) → List (Placed S) → Option (List ℕ × List ℕ)
  first_pair es [] = None
  first_pair es (x ∷ xs) = pair_before (pair_of (placed_use es x) x (line_after effects x.place)) (first_pair (placed_entries es x) xs)

-- an item of the machine, beside one with a line number: its birth stands where the line map sends the line, and is gone
-- where the map gives none
pub record IsSameItem (effects : List LineEffect) (t : BornText) (p : Placed (List FrameData)) (x : Item) : Type 0 where
  pub made : p.made ≡ x.made
  pub within : p.place < count_before effects (length t.lines)
  pub place : place_of t.births x.birth ≡ line_after effects p.place

-- an item is what its line gives from its start
pub record IsRightPlaced (k : Tokenizing) (p : Placed (List FrameData)) : Type 0 where
  pub tokens : p.tokens ≡ (k.tokenized p.start p.line).tokens
  pub end : p.end ≡ (k.tokenized p.start p.line).end

-- What a contract sees of a text and of a planned change, and why bytes or a change are refused.
use Rattle.std.specs.Prelude.{◌≡◌, ℕ, ◌<◌, ◌≤◌, List, length, Some, All, ⊤}
use Rattle.std.specs.Str.{IsUtf8, IsValidUpTo, chars}
use Rattle.tm_defs.specs.declared.changes.Change.{Change}
use Rattle.tm_defs.specs.declared.changes.ChangeFault.{ChangeFault}
use Rattle.tm_defs.specs.declared.changes.ChangeFault.TheVariants as change
use Rattle.tm_defs.specs.declared.changes.LineEffect.{LineEffect}
use Rattle.tm_machine.specs.Changes.{HaveNoBreak, lines_of, lines_changed}
use Rattle.tm_machine.specs.Places.{IsIn, bad_place}
pub use Rattle.tm_machine.specs.Sizes.{size_of_lines, characters_of}
use Rattle.tm_text.specs.declared.faults.TextFault.{TextFault}
use Rattle.tm_text.specs.declared.faults.TextFault.TheVariants as fault

-- the lines, and how many new ones there is room for
pub record TextLines : Type 0 where
  pub lines : List (List ℕ)
  pub spare : ℕ

-- what a change will do, and the new lines
pub record Planned : Type 0 where
  pub effect : LineEffect
  pub lines : List (List ℕ)

-- what each text is: lines without a line break in them, one at least, and no more characters than there may be
pub record IsText (lines : List (List ℕ)) : Type 0 where
  pub some : 0 < length lines
  pub no_break : HaveNoBreak lines
  pub fits : characters_of lines ≤ 16777216

-- and so its lines are few, and short
pub record IsSmall (lines : List (List ℕ)) : Type 0 where
  pub few : length lines ≤ 16777217
  pub short : All (λ line. length line ≤ 16777216) lines

-- why bytes are no text: the longest front that is UTF-8 ends before them, or they are too many characters
abbrev pub IsTextFault : List ℕ → TextFault → Type 0
IsTextFault bytes (fault.NotUtf8 offset) = IsValidUpTo bytes offset
IsTextFault bytes (fault.TextFull n) = IsUtf8 bytes × (n ≡ characters_of (lines_of (chars bytes))) × (16777216 < n)
IsTextFault bytes fault.OutOfMemory = ⊤

-- why a change is refused: the first bad place, or too many characters behind it
abbrev pub IsChangeFault : List (List ℕ) → Change → ChangeFault → Type 0
IsChangeFault lines c (change.BadPlace place) = bad_place lines c ≡ Some place
IsChangeFault lines c (change.TextFull n) = IsIn lines c × (n ≡ characters_of (lines_changed lines c)) × (16777216 < n)
IsChangeFault lines c (change.VersionFull version) = ⊥
IsChangeFault lines c change.OutOfMemory = ⊤

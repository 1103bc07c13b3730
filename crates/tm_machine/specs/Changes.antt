-- What a change does to any list that stands beside the lines of a text, and to the text itself.
use Rattle.std.specs.Prelude.{◌≡◌, ◌≢◌, ℕ, suc, ◌+◌, ◌-◌, Bool, true, false, ◌==◌, nat_lt, List, [], ◌∷◌, ◌++◌, length, take, drop, Option, Some, None, option_and_then, if◌then◌else◌}
use Rattle.tm_defs.specs.declared.changes.Change.{Change}
use Rattle.tm_defs.specs.declared.changes.LineEffect.{LineEffect}
use Rattle.tm_machine.specs.Births.{Birth, born, AllDiffer, NoLaterThan}
use Rattle.tm_machine.specs.Places.{line_at, IsIn}

-- the range from a place on is replaced by other members
abbrev pub spliced : {A : Type 0} → (first old : ℕ) → (news xs : List A) → List A
spliced first old news xs = take first xs ++ (news ++ drop old (drop first xs))

-- where one change takes a line, and none where it replaces the line
abbrev pub moved : LineEffect → ℕ → Option ℕ
moved e i = if nat_lt i e.first then Some i else (if nat_lt i (e.first + e.old) then None else Some (i + e.new - e.old))

-- the line map: where changes take a line, one after another
abbrev pub line_after : List LineEffect → ℕ → Option ℕ
line_after [] i = Some i
line_after (e ∷ es) i = option_and_then (line_after es) (moved e i)

-- the lines of a text: `\r\n`, `\n` and `\r` each end a line. The flag says that the character before was `\r`
abbrev pub add_front : ℕ → List (List ℕ) → List (List ℕ)
add_front c [] = (c ∷ []) ∷ []
add_front c (line ∷ lines) = (c ∷ line) ∷ lines

abbrev pub lines_after : Bool → List ℕ → List (List ℕ)
lines_after returned [] = [] ∷ []
lines_after returned (c ∷ cs) =
    if c == 13 then [] ∷ lines_after true cs
    else (if c == 10 then (if returned then lines_after false cs else [] ∷ lines_after false cs)
    else add_front c (lines_after false cs))

abbrev pub lines_of : List ℕ → List (List ℕ)
lines_of cs = lines_after false cs

-- the lines of the first line's front, the new text and the last line's rest
abbrev pub new_lines : List (List ℕ) → Change → List (List ℕ)
new_lines lines c = lines_of (take c.from_col (line_at lines c.from_line) ++ (c.text ++ drop c.to_col (line_at lines c.to_line)))

-- all lines from the first to the last one are replaced
abbrev pub effect_of : List (List ℕ) → Change → LineEffect
effect_of lines c = record { first = c.from_line; old = suc (c.to_line - c.from_line); new = length (new_lines lines c) }

abbrev pub lines_changed : List (List ℕ) → Change → List (List ℕ)
lines_changed lines c = let e : LineEffect = effect_of lines c in spliced e.first e.old (new_lines lines c) lines

-- a text whose lines have births, at a version
pub record BornText : Type 0 where
  pub version : ℕ
  pub births : List Birth
  pub lines : List (List ℕ)

-- the lines of the opening text are born at version 0
abbrev pub opened : List (List ℕ) → BornText
opened lines = record { version = 0; births = born 0 (length lines); lines = lines }

-- the change that makes a version gives each line of its range the birth (version, index), also where
-- the characters are the same; all other lines keep theirs
abbrev pub changed : BornText → Change → BornText
changed t c =
    let e : LineEffect = effect_of t.lines c in
    record {
      version = suc t.version;
      births = spliced e.first e.old (born (suc t.version) e.new) t.births;
      lines = lines_changed t.lines c;
    }

-- changes one after another, and what they did to line numbers
abbrev pub changed_by : BornText → List Change → BornText
changed_by t [] = t
changed_by t (c ∷ cs) = changed_by (changed t c) cs

abbrev pub effects_of : BornText → List Change → List LineEffect
effects_of t [] = []
effects_of t (c ∷ cs) = effect_of t.lines c ∷ effects_of (changed t c) cs

-- each change is in the text that it meets
abbrev pub AreIn : BornText → List Change → Type 0
AreIn t [] = Unit {0}
AreIn t (c ∷ cs) = IsIn t.lines c × AreIn (changed t c) cs

-- a line has no line break in it
abbrev pub HasNoBreak : List ℕ → Type 0
HasNoBreak [] = Unit {0}
HasNoBreak (c ∷ cs) = (c ≢ 13) × (c ≢ 10) × HasNoBreak cs

abbrev pub HaveNoBreak : List (List ℕ) → Type 0
HaveNoBreak [] = Unit {0}
HaveNoBreak (line ∷ lines) = HasNoBreak line × HaveNoBreak lines

-- what holds of each born text
pub record IsBorn (t : BornText) : Type 0 where
  pub beside : length t.births ≡ length t.lines
  pub differ : AllDiffer t.births
  pub no_later : NoLaterThan t.version t.births

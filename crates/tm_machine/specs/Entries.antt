-- What is kept of the lines of a text, in line order, and the steps on it. An end is a state, or the
-- number of one.
use Rattle.std.specs.Prelude.{◌≡◌, ℕ, zero, suc, ◌+◌, ◌<◌, Bool, true, false, not, List, [], ◌∷◌, length, take, drop, position, Option, Some, None, option_and_then, if◌then◌else◌, slice_get, IsTrue}
use Rattle.std.specs.List.{list_all}
use Rattle.tm_defs.specs.declared.changes.LineEffect.{LineEffect}
use Rattle.tm_defs.specs.declared.frames.FrameData.{FrameData}
use Rattle.tm_defs.specs.declared.tokens.Token.{Token}
use Rattle.tm_defs.specs.Tokenizer.{Tokenized}
use Rattle.tm_machine.specs.declared.entries.Entry.{Entry}
use Rattle.tm_machine.specs.Changes.{spliced}
use Rattle.tm_machine.specs.Scratch.{Tokenizing, line_from_scratch}
use Rattle.tm_machine.specs.States.{same_state}

-- nothing is known of the line but the end of a line that stood there, if that
abbrev pub blank : {S : Type 0} → Option S → Entry S
blank end = record { tokens = None; end = end; good = false; blocked = false }

-- the end stored at i
abbrev pub end_at : {S : Type 0} → List (Entry S) → ℕ → Option S
end_at es i = option_and_then (λ e. e.end) (slice_get es i)

-- the state before line i: the first line has its own, every other the end of the line before
abbrev pub start_at : {S : Type 0} → Option S → List (Entry S) → ℕ → Option S
start_at first es zero = first
start_at first es (suc i) = end_at es i

-- the first entry that is not good
abbrev pub front : {S : Type 0} → List (Entry S) → Option ℕ
front es = position (λ e. not e.good) es

-- every entry up to i is good
abbrev pub is_accurate : {S : Type 0} → List (Entry S) → ℕ → Bool
is_accurate es i = list_all (λ e. e.good) (take (i + 1) es)

-- every entry is good
abbrev pub is_settled : {S : Type 0} → List (Entry S) → Bool
is_settled es = list_all (λ e. e.good) es

abbrev pub blocked_at : {S : Type 0} → List (Entry S) → ℕ → Bool
blocked_at [] i = false
blocked_at (e ∷ es) zero = e.blocked
blocked_at (e ∷ es) (suc i) = blocked_at es i

-- the start of the first of the entries has changed
abbrev pub invalid : {S : Type 0} → Entry S → Entry S
invalid e = record e { good = false; blocked = false }

abbrev pub first_invalid : {S : Type 0} → List (Entry S) → List (Entry S)
first_invalid [] = []
first_invalid (e ∷ es) = invalid e ∷ es

-- tokens and end are stored at i. Where the end is not the same as before, the next entry is not good any more
abbrev pub put : {S : Type 0} → List (Entry S) → ℕ → List Token → S → Bool → List (Entry S)
put [] i tokens end same = []
put (e ∷ es) zero tokens end same =
    record { tokens = Some tokens; end = Some end; good = true; blocked = false } ∷ (if same then es else first_invalid es)
put (e ∷ es) (suc i) tokens end same = e ∷ put es i tokens end same

-- tokens and end are guessed at i, which stays as good and as blocked as it was. The next entry is as in a put
abbrev pub guess : {S : Type 0} → List (Entry S) → ℕ → List Token → S → Bool → List (Entry S)
guess [] i tokens end same = []
guess (e ∷ es) zero tokens end same = record e { tokens = Some tokens; end = Some end } ∷ (if same then es else first_invalid es)
guess (e ∷ es) (suc i) tokens end same = e ∷ guess es i tokens end same

abbrev pub is_end : Option (List FrameData) → List FrameData → Bool
is_end None s = false
is_end (Some d) s = same_state d s

-- a line is done: what it gave is stored
abbrev pub stored : List (Entry (List FrameData)) → ℕ → Tokenized → List (Entry (List FrameData))
stored es i r = put es i r.tokens r.end (is_end (end_at es i) r.end)

-- the entry at i is blocked
abbrev pub block : {S : Type 0} → List (Entry S) → ℕ → List (Entry S)
block [] i = []
block (e ∷ es) zero = record e { blocked = true } ∷ es
block (e ∷ es) (suc i) = e ∷ block es i

-- the end of the last of the entries
abbrev pub last_end : {S : Type 0} → Option S → List (Entry S) → Option S
last_end end [] = end
last_end end (e ∷ es) = last_end e.end es

-- n blank entries, the last of them with an end
abbrev pub blanks : {S : Type 0} → ℕ → Option S → List (Entry S)
blanks zero end = []
blanks (suc zero) end = blank end ∷ []
blanks (suc (suc n)) end = blank None ∷ blanks (suc n) end

-- the range of an effect is replaced by blank entries, of which the last has the end of the last replaced one
abbrev pub replaced : {S : Type 0} → LineEffect → List (Entry S) → List (Entry S)
replaced e es = spliced e.first e.old (blanks e.new (last_end None (take e.old (drop e.first es)))) es

-- an entry holds this
pub record Holds (e : Entry (List FrameData)) (r : Tokenized) : Type 0 where
  pub tokens : e.tokens ≡ Some r.tokens
  pub end : e.end ≡ Some r.end

-- a good entry holds what its line gives from its start; a blocked one is not good, and its line costs more than the budget
pub record IsRight (k : Tokenizing) (budget : ℕ) (before : Option (List FrameData)) (line : List ℕ) (e : Entry (List FrameData)) : Type 0 where
  pub good : IsTrue e.good → (s : List FrameData) × (before ≡ Some s) × Holds e (k.tokenized s line)
  pub blocked : IsTrue e.blocked → (e.good ≡ false) × ((s : List FrameData) × (before ≡ Some s) × (budget < k.plain_cost s line))

-- each entry, beside its line, where the first of the lines has this start
abbrev pub AreRight : Tokenizing → ℕ → Option (List FrameData) → List (List ℕ) → List (Entry (List FrameData)) → Type 0
AreRight k budget before [] [] = Unit {0}
AreRight k budget before [] (e ∷ es) = ⊥
AreRight k budget before (line ∷ lines) [] = ⊥
AreRight k budget before (line ∷ lines) (e ∷ es) = IsRight k budget before line e × AreRight k budget e.end lines es

-- the entry of line i holds what tokenizing the text from its first line gives
abbrev pub IsFromScratch : Tokenizing → List (List ℕ) → List (Entry (List FrameData)) → ℕ → Type 0
IsFromScratch k lines es i = (line : List ℕ) × (e : Entry (List FrameData)) × (slice_get lines i ≡ Some line) × (slice_get es i ≡ Some e) × Holds e (line_from_scratch k lines i line)

-- the accuracy of a store: each line that is marked accurate is from scratch, and where no line is invalid the whole store is
pub record AreAccurate (k : Tokenizing) (lines : List (List ℕ)) (es : List (Entry (List FrameData))) : Type 0 where
  pub beside : length es ≡ length lines
  pub accurate : (i : ℕ) → i < length lines → is_accurate es i ≡ true → IsFromScratch k lines es i
  pub settled : is_settled es ≡ true → (i : ℕ) → i < length lines → IsFromScratch k lines es i

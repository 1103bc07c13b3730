-- Before which characters, and behind which, a match may start. These answers may be yes where no match
-- starts, and are no only where none does.
use Rattle.std.specs.Prelude.{◌≡◌, ℕ, Bool, true, false, ◌&&◌, ◌||◌, not, ◌==◌, nat_lt, Option, Some, None, ⊤, if◌then◌else◌}
use Rattle.tm_onig_class.specs.declared.listed.Listed.TheVariants as L
use Rattle.tm_onig_class.specs.declared.patterns.Position.{Position}
use Rattle.tm_onig_class.specs.declared.patterns.Position.TheVariants.{LineStart, LineEnd, TextStart, SearchStart, BeforeFinal, TextEnd, Word, NotWord}
use Rattle.tm_onig_class.specs.Listed.{in_listed}
use Rattle.tm_onig_class.specs.Tree.{Tree, Empty, Char, Any, InSet, Cat, Alt, Group, Atomic, Repeat, Look, Back, Holds, Trees, NoTrees, More}
use Rattle.tm_onig_search.specs.Places.{Subject, matches, in_set, is_any, before, is_break, is_word}

-- the next character passes the test, or lies beyond ASCII; where there is none, the answer is `end`
abbrev pub may_pass : Bool → (ℕ → Bool) → Option ℕ → Bool
may_pass end test None = end
may_pass end test (Some c) = if nat_lt c 128 then test c else true

-- What stands before a position, as far as it is known: `Some word` is a character that is no line break,
-- behind the position where the search began; `word` says whether it is a word's character.
pub record IsBehind (s : Subject) (word : Bool) (pos : ℕ) : Type 0 where
  pub inside : (pos == 0) ≡ false
  pub later : (pos == s.first) ≡ false
  pub unbroken : is_break (before s.line pos) ≡ false
  pub word_is : is_word (before s.line pos) ≡ word

abbrev pub Sits : Subject → Option Bool → ℕ → Type 0
Sits s None pos = ⊤
Sits s (Some word) pos = IsBehind s word pos

-- the place may be before the next character
abbrev pub may_hold : Option Bool → Position → Option ℕ → Bool
may_hold None LineStart next = true
may_hold (Some word) LineStart next = false
may_hold behind LineEnd next = may_pass true (λ c. c == 0x0A) next
may_hold None TextStart next = true
may_hold (Some word) TextStart next = false
may_hold None SearchStart next = true
may_hold (Some word) SearchStart next = false
may_hold behind BeforeFinal next = may_pass true (λ c. c == 0x0A) next
may_hold behind TextEnd next = may_pass true (λ c. false) next
may_hold None Word next = true
may_hold (Some true) Word next = may_pass true (λ c. not (in_listed L.Word c)) next
may_hold (Some false) Word next = may_pass false (in_listed L.Word) next
may_hold None NotWord next = true
may_hold (Some true) NotWord next = may_pass false (in_listed L.Word) next
may_hold (Some false) NotWord next = may_pass true (λ c. not (in_listed L.Word c)) next

-- The tree, and then what follows, may succeed before the next character, where `rest` says whether what
-- follows may succeed there. A positive look ahead counts; other looks are passed over, and a back
-- reference may be any text.
module _ (behind : Option Bool) (next : Option ℕ) where
  unfoldable mutual
    pub may_start : Tree → Bool → Bool
    may_start Empty rest = rest
    may_start (Char c fold) rest = may_pass false (matches fold c) next
    may_start (Any newline) rest = may_pass false (is_any newline) next
    may_start (InSet set fold) rest = may_pass false (in_set set fold) next
    may_start (Cat ts) rest = may_start_row ts rest
    may_start (Alt ts) rest = may_start_any ts rest
    may_start (Group number t) rest = may_start t rest
    may_start (Atomic t) rest = may_start t rest
    may_start (Repeat t least greatest greedy) rest = may_start t rest || ((least == 0) && rest)
    may_start (Look t true false) rest = may_start t true && rest
    may_start (Look t true true) rest = rest
    may_start (Look t false negative) rest = rest
    may_start (Back groups fold) rest = true
    may_start (Holds place) rest = may_hold behind place next && rest

    -- the parts one after another
    pub may_start_row : Trees → Bool → Bool
    may_start_row NoTrees rest = rest
    may_start_row (More t ts) rest = may_start t (may_start_row ts rest)

    -- one of the parts
    pub may_start_any : Trees → Bool → Bool
    may_start_any NoTrees rest = false
    may_start_any (More t ts) rest = may_start t rest || may_start_any ts rest

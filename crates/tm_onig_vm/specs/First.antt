-- The characters that a match may start before, as bits.
use Rattle.std.specs.Prelude.{◌≡◌, ℕ, Bool, true, false, ◌==◌, ◌&&◌, not, nat_lt, Option, Some, None, slice_get, if◌then◌else◌}
use Rattle.tm_onig_class.specs.Ascii.{has_bit}
use Rattle.tm_onig_class.specs.Listed.{in_listed}
use Rattle.tm_onig_class.specs.declared.listed.Listed.TheVariants as L
use Rattle.tm_onig_class.specs.Tree.{Tree, Empty, Char, Any, InSet, Cat, Alt, Group, Atomic, Repeat, Look, Back, Holds, Trees, NoTrees, More}
use Rattle.tm_onig_search.specs.Places.{Subject, matches, in_set, is_any}
use Rattle.tm_onig_search.specs.Find.{at_start}
use Rattle.tm_onig_search.specs.Starts.{Sits, may_start}
use Rattle.tm_onig_vm.specs.declared.first.First.{First}
use Rattle.tm_onig_vm.specs.declared.first.Firsts.{Firsts}

-- the next character is among them; none is the text's end
abbrev pub in_first : First → Option ℕ → Bool
in_first f None = f.end
in_first f (Some c) = if nat_lt c 128 then has_bit f.ascii c else f.beyond

-- the class of a next character: its code in ASCII, any other, and the text's end
abbrev pub next_class : Option ℕ → ℕ
next_class None = 129
next_class (Some c) = if nat_lt c 128 then c else 128

-- the class is among them
abbrev pub in_class : First → ℕ → Bool
in_class f n = if nat_lt n 128 then has_bit f.ascii n else if n == 128 then f.beyond else f.end

-- by what stands before
abbrev pub first_behind : Firsts → Option Bool → First
first_behind fs None = fs.unknown
first_behind fs (Some true) = fs.word
first_behind fs (Some false) = fs.other

-- Whether a word's character, or one that is none, may be one that the tree passes. Yes, where it is not a single
-- character that is taken as it is.
abbrev pub may_be : Bool → Tree → Bool
may_be word (Char c false) = if in_listed L.Word c then word else not word
may_be word t = true

-- Whether a match may start behind such a character: a pattern that begins with a look at the character before wants
-- to find it there. Yes for every other pattern.
unfoldable mutual
  pub may_follow : Bool → Tree → Bool
  may_follow word Empty = true
  may_follow word (Char c fold) = true
  may_follow word (Any newline) = true
  may_follow word (InSet set fold) = true
  may_follow word (Cat parts) = may_follow_first word parts
  may_follow word (Alt parts) = true
  may_follow word (Group number body) = may_follow word body
  may_follow word (Atomic body) = may_follow word body
  may_follow word (Repeat body least greatest greedy) = true
  may_follow word (Look body true negative) = true
  may_follow word (Look body false true) = true
  may_follow word (Look body false false) = may_be word body
  may_follow word (Back groups fold) = true
  may_follow word (Holds place) = true

  pub may_follow_first : Bool → Trees → Bool
  may_follow_first word NoTrees = true
  may_follow_first word (More part parts) = may_follow word part

-- whether a match may start behind what stands there, and before the next character
abbrev pub may_begin : Option Bool → Option ℕ → Tree → Bool
may_begin None next t = may_start None next t true
may_begin (Some word) next t = may_follow word t && may_start (Some word) next t true

-- the characters are those that the tree may start before
abbrev pub AreFirst : Option Bool → Tree → First → Type 0
AreFirst behind t f = (next : Option ℕ) → in_first f next ≡ may_begin behind next t

abbrev pub AreFirsts : Tree → Firsts → Type 0
AreFirsts t fs = (behind : Option Bool) → AreFirst behind t (first_behind fs behind)

-- no match of the pattern starts before this next character, where this stands before
abbrev pub NeverStarts : Tree → Option Bool → Option ℕ → Type 0
NeverStarts t behind next = (s : Subject) (start : ℕ) → Sits s behind start → slice_get s.line start ≡ next → (at_start s t start).hit ≡ None

-- the test of a leaf
abbrev pub leaf_test : Tree → ℕ → Bool
leaf_test (Char c fold) d = matches fold c d
leaf_test (Any newline) d = is_any newline d
leaf_test (InSet set fold) d = in_set set fold d
leaf_test t d = false

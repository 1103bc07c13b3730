-- Patterns of exactly one character, and runs of characters that pass one.
use Rattle.std.specs.Prelude.{ℕ, zero, suc, Bool, true, false, ◌&&◌, nat_le, List, [], ◌∷◌, length, Option, Some, None, if◌then◌else◌}
use Rattle.tm_onig_class.specs.Tree.{Tree, Char, Any, InSet}
use Rattle.tm_onig_search.specs.Places.{matches, in_set, is_any}
use Rattle.tm_onig_search.specs.Search.{width_or}
use Rattle.tm_onig_vm.specs.declared.singles.Single.{Single}
use Rattle.tm_onig_vm.specs.declared.singles.Single.TheVariants as S

-- each match takes one character, and the character alone decides
abbrev pub is_single : Tree → Bool
is_single (Char c fold) = true
is_single (Any newline) = true
is_single (InSet set fold) = true
is_single t = false

abbrev pub single_tree : Single → Tree
single_tree (S.Char c fold) = Char c fold
single_tree (S.Any newline) = Any newline
single_tree (S.Member set fold) = InSet set fold

-- the character passes
abbrev pub single_has : Single → ℕ → Bool
single_has (S.Char c fold) = matches fold c
single_has (S.Any newline) = is_any newline
single_has (S.Member set fold) = in_set set fold

-- the greatest number of rounds is not below the least
abbrev pub fits : ℕ → Option ℕ → Bool
fits least None = true
fits least (Some n) = nat_le least n

-- a greedy loop over one character
abbrev pub is_span : Tree → ℕ → Option ℕ → Bool → Bool
is_span t least greatest greedy = greedy && (fits least greatest && is_single t)

-- how many characters pass one after another, as far as n go
unfoldable pub run_of : (ℕ → Bool) → ℕ → List ℕ → ℕ
run_of test zero cs = 0
run_of test (suc n) [] = 0
run_of test (suc n) (c ∷ cs) = if test c then suc (run_of test n cs) else 0

-- the rounds that a loop may make in a line
abbrev pub most_of : Option ℕ → List ℕ → ℕ
most_of greatest line = width_or greatest (length line)

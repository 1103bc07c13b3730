-- A worked line: `let (x` under a grammar in which `let` is a keyword (rule 1) and `(` begins a group
-- (rule 2).
use Rattle.std.specs.Prelude.{ℕ, zero, suc, true, false, List, [], ◌∷◌, Some, None}
use Rattle.tm_defs.specs.declared.tokens.Token.{Token}
use Rattle.tm_line_turns.specs.declared.found.Match.{Match}
use Rattle.tm_line_turns.specs.declared.found.Winner.{Winner}
use Rattle.tm_line_turns.specs.declared.found.Winner.TheVariants.{Nothing, Begins, Matches}
use Rattle.tm_line_turns.specs.LineRun.{Place, Grammar, earlier, nothing, plain}

-- the names `r`, `k` and `g` stand for root, keyword and group
abbrev pub root : List ℕ
root = 114 ∷ []

abbrev pub keyword : List ℕ
keyword = 107 ∷ []

abbrev pub group : List ℕ
group = 103 ∷ []

abbrev pub found_from : ℕ → ℕ → Match
found_from start end = record { start = start; end = end; groups = Some (start, end) ∷ [] }

-- inside the root the keyword is found at 0 to 3, and behind it the group's begin at 4 to 5; inside
-- the group nothing is found
abbrev pub found : ℕ → ℕ → Winner
found zero zero = Matches 1 (found_from 0 3)
found zero (suc at) = Begins 2 (found_from 4 5)
found (suc rule) at = Nothing

abbrev pub names : ℕ → List (List ℕ)
names zero = root ∷ []
names (suc zero) = keyword ∷ []
names (suc (suc rule)) = group ∷ []

-- the text is `let (x` and its line break, and each search takes 10 steps
abbrev pub example : Grammar
example = record {
  rules = 3;
  end = 7;
  winner = λ frame has_end at first anchored. found frame.rule at;
  cost = λ frame has_end at first anchored. 10;
  names = λ rule m. names rule;
  content_names = λ rule m. [];
  end_text = λ rule m. None;
  captured = λ whose rule m stack scopes first. nothing;
  has_while = λ rule. false;
  while_match = λ frame at first anchored. None;
  while_cost = λ frame at first anchored. 0;
}

abbrev pub start : Place
start = record { top = earlier (plain 0 (root ∷ []) false); below = []; at = 0; anchor = None; first = true }

-- the metadata of scopes is their number here
abbrev pub depth : List (List ℕ) → ℕ
depth [] = 0
depth (scope ∷ scopes) = suc (depth scopes)

abbrev pub token : ℕ → ℕ → Token
token start meta = record { start = start; meta = meta }

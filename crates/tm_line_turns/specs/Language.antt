-- What rules say of every text, and what metadata scopes have.
use Rattle.std.specs.Prelude.{◌≡◌, ℕ, zero, suc, nat_lt, List, [], length, Bool, Option, Some, None, if◌then◌else◌}
use Rattle.tm_defs.specs.declared.frames.FrameData.{FrameData}
use Rattle.tm_line_turns.specs.declared.captures.GroupRule.{GroupRule}
use Rattle.tm_line_turns.specs.declared.found.Match.{Match}
use Rattle.tm_line_turns.specs.declared.found.Whose.{Whose}
use Rattle.tm_line_turns.specs.declared.found.Winner.{Winner}
use Rattle.tm_line_turns.specs.Captures.{Inner, capture_productions, tokenized}
use Rattle.tm_line_turns.specs.Laws.{IsLineRun, IsWinnerWithin}
use Rattle.tm_line_turns.specs.LineRun.{Grammar, Open, Place, line_run, most_open, nothing}

-- as a `Grammar` says of one text; what a rule says of the groups of its pattern, in the order in which they are
-- walked; the names that a text with what a match captured gives; the metadata of scopes; and which rules each later
-- line must hold up, what is found of that in a text, and the steps of that search
pub record Language : Type 0 where
  pub rules : ℕ
  pub winner : List ℕ → FrameData → Bool → ℕ → Bool → Bool → Winner
  pub cost : List ℕ → FrameData → Bool → ℕ → Bool → Bool → ℕ
  pub names : List ℕ → ℕ → Match → List (List ℕ)
  pub content_names : List ℕ → ℕ → Match → List (List ℕ)
  pub end_text : List ℕ → ℕ → Match → Option (List ℕ)
  pub captures : Whose → ℕ → List GroupRule
  pub filled : List ℕ → Match → List ℕ → List (List ℕ)
  pub meta : List (List ℕ) → ℕ
  pub has_while : ℕ → Bool
  pub while_match : List ℕ → FrameData → ℕ → Bool → Bool → Option Match
  pub while_cost : List ℕ → FrameData → ℕ → Bool → Bool → ℕ

-- what they say of this text, where its groups are tokenized again so
abbrev pub grammar_by : Language → List ℕ → (Bool → List Open → Option Inner) → Grammar
grammar_by l text inner = record {
  rules = l.rules;
  end = length text;
  winner = l.winner text;
  cost = l.cost text;
  names = l.names text;
  content_names = l.content_names text;
  end_text = l.end_text text;
  captured = λ whose rule m stack base first. capture_productions (l.filled text m) base m (inner first stack) [] (l.captures whose rule);
  has_while = l.has_while;
  while_match = l.while_match text;
  while_cost = l.while_cost text;
}

-- how the groups of a text are tokenized again: so many times one within the other, and where one more rule may be open
unfoldable pub inner_at : Language → ℕ → List ℕ → Bool → List Open → Option Inner
inner_at l zero text first stack = None
inner_at l (suc depth) text first stack =
    if nat_lt (length stack) most_open
    then Some (tokenized (λ cut. grammar_by l cut (inner_at l depth cut)) text first stack)
    else None

abbrev pub grammar_at : Language → ℕ → List ℕ → Grammar
grammar_at l depth text = grammar_by l text (inner_at l depth text)

-- how many times groups may be tokenized again one within the other
abbrev pub most_deep : ℕ
most_deep = 8

-- what they say of the text of a line
abbrev pub grammar_of : Language → List ℕ → Grammar
grammar_of l text = grammar_at l most_deep text

-- what is found lies in the text, whatever it is
abbrev pub FindsInText : Language → Type 0
FindsInText l = (text : List ℕ) (frame : FrameData) (has_end : Bool) (at : ℕ) (first anchored : Bool) → IsWinnerWithin l.rules (length text) (l.winner text frame has_end at first anchored)

-- the line relation at each depth meets its equation, and no other function does
abbrev pub IsRunAtEachDepth : Language → Type 0
IsRunAtEachDepth l = (depth : ℕ) (text : List ℕ) → IsLineRun (grammar_at l depth text)

-- no rule says anything of a group
abbrev pub HasNoCaptures : Language → Type 0
HasNoCaptures l = (whose : Whose) (rule : ℕ) → l.captures whose rule ≡ []

-- as a grammar in which groups add nothing
abbrev pub without_groups : Grammar → Grammar
without_groups g = record g { captured = λ whose rule m stack base first. nothing }

abbrev pub GroupsAddNothing : Language → Type 0
GroupsAddNothing l = (depth : ℕ) (text : List ℕ) (p : Place) → line_run (grammar_at l depth text) p ≡ line_run (without_groups (grammar_at l depth text)) p

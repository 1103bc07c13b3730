-- Worked lines under rules that a line must hold up. What a rule finds and what its search takes are given by its number
-- and the position here.
use Rattle.std.specs.Prelude.{ℕ, Bool, true, false, ◌&&◌, ◌||◌, ◌==◌, not, List, [], ◌∷◌, Option, Some, None, if◌then◌else◌}
use Rattle.tm_defs.specs.declared.frames.FrameData.{FrameData}
use Rattle.tm_defs.specs.declared.tokens.Token.{Token}
use Rattle.tm_paint.specs.Painted.{scopes_at}
use Rattle.tm_line_turns.specs.declared.captures.GroupRule.{GroupRule}
use Rattle.tm_line_turns.specs.declared.found.Match.{Match}
use Rattle.tm_line_turns.specs.declared.found.Winner.{Winner}
use Rattle.tm_line_turns.specs.declared.found.Winner.TheVariants.{Nothing, Begins, Matches}
use Rattle.tm_line_turns.specs.declared.found.Whose.{Whose}
use Rattle.tm_line_turns.specs.declared.found.Whose.TheVariants.{AtWhile}
use Rattle.tm_line_turns.specs.Groups.{comment, group_again, group_named, keyword, letter, match_of, regex, root, string}
use Rattle.tm_line_turns.specs.Language.{Language}
use Rattle.tm_line_turns.specs.Line.{line_cost, line_tokenized, outcome_of}
use Rattle.tm_line_turns.specs.LineRun.{plain}

-- what a rule finds first at a position, and the steps of that; and what of its `while`, where `\G` matches or not
pub record Seek : Type 0 where
  pub rule : ℕ
  pub at : ℕ
  pub cost : ℕ
  pub winner : Winner

pub record Hold : Type 0 where
  pub rule : ℕ
  pub at : ℕ
  pub anchored : Bool
  pub cost : ℕ
  pub found : Option Match

abbrev pub seek : ℕ → ℕ → ℕ → Winner → Seek
seek rule at cost winner = record { rule = rule; at = at; cost = cost; winner = winner }

abbrev pub hold : ℕ → ℕ → Bool → ℕ → Option Match → Hold
hold rule at anchored cost found = record { rule = rule; at = at; anchored = anchored; cost = cost; found = found }

abbrev pub winner_in : List Seek → ℕ → ℕ → Winner
winner_in [] rule at = Nothing
winner_in (s ∷ ss) rule at = if (s.rule == rule) && (s.at == at) then s.winner else winner_in ss rule at

abbrev pub cost_in : List Seek → ℕ → ℕ → ℕ
cost_in [] rule at = 0
cost_in (s ∷ ss) rule at = if (s.rule == rule) && (s.at == at) then s.cost else cost_in ss rule at

abbrev pub is_hold : Hold → ℕ → ℕ → Bool → Bool
is_hold h rule at anchored = (h.rule == rule) && (h.at == at) && ((h.anchored && anchored) || (not h.anchored && not anchored))

abbrev pub found_in : List Hold → ℕ → ℕ → Bool → Option Match
found_in [] rule at anchored = None
found_in (h ∷ hs) rule at anchored = if is_hold h rule at anchored then h.found else found_in hs rule at anchored

abbrev pub steps_in : List Hold → ℕ → ℕ → Bool → ℕ
steps_in [] rule at anchored = 0
steps_in (h ∷ hs) rule at anchored = if is_hold h rule at anchored then h.cost else steps_in hs rule at anchored

-- rule 1 is a comment, 2 a regex, and 3 a keyword; 1 and 2 have a `while`
abbrev pub names_of : ℕ → List (List ℕ)
names_of rule =
    if rule == 1 then comment ∷ []
    else (if rule == 2 then regex ∷ []
    else (if rule == 3 then keyword ∷ [] else []))

-- rule 1 alone says something of the groups of its `while`
abbrev pub said_of : List GroupRule → Whose → ℕ → List GroupRule
said_of groups AtWhile rule = if rule == 1 then groups else []
said_of groups whose rule = []

abbrev pub language_of : List GroupRule → List Seek → List Hold → Language
language_of groups seeks holds = record {
  rules = 9;
  winner = λ text frame has_end at first anchored. winner_in seeks frame.rule at;
  cost = λ text frame has_end at first anchored. cost_in seeks frame.rule at;
  names = λ text rule m. names_of rule;
  content_names = λ text rule m. [];
  end_text = λ text rule m. None;
  captures = said_of groups;
  filled = λ text m template. [];
  meta = letter;
  has_while = λ rule. (rule == 1) || (rule == 2);
  while_match = λ text frame at first anchored. found_in holds frame.rule at anchored;
  while_cost = λ text frame at first anchored. steps_in holds frame.rule at anchored;
}

-- what a line gives: tokens, by the name of their letter, open rules, steps, and scopes at an offset
module _ (l : Language) (start : List FrameData) (line : List ℕ) where
  abbrev pub tokens_in : List Token
  tokens_in = (line_tokenized l (root ∷ []) start line).tokens

  abbrev pub end_in : List FrameData
  end_in = (line_tokenized l (root ∷ []) start line).end

  abbrev pub steps_of : ℕ
  steps_of = line_cost l (root ∷ []) start line

  abbrev pub scopes_in : ℕ → List (List ℕ)
  scopes_in offset = scopes_at (outcome_of l (root ∷ []) start line).part.pieces offset

-- the frames of the root, of the comment and the regex in it, and of a keyword in these scopes
abbrev pub in_root : FrameData
in_root = plain 0 (root ∷ []) false

abbrev pub in_comment : FrameData
in_comment = plain 1 (root ∷ comment ∷ []) false

abbrev pub in_regex : FrameData
in_regex = plain 2 (root ∷ comment ∷ regex ∷ []) false

abbrev pub in_keyword : List (List ℕ) → Bool → FrameData
in_keyword outer at_eol = record { rule = 3; end = None; names = outer; contents = outer; at_eol = at_eol }

-- The comment begins with `^>` and goes on while `^>` does, which is a string there. Inside it the regex begins with
-- `\(` and goes on while `\G-` does. On `> (` both begin: `^>` takes 4 steps at 0, and `\(` 3 from 1 on.
abbrev pub marked : List GroupRule
marked = group_named 0 string ∷ []

abbrev pub begun_quote : Language
begun_quote = language_of marked (seek 0 0 4 (Begins 1 (match_of 0 1 [])) ∷ seek 1 1 3 (Begins 2 (match_of 2 3 [])) ∷ []) []

-- on `>-a` both are held up, each with 4 steps
abbrev pub held_quote : Language
held_quote = language_of marked [] (hold 1 0 false 4 (Some (match_of 0 1 [])) ∷ hold 2 1 true 4 (Some (match_of 1 2 [])) ∷ [])

-- on `>a` the regex is not, which takes 7 steps, and no `\(` is found from 1 on
abbrev pub lost_regex : Language
lost_regex = language_of marked (seek 1 1 3 Nothing ∷ []) (hold 1 0 false 4 (Some (match_of 0 1 [])) ∷ hold 2 1 true 7 None ∷ [])

-- on `b` the comment is not, which takes 7 steps, and no `^>` begins one
abbrev pub lost_quote : Language
lost_quote = language_of marked (seek 0 0 7 Nothing ∷ []) (hold 1 0 false 7 None ∷ [])

-- The comment alone, which begins with `^>` and goes on while `^>` does: on `> a`, `> b` and `c`
abbrev pub begun_block : Language
begun_block = language_of [] (seek 0 0 4 (Begins 1 (match_of 0 1 [])) ∷ []) []

abbrev pub held_block : Language
held_block = language_of [] [] (hold 1 0 false 4 (Some (match_of 0 1 [])) ∷ [])

abbrev pub lost_block : Language
lost_block = language_of [] (seek 0 0 7 Nothing ∷ []) (hold 1 0 false 7 None ∷ [])

-- The regex goes on while `\Ga` does, and what is inside it began with the end of the last line: on `a`, where `\Ga` is
-- found at 0 with 4 steps; without an anchor there it is not, with 4 steps too.
abbrev pub at_start : Language
at_start = language_of [] [] (hold 2 0 true 4 (Some (match_of 0 1 [])) ∷ hold 2 0 false 4 None ∷ [])

-- The comment goes on while `^(?=-)` does, which takes no character, and the regex in it while `\G-`: on `-a`.
abbrev pub ahead : Language
ahead = language_of [] [] (hold 1 0 false 6 (Some (match_of 0 0 [])) ∷ hold 2 0 true 4 (Some (match_of 0 1 [])) ∷ [])

-- The comment goes on while `(>)` does, whose group is tokenized by rule 4, in which `>` is a keyword: on `>`
abbrev pub again_quote : Language
again_quote = language_of (group_again 1 (string ∷ []) 4 ∷ []) (seek 4 0 2 (Matches 3 (match_of 0 1 [])) ∷ [])
    (hold 1 0 false 4 (Some (match_of 0 1 (Some (0, 1) ∷ []))) ∷ [])

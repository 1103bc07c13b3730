-- Worked lines whose groups have names, or are tokenized again. Rules find by their number and the position here, and
-- the steps of each search are 10.
use Rattle.std.specs.Prelude.{ℕ, Bool, false, ◌&&◌, ◌==◌, List, [], ◌∷◌, Option, Some, None, if◌then◌else◌}
use Rattle.tm_defs.specs.declared.tokens.Token.{Token}
use Rattle.tm_paint.specs.Painted.{scopes_at}
use Rattle.tm_line_turns.specs.declared.captures.GroupName.TheVariants.{Fixed}
use Rattle.tm_line_turns.specs.declared.captures.GroupRule.{GroupRule}
use Rattle.tm_line_turns.specs.declared.found.Match.{Match}
use Rattle.tm_line_turns.specs.declared.found.Winner.{Winner}
use Rattle.tm_line_turns.specs.declared.found.Winner.TheVariants.{Nothing, Begins, Matches}
use Rattle.tm_line_turns.specs.Language.{Language}
use Rattle.tm_line_turns.specs.Line.{line_cost, line_tokenized, outcome_of}
use Rattle.tm_line_turns.specs.LineRun.{plain}

-- the names `r`, `c`, `k`, `s` and `x` stand for root, comment, keyword, string and regex
abbrev pub root : List ℕ
root = 114 ∷ []

abbrev pub comment : List ℕ
comment = 99 ∷ []

abbrev pub keyword : List ℕ
keyword = 107 ∷ []

abbrev pub string : List ℕ
string = 115 ∷ []

abbrev pub regex : List ℕ
regex = 120 ∷ []

-- the metadata of scopes is the letter of the innermost
abbrev pub letter_of : List ℕ → ℕ
letter_of [] = 0
letter_of (c ∷ cs) = c

abbrev pub letter : List (List ℕ) → ℕ
letter [] = 0
letter (scope ∷ []) = letter_of scope
letter (scope ∷ next ∷ scopes) = letter (next ∷ scopes)

abbrev pub match_of : ℕ → ℕ → List (Option (ℕ × ℕ)) → Match
match_of start end groups = record { start = start; end = end; groups = Some (start, end) ∷ groups }

-- a group with a name, and one with names that is tokenized again by a rule
abbrev pub group_named : ℕ → List ℕ → GroupRule
group_named group name = record { group = group; name = Some (Fixed (name ∷ [])); content_name = None; rule = None }

abbrev pub group_again : ℕ → List (List ℕ) → ℕ → GroupRule
group_again group names rule = record { group = group; name = Some (Fixed names); content_name = None; rule = Some rule }

-- by what is found, what rules push, and what they say of groups
abbrev pub language_of : (ℕ → ℕ → Bool → Bool → Winner) → (ℕ → List (List ℕ)) → (ℕ → List GroupRule) → Language
language_of found names groups = record {
  rules = 9;
  winner = λ text frame has_end at first anchored. found frame.rule at first anchored;
  cost = λ text frame has_end at first anchored. 10;
  names = λ text rule m. names rule;
  content_names = λ text rule m. [];
  end_text = λ text rule m. None;
  captures = λ whose rule. groups rule;
  filled = λ text m template. [];
  meta = letter;
  has_while = λ rule. false;
  while_match = λ text frame at first anchored. None;
  while_cost = λ text frame at first anchored. 0;
}

-- rules 3, 5 and 6 push a name
abbrev pub names_of : ℕ → List (List ℕ)
names_of rule =
    if rule == 3 then string ∷ []
    else (if rule == 5 then regex ∷ []
    else (if rule == 6 then comment ∷ [] else []))

-- rule 1 alone says something of groups
abbrev pub said_of : List GroupRule → ℕ → List GroupRule
said_of groups rule = if rule == 1 then groups else []

-- what a rule finds at a position
pub record Find : Type 0 where
  pub rule : ℕ
  pub at : ℕ
  pub winner : Winner

abbrev pub finds : ℕ → ℕ → Winner → Find
finds rule at winner = record { rule = rule; at = at; winner = winner }

abbrev pub found_in : List Find → ℕ → ℕ → Bool → Bool → Winner
found_in [] rule at first anchored = Nothing
found_in (f ∷ fs) rule at first anchored = if (f.rule == rule) && (f.at == at) then f.winner else found_in fs rule at first anchored

-- what they give of the first line of a text, and of a later one in the root: tokens, by the name of their letter; steps;
-- and the scopes at the start
abbrev pub tokens_on : Language → List ℕ → List Token
tokens_on l line = (line_tokenized l (root ∷ []) [] line).tokens

abbrev pub tokens_later : Language → List ℕ → List Token
tokens_later l line = (line_tokenized l (root ∷ []) (plain 0 (root ∷ []) false ∷ []) line).tokens

abbrev pub token_of : ℕ → List ℕ → Token
token_of start name = record { start = start; meta = letter_of name }

abbrev pub steps_on : Language → List ℕ → ℕ
steps_on l line = line_cost l (root ∷ []) [] line

abbrev pub scopes_on : Language → List ℕ → List (List ℕ)
scopes_on l line = scopes_at (outcome_of l (root ∷ []) [] line).part.pieces 0

-- one match at the start, by its end, the groups of the pattern and what is said of them
abbrev pub one_match : ℕ → List (Option (ℕ × ℕ)) → List GroupRule → Language
one_match end groups said = language_of (found_in (finds 0 0 (Matches 1 (match_of 0 end groups)) ∷ [])) (λ rule. []) (said_of said)

-- `(a)(b)`, whose first group is a comment: on `ab`
abbrev pub two_groups : Language
two_groups = one_match 2 (Some (0, 1) ∷ Some (1, 2) ∷ []) (group_named 1 comment ∷ [])

-- of one match of `a` on `abc`: a group that is not set, one that is empty, and one that is there
abbrev pub skipped_groups : Language
skipped_groups = one_match 1 (None ∷ Some (2, 2) ∷ Some (0, 1) ∷ []) (group_named 1 comment ∷ group_named 2 string ∷ group_named 3 keyword ∷ [])

-- the same, but the first group starts behind the match
abbrev pub halted_groups : Language
halted_groups = one_match 1 (Some (2, 3) ∷ Some (0, 1) ∷ []) (group_named 1 comment ∷ group_named 2 string ∷ [])

-- of one match of `abcd`: groups that reach over one another
abbrev pub crossing_groups : Language
crossing_groups = one_match 4 (Some (0, 2) ∷ Some (1, 3) ∷ Some (2, 4) ∷ []) (group_named 1 comment ∷ group_named 2 string ∷ group_named 3 keyword ∷ [])

-- `a`, which is a keyword, and is tokenized again by the root
abbrev pub endless_group : Language
endless_group = one_match 1 [] (group_again 0 (keyword ∷ []) 0 ∷ [])

-- `a(b+)c`, whose group is tokenized by a rule that includes the string `b`: on `abbc`
abbrev pub inner_group : Language
inner_group = language_of (found_in
    (finds 0 0 (Matches 1 (match_of 0 4 (Some (1, 3) ∷ [])))
    ∷ finds 2 1 (Matches 3 (match_of 1 2 []))
    ∷ finds 2 2 (Matches 3 (match_of 2 3 [])) ∷ [])) names_of (said_of (group_again 1 [] 2 ∷ []))

-- A comment (rule 6) begins before `a`. Inside it `(a)b` matches, whose group is a string, and is tokenized by a rule
-- that includes the comment: on `ab`.
abbrev pub near_group : Language
near_group = language_of (found_in
    (finds 0 0 (Begins 6 (match_of 0 0 []))
    ∷ finds 6 0 (Matches 1 (match_of 0 2 (Some (0, 1) ∷ [])))
    ∷ finds 2 0 (Begins 6 (match_of 0 0 [])) ∷ [])) names_of (said_of (group_again 1 (string ∷ []) 2 ∷ []))

-- `(a)(b)`, whose groups are tokenized: the first by a rule that includes the string `\Aa`, the second by one that
-- includes the regex `\Gb` and the comment `b`: on `ab`
abbrev pub found_first : ℕ → ℕ → Bool → Bool → Winner
found_first rule at first anchored =
    if (rule == 0) && (at == 0) then Matches 1 (match_of 0 2 (Some (0, 1) ∷ Some (1, 2) ∷ []))
    else (if (rule == 2) && (at == 0) && first then Matches 3 (match_of 0 1 [])
    else (if (rule == 4) && (at == 1) && anchored then Matches 5 (match_of 1 2 [])
    else (if (rule == 4) && (at == 1) then Matches 6 (match_of 1 2 []) else Nothing)))

abbrev pub first_group : Language
first_group = language_of found_first names_of (said_of (group_again 1 [] 2 ∷ group_again 2 [] 4 ∷ []))

-- `(abc)`, whose group is a comment, in which `a(bc)` matches (rule 7), in whose group the string `b` does
abbrev pub deep_group : Language
deep_group = language_of (found_in
    (finds 0 0 (Matches 1 (match_of 0 3 (Some (0, 3) ∷ [])))
    ∷ finds 2 0 (Matches 7 (match_of 0 3 (Some (1, 3) ∷ [])))
    ∷ finds 4 1 (Matches 3 (match_of 1 2 [])) ∷ [])) names_of
    (λ rule. if rule == 7 then group_again 1 [] 4 ∷ [] else said_of (group_again 1 (comment ∷ []) 2 ∷ []) rule)

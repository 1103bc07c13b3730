-- What the tokenizing of a whole line gives, by the rules of a language and the scopes of every token: first the while
-- pass, then the turns.
use Rattle.std.specs.Prelude.{◌≡◌, ℕ, List, [], ◌∷◌, ◌++◌, ◌||◌, length, map, reverse, Bool, true, false, Option, Some, None, if◌then◌else◌}
use Rattle.tm_defs.specs.declared.frames.FrameData.{FrameData}
use Rattle.tm_defs.specs.Tables.{TableEntries, none_made, more_made}
use Rattle.tm_defs.specs.Tokenizer.{Tokenized}
use Rattle.tm_paint.specs.Painted.{scopes_at, runs_of}
use Rattle.tm_line_turns.specs.Language.{Language, grammar_of}
use Rattle.tm_line_turns.specs.LineRun.{Open, Place, Outcome, earlier, frames_of, joined, line_run, names_made, nothing, plain, states_made}
use Rattle.tm_line_turns.specs.WhilePass.{Passed, while_pass}

-- the opening state stands for the one frame of the root, rule 0, with the scopes of every token
abbrev pub start_state : List (List ℕ) → List FrameData → List FrameData
start_state scopes [] = plain 0 scopes false ∷ []
start_state scopes (f ∷ fs) = f ∷ fs

abbrev pub start_made : List (List ℕ) → List FrameData → TableEntries
start_made scopes [] = names_made [] scopes
start_made scopes (f ∷ fs) = none_made

-- the anchor is the line's start where the innermost rule began with the end of a line
abbrev pub start_anchor : List FrameData → Option ℕ
start_anchor [] = None
start_anchor (f ∷ fs) = if f.at_eol then Some 0 else None

-- only the first line of a text is its beginning
abbrev pub is_opening : List FrameData → Bool
is_opening [] = true
is_opening (f ∷ fs) = false

-- a line's start in the outermost of the rules that earlier lines opened (no line has none), which no line ends
abbrev pub lowest : List FrameData → Option ℕ → Bool → Place
lowest [] anchor first = record { top = earlier (plain 0 [] false); below = []; at = 0; anchor = anchor; first = first }
lowest (f ∷ fs) anchor first = record { top = earlier f; below = []; at = 0; anchor = anchor; first = first }

-- the others, the outermost first
abbrev pub others : List FrameData → List Open
others [] = []
others (f ∷ fs) = map earlier fs

abbrev pub start_place : List (List ℕ) → List FrameData → Place
start_place scopes start = lowest (start_state scopes start) (start_anchor (reverse start)) (is_opening start)

-- the content scopes of the innermost of open rules
abbrev pub top_contents : List Open → List (List ℕ)
top_contents [] = []
top_contents (o ∷ os) = o.frame.contents

module _ (l : Language) (scopes : List (List ℕ)) (start : List FrameData) (line : List ℕ) where
  -- in the line with its line break: which rules are held up
  abbrev pub passed_of : Passed
  passed_of = while_pass (grammar_of l (line ++ 10 ∷ [])) (start_place scopes start) (others (start_state scopes start))

  -- and then turn after turn
  abbrev pub outcome_of : Outcome
  outcome_of =
      let run = line_run (grammar_of l (line ++ 10 ∷ [])) passed_of.place in
      record { part = joined passed_of.part run.part; stack = run.stack }

  -- the maximal runs of equal metadata over the line's own characters, and the open rules behind it
  abbrev pub line_tokenized : Tokenized
  line_tokenized = record {
    tokens = runs_of (λ offset. l.meta (scopes_at outcome_of.part.pieces offset)) (l.meta (top_contents outcome_of.stack)) (length line);
    end = reverse (frames_of outcome_of.stack);
  }

  -- the texts and scope lists of the line, and the states of the rules that are open behind it
  abbrev pub line_made : TableEntries
  line_made = more_made (start_made scopes start) (more_made outcome_of.part.made (states_made outcome_of.stack))

  -- the steps of all searches of the line
  abbrev pub line_cost : ℕ
  line_cost = outcome_of.part.cost

-- a line's start in all rules that earlier lines opened, the innermost first (no line has none)
abbrev pub resumed : List FrameData → Option ℕ → Bool → Place
resumed [] anchor first = record { top = earlier (plain 0 [] false); below = []; at = 0; anchor = anchor; first = first }
resumed (f ∷ fs) anchor first = record { top = earlier f; below = map earlier fs; at = 0; anchor = anchor; first = first }

abbrev pub resumed_place : List (List ℕ) → List FrameData → Place
resumed_place scopes start = resumed (reverse (start_state scopes start)) (start_anchor (reverse start)) (is_opening start)

-- one of them has a `while`
abbrev pub some_while : (ℕ → Bool) → List FrameData → Bool
some_while has_while [] = false
some_while has_while (f ∷ fs) = has_while f.rule || some_while has_while fs

-- where none has, all are held up, by no search
abbrev pub HoldsUpAll : Language → Type 0
HoldsUpAll l = (scopes : List (List ℕ)) (start : List FrameData) (line : List ℕ) → some_while l.has_while start ≡ false →
    passed_of l scopes start line ≡ record { part = nothing; place = resumed_place scopes start }

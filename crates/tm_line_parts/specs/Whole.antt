-- What a body did in a whole line.
use Rattle.std.specs.Prelude.{◌≡◌, ℕ, List, reverse, Some, slice_get, Result, IfOk, IfErr}
use Rattle.tm_defs.specs.declared.frames.FrameData.{FrameData}
use Rattle.tm_defs.specs.declared.tokenizer.LineFault.{LineFault}
use Rattle.tm_defs.specs.declared.tokenizer.LineOut.{LineOut}
use Rattle.tm_defs.specs.Tables.{Tables, GrowsWithin}
use Rattle.tm_defs.specs.Tokenizer.{IsLineCause}
use Rattle.tm_paint.specs.Painted.{runs_of}
use Rattle.tm_line_turns.specs.Language.{Language}
use Rattle.tm_line_turns.specs.Line.{line_cost, line_made, line_tokenized, top_contents}
use Rattle.tm_line_turns.specs.LineRun.{Open, frames_of, states_made}
use Rattle.tm_line_turns.specs.Painted.{meta_at}
use Rattle.tm_line_turns.specs.declared.painter.Painted.{Painted}

-- the tokens of what was painted over these open rules, and their state; a refusal is no one of a budget
pub record Finishes (meta : List (List ℕ) → ℕ) (pieces : List Painted) (len : ℕ) (stack : List Open) (t u : Tables) (result : Result LineOut LineFault) : Type 0 where
  pub tokens : IfOk result (λ out. out.tokens ≡ runs_of (meta_at pieces) (meta (top_contents stack)) len)
  pub end : IfOk result (λ out. slice_get u.states out.end.0 ≡ Some (reverse (frames_of stack)))
  pub grows : GrowsWithin (states_made stack) t u
  pub cause : IfErr result (λ e. (before cost : ℕ) → IsLineCause before cost (states_made stack) u e)

-- the whole, with its tokens
pub record Tokenizes (l : Language) (scopes : List (List ℕ)) (start : List FrameData) (line : List ℕ) (t u : Tables) (budget : ℕ)
    (result : Result LineOut LineFault) : Type 0 where
  pub tokens : IfOk result (λ out. out.tokens ≡ (line_tokenized l scopes start line).tokens)
  pub end : IfOk result (λ out. slice_get u.states out.end.0 ≡ Some (line_tokenized l scopes start line).end)
  pub grows : GrowsWithin (line_made l scopes start line) t u
  pub cause : IfErr result (IsLineCause budget (line_cost l scopes start line) (line_made l scopes start line) u)

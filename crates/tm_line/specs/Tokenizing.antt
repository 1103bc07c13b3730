-- What the tokenizing of a line by rules gives: its tokens and end state, what it adds to a table, and what its searches cost.
use Rattle.std.specs.Prelude.{ℕ, List}
use Rattle.tm_defs.specs.declared.frames.FrameData.{FrameData}
use Rattle.tm_defs.specs.Tables.{TableEntries}
use Rattle.tm_defs.specs.Tokenizer.{Tokenized}
use Rattle.tm_line_turns.specs.Line.{line_cost, line_made, line_tokenized}
use Rattle.tm_line.specs.Grammar.{rules_language}
use Rattle.tm_line.specs.Setting.{Setting}

abbrev pub rules_tokenized : Setting → List FrameData → List ℕ → Tokenized
rules_tokenized s start line = line_tokenized (rules_language s.rules) s.scopes start line

abbrev pub rules_made : Setting → List FrameData → List ℕ → TableEntries
rules_made s start line = line_made (rules_language s.rules) s.scopes start line

-- the steps of all searches of the line
abbrev pub rules_cost : Setting → List FrameData → List ℕ → ℕ
rules_cost s start line = line_cost (rules_language s.rules) s.scopes start line

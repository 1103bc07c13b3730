-- The machine's rules from settings as plain data.
use Rattle.std.specs.Prelude.{ℕ, List, [], length, Option, Some, None, slice_get}
use Rattle.tm_defs.specs.declared.frames.FrameData.{FrameData}
use Rattle.tm_defs.specs.Tables.{TableEntries, none_made}
use Rattle.tm_defs.specs.Tokenizer.{Tokenized}
use Rattle.tm_machine.specs.Documents.{Rules}
use Rattle.tm_machine.specs.Scratch.{Tokenizing}

-- behind the last setting: no step comes to it
abbrev pub no_setting : Tokenizing
no_setting = record { tokenized = λ start line. record { tokens = []; end = [] }; plain_cost = λ start line. 0; entries_made = λ start line. none_made }

module _ {P : Type 0} (tokenized : P → List FrameData → List ℕ → Tokenized) (plain_cost : P → List FrameData → List ℕ → ℕ) (entries_made : P → List FrameData → List ℕ → TableEntries) where
  abbrev pub tokenizing_of : Option P → Tokenizing
  tokenizing_of None = no_setting
  tokenizing_of (Some plain) = record { tokenized = tokenized plain; plain_cost = plain_cost plain; entries_made = entries_made plain }

  -- settings by their place in a list
  abbrev pub rules_of : List P → (budget : ℕ) → Rules
  rules_of plains budget = record { setting = λ number. tokenizing_of (slice_get plains number); settings = length plains; budget = budget }

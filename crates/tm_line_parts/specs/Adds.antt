-- What a body added to a line: the one clause of all of its functions.
use Rattle.std.specs.Prelude.{◌≡◌, ℕ, ◌+◌, ◌≤◌, List, ◌++◌, Result, OnOk, IfErr}
use Rattle.tm_defs.specs.declared.tokenizer.LineFault.{LineFault}
use Rattle.tm_defs.specs.Tables.{Tables, GrowsWithin}
use Rattle.tm_defs.specs.Tokenizer.{IsLineCause}
use Rattle.tm_line_turns.specs.LineRun.{Part}
use Rattle.tm_line_turns.specs.Painted.{painted}
use Rattle.tm_line_parts.specs.declared.rules.Out.{Out}

-- a budget fell by at most this cost
pub record Spends (cost before after : ℕ) : Type 0 where
  pub falls : after ≤ before
  pub most : before ≤ after + cost

-- the part was added, or was refused for a cause that it has; and nothing else was added to the table
pub record Adds {X : Type 0} (meta : List (List ℕ) → ℕ) (part : Part) (t u : Tables) (old new : Out) (result : Result X LineFault) : Type 0 where
  pub pieces : OnOk result (new.pieces.items ≡ old.pieces.items ++ painted meta part.pieces)
  pub grows : GrowsWithin part.made t u
  pub spends : Spends part.cost old.budget new.budget
  pub cause : IfErr result (IsLineCause old.budget part.cost part.made u)

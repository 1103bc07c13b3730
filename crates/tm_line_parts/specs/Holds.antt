-- What a body did in the while pass.
use Rattle.std.specs.Prelude.{ℕ, ◌≤◌, List, Bool, true, false, Option, Some, None, Result, IfOk, OnOk}
use Rattle.tm_defs.specs.declared.tokenizer.LineFault.{LineFault}
use Rattle.tm_defs.specs.Tables.{Tables}
use Rattle.tm_line_turns.specs.LineRun.{Part, Place}
use Rattle.tm_line_turns.specs.WhilePass.{Passed, Tested}
use Rattle.tm_line_parts.specs.declared.rules.Out.{Out}
use Rattle.tm_line_parts.specs.declared.stack.Way.{Way}
use Rattle.tm_line_parts.specs.Adds.{Adds}
use Rattle.tm_line_parts.specs.Stacks.{Stands}

-- the way stands behind a rule that is held up, and else where it stood before it
abbrev pub HoldsUp : Tables → Place → Option Place → Bool → Way → Type 0
HoldsUp u p None false w = Stands u p w
HoldsUp u p None true w = ⊥
HoldsUp u p (Some q) false w = ⊥
HoldsUp u p (Some q) true w = Stands u q w

-- the body tested a rule at this place, in a text of this length, or was refused
pub record Tests (meta : List (List ℕ) → ℕ) (len : ℕ) (test : Tested) (p : Place) (t u : Tables) (old new : Out) (w : Way) (result : Result Bool LineFault) : Type 0 where
  pub adds : Adds meta test.part t u old new result
  pub leads : IfOk result (λ b. HoldsUp u p test.next b w)
  pub within : OnOk result (w.at ≤ len)

-- the body did the while pass, or what is left of it
pub record Passes {X : Type 0} (meta : List (List ℕ) → ℕ) (len : ℕ) (pass : Passed) (t u : Tables) (old new : Out) (w : Way) (result : Result X LineFault) : Type 0 where
  pub adds : Adds meta pass.part t u old new result
  pub stands : OnOk result (Stands u pass.place w)
  pub within : OnOk result (w.at ≤ len)

-- a way behind it was made, and all before it was added
pub record Starts (meta : List (List ℕ) → ℕ) (len : ℕ) (part : Part) (place : Place) (t u : Tables) (old new : Out) (result : Result Way LineFault) : Type 0 where
  pub adds : Adds meta part t u old new result
  pub stands : IfOk result (Stands u place)
  pub within : IfOk result (λ way. way.at ≤ len)

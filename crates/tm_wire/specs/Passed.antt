-- The rule of a queue: what was pushed is what was popped and then what the queue holds, and each value is fit for what both ends know. At most one pass may push, and it has the list of what was pushed. The same for pops.
use Rattle.std.specs.Prelude.{◌≡◌, ℕ, Bool, true, List, ◌++◌, All, length}
use mathlib.Core.Option.{some}
use lib.ListN.{get_elem?}
use Rattle.tm_wire.specs.declared.log.Log.{Log}

module _ {X S : Type 0} where
  abbrev pub log : (pushes pops : Bool) → S → (pushed popped : List X) → Log X S
  log a b known pushed popped = record { pushes = a; pops = b; known = known; pushed = pushed; popped = popped }

  -- a pass that may push is the writer, and knows what was pushed
  abbrev pub AgreesOnPushes : (writer : ℕ) → S → (pushed : List X) → (port : ℕ) → Log X S → Type 0
  AgreesOnPushes writer known pushed port v = v.pushes ≡ true → (port ≡ writer) × (v.known ≡ known) × (v.pushed ≡ pushed)

  -- a pass that may pop is the reader, and knows what was popped
  abbrev pub AgreesOnPops : (reader : ℕ) → S → (popped : List X) → (port : ℕ) → Log X S → Type 0
  AgreesOnPops reader known popped port v = v.pops ≡ true → (port ≡ reader) × (v.known ≡ known) × (v.popped ≡ popped)

pub record Passed {X S : Type 0} (fit : S → X → Type 0) (items : List X) (views : List (Log X S)) : Type 0 where
  pub writer : ℕ
  pub reader : ℕ
  pub known : S
  pub pushed : List X
  pub popped : List X
  pub adds_up : pushed ≡ popped ++ items
  pub all_fit : All (fit known) pushed
  pub pushing : (port : ℕ) (v : Log X S) → get_elem? views port ≡ some v → AgreesOnPushes writer known pushed port v
  pub popping : (port : ℕ) (v : Log X S) → get_elem? views port ≡ some v → AgreesOnPops reader known popped port v

module _ {X S : Type 0} (holds : List X → List (Log X S) → Type 0) where
  -- the queue held these values under the rule, and a pass knew what v says
  abbrev pub KnowsRule : Log X S → List X → Type 0
  KnowsRule v items = (views : List (Log X S)) × (port : ℕ) × holds items views × (get_elem? views port ≡ some v)

  -- at a step of the call the queue held n values under the rule, and a pass knew what v says
  abbrev pub HeldUnder : ℕ → Log X S → Type 0
  HeldUnder n v = (items : List X) × (length items ≡ n) × KnowsRule v items

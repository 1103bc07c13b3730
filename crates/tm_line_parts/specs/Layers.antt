-- The scopes over the groups of a match, by number, and what a body did at a group.
use Rattle.std.specs.Prelude.{◌≡◌, ℕ, ◌<◌, List, length, map, reverse, Bool, true, false, Result, IfOk, OnOk}
use Rattle.std.specs.List.{AllByRecursion}
use Rattle.tm_defs.specs.declared.tokenizer.LineFault.{LineFault}
use Rattle.tm_defs.specs.Tables.{Tables, path_at}
use Rattle.tm_line_turns.specs.Captures as captures
use Rattle.tm_line_turns.specs.Captures.{Goes, Halts, Step, Took, skipped}
use Rattle.tm_line_parts.specs.declared.layers.Layer.{Layer}
use Rattle.tm_line_parts.specs.declared.rules.Out.{Out}
use Rattle.tm_line_parts.specs.Adds.{Adds}

abbrev pub layer_at : Tables → Layer → captures.Layer
layer_at t l = record { scopes = path_at t l.scopes; end = l.end }

-- the innermost is the last in the vector, and the first in the list
abbrev pub layers_at : Tables → List Layer → List captures.Layer
layers_at t ls = map (layer_at t) (reverse ls)

abbrev pub AreLayers : Tables → List Layer → Type 0
AreLayers t ls = AllByRecursion (λ (l : Layer). l.scopes.0 < length t.paths) ls

-- these layers are kept
pub record Keeps (u : Tables) (layers : List captures.Layer) (ls : List Layer) : Type 0 where
  pub known : AreLayers u ls
  pub is : layers_at u ls ≡ layers

-- what a group adds was added, and these are the layers behind it
pub record Takes {X : Type 0} (meta : List (List ℕ) → ℕ) (took : Took) (t u : Tables) (old new : Out) (ls : List Layer) (result : Result X LineFault) : Type 0 where
  pub adds : Adds meta took.part t u old new result
  pub keeps : OnOk result (Keeps u took.layers ls)

-- where the walk halts at a group it adds nothing
abbrev pub took_of : List captures.Layer → Step → Took
took_of ls Halts = skipped ls
took_of ls (Goes took) = took

abbrev pub goes_on : Step → Bool
goes_on Halts = false
goes_on (Goes took) = true

-- a step of the walk over groups was done, and the answer is whether it goes on
pub record Steps (meta : List (List ℕ) → ℕ) (before : List captures.Layer) (step : Step) (t u : Tables) (old new : Out) (ls : List Layer) (result : Result Bool LineFault) : Type 0 where
  pub takes : Takes meta (took_of before step) t u old new ls result
  pub goes : IfOk result (λ b. b ≡ goes_on step)

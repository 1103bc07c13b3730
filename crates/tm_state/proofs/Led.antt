-- A difference leads from the one state to the other.
use Rattle.std.proofs.Common.{◌≡◌, ◌++◌, ◌∙◌, ◌<◌, ◌≤◌, List, [], length, Some, Contains, ap, sym, arith, length-append}
use Rattle.std.specs.Prelude.{slice_get}
use Rattle.std.proofs.lemmas.Option.{slice_get-get_or}
use Rattle.tm_defs.specs.declared.frames.FrameData.{FrameData}
use Rattle.tm_defs.specs.declared.frames.Delta.{Delta}
use Rattle.tm_defs.specs.declared.frames.StateId.{StateId}
use Rattle.tm_defs.specs.Tables.{Tables, TableEntries, IsNumbering, GrowsWithin, state_at}
use Rattle.tm_defs.proofs.Growth.{slice_get-grown}
use Rattle.tm_scope.proofs.Taken.{contains-at}
use Rattle.tm_state.specs.Deltas.{IsDifference, applied}
use Rattle.tm_state.proofs.Whole.{left-take}

pub applied-difference : (a b : List FrameData) (delta : Delta) → IsDifference a b delta → applied a delta ≡ b
applied-difference a b delta d = sym (d.to_is ∙ ap (λ k. k ++ delta.pushed) (left-take a d.kept d.dropped delta.pops d.from_is (sym d.pops)))

pub pops-within : (a b : List FrameData) (delta : Delta) → IsDifference a b delta → delta.pops ≤ length a
pops-within a b delta d = omega (arith, d.pops, ap length d.from_is, length-append d.kept d.dropped)

module _ (t : Tables) (a b : StateId) (delta : Delta) (low : b.0 < length t.states) (d : IsDifference (state_at t a) (state_at t b) delta) where
  at : slice_get t.states b.0 ≡ Some (applied (state_at t a) delta)
  at = slice_get-get_or t.states b.0 [] low ∙ ap Some (sym (applied-difference (state_at t a) (state_at t b) delta d))

  -- the state is there
  pub led-there : Contains t.states (applied (state_at t a) delta)
  led-there = contains-at t.states b.0 (applied (state_at t a) delta) at

  -- and keeps its number
  pub led-number : (made : TableEntries) (u : Tables) (id : StateId) → GrowsWithin made t u → IsNumbering u → slice_get u.states id.0 ≡ Some (applied (state_at t a) delta) → id ≡ b
  led-number made u id grew num found =
      let same : id.0 ≡ b.0 = num.states_once id.0 b.0 (applied (state_at t a) delta) found (slice_get-grown made.states t.states u.states b.0 (applied (state_at t a) delta) grew.states at) in
      ap (λ n. record { 0 = n }) same

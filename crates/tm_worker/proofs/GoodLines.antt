-- A good line of a document, as an item.
use Rattle.std.proofs.Common.{◌≡◌, ℕ, ◌<◌, true, List, length, Option, Some, None, sym, ap, ◌∙◌, arith, subst, length-append}
use Rattle.std.specs.Prelude.{slice_get, option_and_then, IsTrue}
use Rattle.std.specs.Arc.{arc_value}
use Rattle.std.specs.Option.{option_map}
use Rattle.tm_defs.specs.declared.frames.FrameData.{FrameData}
use Rattle.tm_defs.specs.declared.frames.StateId.{StateId}
use Rattle.tm_defs.specs.Tables.{Tables, state_at}
use Rattle.tm_machine.specs.declared.entries.Entry.{Entry}
use Rattle.tm_machine.specs.Accepts.{good_at}
use Rattle.tm_machine.specs.Entries.{end_at, start_at, AreRight, Holds}
use Rattle.tm_machine.specs.Numbered.{IsKnownEnd, with_state}
use Rattle.tm_machine.specs.Scratch.{Tokenizing}
use Rattle.tm_machine.specs.Turns.{opening}
use Rattle.tm_machine.proofs.KnownEnds.{some_inj}
use Rattle.tm_rebase.specs.Right.{IsRightItem}
use Rattle.tm_rebase.specs.declared.batches.Item.{Item}
use Rattle.tm_state.specs.Deltas.{IsDifference}
use Rattle.tm_state.proofs.Led.{applied-difference}
use Rattle.tm_worker.proofs.RunItems.{good-there, right-at}
use Rattle.tm_worker.proofs.Segments.{get-there}

-- a number that is there
pub known-there : (n : ℕ) (end : Option StateId) (id : StateId) → IsKnownEnd n end → end ≡ Some id → id.0 < n
known-there n end id h is = subst (IsKnownEnd n) is h

module _ (k : Tokenizing) (budget : ℕ) (lines : List (List ℕ)) (es : List (Entry (List FrameData))) (t : Tables) (i : ℕ) (e : Entry StateId) (right : AreRight k budget opening lines es) (good : good_at es i ≡ true)
    (at : slice_get es i ≡ Some (with_state t e)) where
  is-good : IsTrue e.good
  is-good = sym (good-there es i (with_state t e) at) ∙ good

  -- it has a start, and holds what its line gives from there
  good-line : (line : List ℕ) → slice_get lines i ≡ Some line → (s : List FrameData) × (start_at opening es i ≡ Some s) × Holds (with_state t e) (k.tokenized s line)
  good-line line there = (right-at k budget opening lines es i line (with_state t e) right there at).good is-good

  pub good-holds : (line : List ℕ) (s : List FrameData) → slice_get lines i ≡ Some line → start_at opening es i ≡ Some s → Holds (with_state t e) (k.tokenized s line)
  good-holds line s there begins =
      let h = good-line line there in
      let same : h.0 ≡ s = some_inj (sym h.1 ∙ begins) in
      subst (λ x. Holds (with_state t e) (k.tokenized x line)) same h.2

  -- so it has tokens and an end
  pub good-tokens : i < length lines → e.tokens ≡ None → ⊥
  good-tokens lt none =
      let line = get-there lines i lt in
      let h = (good-line line.0 line.1).2 in
      let tokens = h.tokens in
      cc

  pub good-end : i < length lines → e.end ≡ None → ⊥
  good-end lt none =
      let line = get-there lines i lt in
      let h = (good-line line.0 line.1).2 in
      let end = h.end in
      let gone : option_map (state_at t) e.end ≡ None = ap (option_map (state_at t)) none in
      cc

  pub good-start : i < length lines → start_at opening es i ≡ None → ⊥
  good-start lt none =
      let line = get-there lines i lt in
      let h = (good-line line.0 line.1).1 in
      cc

  pub end-here : (id : StateId) → e.end ≡ Some id → end_at es i ≡ Some (state_at t id)
  end-here id is = ap (λ o. option_and_then (λ (x : Entry (List FrameData)). x.end) o) at ∙ ap (option_map (state_at t)) is

  -- what is posted of it
  pub right-item : (before id : StateId) (x : Item) → start_at opening es i ≡ Some (state_at t before) → slice_get lines i ≡ Some (arc_value x.line) → e.tokens ≡ Some x.tokens → e.end ≡ Some id →
      IsDifference (state_at t before) (state_at t id) x.delta → IsRightItem k.tokenized (state_at t before) x
  right-item before id x begins there tokens end diff =
      let h = good-holds (arc_value x.line) (state_at t before) there begins in
      record {
        tokens = some_inj (sym tokens ∙ h.tokens);
        pops = let count = ap length diff.from_is ∙ length-append diff.kept diff.dropped in omega (arith, count, diff.pops);
        end = applied-difference (state_at t before) (state_at t id) x.delta diff ∙ some_inj (sym (ap (option_map (state_at t)) end) ∙ h.end);
      }

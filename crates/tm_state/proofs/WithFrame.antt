-- The numbers of a frame, and then the state with that frame.
use Rattle.std.proofs.Common.{◌≡◌, ℕ, ◌<◌, ◌++◌, List, [], ◌∷◌, length, Some, Contains, Result, Ok, Err, ap, sym, ◌∙◌, subst}
use Rattle.std.specs.Prelude.{slice_get, IfOk, IfErr, OnErr}
use Rattle.tm_defs.specs.declared.frames.FrameData.{FrameData}
use Rattle.tm_defs.specs.declared.frames.Frame.{Frame}
use Rattle.tm_defs.specs.declared.frames.StateId.{StateId}
use Rattle.tm_defs.specs.Tables.{Tables, TableEntries, GrowsWithin, IsFrameOf, only_state, deeper_state, state_at, frame_at}
use Rattle.tm_defs.specs.declared.tables.TableFault.{TableFault}
use Rattle.tm_defs.proofs.Growth.{AreAmong, none-among, tables-trans, tables-refl}
use Rattle.tm_defs.proofs.Chains.{state_at-grown}
use Rattle.tm_scope.specs.Numbered.{NumberedValues}
use Rattle.tm_scope.specs.Entries.{HasEntries, KeepsLimits, IsFullFor}
use Rattle.tm_scope.proofs.Limits.{full-among, limits-trans}
use Rattle.tm_scope.proofs.Closed.{contains-grown}
use Rattle.tm_state.specs.declared.states.FrameLink.{FrameLink}
use Rattle.tm_state.specs.Entries.{frame_texts, frame_paths, frame_entries, frame_and_state}
use Rattle.tm_state.specs.States.{tables_of, AreStates}
use Rattle.tm_state.proofs.Grown.{states-same, states-kept, tables-grow, tables-keep, tables-full}
use Rattle.tm_state.proofs.Interned.{frame-above}
use Rattle.tm_state.proofs.Parts.{frame-among}

module _ (t u : Tables) (links : NumberedValues FrameLink) (inv : AreStates t links) (f : FrameData) (grew : GrowsWithin (frame_entries f) t u) (parent : StateId) where
  abbrev old : Tables
  old = tables_of t links.values

  abbrev mid : Tables
  mid = tables_of u links.values

  abbrev state : List FrameData
  state = state_at old parent ++ f ∷ []

  abbrev made : TableEntries
  made = frame_and_state f state

  pub mid-invariant : AreStates u links
  mid-invariant = states-kept (frame_entries f) t u grew links inv

  pub mid-grows : GrowsWithin made old mid
  mid-grows = tables-trans (frame_entries f) made old old mid (frame-among f state) (tables-refl made old) (tables-grow (frame_entries f) t u grew links inv)

  pub mid-limits : (limit : ℕ) → KeepsLimits limit t u → KeepsLimits limit old mid
  mid-limits limit h = tables-keep (frame_entries f) t u grew links inv limit h

  pub mid-absent : (HasEntries (frame_entries f) t → ⊥) → HasEntries made old → ⊥
  mid-absent none h = none (record { texts = h.texts; paths = h.paths; states = tt })

  pub mid-full : (limit : ℕ) (fault : TableFault) → IsFullFor limit (frame_entries f) u fault → IsFullFor limit made mid fault
  mid-full limit fault h = full-among limit (frame_entries f) made mid fault (frame-among f state) (tables-full (frame_texts f) (frame_paths f) u links.values limit fault h)

  module _ (low : parent.0 < length old.states) (number : Frame) (range : IsFrameOf u number) (is : frame_at u number ≡ f) where
    pub mid-frame : IsFrameOf mid number
    mid-frame = frame-above u links mid-invariant number range

    pub mid-parent : parent.0 < length mid.states
    mid-parent = let P : List (List FrameData) → Type 0 = λ l. parent.0 < length l in subst P (sym (states-same (frame_entries f) t u grew links inv)) low

    same-state : deeper_state mid parent number ≡ state
    same-state =
        ap (λ s. s ++ frame_at u number ∷ []) (state_at-grown made old mid parent low mid-grows)
        ∙ ap (λ g. state_at old parent ++ g ∷ []) is

    state-among : AreAmong (only_state state) made
    state-among = record { texts = λ x h. none-among (frame_texts f) x h; paths = λ x h. none-among (frame_paths f) x h; states = λ x h. h }

    pub last-ok : (r : Result StateId TableFault) (v : Tables) → IfOk r (λ id. slice_get v.states id.0 ≡ Some (deeper_state mid parent number)) → IfOk r (λ id. slice_get v.states id.0 ≡ Some state)
    last-ok r v h = let P : List FrameData → Type 0 = λ p. IfOk r (λ id. slice_get v.states id.0 ≡ Some p) in subst P same-state h

    pub last-grows : (v : Tables) → GrowsWithin (only_state (deeper_state mid parent number)) mid v → GrowsWithin made old v
    last-grows v h =
        let P : List FrameData → Type 0 = λ p. GrowsWithin (only_state p) mid v in
        tables-trans (only_state state) made old mid v state-among mid-grows (subst P same-state h)

    pub last-absent : (r : Result StateId TableFault) → OnErr r (Contains mid.states (deeper_state mid parent number) → ⊥) → OnErr r (HasEntries made old → ⊥)
    last-absent (Ok id) h = tt
    last-absent (Err fault) h =
        let P : List FrameData → Type 0 = λ p. Contains mid.states p → ⊥ in
        λ (all : HasEntries made old). subst P same-state h (contains-grown (state ∷ []) old.states mid.states state mid-grows.states all.states.0)

    pub last-full : (limit : ℕ) (r : Result StateId TableFault) (v : Tables) → IfErr r (IsFullFor limit (only_state (deeper_state mid parent number)) v) → IfErr r (IsFullFor limit made v)
    last-full limit (Ok id) v h = tt
    last-full limit (Err fault) v h =
        let P : List FrameData → Type 0 = λ p. IsFullFor limit (only_state p) v fault in
        full-among limit (only_state state) made v fault state-among (subst P same-state h)

    pub last-limits : (limit : ℕ) (v : Tables) → KeepsLimits limit t u → KeepsLimits limit mid v → KeepsLimits limit old v
    last-limits limit v h k = limits-trans limit old mid v (mid-limits limit h) k

-- Two states on the way to their longest common front.
use Rattle.std.proofs.Common.{◌≡◌, ◌⊎◌, inl, inr, ◌++◌, ◌∙◌, ◌<◌, List, [], ◌∷◌, length, ap, sym, subst, arith, append_assoc}
use Rattle.std.specs.Prelude.{reverse}
use Rattle.tm_defs.specs.declared.frames.FrameData.{FrameData}
use Rattle.tm_defs.specs.declared.frames.StateId.{StateId}
use Rattle.tm_defs.specs.Tables.{Tables, state_at}
use Rattle.tm_state.specs.Entries.{BeginsWith, FrontsComeFirst}
use Rattle.std.proofs.lemmas.List.{reverse-append}
use Rattle.tm_state.proofs.Under.{front-of}

-- the state with the higher number leaves its innermost frame
module _ (t : Tables) (order : FrontsComeFirst t) (high low rest : StateId) (g : FrameData) (is : state_at t high ≡ state_at t rest ++ g ∷ []) (high_in : high.0 < length t.states) (low_in : low.0 < length t.states) (above : low.0 < high.0) (front : List FrameData) where
  pub leaves : BeginsWith (state_at t high) front → BeginsWith (state_at t low) front → BeginsWith (state_at t rest) front
  leaves h k =
      let P : List FrameData → Type 0 = λ s. BeginsWith s front in
      by (front-of (state_at t rest) g front (subst P is h))
    where
      by : (front ≡ state_at t rest ++ g ∷ []) ⊎ BeginsWith (state_at t rest) front → BeginsWith (state_at t rest) front
      by (inr begins) = begins
      by (inl whole) =
          let same : front ≡ state_at t high = whole ∙ sym is in
          let Q : List FrameData → Type 0 = λ f. BeginsWith (state_at t low) f in
          absurd (omega (arith, order high.0 low.0 high_in low_in (subst Q same k)))

-- one frame more is dropped
pub drops : (a high rest : List FrameData) (g : FrameData) (dropped : List FrameData) → a ≡ high ++ dropped → high ≡ rest ++ g ∷ [] → a ≡ rest ++ g ∷ dropped
drops a high rest g dropped e is = e ∙ ap (λ s. s ++ dropped) is ∙ append_assoc rest (g ∷ []) dropped

-- one frame more is added
pub adds : (b low rest : List FrameData) (g x : FrameData) (pushed more : List FrameData) → b ≡ low ++ reverse pushed → low ≡ rest ++ g ∷ [] → x ≡ g → more ≡ pushed ++ x ∷ [] → b ≡ rest ++ reverse more
adds b low rest g x pushed more e is same items =
    e ∙ ap (λ s. s ++ reverse pushed) is ∙ append_assoc rest (g ∷ []) (reverse pushed)
    ∙ sym (ap (λ l. rest ++ l) (ap reverse items ∙ reverse-append pushed (x ∷ []) ∙ ap (λ y. y ∷ reverse pushed) same))

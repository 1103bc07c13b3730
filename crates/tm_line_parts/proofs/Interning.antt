-- The state of open rules, made from the outermost inward.
use Rattle.std.proofs.Common.{◌≡◌, ◌<◌, ◌++◌, List, [], ◌∷◌, length, map, reverse, Some, Result, refl, ap, sym, ◌∙◌, subst}
use Rattle.std.specs.Prelude.{slice_get, Ok, Err, IfOk, IfErr}
use Rattle.std.specs.List.{AllByRecursion}
use Rattle.std.proofs.lemmas.List.{reverse-append, reverse-reverse}
use Rattle.std.proofs.lemmas.Option.{slice_get-get_or}
use Rattle.tm_defs.specs.declared.frames.FrameData.{FrameData}
use Rattle.tm_defs.specs.declared.frames.Frame.{Frame}
use Rattle.tm_defs.specs.declared.frames.StateId.{StateId}
use Rattle.tm_defs.specs.declared.tables.TableFault.{TableFault}
use Rattle.tm_defs.specs.Tables.{Tables, TableEntries, GrowsWithin, IsFullForSome, IsFrameOf, deeper_state, frame_at, only_state, state_at}
use Rattle.tm_defs.proofs.Growth.{tables-refl, tables-trans}
use Rattle.tm_defs.proofs.Chains.{full-first, full-then, left-among, right-among, state_at-is}
use Rattle.tm_line_turns.specs.LineRun.{Open, earlier, frames_of, states_made}
use Rattle.tm_line_parts.specs.declared.stack.OpenFrame.{OpenFrame}
use Rattle.tm_line_parts.specs.Stacks.{open_at, opens}
use Rattle.tm_line_parts.proofs.StacksGrown.{frame-same}

-- the frames of rules of earlier lines are those frames
frames-earlier : (fs : List FrameData) → frames_of (map earlier fs) ≡ fs
frames-earlier [] = refl
frames-earlier (f ∷ fs) = ap (λ l. f ∷ l) (frames-earlier fs)

-- with no frame of this line it is the state below
pub base-is : (t : Tables) (base : StateId) → base.0 < length t.states → slice_get t.states base.0 ≡ Some (reverse (frames_of (map earlier (reverse (state_at t base)))))
base-is t base known =
    slice_get-get_or t.states base.0 [] known ∙ ap Some (sym (ap reverse (frames-earlier (reverse (state_at t base))) ∙ reverse-reverse (state_at t base)))

-- the last of the frames is the innermost
pub opens-last : (t : Tables) (frames rest : List OpenFrame) (last : OpenFrame) (more : List Open) → frames ≡ rest ++ last ∷ [] → opens t frames ++ more ≡ open_at t last ∷ (opens t rest ++ more)
opens-last t frames rest last more e = ap (λ l. opens t l ++ more) e ∙ ap (λ l. map (open_at t) l ++ more) (reverse-append rest (last ∷ []))

pub all-rest : {X : Type 0} (P : X → Type 0) (xs rest : List X) (last : X) → xs ≡ rest ++ last ∷ [] → AllByRecursion P xs → AllByRecursion P rest × P last
all-rest {X} P xs rest last e h = split rest (subst (AllByRecursion P) e h)
  where
    split : (ys : List X) → AllByRecursion P (ys ++ last ∷ []) → AllByRecursion P ys × P last
    split [] k = (tt, k.0)
    split (y ∷ ys) k = let more = split ys k.1 in ((k.0, more.0), more.1)

-- a frame more on a state that was made
module _ (t u v : Tables) (os : List Open) (last : Frame) (o : Open) (below : StateId) (frame : o.frame ≡ frame_at t last) (known : IsFrameOf t last) (grown : GrowsWithin (states_made os) t u) (is : slice_get u.states below.0 ≡ Some (reverse (frames_of os))) where
  deeper-is : deeper_state u below last ≡ reverse (frames_of (o ∷ os))
  deeper-is = ap (λ l. l ++ frame_at u last ∷ []) (state_at-is u below (reverse (frames_of os)) is) ∙ ap (λ f. reverse (frames_of os) ++ f ∷ []) (frame-same _ t u grown last known ∙ sym frame)
      ∙ sym (reverse-append (o.frame ∷ []) (frames_of os))

  pub more-ok : (r : Result StateId TableFault) → IfOk r (λ id. slice_get v.states id.0 ≡ Some (deeper_state u below last)) → IfOk r (λ id. slice_get v.states id.0 ≡ Some (reverse (frames_of (o ∷ os))))
  more-ok (Ok id) at = at ∙ ap Some deeper-is
  more-ok (Err e) at = tt

  abbrev this : TableEntries
  this = only_state (reverse (frames_of (o ∷ os)))

  pub more-grows : GrowsWithin (only_state (deeper_state u below last)) u v → GrowsWithin (states_made (o ∷ os)) t v
  more-grows h =
      let Q : List FrameData → Type 0 = λ s. GrowsWithin (only_state s) u v in
      let first = tables-trans (states_made os) (states_made (o ∷ os)) t t u (right-among this (states_made os)) (tables-refl (states_made (o ∷ os)) t) grown in
      tables-trans this (states_made (o ∷ os)) t u v (left-among this (states_made os)) first (subst Q deeper-is h)

  pub more-full : {V : Type 0} (r : Result V TableFault) → IfErr r (IsFullForSome (only_state (deeper_state u below last)) v) → IfErr r (IsFullForSome (states_made (o ∷ os)) v)
  more-full (Ok x) h = tt
  more-full (Err e) h =
      let Q : List FrameData → Type 0 = λ s. IsFullForSome (only_state s) v e in
      full-first this (states_made os) v e (subst Q deeper-is h)

-- a refusal below is one of the whole
pub below-grows : (t u : Tables) (os : List Open) (o : Open) → GrowsWithin (states_made os) t u → GrowsWithin (states_made (o ∷ os)) t u
below-grows t u os o h =
    let this : TableEntries = only_state (reverse (frames_of (o ∷ os))) in
    tables-trans (states_made os) (states_made (o ∷ os)) t t u (right-among this (states_made os)) (tables-refl (states_made (o ∷ os)) t) h

pub below-full : (u : Tables) (os : List Open) (o : Open) (e : TableFault) → IsFullForSome (states_made os) u e → IsFullForSome (states_made (o ∷ os)) u e
below-full u os o e h = full-then (only_state (reverse (frames_of (o ∷ os)))) (states_made os) u e h

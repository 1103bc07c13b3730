-- What a stack and layers mean stays as the table grows.
use Rattle.std.proofs.Common.{◌≡◌, ℕ, ◌<◌, ◌++◌, List, [], ◌∷◌, length, map, reverse, Some, None, Option, refl, ap, sym, ◌∙◌, get_or, arith, length-append}
use Rattle.std.specs.Option.{option_map}
use Rattle.std.proofs.Math.ListN.{get_or-append}
use Rattle.std.proofs.lemmas.List.{reverse-append}
use Rattle.tm_defs.specs.declared.frames.FrameData.{FrameData}
use Rattle.tm_defs.specs.declared.frames.Frame.{Frame}
use Rattle.tm_defs.specs.declared.frames.TextId.{TextId}
use Rattle.tm_defs.specs.Tables.{Tables, TableEntries, GrowsWithin, IsOptionalText, IsFrameOf, text_at, path_at, state_at, frame_at}
use Rattle.tm_defs.proofs.Chains.{path_at-grown, state_at-grown, paths-longer, states-longer}
use Rattle.tm_line_parts.specs.declared.stack.OpenFrame.{OpenFrame}
use Rattle.tm_line_parts.specs.declared.stack.Stack.{Stack}
use Rattle.tm_line_turns.specs.LineRun.{earlier}
use Rattle.tm_line_parts.specs.declared.layers.Layer.{Layer}
use Rattle.tm_line_parts.specs.Layers.{AreLayers, layer_at, layers_at}
use Rattle.tm_line_parts.specs.Stacks.{open_at, opens, below_at, stack_at, AreFrames, IsStack}

pub map-push : {X Y : Type 0} (f : X → Y) (xs : List X) (x : X) → map f (xs ++ x ∷ []) ≡ map f xs ++ f x ∷ []
map-push f [] x = refl
map-push f (y ∷ ys) x = ap (λ l. f y ∷ l) (map-push f ys x)

module _ (a : TableEntries) (t u : Tables) (h : GrowsWithin a t u) where
  end-grown : (id : Option TextId) → IsOptionalText t id → option_map (text_at u) id ≡ option_map (text_at t) id
  end-grown None known = refl
  end-grown (Some id) known = ap Some (ap (λ l. get_or l id.0 []) h.texts.is ∙ get_or-append t.texts h.texts.added [] id.0 known)

  end-known : (id : Option TextId) → IsOptionalText t id → IsOptionalText u id
  end-known None known = tt
  end-known (Some id) known = omega (arith, known, ap length h.texts.is, length-append t.texts h.texts.added)

  pub frame-known : (f : Frame) → IsFrameOf t f → IsFrameOf u f
  frame-known f k = let more = paths-longer a t u h in record { end = end-known f.end k.end; names = omega (arith, k.names, more); contents = omega (arith, k.contents, more) }

  pub frame-same : (f : Frame) → IsFrameOf t f → frame_at u f ≡ frame_at t f
  frame-same f k =
      let make : Option (List ℕ) → List (List ℕ) → List (List ℕ) → FrameData = λ e n c. record { rule = f.rule; end = e; names = n; contents = c; at_eol = f.at_eol } in
      ap (λ e. make e (path_at u f.names) (path_at u f.contents)) (end-grown f.end k.end)
      ∙ ap (λ n. make (option_map (text_at t) f.end) n (path_at u f.contents)) (path_at-grown a t u f.names k.names h)
      ∙ ap (λ c. make (option_map (text_at t) f.end) (path_at t f.names) c) (path_at-grown a t u f.contents k.contents h)

  open-same : (o : OpenFrame) → IsFrameOf t o.frame → open_at u o ≡ open_at t o
  open-same o k = ap (λ f. record { frame = f; entry = o.entry }) (frame-same o.frame k)

  frames-known : (os : List OpenFrame) → AreFrames t os → AreFrames u os
  frames-known [] k = tt
  frames-known (o ∷ os) k = (frame-known o.frame k.0, frames-known os k.1)

  -- reverse over a map: the list from its end
  opens-same : (os : List OpenFrame) → AreFrames t os → opens u os ≡ opens t os
  opens-same [] k = refl
  opens-same (o ∷ os) k =
      ap (map (open_at u)) (reverse-append (o ∷ []) os) ∙ map-push (open_at u) (reverse os) o
      ∙ ap (λ l. l ++ open_at u o ∷ []) (opens-same os k.1) ∙ ap (λ x. opens t os ++ x ∷ []) (open-same o k.0)
      ∙ sym (ap (map (open_at t)) (reverse-append (o ∷ []) os) ∙ map-push (open_at t) (reverse os) o)

  pub stack-known : (s : Stack) → IsStack t s → IsStack u s
  stack-known s k = record {
    top = frame-known s.top.frame k.top;
    below = frames-known s.below.items k.below;
    base = omega (arith, k.base, states-longer a t u h);
    deep = k.deep ∙ sym (ap length (state_at-grown a t u s.base k.base h));
  }

  pub below-same : (s : Stack) → IsStack t s → below_at u s ≡ below_at t s
  below-same s k =
      ap (λ l. l ++ map earlier (reverse (state_at u s.base))) (opens-same s.below.items k.below)
      ∙ ap (λ l. opens t s.below.items ++ map earlier (reverse l)) (state_at-grown a t u s.base k.base h)

  pub stack-same : (s : Stack) → IsStack t s → stack_at u s ≡ stack_at t s
  stack-same s k = ap (λ o. o ∷ below_at u s) (open-same s.top k.top) ∙ ap (λ l. open_at t s.top ∷ l) (below-same s k)

  pub layers-known : (ls : List Layer) → AreLayers t ls → AreLayers u ls
  layers-known [] k = tt
  layers-known (l ∷ ls) k = (omega (arith, k.0, paths-longer a t u h), layers-known ls k.1)

  layer-same : (l : Layer) → l.scopes.0 < length t.paths → layer_at u l ≡ layer_at t l
  layer-same l k = ap (λ p. record { scopes = p; end = l.end }) (path_at-grown a t u l.scopes k h)

  pub layers-same : (ls : List Layer) → AreLayers t ls → layers_at u ls ≡ layers_at t ls
  layers-same [] k = refl
  layers-same (l ∷ ls) k =
      ap (map (layer_at u)) (reverse-append (l ∷ []) ls) ∙ map-push (layer_at u) (reverse ls) l
      ∙ ap (λ x. x ++ layer_at u l ∷ []) (layers-same ls k.1) ∙ ap (λ x. layers_at t ls ++ x ∷ []) (layer-same l k.0)
      ∙ sym (ap (map (layer_at t)) (reverse-append (l ∷ []) ls) ∙ map-push (layer_at t) (reverse ls) l)

-- A group with a name is a layer more.
use Rattle.std.proofs.Common.{◌≡◌, ℕ, ◌<◌, ◌++◌, List, [], ◌∷◌, length, Some, ap, sym, ◌∙◌, subst}
use Rattle.std.specs.Prelude.{slice_get, Result, Ok, Err}
use Rattle.std.proofs.lemmas.Option.{slice_get_within}
use Rattle.tm_defs.specs.declared.frames.ScopeList.{ScopeList}
use Rattle.tm_defs.specs.declared.tokenizer.LineFault.{LineFault}
use Rattle.tm_defs.specs.declared.tokenizer.LineFault.TheVariants as line
use Rattle.tm_defs.specs.Tables.{Tables, path_at}
use Rattle.tm_defs.proofs.Chains.{path_at-is}
use Rattle.tm_line_turns.specs.LineRun.{makes, names_made}
use Rattle.tm_line_turns.specs.declared.captures.GroupName.{GroupName}
use Rattle.tm_line_turns.specs.Captures as caps
use Rattle.tm_line_turns.specs.Captures.{innermost, named, pushed}
use Rattle.tm_line_parts.specs.declared.layers.Layer.{Layer}
use Rattle.tm_line_parts.specs.declared.rules.Out.{Out}
use Rattle.tm_line_parts.specs.Adds.{Adds}
use Rattle.tm_line_parts.specs.Layers.{Takes}
use Rattle.tm_line_parts.specs.Layers.{AreLayers, layers_at}
use Rattle.tm_line_parts.proofs.LayerSteps.{all-push, layers-push}
use Rattle.tm_line_parts.proofs.StacksGrown.{layers-known, layers-same}

module _ (meta : List (List ℕ) → ℕ) (t u : Tables) (o : Out) (filled : List ℕ → List (List ℕ)) (base : List (List ℕ)) (end : ℕ) (ls : List Layer) (name : GroupName) (outer : ScopeList) (is : path_at t outer ≡ innermost base (layers_at t ls)) where
  abbrev names : List (List ℕ)
  names = pushed filled (Some name)

  abbrev took : caps.Took
  took = named filled base end (layers_at t ls) (Some name)

  as-named : {X : Type 0} (r : Result X LineFault) → Adds meta (makes (names_made (path_at t outer) names)) t u o o r → Adds meta took.part t u o o r
  as-named r h = let P : List (List ℕ) → Type 0 = λ p. Adds meta (makes (names_made p names)) t u o o r in subst P is h

  pub named-fails : {X Y : Type 0} (new : List Layer) (f : LineFault) → Adds {X = X} meta (makes (names_made (path_at t outer) names)) t u o o (Err f) → Takes {X = Y} meta took t u o o new (Err f)
  named-fails new f h = let k = as-named (Err f) h in record { adds = record { pieces = tt; grows = k.grows; spends = k.spends; cause = k.cause }; keeps = tt }

  pub named-refused : {X Y : Type 0} (new : List Layer) (x : X) → Adds meta (makes (names_made (path_at t outer) names)) t u o o (Ok x) → Takes {X = Y} meta took t u o o new (Err line.OutOfMemory)
  named-refused new x h = let k = as-named (Ok x) h in record { adds = record { pieces = tt; grows = k.grows; spends = k.spends; cause = tt }; keeps = tt }

  pub named-pushed : {Y : Type 0} (new : List Layer) (id : ScopeList) (y : Y) → AreLayers t ls → slice_get u.paths id.0 ≡ Some (path_at t outer ++ names) → Adds meta (makes (names_made (path_at t outer) names)) t u o o (Ok id) →
      new ≡ ls ++ record { scopes = id; end = end } ∷ [] → Takes meta took t u o o new (Ok y)
  named-pushed new id y known at h e =
      let k = as-named (Ok id) h in
      let l : Layer = record { scopes = id; end = end } in
      let means : path_at u id ≡ innermost base (layers_at t ls) ++ names = path_at-is u id _ at ∙ ap (λ p. p ++ names) is in
      record {
        adds = record { pieces = k.pieces; grows = k.grows; spends = k.spends; cause = tt };
        keeps = record {
          known = subst (AreLayers u) (sym e) (all-push (λ (x : Layer). x.scopes.0 < length u.paths) ls l (layers-known _ t u h.grows ls known) (slice_get_within u.paths id.0 _ at));
          is = ap (layers_at u) e ∙ layers-push u ls l ∙ ap (λ p. record { scopes = p; end = end } ∷ layers_at u ls) means
              ∙ ap (λ (x : List caps.Layer). record { scopes = innermost base (layers_at t ls) ++ names; end = end } ∷ x) (layers-same _ t u h.grows ls known);
        };
      }

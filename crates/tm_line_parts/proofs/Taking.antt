-- A step of the walk over the groups.
use Rattle.std.proofs.Common.{◌≡◌, ℕ, ◌<◌, List, Bool, true, false, cond, Option, Some, None, refl, ap, sym, ◌∙◌, subst, arith, eqb-true}
use Rattle.std.specs.Prelude.{Ok, Err, ◌==◌, nat_lt, slice_get}
use Rattle.std.proofs.lemmas.Bool.Decides.{nat_tests}
use Rattle.tm_defs.specs.declared.tokenizer.LineFault.{LineFault}
use Rattle.tm_defs.specs.Tables.{Tables}
use Rattle.tm_line_turns.specs.declared.captures.GroupRule.{GroupRule}
use Rattle.tm_line_turns.specs.declared.found.Match.{Match}
use Rattle.tm_line_turns.specs.LineRun.{Part, joined, nothing, paint}
use Rattle.tm_line_turns.specs.Captures.{Inner, Goes, Step, Took, applied, behind, closed, group_of, innermost, kept, set, stepped}
use Rattle.tm_line_turns.specs.Captures as caps
use Rattle.tm_line_parts.specs.declared.layers.Layer.{Layer}
use Rattle.tm_line_parts.specs.declared.rules.Out.{Out}
use Rattle.tm_line_parts.specs.Adds.{Adds}
use Rattle.tm_line_parts.specs.Layers.{Steps, Takes}
use Rattle.tm_line_parts.proofs.Adding.{first-fails, same-fault, same-part, then-any}

-- a set group is one of the list
pub group-get : (groups : List (Option (ℕ × ℕ))) (n : ℕ) (g : ℕ × ℕ) → group_of groups n ≡ Some g → slice_get groups n ≡ Some (Some g)
group-get groups n g e = by-set (slice_get groups n) e
  where
    by-set : (x : Option (Option (ℕ × ℕ))) → set x ≡ Some g → x ≡ Some (Some g)
    by-set None e = absurd cc
    by-set (Some group) e = ap Some e

module _ (filled : List ℕ → List (List ℕ)) (base : List (List ℕ)) (m : Match) (inner : Option Inner) (ls : List caps.Layer) (c : GroupRule) (start end : ℕ) where
  abbrev the_took : Took
  the_took = behind base start ls (applied filled base (kept start ls) c start end inner c.rule)

  pub stepped-at : (group : Option (ℕ × ℕ)) → group ≡ Some (start, end) → (start ≡ end → ⊥) → (m.end < start → ⊥) → stepped filled base m inner ls c group ≡ Goes the_took
  stepped-at group is some within =
      ap (stepped filled base m inner ls c) is ∙ ap (λ b. cond b (Goes (record { part = caps_nothing; layers = ls })) (cond (nat_lt m.end start) caps.Halts (Goes the_took))) (apart (start == end) refl)
      ∙ ap (λ b. cond b caps.Halts (Goes the_took)) (not-behind (nat_lt m.end start) refl)
    where
      caps_nothing : Part
      caps_nothing = nothing

      apart : (b : Bool) → (start == end) ≡ b → (start == end) ≡ false
      apart true e = absurd (some (eqb-true start end e))
      apart false e = e

      not-behind : (b : Bool) → nat_lt m.end start ≡ b → nat_lt m.end start ≡ false
      not-behind true e = absurd (within (grind (arith, nat_tests)))
      not-behind false e = e

-- what a step did, from its parts: the layers that end are painted, the piece up to the group, and the group
module _ (meta : List (List ℕ) → ℕ) (filled : List ℕ → List (List ℕ)) (base : List (List ℕ)) (m : Match) (inner : Option Inner) (ls : List caps.Layer) (c : GroupRule) (start end : ℕ) (group : Option (ℕ × ℕ)) (is : stepped filled base m inner ls c group ≡ Goes (the_took filled base m inner ls c start end)) (t : Tables) (old : Out) where
  abbrev group_took : Took
  group_took = applied filled base (kept start ls) c start end inner c.rule

  abbrev first_paint : Part
  first_paint = paint start (innermost base (kept start ls))

  pub step-unclosed : (new : Out) (items : List Layer) (f : LineFault) → Adds {X = ℕ} meta (closed start ls) t t old new (Err f) → Steps meta ls (stepped filled base m inner ls c group) t t old new items (Err f)
  step-unclosed new items f h =
      let P : Step → Type 0 = λ x. Steps meta ls x t t old new items (Err f) in
      subst P (sym is) (record { takes = record { adds = first-fails meta (closed start ls) (joined first_paint group_took.part) t t old new f h; keeps = tt }; goes = tt })

  pub step-unpainted : {U : Type 0} (now new : Out) (n : ℕ) (items : List Layer) (f : LineFault) → Adds meta (closed start ls) t t old now (Ok n) → Adds {X = U} meta first_paint t t now new (Err f) → Steps meta ls (stepped filled base m inner ls c group) t t old new items (Err f)
  step-unpainted now new n items f h k =
      let P : Step → Type 0 = λ x. Steps meta ls x t t old new items (Err f) in
      subst P (sym is) (record { takes = record { adds = then-any meta (closed start ls) (joined first_paint group_took.part) t t t old now new n (Err f) h (first-fails meta first_paint group_took.part t t now new f k); keeps = tt }; goes = tt })

  pub step-unapplied : {U V : Type 0} (u : Tables) (now last new : Out) (n : ℕ) (x : U) (items : List Layer) (f : LineFault) → Adds meta (closed start ls) t t old now (Ok n) → Adds meta first_paint t t now last (Ok x) → Takes {X = V} meta group_took t u last new items (Err f) →
      Steps meta ls (stepped filled base m inner ls c group) t u old new items (Err f)
  step-unapplied u now last new n x items f h k l =
      let P : Step → Type 0 = λ y. Steps meta ls y t u old new items (Err f) in
      let tail = same-fault meta group_took.part t u last new f l.adds in
      subst P (sym is) (record { takes = record { adds = then-any meta (closed start ls) (joined first_paint group_took.part) t t u old now new n (Err f) h (then-any meta first_paint group_took.part t t u now last new x (Err f) k tail); keeps = tt }; goes = tt })

  pub step-done : {U V : Type 0} (u : Tables) (now last new : Out) (n : ℕ) (x : U) (y : V) (items : List Layer) → Adds meta (closed start ls) t t old now (Ok n) → Adds meta first_paint t t now last (Ok x) → Takes meta group_took t u last new items (Ok y) →
      Steps meta ls (stepped filled base m inner ls c group) t u old new items (Ok true)
  step-done u now last new n x y items h k l =
      let P : Step → Type 0 = λ z. Steps meta ls z t u old new items (Ok true) in
      let tail = same-part meta group_took.part t u last new y true l.adds in
      subst P (sym is) (record { takes = record { adds = then-any meta (closed start ls) (joined first_paint group_took.part) t t u old now new n (Ok true) h (then-any meta first_paint group_took.part t t u now last new x (Ok true) k tail); keeps = l.keeps }; goes = refl })

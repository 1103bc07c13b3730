-- A group that is tokenized, or is not.
use Rattle.std.proofs.Common.{◌≡◌, ℕ, zero, suc, ◌-◌, ◌<◌, List, length, Bool, true, false, cond, Option, Some, None, refl, ap, sym, ◌∙◌, subst, arith}
use Rattle.std.specs.Prelude.{Result, Ok, Err, OnOk, nat_lt}
use Rattle.tm_defs.specs.declared.tokenizer.LineFault.{LineFault}
use Rattle.tm_defs.specs.declared.tokenizer.LineFault.TheVariants as line
use Rattle.tm_defs.specs.Tables.{Tables}
use Rattle.tm_line_turns.specs.declared.captures.GroupRule.{GroupRule}
use Rattle.tm_line_turns.specs.LineRun.{Open, Place, Part, Grammar, joined, most_open, line_run}
use Rattle.tm_line_turns.specs.Captures.{Inner, Took, again, applied, named, tokenized}
use Rattle.tm_line_turns.specs.Language.{Language, grammar_at, inner_at}
use Rattle.tm_line_turns.specs.Captures as caps
use Rattle.tm_line_parts.specs.declared.layers.Layer.{Layer}
use Rattle.tm_line_parts.specs.declared.rules.Out.{Out}
use Rattle.tm_line_parts.specs.declared.stack.Way.{Way}
use Rattle.tm_line_parts.specs.Adds.{Adds}
use Rattle.tm_line_parts.specs.Layers.{Keeps, Takes}
use Rattle.tm_line_parts.specs.Layers.{AreLayers, layers_at}
use Rattle.tm_line_parts.proofs.Adding.{first-fails, joined-assoc, refused, then-any}
use Rattle.tm_line_parts.proofs.StacksGrown.{layers-known, layers-same}

-- the names of a group and its content names were pushed, and then its text was run, or was not
module _ (meta : List (List ℕ) → ℕ) (named inside : Part) (g : Grammar) (q : Place) (t u : Tables) (o : Out) where
  abbrev whole : Part
  whole = joined named (joined inside (line_run g q).part)

  in-order : {X : Type 0} (v : Tables) (new : Out) (r : Result X LineFault) → Adds meta (joined (joined named inside) (line_run g q).part) t v o new r → Adds meta whole t v o new r
  in-order v new r h = let P : Part → Type 0 = λ p. Adds meta p t v o new r in subst P (joined-assoc named inside (line_run g q).part) h

  pub group-unnamed : {X : Type 0} (e : LineFault) → Adds {X = Way} meta (joined named inside) t u o o (Err e) → Adds {X = X} meta whole t u o o (Err e)
  group-unnamed e h = in-order u o (Err e) (first-fails meta (joined named inside) (line_run g q).part t u o o e h)

  module _ (way : Way) (h : Adds meta (joined named inside) t u o o (Ok way)) where
    pub group-refused : {X : Type 0} → Adds {X = X} meta whole t u o o (Err line.OutOfMemory)
    group-refused = in-order u o (Err line.OutOfMemory) (then-any meta (joined named inside) (line_run g q).part t u u o o o way (Err line.OutOfMemory) h (refused meta (line_run g q).part u o o refl))

    pub group-done : {X : Type 0} (p : Place) (v : Tables) (new : Out) (r : Result X LineFault) → p ≡ q → Adds meta (line_run g p).part u v o new r → Adds meta whole t v o new r
    group-done p v new r is k =
        let P : Place → Type 0 = λ x. Adds meta (line_run g x).part u v o new r in
        in-order v new r (then-any meta (joined named inside) (line_run g q).part t u v o o new way r h (subst P is k))

module _ (l : Language) (filled : List ℕ → List (List ℕ)) (text : List ℕ) (first : Bool) (stack : List Open) (base : List (List ℕ)) (ls : List caps.Layer) (c : GroupRule) (start end : ℕ) where
  abbrev taken : ℕ → Option ℕ → Took
  taken n rule = applied filled base ls c start end (inner_at l n text first stack) rule

  -- where the depth allows it and there is room
  abbrev the_part : ℕ → ℕ → Part
  the_part n rule = again filled base (tokenized (grammar_at l n) text first stack) rule c start end

  abbrev the_group : ℕ → ℕ → Took
  the_group n rule = record { part = the_part n rule; layers = ls }

  tokenizes : (n rule : ℕ) → nat_lt (length stack) most_open ≡ true → taken (suc n) (Some rule) ≡ the_group n rule
  unfolding inner_at
  tokenizes n rule room = ap (λ b. applied filled base ls c start end (cond b (Some (tokenized (grammar_at l n) text first stack)) None) (Some rule)) room

  pub deep-is : (d rule : ℕ) → 0 < d → nat_lt (length stack) most_open ≡ true → c.rule ≡ Some rule → taken d c.rule ≡ the_group (d - 1) rule
  deep-is zero rule lt room has = absurd (omega arith)
  deep-is (suc n) rule lt room has =
      let e : suc n - 1 ≡ n = omega arith in
      ap (taken (suc n)) has ∙ tokenizes n rule room ∙ ap (λ k. the_group k rule) (sym e)

  -- else it has its names
  pub none-deeper : (d : ℕ) → (d ≡ 0) → (rule : Option ℕ) → taken d rule ≡ named filled base end ls c.name
  unfolding inner_at
  none-deeper zero e rule = refl
  none-deeper (suc n) e rule = absurd (omega arith)

  pub no-room : (d : ℕ) (rule : Option ℕ) → nat_lt (length stack) most_open ≡ false → taken d rule ≡ named filled base end ls c.name
  unfolding inner_at
  no-room zero rule full = refl
  no-room (suc n) rule full = ap (λ b. applied filled base ls c start end (cond b (Some (tokenized (grammar_at l n) text first stack)) None) rule) full

  pub no-rule : (d : ℕ) → c.rule ≡ None → taken d c.rule ≡ named filled base end ls c.name
  no-rule d e = ap (taken d) e ∙ by-inner (inner_at l d text first stack)
    where
      by-inner : (x : Option Inner) → applied filled base ls c start end x None ≡ named filled base end ls c.name
      by-inner None = refl
      by-inner (Some x) = refl

-- a group that was tokenized keeps the layers
pub kept-takes : {X : Type 0} (meta : List (List ℕ) → ℕ) (took : Took) (part : Part) (t v : Tables) (old new : Out) (items : List Layer) (r : Result X LineFault) → took ≡ record { part = part; layers = layers_at t items } → AreLayers t items → Adds meta part t v old new r →
    Takes meta took t v old new items r
kept-takes meta took part t v old new items r is known h =
    let P : Took → Type 0 = λ x. Takes meta x t v old new items r in
    subst P (sym is) (record { adds = h; keeps = keeps r h })
  where
    keeps : {X : Type 0} (r : Result X LineFault) → Adds meta part t v old new r → OnOk r (Keeps v (layers_at t items) items)
    keeps (Ok x) h = record { known = layers-known _ t v h.grows items known; is = layers-same _ t v h.grows items known }
    keeps (Err e) h = tt

-- What the cases of a turn did.
use Rattle.std.proofs.Common.{◌≡◌, ℕ, ◌++◌, List, [], ◌∷◌, length, Bool, true, false, Option, Some, refl, ap, sym, ◌∙◌, subst}
use Rattle.std.specs.Prelude.{Result, Ok, Err, IfOk, ◌==◌, ◌&&◌, not, nat_lt, max}
use Rattle.tm_defs.specs.declared.frames.ScopeList.{ScopeList}
use Rattle.tm_defs.specs.declared.tokenizer.LineFault.{LineFault}
use Rattle.tm_defs.specs.declared.tokenizer.LineFault.TheVariants as line
use Rattle.tm_defs.specs.Tables.{Tables}
use Rattle.tm_line_turns.specs.declared.found.Match.{Match}
use Rattle.tm_line_turns.specs.declared.found.Whose.{Whose}
use Rattle.tm_line_turns.specs.declared.found.Whose.TheVariants.{AtBegin, AtEnd, AtMatch}
use Rattle.tm_line_turns.specs.LineRun.{Open, Place, Part, Turn, Grammar, Stops, joined, makes, paint, names_made, end_made, opened, framed, plain, closing, anchor_of, is_at, near, has, some_open, stack_of, advances, most_open, popped, popped_contents, covered, ended, entered, begun, matched, rests}
use Rattle.tm_line_turns.proofs.Turns.{both}
use Rattle.tm_line_parts.specs.declared.rules.Out.{Out}
use Rattle.tm_line_parts.specs.declared.stops.Next.{Next}
use Rattle.tm_line_parts.specs.declared.stops.Next.TheVariants as next
use Rattle.tm_line_parts.specs.declared.stack.Way.{Way}
use Rattle.tm_line_parts.specs.Adds.{Adds}
use Rattle.tm_line_parts.specs.Did.{Does, Leads}
use Rattle.tm_line_parts.specs.Stacks.{IsStack, stack_at, place_at}
use Rattle.tm_line_parts.proofs.Adding.{first-fails, then-any, same-part, same-fault, refused}

-- the place of open rules
abbrev pub placed : Open → List Open → ℕ → Option ℕ → Bool → Place
placed d [] at anchor first = record { top = d; below = []; at = at; anchor = anchor; first = first }
placed d (o ∷ os) at anchor first = record { top = o; below = os; at = at; anchor = anchor; first = first }

-- a way with this stack, at this position
pub place-is : (u : Tables) (w : Way) (d : Open) (stack : List Open) (at : ℕ) (anchor : Option ℕ) (first : Bool) → stack_at u w.stack ≡ stack → w.at ≡ at → w.anchor ≡ anchor → w.first ≡ first →
    place_at u w ≡ placed d stack at anchor first
place-is u w d stack at anchor first e f g h =
    ap (λ s. placed d s w.at w.anchor w.first) e ∙ ap (λ n. placed d stack n w.anchor w.first) f ∙ ap (λ n. placed d stack at n w.first) g ∙ ap (placed d stack at anchor) h

-- a turn at which the line stops
pub stops-as : (meta : List (List ℕ) → ℕ) (k : Turn) (t u : Tables) (old new : Out) (w : Way) (r : Result Next LineFault) (stack : List Open) → k.next ≡ Stops stack → Adds meta k.part t u old new r → IfOk r (λ n. n ≡ next.Stops) →
    IsStack u w.stack → stack_at u w.stack ≡ stack → Does meta k t u old new w r
stops-as meta k t u old new w (Err e) stack is h stops known same = record { adds = h; leads = tt }
stops-as meta k t u old new w (Ok next.GoesOn) stack is h stops known same = absurd cc
stops-as meta k t u old new w (Ok next.Stops) stack is h stops known same = record { adds = h; leads = subst (λ x. Leads u x next.Stops w) (sym is) (known, same) }

module _ (meta : List (List ℕ) → ℕ) (g : Grammar) where
  -- what was covered, by what its numbers mean
  pub covered-as : (whose : Whose) (rule : ℕ) (m : Match) (first : Bool) (t u : Tables) (old new : Out) {X : Type 0} (r : Result X LineFault) (s₁ s₂ : List Open) (o₁ o₂ b₁ b₂ : List (List ℕ)) → s₁ ≡ s₂ → o₁ ≡ o₂ → b₁ ≡ b₂ →
      Adds meta (covered g whose rule m s₁ o₁ b₁ first) t u old new r → Adds meta (covered g whose rule m s₂ o₂ b₂ first) t u old new r
  covered-as whose rule m first t u old new r s₁ s₂ o₁ o₂ b₁ b₂ s o b h =
      let P : List Open → Type 0 = λ x. Adds meta (covered g whose rule m x o₂ b₂ first) t u old new r in
      let Q : List (List ℕ) → Type 0 = λ x. Adds meta (covered g whose rule m s₁ x b₂ first) t u old new r in
      let R : List (List ℕ) → Type 0 = λ x. Adds meta (covered g whose rule m s₁ o₁ x first) t u old new r in
      subst P s (subst Q o (subst R b h))

  module _ (p : Place) (m : Match) (t u : Tables) (old new : Out) (w : Way) where
    abbrev over_end : List Open → Part
    over_end below = covered g AtEnd p.top.frame.rule m (closing p.top ∷ below) p.top.frame.contents p.top.frame.names p.first

    -- with no rule around it the line rests
    pub ended-none : (below : List Open) (r : Result Next LineFault) → some_open below ≡ false → Does meta (rests g.end p) t u old new w r → Does meta (ended g p m below) t u old new w r
    ended-none [] r none h = h
    ended-none (x ∷ xs) r none h = absurd cc

    pub ended-goes : {U : Type 0} {done : U} → (below : List Open) → some_open below ≡ true → (not (advances p m) && is_at p.top.entry p.at) ≡ false → Adds meta (over_end below) t u old new (Ok done) → IsStack u w.stack → stack_at u w.stack ≡ below →
        w.at ≡ max p.at m.end → w.anchor ≡ anchor_of p.top.entry → w.first ≡ (p.first && not (advances p m)) → Does meta (ended g p m below) t u old new w (Ok next.GoesOn)
    ended-goes [] some free adds known is at anchor first = absurd cc
    ended-goes (x ∷ xs) some free adds known is at anchor first =
        rw free (record { adds = same-part meta (over_end (x ∷ xs)) t u old new _ next.GoesOn adds; leads = (known, place-is u w p.top (x ∷ xs) _ _ _ is at anchor first) })

    pub ended-fails : {U : Type 0} → (below : List Open) (e : LineFault) → some_open below ≡ true → Adds {X = U} meta (over_end below) t u old new (Err e) → Does meta (ended g p m below) t u old new w (Err e)
    ended-fails [] e some h = absurd cc
    ended-fails (x ∷ xs) e some h = both (λ (k : Turn). Does meta k t u old new w (Err e)) (not (advances p m) && is_at p.top.entry p.at) _ _
        (λ _. record { adds = first-fails meta (over_end (x ∷ xs)) (paint g.end p.top.frame.names) t u old new e h; leads = tt })
        (λ _. record { adds = same-fault meta (over_end (x ∷ xs)) t u old new e h; leads = tt })

    -- an end that is stuck: what was covered, and then the last piece
    pub ended-stuck : {U : Type 0} {done : U} → (below : List Open) (v : Tables) (now : Out) (r : Result Next LineFault) → some_open below ≡ true → (not (advances p m) && is_at p.top.entry p.at) ≡ true → Adds meta (over_end below) t u old now (Ok done) →
        Adds meta (paint g.end p.top.frame.names) u v now new r → IfOk r (λ n. n ≡ next.Stops) → IsStack v w.stack → stack_at v w.stack ≡ closing p.top ∷ below → Does meta (ended g p m below) t v old new w r
    ended-stuck [] v now r some stuck h k stops known is = absurd cc
    ended-stuck (x ∷ xs) v now r some stuck h k stops known is =
        let over = over_end (x ∷ xs) in
        let last = paint g.end p.top.frame.names in
        rw stuck (stops-as meta (record { part = joined over last; next = Stops (closing p.top ∷ x ∷ xs) }) t v old new w r (closing p.top ∷ x ∷ xs) refl (then-any meta over last t u v old now new _ r h k) stops known is)

  module _ (p : Place) (rule : ℕ) (m : Match) (names : List (List ℕ)) where
    abbrev scopes : List (List ℕ)
    scopes = p.top.frame.contents ++ names

    abbrev names_part : Part
    names_part = makes (names_made p.top.frame.contents names)

    abbrev over_begin : Part
    over_begin = covered g AtBegin rule m (opened (plain rule scopes (m.end == g.end)) p.at p.anchor ∷ stack_of p) p.top.frame.contents scopes p.first

    abbrev over_match : Part
    over_match = covered g AtMatch rule m (stack_of p) p.top.frame.contents scopes p.first

    module _ (end_text : Option (List ℕ)) (content_names : List (List ℕ)) where
      abbrev new_top : Open
      new_top = opened (framed rule end_text scopes (scopes ++ content_names) (m.end == g.end)) p.at p.anchor

      abbrev inside_part : Part
      inside_part = joined (makes (names_made scopes content_names)) (makes (end_made end_text))

      pub begun-full : (t u : Tables) (old new : Out) (w : Way) (r : Result Next LineFault) → not (nat_lt (length (stack_of p)) most_open) ≡ true → Does meta (rests g.end p) t u old new w r → Does meta (begun g p rule m end_text names content_names) t u old new w r
      begun-full t u old new w r full h = rw (not-true _ full) h
        where
          not-true : (b : Bool) → not b ≡ true → b ≡ false
          not-true false e = refl
          not-true true e = absurd cc

      pub begun-within : (t u : Tables) (old new : Out) (w : Way) (r : Result Next LineFault) → not (nat_lt (length (stack_of p)) most_open) ≡ false → Does meta (entered g p rule m end_text names content_names) t u old new w r → Does meta (begun g p rule m end_text names content_names) t u old new w r
      begun-within t u old new w r room h = rw (not-false _ room) h
        where
          not-false : (b : Bool) → not b ≡ false → b ≡ true
          not-false true e = refl
          not-false false e = absurd cc

      entered-err : (t u : Tables) (old new : Out) (w : Way) (e : LineFault) → ((rest : Part) → Adds {X = Next} meta (joined names_part (joined over_begin rest)) t u old new (Err e)) → Does meta (entered g p rule m end_text names content_names) t u old new w (Err e)
      entered-err t u old new w e h = both (λ (x : Turn). Does meta x t u old new w (Err e)) (not (advances p m) && has (near p.at (stack_of p)) rule) _ _
          (λ _. record { adds = h (paint g.end p.top.frame.contents); leads = tt }) (λ _. record { adds = h inside_part; leads = tt })

      pub entered-unnamed : (t u : Tables) (old new : Out) (w : Way) (e : LineFault) → Adds {X = ScopeList} meta names_part t u old new (Err e) → Does meta (entered g p rule m end_text names content_names) t u old new w (Err e)
      entered-unnamed t u old new w e h = entered-err t u old new w e (λ rest. first-fails meta names_part (joined over_begin rest) t u old new e h)

      pub entered-refused : (t u : Tables) (old now new : Out) (w : Way) (id : ScopeList) → Adds meta names_part t u old now (Ok id) → new.budget ≡ now.budget → Does meta (entered g p rule m end_text names content_names) t u old new w (Err line.OutOfMemory)
      entered-refused t u old now new w id h same =
          entered-err t u old new w line.OutOfMemory (λ rest. then-any meta names_part (joined over_begin rest) t u u old now new id (Err line.OutOfMemory) h (refused meta (joined over_begin rest) u now new same))

      pub entered-uncovered : {U : Type 0} → (t u v : Tables) (old now new : Out) (w : Way) (id : ScopeList) (e : LineFault) → Adds meta names_part t u old now (Ok id) → Adds {X = U} meta over_begin u v now new (Err e) → Does meta (entered g p rule m end_text names content_names) t v old new w (Err e)
      entered-uncovered t u v old now new w id e h k =
          entered-err t v old new w e (λ rest. then-any meta names_part (joined over_begin rest) t u v old now new id (Err e) h (first-fails meta over_begin rest u v now new e k))

      module _ {U : Type 0} {done : U} (t u v x : Tables) (old now last : Out) (w : Way) (id : ScopeList) (h : Adds meta names_part t u old now (Ok id)) (k : Adds meta over_begin u v now last (Ok done)) where
        all-of-it : {V W : Type 0} (r : Result V LineFault) (y : Result W LineFault) → (Adds meta (joined over_begin inside_part) u x now last r → Adds meta (joined over_begin inside_part) u x now last y) → Adds meta inside_part v x last last r → Adds meta (joined names_part (joined over_begin inside_part)) t x old last y
        all-of-it r y turned l = then-any meta names_part (joined over_begin inside_part) t u x old now last id y h (turned (then-any meta over_begin inside_part u v x now last last _ r k l))

        pub entered-ungiven : {V : Type 0} (e : LineFault) → (not (advances p m) && has (near p.at (stack_of p)) rule) ≡ false → Adds {X = V} meta inside_part v x last last (Err e) → Does meta (entered g p rule m end_text names content_names) t x old last w (Err e)
        entered-ungiven e free l = rw free (record { adds = all-of-it (Err e) (Err e) (same-fault meta (joined over_begin inside_part) u x now last e) l; leads = tt })

        pub entered-goes : {V : Type 0} (given : V) → (not (advances p m) && has (near p.at (stack_of p)) rule) ≡ false → Adds meta inside_part v x last last (Ok given) →
            IsStack x w.stack → stack_at x w.stack ≡ new_top ∷ stack_of p → w.at ≡ max p.at m.end → w.anchor ≡ Some m.end → w.first ≡ (p.first && not (advances p m)) → Does meta (entered g p rule m end_text names content_names) t x old last w (Ok next.GoesOn)
        entered-goes given free l known is at anchor first =
            rw free (record { adds = all-of-it (Ok given) (Ok next.GoesOn) (same-part meta (joined over_begin inside_part) u x now last given next.GoesOn) l; leads = (known, place-is x w p.top (new_top ∷ stack_of p) _ _ _ is at anchor first) })

      pub entered-stuck : {U : Type 0} {done : U} → (t u v : Tables) (old now last new : Out) (w : Way) (id : ScopeList) (r : Result Next LineFault) → (not (advances p m) && has (near p.at (stack_of p)) rule) ≡ true → Adds meta names_part t u old now (Ok id) → Adds meta over_begin u v now last (Ok done) →
          Adds meta (paint g.end p.top.frame.contents) v v last new r → IfOk r (λ n. n ≡ next.Stops) → IsStack v w.stack → stack_at v w.stack ≡ stack_of p → Does meta (entered g p rule m end_text names content_names) t v old new w r
      entered-stuck t u v old now last new w id r stuck h k l stops known is =
          let tail = paint g.end p.top.frame.contents in
          rw stuck (stops-as meta (record { part = joined names_part (joined over_begin tail); next = Stops (stack_of p) }) t v old new w r (stack_of p) refl
          (then-any meta names_part (joined over_begin tail) t u v old now new id r h (then-any meta over_begin tail u v v now last new _ r k l)) stops known is)

    matched-err : (t u : Tables) (old new : Out) (w : Way) (e : LineFault) → ((rest : Part) → Adds {X = Next} meta (joined names_part (joined over_match rest)) t u old new (Err e)) → Adds {X = Next} meta (joined names_part over_match) t u old new (Err e) →
        Does meta (matched g p rule m names) t u old new w (Err e)
    matched-err t u old new w e h k = both (λ (x : Turn). Does meta x t u old new w (Err e)) (advances p m) _ _
        (λ _. record { adds = k; leads = tt }) (λ _. record { adds = h (paint g.end (popped_contents p.top p.below)); leads = tt })

    pub matched-unnamed : (t u : Tables) (old new : Out) (w : Way) (e : LineFault) → Adds {X = ScopeList} meta names_part t u old new (Err e) → Does meta (matched g p rule m names) t u old new w (Err e)
    matched-unnamed t u old new w e h = matched-err t u old new w e (λ rest. first-fails meta names_part (joined over_match rest) t u old new e h) (first-fails meta names_part over_match t u old new e h)

    pub matched-uncovered : {U : Type 0} → (t u v : Tables) (old now new : Out) (w : Way) (id : ScopeList) (e : LineFault) → Adds meta names_part t u old now (Ok id) → Adds {X = U} meta over_match u v now new (Err e) → Does meta (matched g p rule m names) t v old new w (Err e)
    matched-uncovered t u v old now new w id e h k =
        matched-err t v old new w e (λ rest. then-any meta names_part (joined over_match rest) t u v old now new id (Err e) h (first-fails meta over_match rest u v now new e k))
        (then-any meta names_part over_match t u v old now new id (Err e) h (same-fault meta over_match u v now new e k))

    pub matched-goes : {U : Type 0} {done : U} → (t u v : Tables) (old now new : Out) (w : Way) (id : ScopeList) → advances p m ≡ true → Adds meta names_part t u old now (Ok id) → Adds meta over_match u v now new (Ok done) →
        IsStack v w.stack → stack_at v w.stack ≡ stack_of p → w.at ≡ max p.at m.end → w.anchor ≡ p.anchor → w.first ≡ (p.first && not (advances p m)) → Does meta (matched g p rule m names) t v old new w (Ok next.GoesOn)
    matched-goes t u v old now new w id so h k known is at anchor first =
        rw so (record {
          adds = then-any meta names_part over_match t u v old now new id (Ok next.GoesOn) h (same-part meta over_match u v now new _ next.GoesOn k);
          leads = (known, place-is v w p.top (stack_of p) _ _ _ is at anchor (first ∙ ap (λ b. p.first && not b) so));
        })

    pub matched-stuck : {U : Type 0} {done : U} → (t u v : Tables) (old now last new : Out) (w : Way) (id : ScopeList) (r : Result Next LineFault) → advances p m ≡ false → Adds meta names_part t u old now (Ok id) → Adds meta over_match u v now last (Ok done) →
        Adds meta (paint g.end (popped_contents p.top p.below)) v v last new r → IfOk r (λ n. n ≡ next.Stops) → IsStack v w.stack → stack_at v w.stack ≡ popped p.top p.below → Does meta (matched g p rule m names) t v old new w r
    matched-stuck t u v old now last new w id r so h k l stops known is =
        let tail = paint g.end (popped_contents p.top p.below) in
        rw so (stops-as meta (record { part = joined names_part (joined over_match tail); next = Stops (popped p.top p.below) }) t v old new w r (popped p.top p.below) refl
        (then-any meta names_part (joined over_match tail) t u v old now new id r h (then-any meta over_match tail u v v now last new _ r k l)) stops known is)

-- The while pass, and what is left of it.
use Rattle.std.proofs.Common.{◌≡◌, ℕ, ◌<◌, ◌≤◌, ◌++◌, List, [], ◌∷◌, length, map, reverse, max, cond, arith, Option, Some, None, Bool, true, false, refl, ap, sym, ◌∙◌, subst, append_assoc}
use Rattle.std.specs.Prelude.{Result, Ok, Err, IfOk, ◌||◌}
use Rattle.std.proofs.lemmas.Bool.Decides.{nat_tests}
use Rattle.std.proofs.lemmas.List.{append-nil, reverse-append}
use Rattle.tm_defs.specs.declared.frames.Frame.{Frame}
use Rattle.tm_defs.specs.declared.frames.FrameData.{FrameData}
use Rattle.tm_defs.specs.declared.tokenizer.LineFault.{LineFault}
use Rattle.tm_defs.specs.Tables.{Tables, TableEntries, GrowsWithin, frame_at, none_made}
use Rattle.tm_defs.proofs.Growth.{tables-refl}
use Rattle.tm_line_turns.specs.declared.found.Match.{Match}
use Rattle.tm_line_turns.specs.declared.found.Whose.TheVariants.{AtWhile}
use Rattle.tm_line_turns.specs.Line.{lowest, others, resumed_place, some_while, start_anchor, start_made, start_place, start_state}
use Rattle.tm_line_turns.specs.LineRun.{Grammar, Open, Part, Place, covered, earlier, joined, makes, nothing, onward, searches, stack_of}
use Rattle.tm_line_turns.specs.WhilePass.{Passed, Tested, asked_while, found_while, opened_on, passed, searched_while, tested, while_pass}
use Rattle.tm_line_turns.proofs.Passes.{pass-all}
use Rattle.tm_line_parts.specs.declared.rules.Out.{Out}
use Rattle.tm_line_parts.specs.declared.stack.Way.{Way}
use Rattle.tm_line_parts.specs.Adds.{Adds, Spends}
use Rattle.tm_line_parts.specs.Holds.{Passes, Starts, Tests}
use Rattle.tm_line_parts.specs.Stacks.{AreNumbers, IsStack, Stands, frames_at, place_at}
use Rattle.tm_line_parts.proofs.Adding.{IsBegun, ends, ends-fault, fails, first-fails, next, same-fault, same-part, then-any}
use Rattle.tm_line_parts.proofs.LayerSteps.{none-added}
use Rattle.tm_line_parts.proofs.StacksGrown.{frame-known, frame-same, map-push}

-- one of several, by the last
or-assoc : (a b c : Bool) → (a || (b || c)) ≡ ((a || b) || c)
or-assoc true b c = refl
or-assoc false b c = refl

or-right : (a b : Bool) → b ≡ true → (a || b) ≡ true
or-right true b is = refl
or-right false b is = is

or-left : (a b : Bool) → b ≡ false → (a || b) ≡ a
or-left true b is = refl
or-left false b is = is

module _ (has_while : ℕ → Bool) where
  some_while-last : (fs : List FrameData) (f : FrameData) → some_while has_while (fs ++ f ∷ []) ≡ (some_while has_while fs || has_while f.rule)
  some_while-last [] f = or-left (has_while f.rule) false refl
  some_while-last (x ∷ xs) f = ap (λ b. has_while x.rule || b) (some_while-last xs f) ∙ or-assoc (has_while x.rule) (some_while has_while xs) (has_while f.rule)

  pub some_while-found : (all fs : List FrameData) (f : FrameData) → all ≡ fs ++ f ∷ [] → has_while f.rule ≡ true → some_while has_while all ≡ true
  some_while-found all fs f is has = ap (some_while has_while) is ∙ some_while-last fs f ∙ or-right (some_while has_while fs) (has_while f.rule) has

  pub some_while-rest : (all fs : List FrameData) (f : FrameData) → all ≡ fs ++ f ∷ [] → has_while f.rule ≡ false → some_while has_while all ≡ some_while has_while fs
  some_while-rest all fs f is has = ap (some_while has_while) is ∙ some_while-last fs f ∙ or-left (some_while has_while fs) (has_while f.rule) has

  -- a state of which one rule has a `while` is not the opening state
  pub some_while-some : (all : List FrameData) → all ≡ [] → some_while has_while all ≡ true → ⊥
  some_while-some [] is some = absurd cc
  some_while-some (f ∷ fs) is some = absurd cc

-- the frame that is asked next, and the others
pub frames-last : (t : Tables) (fs : List Frame) (f : Frame) → frames_at t (fs ++ f ∷ []) ≡ frame_at t f ∷ frames_at t fs
frames-last t fs f = ap (map (frame_at t)) (reverse-append fs (f ∷ []))

-- one frame more lies in the vector, and one fewer in the state
pub frames-unrolled : (t : Tables) (all outer below : List FrameData) (fs : List Frame) (f next : Frame) → outer ++ frame_at t f ∷ frames_at t fs ≡ all → outer ≡ below ++ frame_at t next ∷ [] →
    below ++ frame_at t next ∷ frames_at t (fs ++ f ∷ []) ≡ all
frames-unrolled t all outer below fs f next is split =
    ap (λ l. below ++ frame_at t next ∷ l) (frames-last t fs f)
    ∙ sym (append_assoc below (frame_at t next ∷ []) (frame_at t f ∷ frames_at t fs))
    ∙ ap (λ l. l ++ frame_at t f ∷ frames_at t fs) (sym split) ∙ is

module _ (a : TableEntries) (t u : Tables) (h : GrowsWithin a t u) where
  pub numbers-known : (fs : List Frame) → AreNumbers t fs → AreNumbers u fs
  numbers-known [] k = tt
  numbers-known (f ∷ fs) k = (frame-known a t u h f k.0, numbers-known fs k.1)

  frames-first : (v : Tables) (f : Frame) (fs : List Frame) → frames_at v (f ∷ fs) ≡ frames_at v fs ++ frame_at v f ∷ []
  frames-first v f fs = ap (map (frame_at v)) (reverse-append (f ∷ []) fs) ∙ map-push (frame_at v) (reverse fs) f

  pub frames-same : (fs : List Frame) → AreNumbers t fs → frames_at u fs ≡ frames_at t fs
  frames-same [] k = refl
  frames-same (f ∷ fs) k =
      frames-first u f fs ∙ ap (λ l. l ++ frame_at u f ∷ []) (frames-same fs k.1) ∙ ap (λ x. frames_at t fs ++ x ∷ []) (frame-same a t u h f k.0) ∙ sym (frames-first t f fs)

-- what the test of a rule gave, and then what `go` gives
module _ (meta : List (List ℕ) → ℕ) (len : ℕ) (go : Place → Passed) (p : Place) (all : Passed) (t u v : Tables) (old now new : Out) (w : Way) where
  abbrev Left : Part → Option Place → Type 0
  Left part n = IsBegun meta (passed go p part n).part all.part t u old now

  abbrev Same : Part → Option Place → Type 0
  Same part n = (passed go p part n).place ≡ all.place

  pub pass-on : (part : Part) (n : Option Place) → Left part n → Same part n → Tests meta len (record { part = part; next = n }) p u v now new w (Ok true) →
      IsBegun meta (go (place_at v w)).part all.part t v old new × ((go (place_at v w)).place ≡ all.place)
  pass-on part None begun same tests = absurd tests.leads
  pass-on part (Some q) begun same tests =
      let P : Place → Type 0 = λ x. IsBegun meta (go x).part all.part t v old new in
      let Q : Place → Type 0 = λ x. (go x).place ≡ all.place in
      (subst P (sym tests.leads.place) (next meta part (go q).part all.part t u v old now new true begun tests.adds), subst Q (sym tests.leads.place) same)

  -- the way stands on such a stack still
  pub pass-stack : (part : Part) (n : Option Place) → Tests meta len (record { part = part; next = n }) p u v now new w (Ok true) → IsStack v w.stack
  pass-stack part None tests = absurd tests.leads
  pass-stack part (Some q) tests = tests.leads.stack

  pub pass-stops : {X : Type 0} (part : Part) (n : Option Place) (x : X) → Left part n → Same part n → Tests meta len (record { part = part; next = n }) p u v now new w (Ok false) → Passes meta len all t v old new w (Ok x)
  pass-stops part (Some q) x begun same tests = absurd tests.leads
  pass-stops part None x begun same tests = record {
    adds = ends meta part all.part t u v old now new false x begun tests.adds;
    stands = record { stack = tests.leads.stack; place = tests.leads.place ∙ same };
    within = tests.within;
  }

  pub pass-fails : {X : Type 0} (part : Part) (n : Option Place) (f : LineFault) → Left part n → Tests meta len (record { part = part; next = n }) p u v now new w (Err f) → Passes {X = X} meta len all t v old new w (Err f)
  pass-fails part None f begun tests = record { adds = ends-fault meta part all.part t u v old now new f begun tests.adds; stands = tt; within = tt }
  pass-fails part (Some q) f begun tests = record { adds = fails meta part (go q).part all.part t u v old now new f begun tests.adds; stands = tt; within = tt }

module _ (meta : List (List ℕ) → ℕ) (len : ℕ) (g : Grammar) (p : Place) (o : Open) (t : Tables) where
  -- a rule, by whether it has a `while`
  pub test-as : (b : Bool) (v : Tables) (old new : Out) (w : Way) (r : Result Bool LineFault) → g.has_while o.frame.rule ≡ b →
      Tests meta len (cond b (searched_while g p o) (record { part = nothing; next = Some (opened_on p o) })) p t v old new w r → Tests meta len (tested g p o) p t v old new w r
  test-as b v old new w r is h =
      let P : Bool → Type 0 = λ x. Tests meta len (cond x (searched_while g p o) (record { part = nothing; next = Some (opened_on p o) })) p t v old new w r in
      subst P (sym is) h

  -- it has none
  pub free-held : (old : Out) (w : Way) → Stands t (opened_on p o) w → p.at ≤ len → Tests meta len (record { part = nothing; next = Some (opened_on p o) }) p t t old old w (Ok true)
  free-held old w stands within =
      let at : w.at ≡ p.at = ap (λ (q : Place). q.at) stands.place in
      record { adds = none-added meta t old true; leads = stands; within = omega (arith, at, within) }

  abbrev steps : ℕ
  steps = asked_while g p o g.while_cost

  -- what its search gave, and then what was done with that
  pub search-done : (found : Option Match) (v : Tables) (old now new : Out) (w : Way) (r : Result Bool LineFault) → found ≡ asked_while g p o g.while_match → Spends steps old.budget now.budget → now.pieces.items ≡ old.pieces.items →
      Tests meta len (found_while g p o found) p t v now new w r → Tests meta len (searched_while g p o) p t v old new w r
  search-done found v old now new w r is spends same h =
      let P : Option Match → Type 0 = λ x. Tests meta len (record { part = joined (searches steps) (found_while g p o x).part; next = (found_while g p o x).next }) p t v old new w r in
      let mark : ℕ = 0 in
      let search : Adds meta (searches steps) t t old now (Ok mark) = record { pieces = same ∙ sym (append-nil old.pieces.items); grows = tables-refl none_made t; spends = spends; cause = tt } in
      subst P is (record { adds = then-any meta (searches steps) (found_while g p o found).part t t v old now new mark r search h.adds; leads = h.leads; within = h.within })

  -- nothing was found: the way stands where it stood
  pub lost : (old : Out) (w : Way) → Stands t p w → w.at ≤ len → Tests meta len (found_while g p o None) p t t old old w (Ok false)
  lost old w stands within = record { adds = none-added meta t old false; leads = stands; within = within }

  pub search-refused : (old new : Out) (w : Way) (f : LineFault) → Adds {X = Bool} meta (searches steps) t t old new (Err f) → Tests meta len (searched_while g p o) p t t old new w (Err f)
  search-refused old new w f h =
      record { adds = first-fails meta (searches steps) (found_while g p o (asked_while g p o g.while_match)).part t t old new f h; leads = tt; within = tt }

  -- it is held up by a match
  module _ (m : Match) (v : Tables) (old new : Out) (w : Way) where
    abbrev over : Part
    over = covered g AtWhile o.frame.rule m (o ∷ stack_of p) o.frame.contents o.frame.contents p.first

    pub held-fails : {X : Type 0} (f : LineFault) → Adds {X = X} meta over t v old new (Err f) → Tests meta len (found_while g p o (Some m)) p t v old new w (Err f)
    held-fails f h = record { adds = same-fault meta over t v old new f h; leads = tt; within = tt }

    pub held-goes : {X : Type 0} (x : X) → Adds meta over t v old new (Ok x) → IsStack v w.stack → place_at v w ≡ onward p m o (stack_of p) (Some m.end) → w.at ≤ len → Tests meta len (found_while g p o (Some m)) p t v old new w (Ok true)
    held-goes x h known is within = record { adds = same-part meta over t v old new x true h; leads = record { stack = known; place = is }; within = within }

pub max-within : (a b n : ℕ) → a ≤ n → b ≤ n → max a b ≤ n
max-within a b n h k = grind (arith, nat_tests)

module _ (meta : List (List ℕ) → ℕ) (len : ℕ) (g : Grammar) (scopes : List (List ℕ)) where
  abbrev begun : List FrameData → Passed
  begun state = while_pass g (start_place scopes state) (others (start_state scopes state))

  abbrev StartsIn : List FrameData → Tables → Tables → Out → Out → Result Way LineFault → Type 0
  StartsIn state t v old new r = Starts meta len (joined (makes (start_made scopes state)) (begun state).part) (begun state).place t v old new r

  -- the pass began in the outermost of these frames
  module _ (state xs fs : List FrameData) (f top : FrameData) (is : state ≡ xs ++ top ∷ []) (all : f ∷ fs ≡ xs ++ top ∷ []) (t v : Tables) (old new : Out) where
    abbrev from : Passed
    from = while_pass g (lowest (f ∷ []) (start_anchor (top ∷ [])) false) (map earlier fs)

    anchor : start_anchor (reverse (f ∷ fs)) ≡ start_anchor (top ∷ [])
    anchor = ap (λ l. start_anchor (reverse l)) all ∙ ap start_anchor (reverse-append xs (top ∷ []))

    same-start : begun (f ∷ fs) ≡ from
    same-start = ap (λ a. while_pass g (lowest (f ∷ []) a false) (map earlier fs)) anchor

    start-as : (r : Result Way LineFault) → Starts meta len (joined nothing from.part) from.place t v old new r → StartsIn state t v old new r
    start-as r h =
        let P : List FrameData → Type 0 = λ s. StartsIn s t v old new r in
        let Q : Passed → Type 0 = λ (x : Passed). Starts meta len (joined nothing x.part) x.place t v old new r in
        subst P (sym (is ∙ sym all)) (subst Q (sym same-start) h)

    pub held-starts : {X : Type 0} (w : Way) (x : X) → Passes meta len from t v old new w (Ok x) → StartsIn state t v old new (Ok w)
    held-starts w x h =
        let mark : ℕ = 0 in
        start-as (Ok w) (record {
          adds = then-any meta nothing from.part t t v old old new mark (Ok w) (none-added meta t old mark) (same-part meta from.part t v old new x w h.adds);
          stands = h.stands;
          within = h.within;
        })

    pub held-refused : {X : Type 0} (w : Way) (e : LineFault) → Passes {X = X} meta len from t v old new w (Err e) → StartsIn state t v old new (Err e)
    held-refused w e h =
        let mark : ℕ = 0 in
        start-as (Err e) (record {
          adds = then-any meta nothing from.part t t v old old new mark (Err e) (none-added meta t old mark) (same-fault meta from.part t v old new e h.adds);
          stands = tt;
          within = tt;
        })

  -- a line that holds up all rules starts so
  pub start-whole : (state : List FrameData) (t v : Tables) (o : Out) (r : Result Way LineFault) → IfOk r (λ way. IsStack v way.stack) → IfOk r (λ way. way.at ≡ 0) → IfOk r (λ way. place_at v way ≡ resumed_place scopes state) →
      Adds meta (makes (start_made scopes state)) t v o o r → Starts meta len (makes (start_made scopes state)) (resumed_place scopes state) t v o o r
  start-whole state t v o (Ok w) known at is adds = record { adds = adds; stands = record { stack = known; place = is }; within = omega (arith, at) }
  start-whole state t v o (Err e) known at is adds = record { adds = adds; stands = tt; within = tt }

  -- no rule has a `while`
  pub start-free : (state : List FrameData) (t v : Tables) (o : Out) (r : Result Way LineFault) → some_while g.has_while state ≡ false → Starts meta len (makes (start_made scopes state)) (resumed_place scopes state) t v o o r →
      StartsIn state t v o o r
  start-free state t v o r none h =
      let Q : Passed → Type 0 = λ (x : Passed). Starts meta len (joined (makes (start_made scopes state)) x.part) x.place t v o o r in
      subst Q (sym (pass-all g scopes state none)) (by_result r h)
    where
      by_result : (r : Result Way LineFault) → Starts meta len (makes (start_made scopes state)) (resumed_place scopes state) t v o o r →
          Starts meta len (joined (makes (start_made scopes state)) nothing) (resumed_place scopes state) t v o o r
      by_result (Ok w) h = record { adds = then-any meta (makes (start_made scopes state)) nothing t v v o o o w (Ok w) h.adds (none-added meta v o w); stands = h.stands; within = h.within }
      by_result (Err e) h = record { adds = first-fails meta (makes (start_made scopes state)) nothing t v o o e h.adds; stands = tt; within = tt }

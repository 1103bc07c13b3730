-- The walk over the groups, and what is left of it.
use Rattle.std.proofs.Common.{◌≡◌, ℕ, ◌+◌, ◌<◌, ◌≤◌, ◌++◌, List, [], ◌∷◌, length, drop, true, false, ap, sym, ◌∙◌, subst, arith, get_or, add-one, drop-cons}
use Rattle.std.specs.Prelude.{Result, Ok, Err, Option}
use Rattle.std.proofs.lemmas.List.{append-nil, drop_all}
use Rattle.tm_defs.specs.declared.tokenizer.LineFault.{LineFault}
use Rattle.tm_defs.specs.Tables.{Tables, none_made}
use Rattle.tm_defs.proofs.Growth.{AreAmong, tables-trans, none-among}
use Rattle.tm_line_turns.specs.declared.captures.GroupRule.{GroupRule}
use Rattle.tm_line_turns.specs.declared.found.Match.{Match}
use Rattle.tm_line_turns.specs.LineRun.{Part, joined, nothing}
use Rattle.tm_line_turns.specs.Painted.{painted}
use Rattle.tm_line_turns.specs.Captures.{Step, Halts, Goes, Inner, capture_productions, every_layer, group_of, stepped, walked}
use Rattle.tm_line_turns.specs.Captures as caps
use Rattle.tm_line_parts.specs.declared.layers.Layer.{Layer}
use Rattle.tm_line_parts.specs.declared.rules.Out.{Out}
use Rattle.tm_line_parts.specs.Adds.{Adds}
use Rattle.tm_line_parts.specs.Layers.{Steps}
use Rattle.tm_line_parts.specs.Layers.{AreLayers, layers_at}
use Rattle.tm_line_parts.proofs.Adding.{IsBegun, next, fails, ends-any, reassoc, cause-more}

module _ (meta : List (List ℕ) → ℕ) (all tail : Part) (t u v : Tables) (old now new : Out) where
  -- what adds nothing changes nothing of what is left
  skip : {X : Type 0} (rest : Part) (x : X) → IsBegun meta rest all t u old now → Adds meta nothing u v now new (Ok x) → IsBegun meta rest all t v old new
  skip rest x h s =
      let falls = h.falls in
      let most = h.most in
      let less = s.spends.falls in
      let fewer = s.spends.most in
      let among : AreAmong none_made all.made = record { texts = λ x m. none-among all.made.texts x m; paths = λ x m. none-among all.made.paths x m; states = λ x m. none-among all.made.states x m } in
      record {
        pieces = ap (λ l. l ++ painted meta rest.pieces) (s.pieces ∙ append-nil now.pieces.items) ∙ h.pieces;
        among = h.among;
        grows = tables-trans none_made all.made t u v among h.grows s.grows;
        falls = omega arith;
        most = omega arith;
      }

  skip-fails : {X Y : Type 0} (rest : Part) (f : LineFault) → IsBegun meta rest all t u old now → Adds {X = X} meta nothing u v now new (Err f) → Adds {X = Y} meta all t v old new (Err f)
  skip-fails rest f h s =
      let falls = h.falls in
      let most = h.most in
      let less = s.spends.falls in
      let fewer = s.spends.most in
      let among : AreAmong none_made all.made = record { texts = λ x m. none-among all.made.texts x m; paths = λ x m. none-among all.made.paths x m; states = λ x m. none-among all.made.states x m } in
      record {
        pieces = tt;
        grows = tables-trans none_made all.made t u v among h.grows s.grows;
        spends = record { falls = omega arith; most = omega arith };
        cause = cause-more old.budget now.budget 0 all.cost none_made all.made v f (λ over. omega arith) among s.cause;
      }

  module _ (go : List caps.Layer → Part) (before : List caps.Layer) (ls : List Layer) where
    pub step-goes : (step : Step) → IsBegun meta (joined (walked go before step) tail) all t u old now → Steps meta before step u v now new ls (Ok true) → AreLayers v ls × IsBegun meta (joined (go (layers_at v ls)) tail) all t v old new
    step-goes Halts h s = absurd cc
    step-goes (Goes took) h s =
        let P : List caps.Layer → Type 0 = λ l. IsBegun meta (joined (go l) tail) all t v old new in
        (s.takes.keeps.known, subst P (sym s.takes.keeps.is) (next meta took.part (joined (go took.layers) tail) all t u v old now new true (reassoc meta took.part (go took.layers) tail all t u old now h) s.takes.adds))

    -- the walk ends: all layers are painted, and the rest
    pub step-halts : {X : Type 0} (step : Step) (last : Out) (r : Result X LineFault) → IsBegun meta (joined (walked go before step) tail) all t u old now → Steps meta before step u v now new ls (Ok false) →
        Adds meta (joined (every_layer (layers_at v ls)) tail) v v new last r → Adds meta all t v old last r
    step-halts (Goes took) last r h s k = absurd cc
    step-halts Halts last r h s k =
        let P : List caps.Layer → Type 0 = λ l. Adds meta (joined (every_layer l) tail) v v new last r in
        ends-any meta (joined (every_layer before) tail) all t v v old new last r (skip (joined (every_layer before) tail) false h s.takes.adds) (subst P s.takes.keeps.is k)

    pub step-fails : {Y : Type 0} (step : Step) (f : LineFault) → IsBegun meta (joined (walked go before step) tail) all t u old now → Steps meta before step u v now new ls (Err f) → Adds {X = Y} meta all t v old new (Err f)
    step-fails Halts f h s = skip-fails (joined (every_layer before) tail) f h s.takes.adds
    step-fails (Goes took) f h s = fails meta took.part (joined (go took.layers) tail) all t u v old now new f (reassoc meta took.part (go took.layers) tail all t u old now h) s.takes.adds

-- the groups from an index on: the first of them, and the others
pub drop-first : (cs : List GroupRule) (index : ℕ) (d : GroupRule) → index < length cs → drop index cs ≡ get_or cs index d ∷ drop (index + 1) cs
drop-first cs index d lt = drop-cons cs index d lt ∙ ap (λ n. get_or cs index d ∷ drop n cs) (sym (add-one index))

pub walk-first : (filled : List ℕ → List (List ℕ)) (base : List (List ℕ)) (m : Match) (inner : Option Inner) (ls : List caps.Layer) (cs : List GroupRule) (index : ℕ) (d : GroupRule) → index < length cs →
    capture_productions filled base m inner ls (drop index cs) ≡ walked (λ more. capture_productions filled base m inner more (drop (index + 1) cs)) ls (stepped filled base m inner ls (get_or cs index d) (group_of m.groups (get_or cs index d).group))
walk-first filled base m inner ls cs index d lt = ap (capture_productions filled base m inner ls) (drop-first cs index d lt)

pub walk-last : (filled : List ℕ → List (List ℕ)) (base : List (List ℕ)) (m : Match) (inner : Option Inner) (ls : List caps.Layer) (cs : List GroupRule) (index : ℕ) → length cs ≤ index → capture_productions filled base m inner ls (drop index cs) ≡ every_layer ls
walk-last filled base m inner ls cs index done = ap (capture_productions filled base m inner ls) (drop_all index cs done)

module _ (meta : List (List ℕ) → ℕ) (filled : List ℕ → List (List ℕ)) (base : List (List ℕ)) (m : Match) (inner : Option Inner) (all tail : Part) (t u : Tables) (old now : Out) (before : List Layer) (cs : List GroupRule) (index : ℕ) where
  abbrev Walks : Type 0
  Walks = IsBegun meta (joined (capture_productions filled base m inner (layers_at u before) (drop index cs)) tail) all t u old now

  module _ (d : GroupRule) (lt : index < length cs) (is : d ≡ get_or cs index d) (begun : Walks) where
    abbrev the_step : Step
    the_step = stepped filled base m inner (layers_at u before) d (group_of m.groups d.group)

    abbrev go_on : List caps.Layer → Part
    go_on more = capture_productions filled base m inner more (drop (index + 1) cs)

    walking : IsBegun meta (joined (walked go_on (layers_at u before) the_step) tail) all t u old now
    walking =
        let P : Part → Type 0 = λ x. IsBegun meta (joined x tail) all t u old now in
        subst P (walk-first filled base m inner (layers_at u before) cs index d lt ∙ ap (λ (x : GroupRule). walked go_on (layers_at u before) (stepped filled base m inner (layers_at u before) x (group_of m.groups x.group))) (sym is)) begun

    pub walk-goes : (v : Tables) (new : Out) (ls : List Layer) → Steps meta (layers_at u before) the_step u v now new ls (Ok true) → AreLayers v ls × IsBegun meta (joined (capture_productions filled base m inner (layers_at v ls) (drop (index + 1) cs)) tail) all t v old new
    walk-goes v new ls s = step-goes meta all tail t u v old now new go_on (layers_at u before) ls the_step walking s

    pub walk-halts : {X : Type 0} (v : Tables) (new last : Out) (ls : List Layer) (r : Result X LineFault) → Steps meta (layers_at u before) the_step u v now new ls (Ok false) → Adds meta (joined (every_layer (layers_at v ls)) tail) v v new last r → Adds meta all t v old last r
    walk-halts v new last ls r s k = step-halts meta all tail t u v old now new go_on (layers_at u before) ls the_step last r walking s k

    pub walk-fails : {Y : Type 0} (v : Tables) (new : Out) (ls : List Layer) (f : LineFault) → Steps meta (layers_at u before) the_step u v now new ls (Err f) → Adds {X = Y} meta all t v old new (Err f)
    walk-fails v new ls f s = step-fails meta all tail t u v old now new go_on (layers_at u before) ls the_step f walking s

  pub walk-ends : {X : Type 0} (last : Out) (r : Result X LineFault) → length cs ≤ index → Walks → Adds meta (joined (every_layer (layers_at u before)) tail) u u now last r → Adds meta all t u old last r
  walk-ends last r done begun k =
      let P : Part → Type 0 = λ x. IsBegun meta (joined x tail) all t u old now in
      ends-any meta (joined (every_layer (layers_at u before)) tail) all t u u old now last r (subst P (walk-last filled base m inner (layers_at u before) cs index done) begun) k

pub walk-starts : (filled : List ℕ → List (List ℕ)) (base : List (List ℕ)) (m : Match) (inner : Option Inner) (t : Tables) (items : List Layer) (cs given : List GroupRule) → items ≡ [] → cs ≡ given → capture_productions filled base m inner [] given ≡ capture_productions filled base m inner (layers_at t items) (drop 0 cs)
walk-starts filled base m inner t items cs given none same = sym (ap (λ l. capture_productions filled base m inner (layers_at t l) (drop 0 cs)) none ∙ ap (capture_productions filled base m inner []) same)

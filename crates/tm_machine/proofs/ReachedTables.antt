-- A table that gains only what the front line makes stays within the reach, and a full one shows that the reach is large.
use Rattle.std.proofs.Common.{◌≡◌, ℕ, zero, suc, ◌<◌, ◌≤◌, true, not, List, [], ◌∷◌, ◌++◌, length, get_or, Option, Some, None, refl, sym, ap, ◌∙◌, subst, inl, inr, ◌⊎◌, arith, append_assoc, append-nil}
use Rattle.std.specs.Prelude.{Contains}
use Rattle.std.specs.List.{AllByRecursion}
use Rattle.std.proofs.lemmas.List.Quantifiers.{position-Some}
use Rattle.tm_defs.specs.declared.events.Step.{Step}
use Rattle.tm_defs.specs.declared.frames.FrameData.{FrameData}
use Rattle.tm_defs.specs.Tables.{Tables, TableEntries, GrowsBy, GrowsWithin, IsNumbering, LacksEntry}
use Rattle.tm_machine.specs.declared.entries.Entry.{Entry}
use Rattle.tm_machine.specs.Entries.{AreRight, start_at, front, blank}
use Rattle.tm_machine.specs.Documents.{Rules}
use Rattle.tm_machine.specs.Turns.{IsReady, opening}
use Rattle.tm_machine.specs.Reach.{Stand, stand_after, stands_of, IsMadeIn, GainsFrom, GrowsByLines, IsMade, ReachesText, ReachesPath, ReachesState, HasMoreThan, ReachesMoreThan, IsWithinReach}
use Rattle.tm_machine.specs.Scratch.{Tokenizing, state_from, state_from_scratch}
use Rattle.tm_machine.proofs.Fronts.{not-false}

-- behind good entries there is the state that tokenizing from the first line gives
start-scratch : (k : Tokenizing) (budget : ℕ) (s : List FrameData) (lines : List (List ℕ)) (es : List (Entry (List FrameData))) (i : ℕ) → AreRight k budget (Some s) lines es → i ≤ length es →
    ((j : ℕ) → j < i → (get_or es j (blank None)).good ≡ true) → start_at (Some s) es i ≡ Some (state_from k s lines i)
start-scratch k budget s lines es zero h le good = refl
start-scratch k budget s [] [] (suc i) h le good = absurd (omega arith)
start-scratch k budget s [] (e ∷ es) (suc i) h le good = absurd h
start-scratch k budget s (l ∷ lines) [] (suc i) h le good = absurd h
start-scratch k budget s (l ∷ lines) (e ∷ es) (suc zero) h le good =
    let d = h.0.good (good 0 (omega arith)) in
    let same : d.0 ≡ s = cc in
    d.2.end ∙ ap (λ z. Some (k.tokenized z l).end) same
start-scratch k budget s (l ∷ lines) (e ∷ es) (suc (suc i)) h le good =
    let d = h.0.good (good 0 (omega arith)) in
    let same : d.0 ≡ s = cc in
    let end : e.end ≡ Some (k.tokenized s l).end = d.2.end ∙ ap (λ z. Some (k.tokenized z l).end) same in
    let P : Option (List FrameData) → Type 0 = λ z. AreRight k budget z lines es in
    start-scratch k budget (k.tokenized s l).end lines es (suc i) (subst P end h.1) (omega arith) (λ j lt. good (suc j) (omega arith))

-- the front line starts in that state
pub front-start : (k : Tokenizing) (budget : ℕ) (lines : List (List ℕ)) (es : List (Entry (List FrameData))) (i : ℕ) → AreRight k budget opening lines es → front es ≡ Some i → start_at opening es i ≡ Some (state_from_scratch k lines i)
front-start k budget lines es i h at =
    let p = position-Some (λ (e : Entry (List FrameData)). not e.good) es i (blank None) at in
    start-scratch k budget [] lines es i h (omega (arith, p.0)) (λ j lt. not-false _ (p.2 j lt))

module _ {X : Type 0} where
  pub every-append : (P : X → Type 0) (xs ys : List X) → AllByRecursion P xs → AllByRecursion P ys → AllByRecursion P (xs ++ ys)
  every-append P [] ys h k = k
  every-append P (x ∷ xs) ys h k = (h.0, every-append P xs ys h.1 k)

  pub every-as : (P Q : X → Type 0) → ((x : X) → P x → Q x) → (xs : List X) → AllByRecursion P xs → AllByRecursion Q xs
  every-as P Q f [] h = tt
  every-as P Q f (x ∷ xs) h = (f x h.0, every-as P Q f xs h.1)

  every-grown : (P : X → Type 0) (made old new : List X) → ((x : X) → Contains made x → P x) → GrowsBy made old new → AllByRecursion P old → AllByRecursion P new
  every-grown P made old new f g h = let Q : List X → Type 0 = λ l. AllByRecursion P l in subst Q (sym g.is) (every-append P old g.added h (every-as (Contains made) P f g.added g.within))

-- what is reached stays so when more stands
more-made : {X : Type 0} (r : Rules) (few more : List Stand) (kind : TableEntries → List X) → ((s : Stand) → Contains few s → Contains more s) → (x : X) → IsMade r few kind x → IsMade r more kind x
more-made r few more kind sub x h = (h.0, h.1, h.2, sub h.0 h.3, h.4, h.5)

either : {A : Type 0} {B C : Type 0} → (B → C) → A ⊎ B → A ⊎ C
either f (inl a) = inl a
either f (inr b) = inr (f b)

module _ (r : Rules) (few more : List Stand) (sub : (s : Stand) → Contains few s → Contains more s) where
  pub within-more : (t : Tables) → IsWithinReach r few t → IsWithinReach r more t
  within-more t h = record {
    texts = every-as (ReachesText r few) (ReachesText r more) (more-made r few more (λ made. made.texts) sub) t.texts h.texts;
    paths = every-as (ReachesPath r few) (ReachesPath r more) (λ x. either (more-made r few more (λ made. made.paths) sub x)) t.paths h.paths;
    states = every-as (ReachesState r few) (ReachesState r more) (λ x. either (more-made r few more (λ made. made.states) sub x)) t.states h.states;
  }

  count-more : {X : Type 0} (n : ℕ) (P Q : X → Type 0) → ((x : X) → P x → Q x) → HasMoreThan n P → HasMoreThan n Q
  count-more n P Q f h = (h.0, h.1, every-as P Q f h.0 h.2, h.3)

  pub reaches-more : (n : ℕ) → ReachesMoreThan n r few → ReachesMoreThan n r more
  reaches-more n (inl h) = inl (count-more n (ReachesText r few) (ReachesText r more) (more-made r few more (λ made. made.texts) sub) h)
  reaches-more n (inr (inl h)) = inr (inl (count-more n (ReachesPath r few) (ReachesPath r more) (λ x. either (more-made r few more (λ made. made.paths) sub x)) h))
  reaches-more n (inr (inr h)) = inr (inr (count-more n (ReachesState r few) (ReachesState r more) (λ x. either (more-made r few more (λ made. made.states) sub x)) h))

module _ (r : Rules) (stands : List Stand) (s : Stand) (there : Contains stands s) (es : List (Entry (List FrameData))) (right : AreRight (r.setting s.epoch) r.budget opening s.lines es) where
  -- what the front line makes is reached
  front-made : {X : Type 0} (kind : TableEntries → List X) (i : ℕ) (start : List FrameData) (line : List ℕ) → IsReady s.lines es i start line → (x : X) → Contains (kind ((r.setting s.epoch).entries_made start line)) x → IsMade r stands kind x
  front-made {X} kind i start line ready x h =
      let k = r.setting s.epoch in
      let scratch : Some start ≡ Some (state_from_scratch k s.lines i) = sym ready.begins ∙ front-start k r.budget s.lines es i right ready.at_front in
      let same : start ≡ state_from_scratch k s.lines i = cc in
      let P : List FrameData → Type 0 = λ z. Contains (kind (k.entries_made z line)) x in
      (s, i, line, there, ready.holds, subst P same h)

  pub within-grown : (old new : Tables) (i : ℕ) (start : List FrameData) (line : List ℕ) → IsReady s.lines es i start line → GrowsWithin ((r.setting s.epoch).entries_made start line) old new → IsWithinReach r stands old → IsWithinReach r stands new
  within-grown old new i start line ready g h =
      let made = (r.setting s.epoch).entries_made start line in
      record {
        texts = every-grown (ReachesText r stands) made.texts old.texts new.texts (front-made (λ m. m.texts) i start line ready) g.texts h.texts;
        paths = every-grown (ReachesPath r stands) made.paths old.paths new.paths (λ x c. inr (front-made (λ m. m.paths) i start line ready x c)) g.paths h.paths;
        states = every-grown (ReachesState r stands) made.states old.states new.states (λ x c. inr (front-made (λ m. m.states) i start line ready x c)) g.states h.states;
      }

module _ (k : Tokenizing) (lines : List (List ℕ)) where
  gains-none : {X : Type 0} (kind : TableEntries → List X) (xs : List X) → GainsFrom k lines kind xs xs
  gains-none kind xs = record { added = []; is = sym (append-nil xs); made = tt }

  gains-next : {X : Type 0} (kind : TableEntries → List X) (old mid new : List X) → GainsFrom k lines kind old mid → GainsFrom k lines kind mid new → GainsFrom k lines kind old new
  gains-next kind old mid new f g = record {
    added = f.added ++ g.added;
    is = g.is ∙ ap (λ xs. xs ++ g.added) f.is ∙ append_assoc old f.added g.added;
    made = every-append (IsMadeIn k lines kind) f.added g.added f.made g.made;
  }

  -- nothing is gained, and growth upon growth
  pub grows-none : (old new : Tables) → new ≡ old → GrowsByLines k lines old new
  grows-none old new same =
      let P : Tables → Type 0 = λ t. GrowsByLines k lines old t in
      subst P (sym same) (record {
        texts = gains-none (λ made. made.texts) old.texts;
        paths = gains-none (λ made. made.paths) old.paths;
        states = gains-none (λ made. made.states) old.states;
        limit = refl;
      })

  pub grows-next : (old mid new : Tables) → GrowsByLines k lines old mid → GrowsByLines k lines mid new → GrowsByLines k lines old new
  grows-next old mid new f g = record {
    texts = gains-next (λ made. made.texts) old.texts mid.texts new.texts f.texts g.texts;
    paths = gains-next (λ made. made.paths) old.paths mid.paths new.paths f.paths g.paths;
    states = gains-next (λ made. made.states) old.states mid.states new.states f.states g.states;
    limit = g.limit ∙ f.limit;
  }

  -- what the front line of a sound store makes is made by a line of the text
  pub grows-ready : (budget : ℕ) (es : List (Entry (List FrameData))) (i : ℕ) (start : List FrameData) (line : List ℕ) (old new : Tables) → AreRight k budget opening lines es → IsReady lines es i start line →
      GrowsWithin (k.entries_made start line) old new → GrowsByLines k lines old new
  grows-ready budget es i start line old new right ready g = record {
    texts = gains (λ made. made.texts) old.texts new.texts g.texts;
    paths = gains (λ made. made.paths) old.paths new.paths g.paths;
    states = gains (λ made. made.states) old.states new.states g.states;
    limit = g.limit;
  }
    where
      gains : {X : Type 0} (kind : TableEntries → List X) (before now : List X) → GrowsBy (kind (k.entries_made start line)) before now → GainsFrom k lines kind before now
      gains {X} kind before now h =
          let scratch : Some start ≡ Some (state_from_scratch k lines i) = sym ready.begins ∙ front-start k budget lines es i right ready.at_front in
          let same : start ≡ state_from_scratch k lines i = cc in
          record {
            added = h.added;
            is = h.is;
            made = every-as (Contains (kind (k.entries_made start line))) (IsMadeIn k lines kind)
                (λ x c. let Q : List FrameData → Type 0 = λ z. Contains (kind (k.entries_made z line)) x in (i, line, ready.holds, subst Q same c)) h.added h.within;
          }

-- what lines of a text make stays within the reach of what stood
pub within-lines : (r : Rules) (stands : List Stand) (s : Stand) (old new : Tables) → Contains stands s → GrowsByLines (r.setting s.epoch) s.lines old new → IsWithinReach r stands old → IsWithinReach r stands new
within-lines r stands s old new there g h = record {
  texts = more (λ made. made.texts) (ReachesText r stands) (λ x m. m) old.texts new.texts g.texts h.texts;
  paths = more (λ made. made.paths) (ReachesPath r stands) (λ x m. inr m) old.paths new.paths g.paths h.paths;
  states = more (λ made. made.states) (ReachesState r stands) (λ x m. inr m) old.states new.states g.states h.states;
}
  where
    more : {X : Type 0} (kind : TableEntries → List X) (P : X → Type 0) → ((x : X) → IsMade r stands kind x → P x) → (before now : List X) → GainsFrom (r.setting s.epoch) s.lines kind before now → AllByRecursion P before → AllByRecursion P now
    more {X} kind P f before now gain all =
        let Q : List X → Type 0 = λ l. AllByRecursion P l in
        subst Q (sym gain.is) (every-append P before gain.added all (every-as (IsMadeIn (r.setting s.epoch) s.lines kind) P (λ x m. f x (s, m.0, m.1, there, m.2, m.3)) gain.added gain.made))

-- a full table within the reach is the witness that the reach is large
pub full-reaches : (r : Rules) (stands : List Stand) (t : Tables) (made : TableEntries) (n few : ℕ) → IsNumbering t → IsWithinReach r stands t → few < t.limit → LacksEntry n made t → ReachesMoreThan few r stands
full-reaches r stands t made n few num h lt (e, inl full) = inl (t.texts, num.texts_once, h.texts, omega (arith, lt, e, full.0))
full-reaches r stands t made n few num h lt (e, inr (inl full)) = inr (inl (t.paths, num.paths_once, h.paths, omega (arith, lt, e, full.0)))
full-reaches r stands t made n few num h lt (e, inr (inr full)) = inr (inr (t.states, num.states_once, h.states, omega (arith, lt, e, full.0)))

-- a new table is within every reach
pub within-new : (r : Rules) (stands : List Stand) (limit : ℕ) → IsWithinReach r stands (record { texts = []; paths = [] ∷ []; states = [] ∷ []; limit = limit })
within-new r stands limit = record { texts = tt; paths = (inl refl, tt); states = (inl refl, tt) }

-- the stands of more steps
pub stands-first : (s : Stand) (xs : List Step) → Contains (stands_of s xs) s
stands-first s [] = (0, omega arith, refl)
stands-first s (x ∷ xs) = (0, omega arith, refl)

pub stands-later : (s : Stand) (x : Step) (xs : List Step) (t : Stand) → Contains (stands_of (stand_after s x) xs) t → Contains (stands_of s (x ∷ xs)) t
stands-later s x xs t h = (suc h.0, omega (arith, h.1), h.2)

pub stands-more : (s : Stand) (xs ys : List Step) (t : Stand) → Contains (stands_of s xs) t → Contains (stands_of s (xs ++ ys)) t
stands-more s [] ys t h = go h.0 h.1 h.2
  where
    go : (i : ℕ) → i < 1 → get_or (s ∷ []) i t ≡ t → Contains (stands_of s ys) t
    go zero lt e = let P : Stand → Type 0 = λ z. Contains (stands_of s ys) z in subst P e (stands-first s ys)
    go (suc i) lt e = absurd (omega arith)
stands-more s (x ∷ xs) ys t h = go h.0 h.1 h.2 (stands-more (stand_after s x) xs ys t)
  where
    go : (i : ℕ) → i < suc (length (stands_of (stand_after s x) xs)) → get_or (s ∷ stands_of (stand_after s x) xs) i t ≡ t → (Contains (stands_of (stand_after s x) xs) t → Contains (stands_of (stand_after s x) (xs ++ ys)) t) → Contains (stands_of s (x ∷ (xs ++ ys))) t
    go zero lt e more = let P : Stand → Type 0 = λ z. Contains (stands_of s (x ∷ (xs ++ ys))) z in subst P e (stands-first s (x ∷ (xs ++ ys)))
    go (suc i) lt e more = stands-later s x (xs ++ ys) t (more (i, omega (arith, lt), e))

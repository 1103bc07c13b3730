-- A state by its link, and what a state needs.
use Rattle.std.proofs.Common.{◌≡◌, ◌⊎◌, inl, inr, ℕ, zero, suc, false, ◌+◌, ◌-◌, ◌<◌, ◌≤◌, ◌++◌, List, [], ◌∷◌, length, get_or, Some, None, Option, Contains, refl, ap, sym, ◌∙◌, arith, subst}
use Rattle.std.specs.Prelude.{slice_get}
use Rattle.std.specs.Option.{option_map, option_to_list}
use Rattle.std.specs.List.{AllByRecursion, flat_map}
use Rattle.std.proofs.lemmas.Option.{slice_get-get_or, get_or_from_slice_get}
use Rattle.tm_defs.specs.declared.frames.FrameData.{FrameData}
use Rattle.tm_defs.specs.declared.frames.Frame.{Frame}
use Rattle.tm_defs.specs.declared.frames.TextId.{TextId}
use Rattle.tm_defs.specs.declared.frames.ScopeList.{ScopeList}
use Rattle.tm_defs.specs.Tables.{Tables, IsFrameOf, IsOptionalText, deeper_state, frame_at, text_at, path_at}
use Rattle.tm_scope.specs.Numbered.{NumberedValues, taken, HasNumber}
use Rattle.tm_scope.specs.Entries.{fronts, path_entries, HasEntries, HasPathEntries}
use Rattle.tm_scope.proofs.Taken.{contains-at, at-contains}
use Rattle.tm_scope.proofs.Linked.{all-found, back-at}
use Rattle.tm_scope.proofs.Pushed.{all-at}
use Rattle.tm_scope.proofs.Closed.{all-push, fronts-push}
use Rattle.tm_state.specs.declared.states.FrameLink.{FrameLink}
use Rattle.tm_state.specs.Entries.{frame_texts, frame_paths, state_entries, IsClosed, BeginsWith, FrontsComeFirst}
use Rattle.tm_state.specs.States.{tables_of, AreStates}
use Rattle.tm_state.proofs.Grown.{count-states, opening-first}
use Rattle.tm_state.proofs.Interned.{frame-above}

pub no-front : {X : Type 0} (xs ys : List X) → [] ≡ xs ++ ys → xs ≡ []
no-front [] ys e = refl
no-front (x ∷ xs) ys e = cc

-- a front of a list with one more element is the whole of it or a front of the list
pub front-of : {X : Type 0} (xs : List X) (x : X) (front : List X) → BeginsWith (xs ++ x ∷ []) front → (front ≡ xs ++ x ∷ []) ⊎ BeginsWith xs front
front-of [] x [] (rest, e) = inr ([], refl)
front-of [] x (y ∷ []) (rest, e) = inl cc
front-of [] x (y ∷ z ∷ ys) (rest, e) = cc
front-of (z ∷ xs) x [] (rest, e) = inr (z ∷ xs, refl)
front-of (z ∷ xs) x (y ∷ ys) (rest, e) =
    let tail : xs ++ x ∷ [] ≡ ys ++ rest = cc in
    let head : z ≡ y = cc in
    elim (front-of xs x ys (rest, tail)) [ inl k ↦ inl (ap (λ l. y ∷ l) k ∙ ap (λ h. h ∷ (xs ++ x ∷ [])) (sym head)) | inr k ↦ inr (k.0, ap (λ l. z ∷ l) k.1 ∙ ap (λ h. h ∷ (ys ++ k.0)) head) ]

all-append : {X : Type 0} (P : X → Type 0) (xs ys : List X) → AllByRecursion P xs → AllByRecursion P ys → AllByRecursion P (xs ++ ys)
all-append P [] ys h k = k
all-append P (x ∷ xs) ys h k = (h.0, all-append P xs ys h.1 k)

all-front : {X : Type 0} (P : X → Type 0) (xs ys : List X) → AllByRecursion P (xs ++ ys) → AllByRecursion P xs
all-front P [] ys a = tt
all-front P (x ∷ xs) ys a = (a.0, all-front P xs ys a.1)

all-back : {X : Type 0} (P : X → Type 0) (xs ys : List X) → AllByRecursion P (xs ++ ys) → AllByRecursion P ys
all-back P [] ys a = a
all-back P (x ∷ xs) ys a = all-back P xs ys a.1

-- what one more needs
flat-push : {X A : Type 0} (P : A → Type 0) (f : X → List A) (xs : List X) (x : X) → AllByRecursion P (flat_map f xs) → AllByRecursion P (f x) → AllByRecursion P (flat_map f (xs ++ x ∷ []))
flat-push P f [] x h k = all-append P (f x) [] k tt
flat-push P f (y ∷ xs) x h k = all-append P (f y) (flat_map f (xs ++ x ∷ [])) (all-front P (f y) (flat_map f xs) h) (flat-push P f xs x (all-back P (f y) (flat_map f xs) h) k)

module _ (t : Tables) where
  end-there : (end : Option TextId) → IsOptionalText t end → AllByRecursion (Contains t.texts) (option_to_list (option_map (text_at t) end))
  end-there None h = tt
  end-there (Some id) h = (contains-at t.texts id.0 (text_at t id) (slice_get-get_or t.texts id.0 [] h), tt)

  path-there : HasPathEntries t → (list : ScopeList) → list.0 < length t.paths → HasEntries (path_entries (path_at t list)) t
  path-there closed list h = closed (path_at t list) (contains-at t.paths list.0 (path_at t list) (slice_get-get_or t.paths list.0 [] h))

  -- what a frame needs
  pub frame-there : HasPathEntries t → (f : Frame) → IsFrameOf t f → AllByRecursion (Contains t.texts) (frame_texts (frame_at t f)) × AllByRecursion (Contains t.paths) (frame_paths (frame_at t f))
  frame-there closed f h =
      let end = end-there f.end h.end in
      let names = path-there closed f.names h.names in
      let contents = path-there closed f.contents h.contents in
      let n = path_at t f.names in
      let m = path_at t f.contents in (
        all-append (Contains t.texts) (option_to_list (option_map (text_at t) f.end)) (n ++ m) end (all-append (Contains t.texts) n m names.texts contents.texts),
        all-append (Contains t.paths) (fronts n) (fronts m) names.paths contents.paths,
      )

  pub state-longer : (state : List FrameData) (f : FrameData) → HasEntries (state_entries state) t → AllByRecursion (Contains t.texts) (frame_texts f) → AllByRecursion (Contains t.paths) (frame_paths f) →
      Contains t.states (state ++ f ∷ []) → HasEntries (state_entries (state ++ f ∷ [])) t
  state-longer state f h texts paths there =
      let All : List (List FrameData) → Type 0 = λ l. AllByRecursion (Contains t.states) l in
      record {
        texts = flat-push (Contains t.texts) frame_texts state f h.texts texts;
        paths = flat-push (Contains t.paths) frame_paths state f h.paths paths;
        states = subst All (sym (fronts-push state f)) (all-push (Contains t.states) (fronts state) (state ++ f ∷ []) h.states there);
      }

module _ (t : Tables) (links : NumberedValues FrameLink) (inv : AreStates t links) where
  abbrev now : Tables
  now = tables_of t links.values

  abbrev part : FrameLink → FrameData
  part l = frame_at t l.frame

  abbrev rest : FrameLink → ℕ
  rest l = l.rest.0

  pub link-within : (n : ℕ) → n < length now.states → n < taken links
  link-within n h = omega (arith, count-states t links inv)

  at-link : (n : ℕ) (l : FrameLink) → HasNumber links n l → slice_get links.values (n - 1) ≡ Some l
  at-link n l h = ap (λ k. slice_get links.values (n - k)) (sym inv.first) ∙ h.1

  pub link-before : (n : ℕ) (l : FrameLink) → (n ≡ 0 → ⊥) → HasNumber links n l → l.rest.0 < n
  link-before n l some h = omega (arith, back-at part rest 1 links.values (n - 1) l inv.back (at-link n l h))

  pub link-in_range : (n : ℕ) (l : FrameLink) → (n ≡ 0 → ⊥) → n < length now.states → HasNumber links n l → IsFrameOf now l.frame × (l.rest.0 < length now.states)
  link-in_range n l some low h =
      (frame-above t links inv l.frame (all-at (λ (x : FrameLink). IsFrameOf t x.frame) links.values (n - 1) l inv.frames (at-link n l h)), omega (arith, link-before n l some h))

  pub link-parts : (n : ℕ) (l : FrameLink) → (n ≡ 0 → ⊥) → HasNumber links n l → get_or now.states n [] ≡ deeper_state now l.rest l.frame
  link-parts n l some h =
      let next : n - 1 + 1 ≡ n = omega arith in
      ap (λ k. get_or now.states k []) (sym next) ∙ get_or_from_slice_get now.states (n - 1 + 1) (deeper_state now l.rest l.frame) [] (all-found part rest links.values (n - 1) l inv.back (at-link n l h))

  -- the link of a number
  abbrev no-link : FrameLink
  no-link = record { frame = record { rule = 0; end = None; names = record { 0 = 0 }; contents = record { 0 = 0 }; at_eol = false }; rest = record { 0 = 0 } }

  link-of : (n : ℕ) → suc n < length now.states → HasNumber links (suc n) (get_or links.values n no-link)
  link-of n low =
      let short : n < length links.values = omega (arith, count-states t links inv, inv.first) in
      let from : n ≡ suc n - links.first = omega (arith, inv.first) in
      (omega (arith, inv.first), ap (slice_get links.values) (sym from) ∙ slice_get-get_or links.values n no-link short)

  -- a front has no higher number
  front-below : (most front whole : ℕ) → whole < most → front < length now.states → whole < length now.states → BeginsWith (get_or now.states whole []) (get_or now.states front []) → front ≤ whole
  front-below zero front whole h low high begins = absurd (omega arith)
  front-below (suc most) front zero h low high (more, begins) =
      let none : get_or now.states 0 [] ≡ [] = get_or_from_slice_get now.states 0 [] [] (opening-first t links inv) in
      let empty : get_or now.states front [] ≡ [] = no-front (get_or now.states front []) more (sym none ∙ begins) in
      let same : front ≡ 0 = inv.once front 0 [] (slice_get-get_or now.states front [] low ∙ ap Some empty) (opening-first t links inv) in
      omega arith
  front-below (suc most) front (suc n) h low high begins =
      let l = get_or links.values n no-link in
      let has = link-of n high in
      let same = link-parts (suc n) l (λ e. absurd (omega arith)) has in
      let before = link-before (suc n) l (λ e. absurd (omega arith)) has in
      let P : List FrameData → Type 0 = λ p. BeginsWith p (get_or now.states front []) in
      by l before same (λ more. front-below most front l.rest.0 (omega arith) low (omega arith) more) (front-of (get_or now.states l.rest.0 []) (part l) (get_or now.states front []) (subst P same begins))
    where
      by : (l : FrameLink) → l.rest.0 < suc n → get_or now.states (suc n) [] ≡ deeper_state now l.rest l.frame →
          (BeginsWith (get_or now.states l.rest.0 []) (get_or now.states front []) → front ≤ l.rest.0) → (get_or now.states front [] ≡ get_or now.states l.rest.0 [] ++ part l ∷ []) ⊎ BeginsWith (get_or now.states l.rest.0 []) (get_or now.states front []) → front ≤ suc n
      by l before same below (inl whole) =
          let one : front ≡ suc n = inv.once front (suc n) (get_or now.states (suc n) []) (slice_get-get_or now.states front [] low ∙ ap Some (whole ∙ sym same)) (slice_get-get_or now.states (suc n) [] high) in
          omega arith
      by l before same below (inr more) = omega (arith, below more)

  pub fronts-first : FrontsComeFirst now
  fronts-first front whole low high begins = front-below (suc whole) front whole (omega arith) low high begins

  module _ (closed : HasPathEntries t) where
    abbrev Closed : ℕ → Type 0
    Closed n = HasEntries (state_entries (get_or now.states n [])) now

    closed-link : (n : ℕ) (l : FrameLink) → (n ≡ 0 → ⊥) → n < length now.states → HasNumber links n l → Closed l.rest.0 → Closed n
    closed-link n l some low h before =
        let P : List FrameData → Type 0 = λ p. HasEntries (state_entries p) now in
        let same = link-parts n l some h in
        let there : Contains now.states (deeper_state now l.rest l.frame) = contains-at now.states n (deeper_state now l.rest l.frame) (slice_get-get_or now.states n [] low ∙ ap Some same) in
        let frames : IsFrameOf t l.frame = all-at (λ (x : FrameLink). IsFrameOf t x.frame) links.values (n - 1) l inv.frames (at-link n l h) in
        let parts = frame-there t closed l.frame frames in
        subst P (sym same) (state-longer now (get_or now.states l.rest.0 []) (part l) before parts.0 parts.1 there)

    closed-below : (most n : ℕ) → n < most → n < length now.states → Closed n
    closed-below zero n h low = absurd (omega arith)
    closed-below (suc most) zero h low =
        let P : List FrameData → Type 0 = λ p. HasEntries (state_entries p) now in
        let none : get_or now.states 0 [] ≡ [] = get_or_from_slice_get now.states 0 [] [] (opening-first t links inv) in
        subst P (sym none) (record { texts = tt; paths = tt; states = (contains-at now.states 0 [] (opening-first t links inv), tt) })
    closed-below (suc most) (suc n) h low =
        let l = get_or links.values n no-link in
        let has = link-of n low in
        let before = link-before (suc n) l (λ e. absurd (omega arith)) has in
        closed-link (suc n) l (λ e. absurd (omega arith)) low has (closed-below most l.rest.0 (omega arith) (omega arith))

    closed-states : (state : List FrameData) → Contains now.states state → HasEntries (state_entries state) now
    closed-states state there =
        let P : List FrameData → Type 0 = λ p. HasEntries (state_entries p) now in
        let same : get_or now.states there.0 [] ≡ state = get_or_from_slice_get now.states there.0 state [] (at-contains now.states state there) in
        subst P same (closed-below (suc there.0) there.0 (omega arith) there.1)

    pub closed-tables : IsClosed now
    closed-tables = record {
      paths = λ path there. let e : HasEntries (path_entries path) t = closed path there in record { texts = e.texts; paths = e.paths; states = tt };
      states = closed-states;
    }

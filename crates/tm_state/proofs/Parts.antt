-- What a frame needs, and what a state needs: parts of more, and tables that grow.
use Rattle.std.proofs.Common.{◌≡◌, ℕ, zero, suc, ◌+◌, ◌<◌, ◌++◌, List, [], ◌∷◌, length, get_or, take, drop, Some, Contains, refl, ap, sym, ◌∙◌, arith, subst, append_assoc}
use Rattle.std.specs.Prelude.{slice_get}
use Rattle.std.specs.Option.{option_to_list}
use Rattle.std.specs.List.{AllByRecursion, flat_map}
use Rattle.std.proofs.lemmas.List.{take_more, take-append-drop}
use Rattle.std.proofs.lemmas.List.Elements.{Contains-append_left, Contains-append_right}
use Rattle.tm_defs.specs.declared.frames.FrameData.{FrameData}
use Rattle.tm_defs.specs.declared.frames.StateId.{StateId}
use Rattle.tm_defs.specs.Tables.{Tables, TableEntries, GrowsWithin, state_at}
use Rattle.tm_defs.specs.declared.tables.TableFault.{TableFault}
use Rattle.tm_defs.proofs.Growth.{AreAmong, none-among, tables-trans}
use Rattle.tm_defs.proofs.Chains.{state_at-is}
use Rattle.tm_scope.specs.Entries.{fronts, path_entries, HasEntries, IsFullFor}
use Rattle.tm_scope.proofs.Closed.{contains-grown}
use Rattle.tm_scope.proofs.WholePath.{all-in, contains-one, front-among}
use Rattle.tm_scope.proofs.Limits.{full-among}
use Rattle.tm_state.specs.Entries.{frame_texts, frame_paths, end_entries, frame_entries, frame_and_state, state_entries, IsClosed}

all-from : {X : Type 0} (P : X → Type 0) (xs : List X) → ((x : X) → Contains xs x → P x) → AllByRecursion P xs
all-from P [] f = tt
all-from P (x ∷ xs) f = (f x (0, omega arith, refl), all-from P xs (λ y h. f y (Contains-append_right (x ∷ []) xs y h)))

pub has-among : (few more : TableEntries) (t : Tables) → AreAmong few more → HasEntries more t → HasEntries few t
has-among few more t sub h = record {
  texts = all-from (Contains t.texts) few.texts (λ x k. all-in (Contains t.texts) more.texts x h.texts (sub.texts x k));
  paths = all-from (Contains t.paths) few.paths (λ x k. all-in (Contains t.paths) more.paths x h.paths (sub.paths x k));
  states = all-from (Contains t.states) few.states (λ x k. all-in (Contains t.states) more.states x h.states (sub.states x k));
}

pub has-grown : (made few : TableEntries) (t u : Tables) → GrowsWithin made t u → HasEntries few t → HasEntries few u
has-grown made few t u grew h = record {
  texts = all-from (Contains u.texts) few.texts (λ x k. contains-grown made.texts t.texts u.texts x grew.texts (all-in (Contains t.texts) few.texts x h.texts k));
  paths = all-from (Contains u.paths) few.paths (λ x k. contains-grown made.paths t.paths u.paths x grew.paths (all-in (Contains t.paths) few.paths x h.paths k));
  states = all-from (Contains u.states) few.states (λ x k. contains-grown made.states t.states u.states x grew.states (all-in (Contains t.states) few.states x h.states k));
}

-- a list is one of its fronts
whole-among : {X : Type 0} (xs : List X) → Contains (fronts xs) xs
whole-among xs = let P : List _ → Type 0 = λ l. Contains (fronts xs) l in subst P (all-taken xs) (front-among xs (length xs))
  where
    all-taken : {Y : Type 0} (ys : List Y) → take (length ys) ys ≡ ys
    all-taken [] = refl
    all-taken (y ∷ ys) = ap (λ l. y ∷ l) (all-taken ys)

-- a list is a front of what begins with it
pub begins-among : {X : Type 0} (xs ys : List X) → Contains (fronts (xs ++ ys)) xs
begins-among xs ys = let P : List _ → Type 0 = λ l. Contains (fronts (xs ++ ys)) l in subst P (taken xs ys) (front-among (xs ++ ys) (length xs))
  where
    taken : {Y : Type 0} (ys zs : List Y) → take (length ys) (ys ++ zs) ≡ ys
    taken [] zs = refl
    taken (y ∷ ys) zs = ap (λ l. y ∷ l) (taken ys zs)

-- the parts of a frame
module _ (f : FrameData) where
  pub end-among : AreAmong (end_entries f.end) (frame_entries f)
  end-among = record { texts = Contains-append_left (option_to_list f.end) (f.names ++ f.contents); paths = λ x h. none-among (frame_paths f) x h; states = λ x h. none-among [] x h }

  pub names-among : AreAmong (path_entries f.names) (frame_entries f)
  names-among = record {
    texts = λ x h. Contains-append_right (option_to_list f.end) (f.names ++ f.contents) x (Contains-append_left f.names f.contents x h);
    paths = Contains-append_left (fronts f.names) (fronts f.contents);
    states = λ x h. none-among [] x h;
  }

  pub contents-among : AreAmong (path_entries f.contents) (frame_entries f)
  contents-among = record {
    texts = λ x h. Contains-append_right (option_to_list f.end) (f.names ++ f.contents) x (Contains-append_right f.names f.contents x h);
    paths = Contains-append_right (fronts f.names) (fronts f.contents);
    states = λ x h. none-among [] x h;
  }

  pub end-known : (t : Tables) → HasEntries (frame_entries f) t → HasEntries (end_entries f.end) t
  end-known t h = has-among (end_entries f.end) (frame_entries f) t end-among h

  pub names-known : (made : TableEntries) (t u : Tables) → GrowsWithin made t u → HasEntries (frame_entries f) t → Contains u.paths f.names
  names-known made t u grew h =
      let e = has-grown made (path_entries f.names) t u grew (has-among (path_entries f.names) (frame_entries f) t names-among h) in
      all-in (Contains u.paths) (fronts f.names) f.names e.paths (whole-among f.names)

  pub contents-known : (made : TableEntries) (t u : Tables) → GrowsWithin made t u → HasEntries (frame_entries f) t → Contains u.paths f.contents
  contents-known made t u grew h =
      let e = has-grown made (path_entries f.contents) t u grew (has-among (path_entries f.contents) (frame_entries f) t contents-among h) in
      all-in (Contains u.paths) (fronts f.contents) f.contents e.paths (whole-among f.contents)

  pub frame-among : (state : List FrameData) → AreAmong (frame_entries f) (frame_and_state f state)
  frame-among state = record { texts = λ x h. h; paths = λ x h. h; states = λ x h. none-among (state ∷ []) x h }

flat-among : {X A : Type 0} (g : X → List A) (xs : List X) (x : X) (a : A) → Contains xs x → Contains (g x) a → Contains (flat_map g xs) a
flat-among g [] x a (i, lt, is) h = absurd (omega arith)
flat-among g (y ∷ xs) x a (zero, lt, is) h = Contains-append_left (g y) (flat_map g xs) a (subst (λ z. Contains (g z) a) (sym is) h)
flat-among g (y ∷ xs) x a (suc i, lt, is) h = Contains-append_right (g y) (flat_map g xs) a (flat-among g xs x a (i, omega arith, is) h)

-- a frame of a state, on the frames below it
module _ (base frames : List FrameData) (i : ℕ) (f : FrameData) (within : i < length frames) (is : f ≡ get_or frames i f) (t u : Tables) (rest : StateId) (at : slice_get u.states rest.0 ≡ Some (base ++ take i frames)) where
  abbrev whole : List FrameData
  whole = base ++ frames

  abbrev next : List FrameData
  next = state_at u rest ++ f ∷ []

  same-next : next ≡ base ++ take (i + 1) frames
  same-next =
      ap (λ p. p ++ f ∷ []) (state_at-is u rest (base ++ take i frames) at)
      ∙ append_assoc base (take i frames) (f ∷ [])
      ∙ ap (λ g. base ++ (take i frames ++ g ∷ [])) is
      ∙ ap (λ l. base ++ l) (sym (take_more frames i f within))

  in-whole : Contains whole f
  in-whole = Contains-append_right base frames f (i, within, sym is)

  next-among-fronts : Contains (fronts whole) next
  next-among-fronts =
      let split : (base ++ take (i + 1) frames) ++ drop (i + 1) frames ≡ whole = append_assoc base (take (i + 1) frames) (drop (i + 1) frames) ∙ ap (λ l. base ++ l) (take-append-drop (i + 1) frames) in
      let P : List FrameData → Type 0 = λ w. Contains (fronts w) (base ++ take (i + 1) frames) in
      subst (Contains (fronts whole)) (sym same-next) (subst P split (begins-among (base ++ take (i + 1) frames) (drop (i + 1) frames)))

  next-among : AreAmong (frame_and_state f next) (state_entries whole)
  next-among = record {
    texts = λ x h. flat-among frame_texts whole f x in-whole h;
    paths = λ x h. flat-among frame_paths whole f x in-whole h;
    states = λ x h. subst (Contains (fronts whole)) (contains-one next x h) next-among-fronts;
  }

  pub next-ok : (v : Tables) (deeper : StateId) → slice_get v.states deeper.0 ≡ Some next → slice_get v.states deeper.0 ≡ Some (base ++ take (i + 1) frames)
  next-ok v deeper h = h ∙ ap Some same-next

  pub next-grows : (v : Tables) → GrowsWithin (state_entries whole) t u → GrowsWithin (frame_and_state f next) u v → GrowsWithin (state_entries whole) t v
  next-grows v h k = tables-trans (frame_and_state f next) (state_entries whole) t u v next-among h k

  pub next-full : (n : ℕ) (v : Tables) (fault : TableFault) → IsFullFor n (frame_and_state f next) v fault → IsFullFor n (state_entries whole) v fault
  next-full n v fault h = full-among n (frame_and_state f next) (state_entries whole) v fault next-among h

  -- a state that was there is there whole
  pub next-absent : IsClosed t → GrowsWithin (state_entries whole) t u → (HasEntries (frame_and_state f next) u → ⊥) → Contains t.states whole → ⊥
  next-absent closed grew none there =
      none (has-grown (state_entries whole) (frame_and_state f next) t u grew (has-among (frame_and_state f next) (state_entries whole) t next-among (closed.states whole there)))

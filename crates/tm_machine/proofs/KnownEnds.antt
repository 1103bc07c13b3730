-- Ends that are numbers of a table, along the steps on entries and while the table grows.
use Rattle.std.proofs.Common.{◌≡◌, ℕ, suc, zero, ◌<◌, ◌≤◌, ◌++◌, Bool, true, false, List, [], ◌∷◌, length, take, drop, replicate, get_or, Some, None, Option, refl, ap, sym, arith, ◌∙◌, subst, length-append}
use Rattle.std.specs.Prelude.{map}
use Rattle.std.specs.Option.{option_map}
use Rattle.std.proofs.Math.ListN.{get_or-append}
use Rattle.std.proofs.lemmas.Option.{slice_get-get_or, slice_get_within}
use Rattle.tm_defs.specs.declared.changes.LineEffect.{LineEffect}
use Rattle.tm_defs.specs.declared.frames.FrameData.{FrameData}
use Rattle.tm_defs.specs.declared.frames.StateId.{StateId}
use Rattle.tm_defs.specs.declared.tokens.Token.{Token}
use Rattle.tm_defs.specs.Tables.{Tables, state_at, NoneTwice, TableEntries, GrowsWithin, IsNumbering}
use Rattle.tm_machine.specs.declared.entries.Entry.{Entry}
use Rattle.tm_machine.specs.Entries.{put, block, end_at, start_at, first_invalid, blank, blanks, last_end, replaced}
use Rattle.tm_machine.specs.Numbered.{with_state, AreKnown, IsKnownEnd}

pub some_inj : {X : Type 0} {x y : X} → Some x ≡ Some y → x ≡ y
some_inj h = cc

-- the states of a table, and more of them
pub record MoreStates (t u : Tables) : Type 0 where
  pub added : List (List FrameData)
  pub is : u.states ≡ t.states ++ added

pub more_states : (made : TableEntries) (t u : Tables) → GrowsWithin made t u → MoreStates t u
more_states made t u h = record { added = h.states.added; is = h.states.is }

pub no_fewer : (t u : Tables) → MoreStates t u → length t.states ≤ length u.states
no_fewer t u h = omega (arith, ap length h.is, length-append t.states h.added)

module _ (t u : Tables) (more : MoreStates t u) where
  -- a number keeps its state
  state-grown : (id : StateId) → id.0 < length t.states → state_at u id ≡ state_at t id
  state-grown id h = ap (λ xs. get_or xs id.0 []) more.is ∙ get_or-append t.states more.added [] id.0 h

  pub end-grown : (end : Option StateId) → IsKnownEnd (length t.states) end → option_map (state_at u) end ≡ option_map (state_at t) end
  end-grown None h = refl
  end-grown (Some id) h = ap Some (state-grown id h)

  pub entries-grown : (es : List (Entry StateId)) → AreKnown (length t.states) es → map (with_state u) es ≡ map (with_state t) es
  entries-grown [] h = refl
  entries-grown (e ∷ es) h =
      let with : Option (List FrameData) → Entry (List FrameData) = λ end. record { tokens = e.tokens; end = end; good = e.good; blocked = e.blocked } in
      ap (λ end. with end ∷ map (with_state u) es) (end-grown e.end h.0) ∙ ap (λ r. with_state t e ∷ r) (entries-grown es h.1)

pub known-more : (m n : ℕ) (end : Option StateId) → m ≤ n → IsKnownEnd m end → IsKnownEnd n end
known-more m n None h k = tt
known-more m n (Some id) h k = omega arith

pub are_known-more : (m n : ℕ) (es : List (Entry StateId)) → m ≤ n → AreKnown m es → AreKnown n es
are_known-more m n [] h k = tt
are_known-more m n (e ∷ es) h k = (known-more m n e.end h k.0, are_known-more m n es h k.1)

module _ (n : ℕ) where
  invalid-known : (es : List (Entry StateId)) → AreKnown n es → AreKnown n (first_invalid es)
  invalid-known [] h = h
  invalid-known (e ∷ es) h = h

  pub put-known : (es : List (Entry StateId)) (i : ℕ) (tokens : List Token) (id : StateId) (same : Bool) → id.0 < n → AreKnown n es → AreKnown n (put es i tokens id same)
  put-known [] i tokens id same k h = h
  put-known (e ∷ es) zero tokens id true k h = (k, h.1)
  put-known (e ∷ es) zero tokens id false k h = (k, invalid-known es h.1)
  put-known (e ∷ es) (suc i) tokens id same k h = (h.0, put-known es i tokens id same k h.1)

  pub block-known : (es : List (Entry StateId)) (i : ℕ) → AreKnown n es → AreKnown n (block es i)
  block-known [] i h = h
  block-known (e ∷ es) zero h = h
  block-known (e ∷ es) (suc i) h = (h.0, block-known es i h.1)

  pub replicate-known : (m : ℕ) → AreKnown n (replicate m (blank None))
  replicate-known zero = tt
  replicate-known (suc m) = (tt, replicate-known m)

  blanks-known : (m : ℕ) (end : Option StateId) → IsKnownEnd n end → AreKnown n (blanks m end)
  blanks-known zero end h = tt
  blanks-known (suc zero) end h = (h, tt)
  blanks-known (suc (suc m)) end h = (tt, blanks-known (suc m) end h)

  last-known : (end : Option StateId) (es : List (Entry StateId)) → IsKnownEnd n end → AreKnown n es → IsKnownEnd n (last_end end es)
  last-known end [] h k = h
  last-known end (e ∷ es) h k = last-known e.end es k.0 k.1

  take-known : (m : ℕ) (es : List (Entry StateId)) → AreKnown n es → AreKnown n (take m es)
  take-known zero es h = tt
  take-known (suc m) [] h = tt
  take-known (suc m) (e ∷ es) h = (h.0, take-known m es h.1)

  drop-known : (m : ℕ) (es : List (Entry StateId)) → AreKnown n es → AreKnown n (drop m es)
  drop-known zero es h = h
  drop-known (suc m) [] h = tt
  drop-known (suc m) (e ∷ es) h = drop-known m es h.1

  append-known : (es fs : List (Entry StateId)) → AreKnown n es → AreKnown n fs → AreKnown n (es ++ fs)
  append-known [] fs h k = k
  append-known (e ∷ es) fs h k = (h.0, append-known es fs h.1 k)

  pub replaced-known : (e : LineEffect) (es : List (Entry StateId)) → AreKnown n es → AreKnown n (replaced e es)
  replaced-known e es h =
      let rest = drop-known e.first es h in
      append-known (take e.first es) _ (take-known e.first es h)
      (append-known _ (drop e.old (drop e.first es)) (blanks-known e.new _ (last-known None _ tt (take-known e.old (drop e.first es) rest))) (drop-known e.old (drop e.first es) rest))

  pub end-known : (es : List (Entry StateId)) (i : ℕ) → AreKnown n es → IsKnownEnd n (end_at es i)
  end-known [] i h = tt
  end-known (e ∷ es) zero h = h.0
  end-known (e ∷ es) (suc i) h = end-known es i h.1

  known_some : (end : Option StateId) (id : StateId) → IsKnownEnd n end → end ≡ Some id → id.0 < n
  known_some end id h e = let P : Option StateId → Type 0 = λ x. IsKnownEnd n x in subst P e h

  -- the start of a line is a number of the table
  pub start-known : (es : List (Entry StateId)) (i : ℕ) (first id : StateId) → first.0 < n → AreKnown n es → start_at (Some first) es i ≡ Some id → id.0 < n
  start-known es zero first id h k e = known_some (Some first) id h e
  start-known es (suc i) first id h k e = known_some (end_at es i) id (end-known es i k) e

-- two numbers of one state are one
same_number : (t : Tables) → NoneTwice t.states → (a b : StateId) → a.0 < length t.states → b.0 < length t.states → state_at t a ≡ state_at t b → a ≡ b
same_number t once a b h k e =
    let same : a.0 ≡ b.0 = once a.0 b.0 (state_at t a) (slice_get-get_or t.states a.0 [] h) (slice_get-get_or t.states b.0 [] k ∙ ap Some (sym e)) in
    ap (λ n. record { 0 = n }) same

pub same_end : (t : Tables) → NoneTwice t.states → (end : Option StateId) (b : StateId) → IsKnownEnd (length t.states) end → b.0 < length t.states → option_map (state_at t) end ≡ Some (state_at t b) → end ≡ Some b
same_end t once None b h k e = cc
same_end t once (Some a) b h k e = ap Some (same_number t once a b h k (some_inj e))

-- the opening state is there, and it is the empty one
pub opening-within : (t : Tables) → IsNumbering t → 0 < length t.states
opening-within t h = slice_get_within t.states 0 [] h.opening

pub opening-state : (t : Tables) → IsNumbering t → state_at t (record { 0 = 0 }) ≡ []
opening-state t h = some_inj (sym (slice_get-get_or t.states 0 [] (opening-within t h)) ∙ h.opening)

-- What is known adds nothing, and what was added had room.
use Rattle.std.proofs.Common.{◌≡◌, ℕ, ◌++◌, ◌∙◌, List, [], ◌∷◌, length, Some, Result, Ok, Err, Contains, refl, ap, sym, subst, arith}
use Rattle.std.specs.Prelude.{slice_get, IfOk, OnOk}
use Rattle.std.specs.List.{AllByRecursion}
use Rattle.std.proofs.lemmas.List.{append-nil}
use Rattle.tm_defs.specs.declared.frames.FrameData.{FrameData}
use Rattle.tm_defs.specs.declared.frames.StateId.{StateId}
use Rattle.tm_defs.specs.Tables.{Tables, TableEntries, NoneTwice, IsNumbering, GrowsBy, GrowsWithin}
use Rattle.tm_defs.proofs.Growth.{slice_get-grown}
use Rattle.tm_scope.specs.Entries.{HasEntries, KeepsLimits}
use Rattle.tm_scope.proofs.Taken.{contains-at, at-contains}
use Rattle.tm_scope.proofs.WholePath.{all-in}
use Rattle.tm_state.specs.Entries.{state_entries, IsClosed, HasRoomFor}

slice_get-middle : {X : Type 0} (xs : List X) (x : X) (ys : List X) → slice_get (xs ++ x ∷ ys) (length xs) ≡ Some x
slice_get-middle [] x ys = refl
slice_get-middle (z ∷ xs) x ys = slice_get-middle xs x ys

-- no number is new where each entry has one
nothing-added : {X : Type 0} (made old new : List X) → GrowsBy made old new → AllByRecursion (Contains old) made → NoneTwice new → new ≡ old
nothing-added {X} made old new grew all once = by grew.added grew.is grew.within
  where
    by : (added : List X) → new ≡ old ++ added → AllByRecursion (Contains made) added → new ≡ old
    by [] is within = is ∙ append-nil old
    by (x ∷ xs) is within =
        let there : Contains old x = all-in (Contains old) made x all within.0 in
        let low : slice_get new there.0 ≡ Some x = slice_get-grown made old new there.0 x grew (at-contains old x there) in
        let high : slice_get new (length old) ≡ Some x = ap (λ l. slice_get l (length old)) is ∙ slice_get-middle old x xs in
        absurd (omega (arith, there.1, once there.0 (length old) x low high))

-- a table that has all of it stays as it was
pub nothing-new : (made : TableEntries) (t u : Tables) → GrowsWithin made t u → HasEntries made t → IsNumbering u → u ≡ t
nothing-new made t u grew all num =
    let make : List (List ℕ) → List (List (List ℕ)) → List (List FrameData) → ℕ → Tables = λ a b c n. record { texts = a; paths = b; states = c; limit = n } in
    ap (λ a. make a u.paths u.states u.limit) (nothing-added made.texts t.texts u.texts grew.texts all.texts num.texts_once)
    ∙ ap (λ b. make t.texts b u.states u.limit) (nothing-added made.paths t.paths u.paths grew.paths all.paths num.paths_once)
    ∙ ap (λ c. make t.texts t.paths c u.limit) (nothing-added made.states t.states u.states grew.states all.states num.states_once)
    ∙ ap (λ n. make t.texts t.paths t.states n) grew.limit

-- so does one that has the state
pub known-same : (state : List FrameData) (t u : Tables) → GrowsWithin (state_entries state) t u → IsClosed t → IsNumbering u → Contains t.states state → u ≡ t
known-same state t u grew closed num there = nothing-new (state_entries state) t u grew (closed.states state there) num

-- a state that was taken in had room
pub taken-room : {E : Type 0} (r : Result StateId E) (state : List FrameData) (limit : ℕ) (t u : Tables) → GrowsWithin (state_entries state) t u → IsClosed u → KeepsLimits limit t u → IfOk r (λ id. slice_get u.states id.0 ≡ Some state) → OnOk r (HasRoomFor limit (state_entries state) t)
taken-room (Ok id) state limit t u grew closed kept h = record { grown = u; grows = grew; entries = closed.states state (contains-at u.states id.0 state h); kept = kept }
taken-room (Err fault) state limit t u grew closed kept h = tt

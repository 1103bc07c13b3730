-- Where a table was full for some, it could not have grown to hold them all.
use Rattle.std.proofs.Common.{◌≡◌, ◌⊎◌, inl, inr, ℕ, zero, suc, ◌≤◌, ◌<◌, ◌++◌, ◌∙◌, List, [], ◌∷◌, length, Some, Result, Ok, Err, Contains, refl, ap, sym, subst, arith, length-append}
use Rattle.std.specs.Prelude.{slice_get, IfErr}
use Rattle.std.specs.List.{AllByRecursion}
use Rattle.tm_defs.specs.declared.frames.StateId.{StateId}
use Rattle.tm_defs.specs.declared.tables.TableFault.{TableFault}
use Rattle.tm_defs.specs.declared.tables.TableFault.TheVariants as table
use Rattle.tm_defs.specs.Tables.{Tables, TableEntries, NoneTwice, IsNumbering, GrowsBy, GrowsWithin}
use Rattle.tm_scope.specs.Numbered.{KeepsLimit}
use Rattle.tm_scope.specs.Entries.{LacksOneAt, LacksEntryAt, IsFullFor}
use Rattle.tm_scope.proofs.Taken.{at-contains}
use Rattle.tm_scope.proofs.Closed.{contains-grown}
use Rattle.tm_scope.proofs.WholePath.{all-in}
use Rattle.tm_state.specs.Entries.{HasRoomFor}

module _ {X : Type 0} where
  contains-cons : (z : X) (ys : List X) (y : X) → Contains ys y → Contains (z ∷ ys) y
  contains-cons z ys y (i, lt, is) = (suc i, omega arith, is)

  contains-split : (xs ys : List X) (y : X) → Contains (xs ++ ys) y → Contains xs y ⊎ Contains ys y
  contains-split [] ys y h = inr h
  contains-split (z ∷ xs) ys y (zero, lt, is) = inl (zero, omega arith, is)
  contains-split (z ∷ xs) ys y (suc i, lt, is) = elim (contains-split xs ys y (i, omega arith, is)) [ inl k ↦ inl (contains-cons z xs y k) | inr k ↦ inr k ]

  -- a list without one of its elements
  record Without (x : X) (ys : List X) : Type 0 where
    rest : List X
    count : length ys ≡ suc (length rest)
    others : (y : X) → Contains ys y → (y ≡ x) ⊎ Contains rest y

  without : (x : X) (ys : List X) → Contains ys x → Without x ys
  without x [] (i, lt, is) = absurd (omega arith)
  without x (z ∷ ys) (zero, lt, is) = record { rest = ys; count = refl; others = by }
    where
      by : (y : X) → Contains (z ∷ ys) y → (y ≡ x) ⊎ Contains ys y
      by y (zero, low, same) = inl (sym same ∙ is)
      by y (suc j, low, same) = inr (j, omega arith, same)
  without x (z ∷ ys) (suc i, lt, is) = on (without x ys (i, omega arith, is))
    where
      on : Without x ys → Without x (z ∷ ys)
      on w = record { rest = z ∷ w.rest; count = ap (λ n. suc n) w.count; others = by }
        where
          by : (y : X) → Contains (z ∷ ys) y → (y ≡ x) ⊎ Contains (z ∷ w.rest) y
          by y (zero, low, same) = inr (zero, omega arith, same)
          by y (suc j, low, same) = elim (w.others y (j, omega arith, same)) [ inl k ↦ inl k | inr k ↦ inr (contains-cons z w.rest y k) ]

  -- distinct elements of a list are no more than its elements
  length-within : (xs ys : List X) → NoneTwice xs → ((x : X) → Contains xs x → Contains ys x) → length xs ≤ length ys
  length-within [] ys once sub = omega arith
  length-within (x ∷ xs) ys once sub =
      let w = without x ys (sub x (0, omega arith, refl)) in
      let tail : NoneTwice xs = λ i j y a b. omega (arith, once (suc i) (suc j) y a b) in
      let other : (y : X) → Contains xs y → Contains w.rest y = λ y h. by w.rest y h (w.others y (sub y (contains-cons x xs y h))) in
      omega (arith, length-within xs w.rest tail other, w.count)
    where
      by : (rest : List X) (y : X) → Contains xs y → (y ≡ x) ⊎ Contains rest y → Contains rest y
      by rest y h (inl same) = absurd (omega (arith, once 0 (suc h.0) x refl (at-contains xs y h ∙ ap Some same)))
      by rest y h (inr k) = k

  -- one is lacking at the limit, so a list that has them all goes beyond it
  beyond : (limit : ℕ) (made old new all : List X) → GrowsBy made old new → NoneTwice new → LacksOneAt limit made new → GrowsBy made old all → AllByRecursion (Contains all) made → KeepsLimit limit (length old) (length all) → ⊥
  beyond limit made old new all grew once lacks whole has kept =
      let x = lacks.1.0 in
      let w = without x all (all-in (Contains all) made x has lacks.1.1) in
      let sub : (y : X) → Contains new y → Contains w.rest y = λ y h. rest w.rest y h (w.others y (among y h)) in
      let count = length-within new w.rest once sub in
      by kept (omega (arith, count, w.count)) (omega (arith, ap length grew.is, length-append old grew.added))
    where
      among : (y : X) → Contains new y → Contains all y
      among y h =
          let P : List X → Type 0 = λ l. Contains l y in
          elim (contains-split old grew.added y (subst P grew.is h)) [ inl k ↦ contains-grown made old all y whole k | inr k ↦ all-in (Contains all) made y has (all-in (Contains made) grew.added y grew.within k) ]

      rest : (l : List X) (y : X) → Contains new y → (y ≡ lacks.1.0) ⊎ Contains l y → Contains l y
      rest l y h (inl same) = absurd (lacks.1.2 (subst (Contains new) same h))
      rest l y h (inr k) = k

      by : KeepsLimit limit (length old) (length all) → length new < length all → length old ≤ length new → ⊥
      by (inl same) more longer = omega arith
      by (inr low) more longer = omega (arith, lacks.0)

pub no-room : (limit : ℕ) (made : TableEntries) (t u : Tables) → GrowsWithin made t u → IsNumbering u → LacksEntryAt limit made u → HasRoomFor limit made t → ⊥
no-room limit made t u grew num (inl h) room = beyond limit made.texts t.texts u.texts room.grown.texts grew.texts num.texts_once h room.grows.texts room.entries.texts room.kept.texts
no-room limit made t u grew num (inr (inl h)) room = beyond limit made.paths t.paths u.paths room.grown.paths grew.paths num.paths_once h room.grows.paths room.entries.paths room.kept.paths
no-room limit made t u grew num (inr (inr h)) room = beyond limit made.states t.states u.states room.grown.states grew.states num.states_once h room.grows.states room.entries.states room.kept.states

pub full-room : (r : Result StateId TableFault) (n limit : ℕ) (made : TableEntries) (t u : Tables) → GrowsWithin made t u → IsNumbering u → IfErr r (IsFullFor limit made u) → r ≡ Err (table.TableFull n) → HasRoomFor limit made t → ⊥
full-room (Ok id) n limit made t u grew num h e = cc
full-room (Err (table.TableFull m)) n limit made t u grew num h e = no-room limit made t u grew num h.1
full-room (Err table.OutOfMemory) n limit made t u grew num h e = cc

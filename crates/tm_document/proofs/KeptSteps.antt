-- Steps on entries by number as steps on entries by state.
use Rattle.std.proofs.Common.{◌≡◌, ℕ, zero, suc, ◌<◌, ◌-◌, arith, subst, List, [], length, replicate, None, Some, Option, Result, Ok, Err, ap, ap₂, sym, ◌∙◌}
use Rattle.std.specs.Prelude.{map, slice_get, option_and_then, OnOk, OnErr}
use Rattle.std.specs.Option.{option_map}
use Rattle.std.proofs.lemmas.List.{length-map}
use Rattle.std.proofs.lemmas.Option.{get_or_from_slice_get, slice_get_within}
use Rattle.tm_defs.specs.declared.changes.LineEffect.{LineEffect}
use Rattle.tm_defs.specs.declared.frames.StateId.{StateId}
use Rattle.tm_defs.specs.Tables.{Tables, state_at}
use Rattle.tm_machine.specs.declared.entries.Entry.{Entry}
use Rattle.tm_machine.specs.Entries.{blank, blocked_at, front, replaced, start_at}
use Rattle.tm_machine.specs.Turns.{opening}
use Rattle.tm_machine.specs.Numbered.{with_state, AreKnown, IsKnownEnd}
use Rattle.tm_machine.proofs.KnownEnds.{end-known, replaced-known}
use Rattle.tm_machine.proofs.StateReads.{blocked-map, front-map, replicate-map, replaced-map, start-map}
use Rattle.tm_store.specs.Stores.{Stored}
use Rattle.tm_document.specs.Kept.{Kept, kept_of}
use Rattle.tm_document.proofs.EntryLists.{blocked-read}

-- what is kept at first
pub kept-new : (n : ℕ) (es : List (Entry StateId)) (t u : Tables) → es ≡ replicate n (blank None) → t ≡ u → kept_of es t ≡ record { entries = replicate n (blank None); tables = u }
kept-new n es t u e s = ap₂ (λ x y. kept_of x y) e s ∙ ap (λ x. record { entries = x; tables = u }) (replicate-map u n)

-- whether an entry is blocked
pub blocked-here : (t : Tables) (es : List (Entry StateId)) (i : ℕ) (e : Entry StateId) → slice_get es i ≡ Some e → blocked_at (map (with_state t) es) i ≡ e.blocked
blocked-here t es i e there =
    blocked-map t es i ∙ sym (blocked-read es i e (slice_get_within es i e there)) ∙ ap (λ (x : Entry StateId). x.blocked) (get_or_from_slice_get es i e e there)

-- the state before any line but the first is the end before it
pub start-behind : (first : Option StateId) (es : List (Entry StateId)) (i : ℕ) (e : Entry StateId) → 0 < i → slice_get es (i - 1) ≡ Some e → start_at first es i ≡ e.end
start-behind first es zero e some at = absurd (omega arith)
start-behind first es (suc i) e some at =
    let less : suc i - 1 ≡ i = omega arith in
    let P : ℕ → Type 0 = λ n. slice_get es n ≡ Some e in
    ap (option_and_then (λ (x : Entry StateId). x.end)) (subst P less at)

pub end-there : (n : ℕ) (es : List (Entry StateId)) (i : ℕ) (e : Entry StateId) → AreKnown n es → slice_get es i ≡ Some e → IsKnownEnd n e.end
end-there n es i e known at = subst (IsKnownEnd n) (ap (option_and_then (λ (x : Entry StateId). x.end)) at) (end-known n es i known)

module _ (es : List (Entry StateId)) (t : Tables) (now : Kept) (is : kept_of es t ≡ now) where
  pub kept-length : length now.entries ≡ length es
  kept-length = sym (ap (λ (k : Kept). length k.entries) is) ∙ length-map es (with_state t)

  pub kept-front : front es ≡ front now.entries
  kept-front = sym (front-map t es) ∙ ap (λ (k : Kept). front k.entries) is

  -- the state before a line
  pub kept-start : (i : ℕ) (id : Option StateId) → state_at t (record { 0 = 0 }) ≡ [] → start_at (Some (record { 0 = 0 })) es i ≡ id → start_at opening now.entries i ≡ option_map (state_at now.tables) id
  kept-start i id first e =
      sym (ap (λ (k : Kept). start_at opening k.entries i) is) ∙ start-map t es i (record { 0 = 0 }) first ∙ ap (option_map (state_at t)) e ∙ ap (λ (k : Kept). option_map (state_at k.tables) id) is

  pub kept-cleared : (after : List (Entry StateId)) → after ≡ replicate (length es) (blank None) → kept_of after t ≡ record now { entries = replicate (length now.entries) (blank None) }
  kept-cleared after e =
      ap (λ x. kept_of x t) e ∙ ap (λ x. record { entries = x; tables = t }) (replicate-map t (length es) ∙ ap (λ n. replicate n (blank None)) (sym (length-map es (with_state t))))
      ∙ ap (λ (k : Kept). record k { entries = replicate (length k.entries) (blank None) }) is

  pub kept-replaced : (after : List (Entry StateId)) (e : LineEffect) → after ≡ replaced e es → kept_of after t ≡ record now { entries = replaced e now.entries }
  kept-replaced after e s =
      ap (λ x. kept_of x t) s ∙ ap (λ x. record { entries = x; tables = t }) (replaced-map t e es) ∙ ap (λ (k : Kept). record k { entries = replaced e k.entries }) is

  pub kept-replaced-ok : {A E : Type 0} (r : Result A E) (after : List (Entry StateId)) (e : LineEffect) → OnOk r (after ≡ replaced e es) → OnOk r (kept_of after t ≡ record now { entries = replaced e now.entries })
  kept-replaced-ok (Ok a) after e h = kept-replaced after e h
  kept-replaced-ok (Err fault) after e h = h

-- ends stay numbers of the table
pub replaced-still-known : {A E : Type 0} (r : Result A E) (n : ℕ) (old new : Stored StateId) (e : LineEffect) → OnOk r (new.entries ≡ replaced e old.entries) → OnErr r (new ≡ old) → AreKnown n old.entries → AreKnown n new.entries
replaced-still-known (Ok a) n old new e ok err known = subst (AreKnown n) (sym ok) (replaced-known n e old.entries known)
replaced-still-known (Err fault) n old new e ok err known = subst (λ (s : Stored StateId). AreKnown n s.entries) (sym err) known

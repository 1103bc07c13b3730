-- A turn on the front of entries by number is a turn on the entries by state.
use Rattle.std.proofs.Common.{◌≡◌, ℕ, ◌<◌, ◌↔◌, Bool, true, false, IsTrue, List, length, Some, None, Option, refl, ap, sym, ◌∙◌, subst, inl, inr}
use Rattle.std.specs.Prelude.{slice_get, map}
use Rattle.std.proofs.lemmas.Option.{slice_get_within}
use Rattle.tm_defs.specs.declared.events.Turn.TheVariants.{Done, Blocked}
use Rattle.tm_defs.specs.declared.frames.StateId.{StateId}
use Rattle.tm_defs.specs.declared.tables.TableFault.TheVariants.{TableFull}
use Rattle.tm_defs.specs.declared.tokens.Token.{Token}
use Rattle.tm_defs.specs.Tables.{Tables, GrowsWithin, LacksEntry, NoneTwice, state_at}
use Rattle.tm_machine.specs.declared.entries.Entry.{Entry}
use Rattle.tm_machine.specs.Entries.{block, blocked_at, end_at, front, put, start_at, stored}
use Rattle.tm_machine.specs.Numbered.{with_state, AreKnown, GrowsAtFront, IsTurnCause}
use Rattle.tm_machine.specs.Scratch.{Tokenizing}
use Rattle.tm_machine.specs.Turns.{IsReady, Turns, opening, turn_ticks}
use Rattle.tm_machine.proofs.KnownEnds.{MoreStates, more_states, no_fewer, entries-grown, are_known-more, put-known}
use Rattle.tm_machine.proofs.LineTurns.{stored-map, blocked-map, blocked-known}
use Rattle.tm_store.specs.Stores.{is_same}
use Rattle.tm_document.specs.Kept.{Kept, kept_of}
use Rattle.tm_document.proofs.EntryLists.{ticks-blocked, ticks-front}
use Rattle.tm_document.proofs.KeptSteps.{blocked-here}

-- an end is the same where equality says so
pub same-end-is : (eq : StateId → StateId → Bool) → ((a b : StateId) → eq a b ≡ true → a ≡ b) → ((a : StateId) → eq a a ≡ true) → (end : Option StateId) (id : StateId) → IsTrue (is_same eq end id) ↔ (end ≡ Some id)
same-end-is eq one self None id = (λ h. absurd cc, λ h. absurd cc)
same-end-is eq one self (Some a) id = (λ h. ap Some (one a id h), λ h. let P : a ≡ id = cc in ap (eq a) (sym P) ∙ self a)

-- the front by number: its entry, the number of its start, and its characters
module _ (es : List (Entry StateId)) (t : Tables) (now : Kept) (is : kept_of es t ≡ now) (i : ℕ) (e : Entry StateId) (id : StateId) (line : List ℕ)
    (at : front now.entries ≡ Some i) (there : slice_get es i ≡ Some e) (free : e.blocked ≡ false) (begins : start_at opening now.entries i ≡ Some (state_at now.tables id)) where
  ready : (lines : List (List ℕ)) → slice_get lines i ≡ Some line → IsReady lines now.entries i (state_at t id) line
  ready lines holds = record {
    at_front = at;
    not_blocked = sym (ap (λ (k : Kept). blocked_at k.entries i) is) ∙ blocked-here t es i e there ∙ free;
    begins = begins ∙ sym (ap (λ (k : Kept). Some (state_at k.tables id)) is);
    holds = holds;
  }

  pub ticks-one : turn_ticks now.entries ≡ 1
  ticks-one = ticks-front now.entries i at (sym (ap (λ (k : Kept). blocked_at k.entries i) is) ∙ blocked-here t es i e there ∙ free)

  module _ (k : Tokenizing) (budget : ℕ) (u : Tables) (grows : GrowsWithin (k.entries_made (state_at t id) line) t u) where
    more : MoreStates t u
    more = more_states (k.entries_made (state_at t id) line) t u grows

    pub turn-grows : (lines : List (List ℕ)) → slice_get lines i ≡ Some line → GrowsAtFront k lines now.entries now.tables u
    turn-grows lines holds =
        let P : Kept → Type 0 = λ z. GrowsWithin (k.entries_made (state_at t id) line) z.tables u in
        inr (i, state_at t id, line, ready lines holds, subst P is grows)

    pub turn-full : (n : ℕ) → LacksEntry n (k.entries_made (state_at t id) line) u → (lines : List (List ℕ)) → slice_get lines i ≡ Some line → IsTurnCause k lines now.entries u (TableFull n)
    turn-full n lacks lines holds = (i, state_at t id, line, ready lines holds, lacks)

    module _ (known : AreKnown (length t.states) es) where
      pub turn-done : (tokens : List Token) (end : StateId) (mid after : List (Entry StateId)) (eq : StateId → StateId → Bool) → mid ≡ es → after ≡ put mid i tokens end (is_same eq (end_at mid i) end) →
          tokens ≡ (k.tokenized (state_at t id) line).tokens → slice_get u.states end.0 ≡ Some (k.tokenized (state_at t id) line).end → NoneTwice u.states →
          ((a b : StateId) → eq a b ≡ true → a ≡ b) → ((a : StateId) → eq a a ≡ true) →
          (lines : List (List ℕ)) → slice_get lines i ≡ Some line → Turns k budget lines now.entries (Done i) (map (with_state u) after)
      turn-done tokens end mid after eq same put_is made ends once one self lines holds = (
        state_at t id,
        line,
        ready lines holds,
        stored-map t u more es known i (k.tokenized (state_at t id) line) tokens end after made ends once
            (is_same eq (end_at es i) end, same-end-is eq one self (end_at es i) end, put_is ∙ ap (λ xs. put xs i tokens end (is_same eq (end_at xs i) end)) same)
            ∙ ap (λ (z : Kept). stored z.entries i (k.tokenized (state_at t id) line)) is,
      )

      pub turn-done-known : (tokens : List Token) (end : StateId) (mid after : List (Entry StateId)) (same : Bool) → mid ≡ es → after ≡ put mid i tokens end same → slice_get u.states end.0 ≡ Some (k.tokenized (state_at t id) line).end → AreKnown (length u.states) after
      turn-done-known tokens end mid after same is_mid put_is ends =
          let P : List (Entry StateId) → Type 0 = λ xs. AreKnown (length u.states) xs in
          subst P (sym (put_is ∙ ap (λ xs. put xs i tokens end same) is_mid)) (put-known (length u.states) es i tokens end same (slice_get_within u.states end.0 _ ends) (are_known-more (length t.states) (length u.states) es (no_fewer t u more) known))

      pub turn-blocks : (after : List (Entry StateId)) → budget < k.plain_cost (state_at t id) line → after ≡ block es i → (lines : List (List ℕ)) → slice_get lines i ≡ Some line → Turns k budget lines now.entries (Blocked i) (map (with_state u) after)
      turn-blocks after dear block_is lines holds =
          inr (state_at t id, line, ready lines holds, dear, blocked-map t u more es known i after block_is ∙ ap (λ (z : Kept). block z.entries i) is)

      pub turn-blocked-known : (after : List (Entry StateId)) → after ≡ block es i → AreKnown (length u.states) after
      turn-blocked-known after block_is = blocked-known t u more es known i after block_is

      pub turn-still-known : (after : List (Entry StateId)) → after ≡ es → AreKnown (length u.states) after
      turn-still-known after same =
          let P : List (Entry StateId) → Type 0 = λ xs. AreKnown (length u.states) xs in
          subst P (sym same) (are_known-more (length t.states) (length u.states) es (no_fewer t u more) known)

      pub turn-kept : (after : List (Entry StateId)) → after ≡ es → map (with_state u) after ≡ now.entries
      turn-kept after same = ap (map (with_state u)) same ∙ entries-grown t u more es known ∙ ap (λ (z : Kept). z.entries) is

-- a front that is blocked already
module _ (es : List (Entry StateId)) (t : Tables) (now : Kept) (is : kept_of es t ≡ now) (i : ℕ) (e : Entry StateId) (at : front now.entries ≡ Some i) (there : slice_get es i ≡ Some e) (blocks : e.blocked ≡ true) where
  blocked-is : blocked_at now.entries i ≡ true
  blocked-is = sym (ap (λ (k : Kept). blocked_at k.entries i) is) ∙ blocked-here t es i e there ∙ blocks

  pub turn-stays : (k : Tokenizing) (budget : ℕ) (lines : List (List ℕ)) → Turns k budget lines now.entries (Blocked i) now.entries
  turn-stays k budget lines = inl (at, blocked-is, refl)

  pub ticks-none : turn_ticks now.entries ≡ 0
  ticks-none = ticks-blocked now.entries i at blocked-is

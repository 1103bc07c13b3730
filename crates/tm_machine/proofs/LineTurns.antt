-- A turn on a line by the number of its end is the turn by its end.
use Rattle.std.proofs.Common.{◌≡◌, ℕ, ◌<◌, ◌↔◌, Bool, true, false, IsTrue, List, [], length, Some, Option, refl, ap, sym, ◌∙◌, subst}
use Rattle.std.specs.Prelude.{slice_get, map}
use Rattle.std.specs.Option.{option_map}
use Rattle.std.proofs.lemmas.Option.{slice_get_within, get_or_from_slice_get}
use Rattle.tm_defs.specs.declared.frames.FrameData.{FrameData}
use Rattle.tm_defs.specs.declared.frames.StateId.{StateId}
use Rattle.tm_defs.specs.declared.tokens.Token.{Token}
use Rattle.tm_defs.specs.Tables.{Tables, state_at, NoneTwice}
use Rattle.tm_defs.specs.Tokenizer.{Tokenized}
use Rattle.tm_machine.specs.declared.entries.Entry.{Entry}
use Rattle.tm_machine.specs.Entries.{put, block, end_at, is_end, stored}
use Rattle.tm_machine.proofs.SameStates.{is_end-true, is_end-self}
use Rattle.tm_machine.specs.Numbered.{with_state, AreKnown}
use Rattle.tm_machine.proofs.KnownEnds.{MoreStates, no_fewer, end-grown, entries-grown, known-more, are_known-more, put-known, block-known, end-known, same_end}
use Rattle.tm_machine.proofs.StateReads.{put-map, block-map, end-map}

-- truth values that are true together are the same
bool_same : (a b : Bool) → (a ≡ true → b ≡ true) → (b ≡ true → a ≡ true) → a ≡ b
bool_same true true h k = refl
bool_same true false h k = sym (h refl)
bool_same false true h k = k refl
bool_same false false h k = refl

is_end-from : (end : Option (List FrameData)) (s : List FrameData) → end ≡ Some s → is_end end s ≡ true
is_end-from end s e = rw e (is_end-self s)

module _ (t u : Tables) (more : MoreStates t u) (es : List (Entry StateId)) (known : AreKnown (length t.states) es) (i : ℕ) where
  abbrev old : List (Entry (List FrameData))
  old = map (with_state t) es

  pub still-known : AreKnown (length u.states) es
  still-known = are_known-more (length t.states) (length u.states) es (no_fewer t u more) known

  module _ (r : Tokenized) (tokens : List Token) (end : StateId) (after : List (Entry StateId)) (is_tokens : tokens ≡ r.tokens) (at_end : slice_get u.states end.0 ≡ Some r.end) where
    end_there : end.0 < length u.states
    end_there = slice_get_within u.states end.0 r.end at_end

    end_state : state_at u end ≡ r.end
    end_state = get_or_from_slice_get u.states end.0 r.end [] at_end

    old_end : end_at old i ≡ option_map (state_at u) (end_at es i)
    old_end = end-map t es i ∙ sym (end-grown t u more (end_at es i) (end-known (length t.states) es i known))

    -- equal numbers are equal ends
    same-is : (same : Bool) → NoneTwice u.states → IsTrue same ↔ (end_at es i ≡ Some end) → same ≡ is_end (end_at old i) r.end
    same-is same once h = bool_same same (is_end (end_at old i) r.end)
        (λ so. is_end-from (end_at old i) r.end (old_end ∙ ap (option_map (state_at u)) (h.0 so) ∙ ap Some end_state))
        (λ so. h.1 (same_end u once (end_at es i) end (known-more (length t.states) (length u.states) (end_at es i) (no_fewer t u more) (end-known (length t.states) es i known)) end_there
        (sym old_end ∙ is_end-true (end_at old i) r.end so ∙ ap Some (sym end_state))))

    pub stored-map : NoneTwice u.states → (same : Bool) × (IsTrue same ↔ (end_at es i ≡ Some end)) × (after ≡ put es i tokens end same) → map (with_state u) after ≡ stored old i r
    stored-map once (same, h, is) =
        ap (map (with_state u)) is ∙ put-map u es i tokens end same
        ∙ ap (λ xs. put xs i tokens (state_at u end) same) (entries-grown t u more es known)
        ∙ ap (λ x. put old i x (state_at u end) same) is_tokens
        ∙ ap (λ x. put old i r.tokens x same) end_state
        ∙ ap (put old i r.tokens r.end) (same-is same once h)

    pub stored-known : (same : Bool) × (IsTrue same ↔ (end_at es i ≡ Some end)) × (after ≡ put es i tokens end same) → AreKnown (length u.states) after
    stored-known (same, h, is) = let P : List (Entry StateId) → Type 0 = λ xs. AreKnown (length u.states) xs in subst P (sym is) (put-known (length u.states) es i tokens end same end_there still-known)

  pub blocked-map : (after : List (Entry StateId)) → after ≡ block es i → map (with_state u) after ≡ block old i
  blocked-map after is = ap (map (with_state u)) is ∙ block-map u es i ∙ ap (λ xs. block xs i) (entries-grown t u more es known)

  pub blocked-known : (after : List (Entry StateId)) → after ≡ block es i → AreKnown (length u.states) after
  blocked-known after is = let P : List (Entry StateId) → Type 0 = λ xs. AreKnown (length u.states) xs in subst P (sym is) (block-known (length u.states) es i still-known)

-- Items with line numbers are used as the machine uses its own.
use Rattle.std.proofs.Common.{◌≡◌, ℕ, true, nat_lt, nat_eq, List, [], ◌∷◌, length, Option, Some, None, refl, sym, ap, ◌∙◌, arith, eqb-true, eq-eqb}
use Rattle.std.specs.Prelude.{slice_get}
use Rattle.std.specs.List.{AllByRecursion, AllZip}
use Rattle.std.proofs.lemmas.Option.{get_or_from_slice_get}
use Rattle.tm_defs.specs.declared.changes.LineEffect.{LineEffect}
use Rattle.tm_defs.specs.declared.frames.FrameData.{FrameData}
use Rattle.tm_machine.specs.declared.entries.Entry.{Entry}
use Rattle.tm_machine.specs.Accepts.{Use, Made, use_of, used_at}
use Rattle.tm_machine.specs.Births.{place_of}
use Rattle.tm_machine.specs.Changes.{BornText, line_after}
use Rattle.tm_machine.specs.Entries.{is_end}
use Rattle.tm_machine.specs.Machine.{Item, use_at, entries_at, all_used, all_uses}
use Rattle.tm_machine.specs.Places.{line_at}
use Rattle.tm_machine.specs.Scratch.{Tokenizing}
use Rattle.tm_machine.specs.Sound.{IsSoundItem}
use Rattle.tm_machine.specs.States.{same_text}
use Rattle.tm_machine.specs.Turns.{opening}
use Rattle.tm_machine.proofs.SameStates.{IsSame, IsSame-list}
use Rattle.tm_rebase.specs.Batches.{Placed}
use Rattle.tm_accept.specs.Accepted.{IsSameItem, all_placed, count_before, placed_entries, placed_use, placed_uses, use_met, used_met}

pub text-same : IsSame same_text
text-same = IsSame-list nat_eq (record { equal = λ a b e. eqb-true a b e; self = λ a. eq-eqb a a refl })

module _ (k : Tokenizing) (effects : List LineEffect) (t : BornText) where
  met-use : (es : List (Entry (List FrameData))) (p : Placed (List FrameData)) (x : Item) (o : Option ℕ) → p.made ≡ x.made → ((i : ℕ) → o ≡ Some i → slice_get t.lines i ≡ Some x.line) →
      use_met is_end opening effects t.lines es p o ≡ use_at es x o
  met-use es p x None m l = refl
  met-use es p x (Some i) m l =
      let at : line_at t.lines i ≡ x.line = get_or_from_slice_get t.lines i x.line [] (l i refl) in
      let same : same_text x.line (line_at t.lines i) ≡ true = ap (same_text x.line) at ∙ text-same.self x.line in
      ap (λ (made : Made (List FrameData)). use_of is_end opening es (same_text made.line (line_at t.lines i)) made.start i) m ∙ ap (λ b. use_of is_end opening es b x.start i) same

  met-entries : (es : List (Entry (List FrameData))) (p : Placed (List FrameData)) (x : Item) (o : Option ℕ) → p.made ≡ x.made → used_met is_end opening effects t.lines (use_at es x o) es p o ≡ entries_at es x o
  met-entries es p x None m = refl
  met-entries es p x (Some i) m = ap (λ (made : Made (List FrameData)). used_at is_end (use_at es x (Some i)) es made.tokens made.end i) m

  use-same : (es : List (Entry (List FrameData))) (p : Placed (List FrameData)) (x : Item) → IsSoundItem k t x → IsSameItem effects t p x → placed_use is_end opening effects t.lines es p ≡ use_at es x (place_of t.births x.birth)
  use-same es p x s h =
      let w : nat_lt p.place (count_before effects (length t.lines)) ≡ true = let lt = h.within in grind arith in
      rw (w, ← h.place) (met-use es p x (place_of t.births x.birth) h.made s.line)

  entries-same : (es : List (Entry (List FrameData))) (p : Placed (List FrameData)) (x : Item) → IsSoundItem k t x → IsSameItem effects t p x → placed_entries is_end opening effects t.lines es p ≡ entries_at es x (place_of t.births x.birth)
  entries-same es p x s h =
      ap (λ (u : Use). used_met is_end opening effects t.lines u es p (line_after effects p.place)) (use-same es p x s h)
      ∙ ap (λ o. used_met is_end opening effects t.lines (use_at es x (place_of t.births x.birth)) es p o) (sym h.place)
      ∙ met-entries es p x (place_of t.births x.birth) h.made

  pub all-entries-same : (es : List (Entry (List FrameData))) (ps : List (Placed (List FrameData))) (xs : List Item) → AllByRecursion (IsSoundItem k t) xs → AllZip (IsSameItem effects t) ps xs →
      all_placed is_end opening effects t.lines es ps ≡ all_used t.births es xs
  all-entries-same es [] [] s h = refl
  all-entries-same es [] (x ∷ xs) s h = absurd h
  all-entries-same es (p ∷ ps) [] s h = absurd h
  all-entries-same es (p ∷ ps) (x ∷ xs) s h =
      ap (λ z. all_placed is_end opening effects t.lines z ps) (entries-same es p x s.0 h.0)
      ∙ all-entries-same (entries_at es x (place_of t.births x.birth)) ps xs s.1 h.1

  pub all-uses-same : (es : List (Entry (List FrameData))) (ps : List (Placed (List FrameData))) (xs : List Item) → AllByRecursion (IsSoundItem k t) xs → AllZip (IsSameItem effects t) ps xs →
      placed_uses is_end opening effects t.lines es ps ≡ all_uses t.births es xs
  all-uses-same es [] [] s h = refl
  all-uses-same es [] (x ∷ xs) s h = absurd h
  all-uses-same es (p ∷ ps) [] s h = absurd h
  all-uses-same es (p ∷ ps) (x ∷ xs) s h =
      ap (λ u. u ∷ placed_uses is_end opening effects t.lines (placed_entries is_end opening effects t.lines es p) ps) (use-same es p x s.0 h.0)
      ∙ ap (λ z. use_at es x (place_of t.births x.birth) ∷ placed_uses is_end opening effects t.lines z ps) (entries-same es p x s.0 h.0)
      ∙ ap (λ us. use_at es x (place_of t.births x.birth) ∷ us) (all-uses-same (entries_at es x (place_of t.births x.birth)) ps xs s.1 h.1)

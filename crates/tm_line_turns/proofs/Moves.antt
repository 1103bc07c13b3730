-- Turns that stay at one position: ends first, and few begins.
use Rattle.std.proofs.Common.{◌≡◌, ℕ, suc, ◌<◌, ◌≤◌, Bool, true, false, cond, not, max, nat_lt, List, [], ◌∷◌, ◌++◌, length, Option, Some, refl, ap, sym, ◌∙◌, arith, eq-eqb, subst, ◌⊎◌, inl, inr}
use Rattle.std.specs.Prelude.{◌&&◌, ◌==◌}
use Rattle.std.proofs.lemmas.Bool.Decides.{nat_tests}
use Rattle.tm_line_turns.specs.declared.found.Match.{Match}
use Rattle.tm_line_turns.specs.declared.found.Winner.{Winner}
use Rattle.tm_line_turns.specs.declared.found.Winner.TheVariants.{Nothing, Ends, Begins, Matches}
use Rattle.tm_line_turns.specs.Laws.{FindsWithin, IsWinnerWithin}
use Rattle.tm_line_turns.specs.Moves.{AllEnter, Enters, IsFoundBy, IsMove, IsOrdered, LeaveFirst, Leaves, Move, Stays, entered_by}
use Rattle.tm_line_turns.specs.LineRun.{Open, Place, Turn, Next, Stops, GoesOn, Grammar, advances, asked, begun, by_winner, ended, has, is_at, matched, most_open, near, onward, opened, stack_of, turn, unused}
use Rattle.tm_line_turns.proofs.Turns.{both, unused-less, unused-max, unused-none}

-- a match that stays has not advanced
stays-not : (p : Place) (m : Match) → max p.at m.end ≡ p.at → advances p m ≡ false
stays-not p m e = grind (arith, nat_tests)

-- a rule that is left was not opened at this position, and neither was any in it; one that is entered is new there
abbrev Moved : Grammar → Place → Place → Winner → Type 0
Moved g p q Nothing = ⊥
Moved g p q (Ends m) = near p.at (stack_of p) ≡ []
Moved g p q (Begins rule m) = (near q.at (stack_of q) ≡ rule ∷ near p.at (stack_of p)) × (has (near p.at (stack_of p)) rule ≡ false)
Moved g p q (Matches rule m) = ⊥

-- where a turn goes on at its position
abbrev Kept : Grammar → Place → Winner → Turn → Type 0
Kept g p w t = (q : Place) → t.next ≡ GoesOn q → q.at ≡ p.at → Moved g p q w

module _ (g : Grammar) (p : Place) where
  goes-at : (q r : Place) → GoesOn q ≡ GoesOn r → q ≡ r
  goes-at q r e = cc

  ended-kept : (m : Match) (below : List Open) → Kept g p (Ends m) (ended g p m below)
  ended-kept m [] = λ q e stays. absurd cc
  ended-kept m (next ∷ rest) = both (Kept g p (Ends m)) (not (advances p m) && is_at p.top.entry p.at) _ _
      (λ _ q e stays. absurd cc)
      (λ free q e stays.
      let at : max p.at m.end ≡ p.at = ap (λ (x : Place). x.at) (goes-at _ q e) ∙ stays in
      let far : is_at p.top.entry p.at ≡ false = ap (λ b. not b && is_at p.top.entry p.at) (sym (stays-not p m at)) ∙ free in
      ap (λ b. cond b (p.top.frame.rule ∷ near p.at p.below) []) far)

  matched-kept : (rule : ℕ) (m : Match) (names : List (List ℕ)) → Kept g p (Matches rule m) (matched g p rule m names)
  matched-kept rule m names = both (Kept g p (Matches rule m)) (advances p m) _ _
      (λ so q e stays.
      let at : max p.at m.end ≡ p.at = ap (λ (x : Place). x.at) (goes-at _ q e) ∙ stays in
      let not_so : advances p m ≡ false = stays-not p m at in
      absurd cc)
      (λ _ q e stays. absurd cc)

  entered-near : (rule : ℕ) (m : Match) (top : Open) (q : Place) → top.frame.rule ≡ rule → is_at top.entry p.at ≡ true → onward p m top (stack_of p) (Some m.end) ≡ q → q.at ≡ p.at → near q.at (stack_of q) ≡ rule ∷ near p.at (stack_of p)
  entered-near rule m top q is at e stays =
      let P : Place → Type 0 = λ x. near x.at (stack_of x) ≡ near x.at (top ∷ stack_of p) in
      let same : near q.at (stack_of q) ≡ near q.at (top ∷ stack_of p) = subst P e refl in
      same ∙ ap (λ n. near n (top ∷ stack_of p)) stays ∙ ap (λ b. cond b (top.frame.rule ∷ near p.at (stack_of p)) []) at ∙ ap (λ r. r ∷ near p.at (stack_of p)) is

  begun-kept : (rule : ℕ) (m : Match) (end_text : Option (List ℕ)) (names content_names : List (List ℕ)) → Kept g p (Begins rule m) (begun g p rule m end_text names content_names)
  begun-kept rule m end_text names content_names = both (Kept g p (Begins rule m)) (nat_lt (length (stack_of p)) most_open) _ _
      (λ _. both (Kept g p (Begins rule m)) (not (advances p m) && has (near p.at (stack_of p)) rule) _ _
      (λ _ q e stays. absurd cc)
      (λ free q e stays.
      let at : max p.at m.end ≡ p.at = ap (λ (x : Place). x.at) (goes-at _ q e) ∙ stays in (
        entered-near rule m _ q refl (eq-eqb p.at p.at refl) (goes-at _ q e) stays,
        ap (λ b. not b && has (near p.at (stack_of p)) rule) (sym (stays-not p m at)) ∙ free,
      )))
      (λ _ q e stays. absurd cc)

  by_winner-kept : (w : Winner) → Kept g p w (by_winner g p w)
  by_winner-kept Nothing = λ q e stays. absurd cc
  by_winner-kept (Ends m) = ended-kept m p.below
  by_winner-kept (Begins rule m) = begun-kept rule m (g.end_text rule m) (g.names rule m) (g.content_names rule m)
  by_winner-kept (Matches rule m) = matched-kept rule m (g.names rule m)

module _ (g : Grammar) (finds : FindsWithin g) where
  moved : (p q : Place) → (turn g p).next ≡ GoesOn q → q.at ≡ p.at → Moved g p q (asked p g.winner)
  moved p q e stays = by_winner-kept g p (asked p g.winner) q e stays

  abbrev Either : Winner → Type 0
  Either w = IsFoundBy w Leaves ⊎ IsFoundBy w Enters

  kind : (p q : Place) (w : Winner) → Moved g p q w → Either w
  kind p q Nothing none = absurd none
  kind p q (Ends m) h = inl tt
  kind p q (Begins rule m) h = inr tt
  kind p q (Matches rule m) none = absurd none

  moves-by : (p q : Place) → (turn g p).next ≡ GoesOn q → q.at ≡ p.at → Either (asked p g.winner) → IsMove g Leaves p q ⊎ IsMove g Enters p q
  moves-by p q e stays (inl h) = inl (record { found = h; goes = e; stays = stays })
  moves-by p q e stays (inr h) = inr (record { found = h; goes = e; stays = stays })

  -- before a rule is left none is near
  left-near : (p q : Place) (w : Winner) → IsFoundBy w Leaves → Moved g p q w → near p.at (stack_of p) ≡ []
  left-near p q (Ends m) by h = h
  left-near p q Nothing by h = absurd by
  left-near p q (Begins rule m) by h = absurd by
  left-near p q (Matches rule m) by h = absurd by

  -- behind one that is entered some is, and fewer are unused
  abbrev Fewer : Place → Place → Type 0
  Fewer p q = unused (near q.at (stack_of q)) g.rules < unused (near p.at (stack_of p)) g.rules

  some-near : (p q : Place) (w : Winner) → IsFoundBy w Enters → Moved g p q w → near q.at (stack_of q) ≡ [] → ⊥
  some-near p q (Begins rule m) by h none = let e : rule ∷ near p.at (stack_of p) ≡ [] = sym h.0 ∙ none in absurd cc
  some-near p q Nothing by h none = by
  some-near p q (Ends m) by h none = by
  some-near p q (Matches rule m) by h none = by

  fewer-near : (p q : Place) (w : Winner) → IsFoundBy w Enters → IsWinnerWithin g.rules g.end w → Moved g p q w → Fewer p q
  fewer-near p q (Begins rule m) by within h =
      let P : List ℕ → Type 0 = λ l. unused l g.rules < unused (near p.at (stack_of p)) g.rules in
      subst P (sym h.0) (unused-less rule (near p.at (stack_of p)) g.rules h.1 within.1)
  fewer-near p q Nothing by within h = absurd by
  fewer-near p q (Ends m) by within h = absurd by
  fewer-near p q (Matches rule m) by within h = absurd by

  all-enter : (moves : List Move) (p q : Place) → (near p.at (stack_of p) ≡ [] → ⊥) → Stays g moves p q → AllEnter moves
  all-enter [] p q some s = tt
  all-enter (Leaves ∷ ms) p q some s =
      let m = s.1 in some (left-near p s.0 (asked p g.winner) m.found (moved p s.0 m.goes m.stays))
  all-enter (Enters ∷ ms) p q some s =
      let m = s.1 in all-enter ms s.0 q (some-near p s.0 (asked p g.winner) m.found (moved p s.0 m.goes m.stays)) s.2

  leave-first : (moves : List Move) (p q : Place) → Stays g moves p q → LeaveFirst moves
  leave-first [] p q s = tt
  leave-first (Leaves ∷ ms) p q s = leave-first ms s.0 q s.2
  leave-first (Enters ∷ ms) p q s =
      let m = s.1 in all-enter ms s.0 q (some-near p s.0 (asked p g.winner) m.found (moved p s.0 m.goes m.stays)) s.2

  few-unused : (moves : List Move) (p q : Place) → Stays g moves p q → entered_by moves ≤ unused (near p.at (stack_of p)) g.rules
  few-unused [] p q s = omega arith
  few-unused (Leaves ∷ ms) p q s =
      let m = s.1 in
      let none = left-near p s.0 (asked p g.winner) m.found (moved p s.0 m.goes m.stays) in
      let all : unused (near p.at (stack_of p)) g.rules ≡ g.rules = ap (λ l. unused l g.rules) none ∙ unused-none g.rules in
      let more = few-unused ms s.0 q s.2 in
      let most = unused-max (near (s.0).at (stack_of (s.0))) g.rules in
      omega (arith, all, more, most)
  few-unused (Enters ∷ ms) p q s =
      let m = s.1 in
      let fewer = fewer-near p s.0 (asked p g.winner) m.found (finds _ _ _ _ _) (moved p s.0 m.goes m.stays) in
      let more = few-unused ms s.0 q s.2 in
      omega (arith, fewer, more)

  pub is_ordered : IsOrdered g
  is_ordered = record {
    either = λ p q e stays. moves-by p q e stays (kind p q (asked p g.winner) (moved p q e stays));
    leave_first = leave-first;
    few = λ moves p q s. omega (arith, few-unused moves p q s, unused-max (near p.at (stack_of p)) g.rules);
  }

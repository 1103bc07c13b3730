-- A blocked front costs more than the budget, and what ends a run of lines.
use Rattle.std.proofs.Common.{◌≡◌, ℕ, zero, suc, ◌+◌, ◌-◌, ◌<◌, true, not, cond, List, [], ◌∷◌, length, Option, Some, None, refl, sym, ap, ◌∙◌, subst, inl, inr, arith}
use Rattle.std.specs.Prelude.{slice_get, nat_lt}
use Rattle.std.specs.List.{prefix_len}
use Rattle.tm_defs.specs.declared.events.Turn.TheVariants.{Blocked}
use Rattle.tm_defs.specs.declared.frames.FrameData.{FrameData}
use Rattle.tm_machine.specs.declared.entries.Entry.{Entry}
use Rattle.tm_machine.specs.Entries.{blank, front, block, blocked_at, start_at, AreRight}
use Rattle.tm_machine.specs.Turns.{IsBlockedFront, Turns, Forces, opening}
use Rattle.tm_machine.specs.Scratch.{Tokenizing, state_from_scratch}
use Rattle.tm_machine.proofs.DoneLines.{does-length}
use Rattle.tm_machine.proofs.Fronts.{front-facts, front-settled}
use Rattle.tm_machine.proofs.ReachedTables.{front-start}
use Rattle.tm_machine.proofs.RightRuns.{AreRight-forces}

-- a block changes no entry that is good, and blocks its own
prefix-block : {S : Type 0} (es : List (Entry S)) (i : ℕ) → prefix_len (λ (e : Entry S). not (not e.good)) (block es i) ≡ prefix_len (λ (e : Entry S). not (not e.good)) es
prefix-block [] i = refl
prefix-block (e ∷ es) zero = refl
prefix-block (e ∷ es) (suc i) = ap (λ n. cond (not (not e.good)) (1 + n) 0) (prefix-block es i)

length-block : {S : Type 0} (es : List (Entry S)) (i : ℕ) → length (block es i) ≡ length es
length-block [] i = refl
length-block (e ∷ es) zero = refl
length-block (e ∷ es) (suc i) = ap suc (length-block es i)

pub front-block : {S : Type 0} (es : List (Entry S)) (i : ℕ) → front (block es i) ≡ front es
front-block {S} es i =
    let f : ℕ → ℕ → Option ℕ = λ n m. cond (nat_lt n m) (Some n) None in
    ap (λ n. f n (length (block es i))) (prefix-block es i) ∙ ap (λ m. f (prefix_len (λ (e : Entry S). not (not e.good)) es) m) (length-block es i)

pub blocked-block : {S : Type 0} (es : List (Entry S)) (i : ℕ) → i < length es → blocked_at (block es i) i ≡ true
blocked-block [] i h = absurd (omega arith)
blocked-block (e ∷ es) zero h = refl
blocked-block (e ∷ es) (suc i) h = blocked-block es i (omega arith)

module _ (k : Tokenizing) (budget : ℕ) where
  -- a blocked entry has a start, and its line costs more from there
  blocked-costs : (before : Option (List FrameData)) (lines : List (List ℕ)) (es : List (Entry (List FrameData))) (i : ℕ) → AreRight k budget before lines es → blocked_at es i ≡ true →
      (s : List FrameData) × (line : List ℕ) × (start_at before es i ≡ Some s) × (slice_get lines i ≡ Some line) × (budget < k.plain_cost s line)
  blocked-costs before [] [] i h b = absurd cc
  blocked-costs before [] (e ∷ es) i h b = absurd h
  blocked-costs before (l ∷ lines) [] i h b = absurd h
  blocked-costs before (l ∷ lines) (e ∷ es) zero h b = let d = (h.0.blocked b).1 in (d.0, l, d.1, refl, d.2)
  blocked-costs before (l ∷ lines) (e ∷ es) (suc zero) h b = blocked-costs e.end lines es zero h.1 b
  blocked-costs before (l ∷ lines) (e ∷ es) (suc (suc i)) h b = blocked-costs e.end lines es (suc i) h.1 b

  pub front-costs : (lines : List (List ℕ)) (es : List (Entry (List FrameData))) (i : ℕ) → AreRight k budget opening lines es → front es ≡ Some i → blocked_at es i ≡ true → IsBlockedFront k budget lines es i
  front-costs lines es i right at b =
      let d = blocked-costs opening lines es i right b in
      let scratch : Some d.0 ≡ Some (state_from_scratch k lines i) = sym d.2 ∙ front-start k budget lines es i right at in
      let same : d.0 ≡ state_from_scratch k lines i = cc in
      let P : List FrameData → Type 0 = λ z. budget < k.plain_cost z d.1 in
      record { at_front = at; blocked = b; costs = (d.1, d.3, subst P same d.4) }

  -- a turn that answers Blocked leaves a blocked front
  turn-blocked : (lines : List (List ℕ)) (es : List (Entry (List FrameData))) (i : ℕ) (after : List (Entry (List FrameData))) → Turns k budget lines es (Blocked i) after → (front after ≡ Some i) × (blocked_at after i ≡ true)
  turn-blocked lines es i after (inl h) = (ap front h.2 ∙ h.0, ap (λ xs. blocked_at xs i) h.2 ∙ h.1)
  turn-blocked lines es i after (inr h) = (
    ap front h.4 ∙ front-block es i ∙ h.2.at_front,
    ap (λ xs. blocked_at xs i) h.4 ∙ blocked-block es i (front-facts es i (blank None) h.2.at_front).0,
  )

  -- and so does a run that ends by a blocked line
  pub forces-blocked : (lines : List (List ℕ)) (last : ℕ) (es : List (Entry (List FrameData))) (count i : ℕ) (after : List (Entry (List FrameData))) → AreRight k budget opening lines es → Forces k budget lines last es count (Some i) after → IsBlockedFront k budget lines after i
  forces-blocked lines last es count i after right f =
      let b = turn-blocked lines f.behind i after f.rests.1 in
      front-costs lines after i (AreRight-forces k budget lines last es count (Some i) after right f) b.0 b.1

  -- a run to the last line that blocks none leaves no front
  pub forces-all : (lines : List (List ℕ)) (es : List (Entry (List FrameData))) (count : ℕ) (after : List (Entry (List FrameData))) → length es ≡ length lines → Forces k budget lines (length lines - 1) es count None after → front after ≡ None
  forces-all lines es count after beside f =
      ap front f.rests.1 ∙ front-settled f.behind (length lines - 1 + 1) (omega (arith, does-length k budget lines (length lines - 1) es f.done f.behind f.does)) f.rests.0

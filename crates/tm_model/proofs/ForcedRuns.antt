-- A run of lines in a model: what stands of it before each line, and how it ends.
use Rattle.std.proofs.Common.{◌≡◌, ℕ, suc, zero, Bool, not, cond, ◌+◌, ◌<◌, ◌≤◌, ◌++◌, true, false, List, [], ◌∷◌, length, Some, None, Option, Result, Ok, Err, ◌-◌, refl, ap, sym, ◌∙◌, subst, inl, inr, arith, length-append}
use Rattle.std.specs.Prelude.{if◌then◌else◌, IfOk}
use Rattle.std.specs.List.{prefix_len}
use Rattle.std.proofs.lemmas.Bool.{and_parts}
use Rattle.std.proofs.lemmas.Bool.Decides.{nat_tests}
use Rattle.tm_defs.specs.declared.events.Turn.TheVariants.{Done, Blocked}
use Rattle.tm_defs.specs.declared.frames.FrameData.{FrameData}
use Rattle.tm_defs.specs.declared.tables.TableFault.{TableFault}
use Rattle.tm_defs.specs.Tables.{TableEntries}
use Rattle.tm_defs.specs.Tokenizer.{Tokenized}
use Rattle.tm_machine.specs.declared.entries.Entry.{Entry}
use Rattle.tm_machine.specs.Entries.{front, is_accurate, AreRight}
use Rattle.tm_machine.specs.Turns.{Turns, DoesLines, Forces, IsBlockedFront, IsRun, last_ticks, opening, turn_ticks}
use Rattle.tm_machine.specs.Reach.{GrowsByLines}
use Rattle.tm_machine.specs.Scratch.{Tokenizing}
use Rattle.tm_machine.proofs.BlockedFronts.{forces-all, forces-blocked}
use Rattle.tm_machine.proofs.DoneLines.{does-few, does-length, does-increasing, does-next, good-done, length-put}
use Rattle.tm_machine.proofs.Fronts.{are_good, accurate-front}
use Rattle.tm_machine.proofs.ReachedTables.{grows-none, grows-next, grows-ready}
use Rattle.tm_machine.proofs.RightRuns.{AreRight-does}
use Rattle.tm_model.specs.declared.model.Forced.{Forced}
use Rattle.tm_model.specs.Held.{Held, IsSound, setting_now}
use Rattle.tm_machine.specs.Numbered.{GrowsAtFront, IsTurnCause}
use Rattle.tm_document.proofs.EntryLists.{ticks-front, front-within}
use Rattle.tm_machine.proofs.KnownEnds.{some_inj}

-- how many entries are good from the first on
abbrev pub good_before : {S : Type 0} → List (Entry S) → ℕ
good_before es = prefix_len (λ e. not (not e.good)) es

pub good-few : {S : Type 0} (es : List (Entry S)) → good_before es ≤ length es
good-few [] = omega arith
good-few (e ∷ es) = go e.good (good-few es)
  where
    go : (b : Bool) → good_before es ≤ length es → cond (not (not b)) (1 + good_before es) 0 ≤ suc (length es)
    go true h = omega (arith, h)
    go false h = omega arith

good-more : {S : Type 0} (n : ℕ) (es : List (Entry S)) → are_good n es ≡ true → n ≤ length es → n ≤ good_before es
good-more zero es h le = omega arith
good-more (suc n) [] h le = absurd (omega (arith, le))
good-more (suc n) (e ∷ es) h le =
    let p = and_parts e.good (are_good n es) h in
    let rest = good-more n es p.1 (omega (arith, le)) in
    rw p.0 (omega (arith, rest))

good-front : {S : Type 0} (es : List (Entry S)) (i : ℕ) → front es ≡ Some i → good_before es ≡ i
good-front es i at = grind (arith, nat_tests)

turn-length : (k : Tokenizing) (budget : ℕ) (lines : List (List ℕ)) (last : ℕ) (es : List (Entry (List FrameData))) (i : ℕ) (after : List (Entry (List FrameData))) → Turns k budget lines es (Done i) after → length after ≡ length es
turn-length k budget lines last es i after turn = ap length turn.3 ∙ length-put es i _ _ _

blocked-front : (k : Tokenizing) (budget : ℕ) (lines : List (List ℕ)) (es : List (Entry (List FrameData))) (i : ℕ) (after : List (Entry (List FrameData))) → Turns k budget lines es (Blocked i) after → front es ≡ Some i
blocked-front k budget lines es i after (inl a) = a.0
blocked-front k budget lines es i after (inr b) = b.2.at_front

-- a front that is not behind the last line
open-front : (es : List (Entry (List FrameData))) (last i : ℕ) → front es ≡ Some i → i ≤ last → is_accurate es last ≡ false
open-front es last i at le = let same = accurate-front es last i at in grind (arith, nat_tests)

ticks-open : (es : List (Entry (List FrameData))) (last : ℕ) → is_accurate es last ≡ false → last_ticks last es ≡ turn_ticks es
ticks-open es last h = ap (λ b. if b then 0 else turn_ticks es) h

ticks-whole : (es : List (Entry (List FrameData))) (last : ℕ) → is_accurate es last ≡ true → last_ticks last es ≡ 0
ticks-whole es last h = ap (λ b. if b then 0 else turn_ticks es) h

module _ {T P : Type 0} (plain : T → P) (tokenized : P → List FrameData → List ℕ → Tokenized) (plain_cost : P → List FrameData → List ℕ → ℕ) (entries_made : P → List FrameData → List ℕ → TableEntries) where
  abbrev now_by : Held T → Tokenizing
  now_by held = setting_now plain tokenized plain_cost entries_made held

  -- a run so far: what is to be done is still open
  pub record Ran (old now : Held T) (last count before ticks : ℕ) : Type 0 where
    pub done : List ℕ
    pub does : DoesLines (now_by old) old.budget old.lines last old.entries done now.entries
    pub counts : count ≡ length done
    pub fewer : count ≤ good_before now.entries
    pub others : now ≡ record old { entries = now.entries; tables = now.tables }
    pub grows : GrowsByLines (now_by old) old.lines old.tables now.tables
    pub ticked : ticks ≡ before + count

  pub ran-begins : (old : Held T) (last before : ℕ) → Ran old old last 0 before before
  ran-begins old last before = record {
    done = [];
    does = refl;
    counts = refl;
    fewer = omega arith;
    others = refl;
    grows = grows-none (now_by old) old.lines old.tables old.tables refl;
    ticked = omega arith;
  }

  module _ (old now : Held T) (last count before ticks : ℕ) (ran : Ran old now last count before ticks) where
    -- no line is lost
    pub ran-length : length now.entries ≡ length old.entries
    ran-length = does-length (now_by old) old.budget old.lines last old.entries ran.done now.entries ran.does

    -- so there is a number for one more
    pub ran-few : count ≤ length old.entries
    ran-few = omega (arith, ran.fewer, good-few now.entries, ran-length)

    -- the run so far
    ran-is : (behind : List (Entry (List FrameData))) (now_ticks : ℕ) → behind ≡ now.entries → now_ticks ≡ ticks + last_ticks last now.entries → IsRun (now_by old) old.budget old.lines last old.entries count before now_ticks behind
    ran-is behind now_ticks same t =
        let P : List (Entry (List FrameData)) → Type 0 = λ xs. IsRun (now_by old) old.budget old.lines last old.entries count before now_ticks xs in
        subst P (sym same) (record {
          done = ran.done;
          does = ran.does;
          counts = ran.counts;
          once = does-increasing (now_by old) old.budget old.lines last old.entries ran.done now.entries ran.does;
          few = omega (arith, ran.counts, does-few (now_by old) old.budget old.lines last old.entries ran.done now.entries ran.does);
          ticks = omega (arith, t, ran.ticked);
        })

    module _ (new : Held T) (others : new ≡ record now { entries = new.entries; tables = new.tables }) where
      pub others-next : new ≡ record old { entries = new.entries; tables = new.tables }
      others-next = others ∙ ap (λ (h : Held T). record h { entries = new.entries; tables = new.tables }) ran.others

      pub grows-turn : AreRight (now_by old) old.budget opening old.lines old.entries → GrowsAtFront (now_by now) now.lines now.entries now.tables new.tables → GrowsByLines (now_by old) old.lines old.tables new.tables
      grows-turn right h =
          let F : Held T → Type 0 = λ z. GrowsAtFront (now_by z) z.lines now.entries now.tables new.tables in
          grows-next (now_by old) old.lines old.tables now.tables new.tables ran.grows (go (subst F ran.others h))
        where
          go : GrowsAtFront (now_by old) old.lines now.entries now.tables new.tables → GrowsByLines (now_by old) old.lines now.tables new.tables
          go (inl same) = grows-none (now_by old) old.lines now.tables new.tables same
          go (inr g) =
              grows-ready (now_by old) old.lines old.budget now.entries g.0 g.1 g.2 now.tables new.tables
              (AreRight-does (now_by old) old.budget old.lines last old.entries ran.done now.entries right ran.does) g.3 g.4

      -- the front is done
      pub ran-does : (i j new_ticks : ℕ) → AreRight (now_by old) old.budget opening old.lines old.entries → i ≤ last → front now.entries ≡ Some i → Turns (now_by now) now.budget now.lines now.entries (Done j) new.entries →
          GrowsAtFront (now_by now) now.lines now.entries now.tables new.tables → new_ticks ≡ ticks + turn_ticks now.entries → Ran old new last (count + 1) before new_ticks × (good_before now.entries < good_before new.entries)
      ran-does i j new_ticks right le at turn grows t =
          let F : Held T → Type 0 = λ z. Turns (now_by z) z.budget z.lines now.entries (Done j) new.entries in
          let turn_old : Turns (now_by old) old.budget old.lines now.entries (Done j) new.entries = subst F ran.others turn in
          let ready = turn_old.2 in
          let same : j ≡ i = some_inj (sym ready.at_front ∙ at) in
          let next = good-more (suc j) new.entries (good-done (now_by old) old.budget old.lines last now.entries j new.entries turn_old)
          (omega (arith, front-within now.entries i at, same, turn-length (now_by old) old.budget old.lines last now.entries j new.entries turn_old)) in
          let here = good-front now.entries i at in
          let one = ticks-front now.entries j ready.at_front ready.not_blocked in (
            record {
              done = ran.done ++ j ∷ [];
              does = does-next (now_by old) old.budget old.lines last old.entries now.entries new.entries ran.done j ran.does (open-front now.entries last i at le) turn_old;
              counts = omega (arith, ran.counts, length-append ran.done (j ∷ []));
              fewer = omega (arith, ran.fewer, next, here, same);
              others = others-next;
              grows = grows-turn right grows;
              ticked = omega (arith, t, ran.ticked, one);
            },
            omega (arith, next, here, same),
          )

      -- and fewer lines are left
      pub ran-smaller : (i j new_ticks : ℕ) → AreRight (now_by old) old.budget opening old.lines old.entries → i ≤ last → front now.entries ≡ Some i → Turns (now_by now) now.budget now.lines now.entries (Done j) new.entries →
          GrowsAtFront (now_by now) now.lines now.entries now.tables new.tables → new_ticks ≡ ticks + turn_ticks now.entries → length new.entries - good_before new.entries < length now.entries - good_before now.entries
      ran-smaller i j new_ticks right le at turn grows t =
          let d = ran-does i j new_ticks right le at turn grows t in
          let few = good-few new.entries in
          let same : length new.entries ≡ length old.entries = does-length (now_by old) old.budget old.lines last old.entries d.0.done new.entries d.0.does in
          omega (arith, d.1, few, same, ran-length)

      -- the front is blocked
      pub ran-blocked : (i j : ℕ) → i ≤ last → front now.entries ≡ Some i → Turns (now_by now) now.budget now.lines now.entries (Blocked j) new.entries → Forces (now_by old) old.budget old.lines last old.entries count (Some j) new.entries
      ran-blocked i j le at turn =
          let F : Held T → Type 0 = λ z. Turns (now_by z) z.budget z.lines now.entries (Blocked j) new.entries in
          record { done = ran.done; behind = now.entries; does = ran.does; counts = ran.counts; rests = (open-front now.entries last i at le, subst F ran.others turn) }

      -- it is not behind the last line, and costs more than the budget
      pub ran-costs : (i j : ℕ) → AreRight (now_by old) old.budget opening old.lines old.entries → i ≤ last → front now.entries ≡ Some i → Turns (now_by now) now.budget now.lines now.entries (Blocked j) new.entries →
          (j ≤ last) × IsBlockedFront (now_by old) old.budget old.lines new.entries j
      ran-costs i j right le at turn =
          let same : j ≡ i = some_inj (sym (blocked-front (now_by now) now.budget now.lines now.entries j new.entries turn) ∙ at) in
          (omega (arith, same, le), forces-blocked (now_by old) old.budget old.lines last old.entries count j new.entries right (ran-blocked i j le at turn))

      -- what a turn that ends the run counts
      pub ran-ends : (i : ℕ) (behind : List (Entry (List FrameData))) (new_ticks : ℕ) → behind ≡ now.entries → i ≤ last → front now.entries ≡ Some i → new_ticks ≡ ticks + turn_ticks now.entries → IsRun (now_by old) old.budget old.lines last old.entries count before new_ticks behind
      ran-ends i behind new_ticks same le at t = ran-is behind new_ticks same (t ∙ ap (λ n. ticks + n) (sym (ticks-open now.entries last (open-front now.entries last i at le))))

      -- the front is refused
      pub cause-refused : (fault : TableFault) → new.entries ≡ now.entries → IsTurnCause (now_by now) now.lines now.entries new.tables fault → IsTurnCause (now_by old) old.lines new.entries new.tables fault
      cause-refused fault same h =
          let F : Held T → Type 0 = λ z. IsTurnCause (now_by z) z.lines now.entries new.tables fault in
          let G : List (Entry (List FrameData)) → Type 0 = λ xs. IsTurnCause (now_by old) old.lines xs new.tables fault in
          subst G (sym same) (subst F ran.others h)

    -- no line is open
    pub ran-whole : is_accurate now.entries last ≡ true → Forces (now_by old) old.budget old.lines last old.entries count None now.entries
    ran-whole all = record { done = ran.done; behind = now.entries; does = ran.does; counts = ran.counts; rests = (all, refl) }

    pub ran-counted : is_accurate now.entries last ≡ true → IsRun (now_by old) old.budget old.lines last old.entries count before ticks now.entries
    ran-counted all = ran-is now.entries ticks refl (omega (arith, ticks-whole now.entries last all))

  -- how a run to the last line ends
  module _ (held : Held T) (after : List (Entry (List FrameData))) (last : ℕ) (sound : IsSound plain tokenized plain_cost entries_made held) (ends : last ≡ length held.lines - 1) where
    abbrev Run : Forced → Type 0
    Run forced = Forces (now_by held) held.budget held.lines last held.entries forced.done forced.blocked after

    pub settled-whole : (r : Result Forced TableFault) → IfOk r Run → IfOk r (λ forced. forced.blocked ≡ None → front after ≡ None)
    settled-whole (Ok forced) h = λ none.
        let P : Option ℕ → Type 0 = λ o. Forces (now_by held) held.budget held.lines last held.entries forced.done o after in
        let Q : ℕ → Type 0 = λ n. Forces (now_by held) held.budget held.lines n held.entries forced.done None after in
        forces-all (now_by held) held.budget held.lines held.entries forced.done after sound.lengths (subst Q ends (subst P none h))
    settled-whole (Err fault) h = h

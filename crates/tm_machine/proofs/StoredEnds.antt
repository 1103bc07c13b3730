-- The steps on entries store no ends but those that they are given.
use Rattle.std.proofs.Common.{◌≡◌, ℕ, zero, suc, ◌-◌, Bool, true, false, cond, List, [], ◌∷◌, ◌++◌, length, take, drop, replicate, Option, Some, None, refl, sym, subst, inl, inr}
use Rattle.std.specs.Prelude.{◌&&◌, slice_get}
use Rattle.std.specs.List.{AllByRecursion}
use Rattle.tm_defs.specs.declared.changes.LineEffect.{LineEffect}
use Rattle.tm_defs.specs.declared.events.Step.{Step}
use Rattle.tm_defs.specs.declared.events.Step.TheVariants as step
use Rattle.tm_defs.specs.declared.events.Turn.{Turn}
use Rattle.tm_defs.specs.declared.events.Turn.TheVariants.{Done, Idle, Blocked}
use Rattle.tm_defs.specs.declared.frames.FrameData.{FrameData}
use Rattle.tm_defs.specs.declared.tokens.Token.{Token}
use Rattle.tm_machine.specs.declared.entries.Entry.{Entry}
use Rattle.tm_machine.specs.Accepts.{Use, Beyond, Touched, Unlike, Held, Kept, Guessed, used_at}
use Rattle.tm_machine.specs.Births.{Birth, place_of}
use Rattle.tm_machine.specs.Changes.{effect_of}
use Rattle.tm_machine.specs.Documents.{Rules, Document, Refusal, Answer, Edited, Set, Lined, Forced, Refused, HasRightEntries, DocumentSteps, RunsTo, StopsWithin}
use Rattle.tm_machine.specs.Entries.{blank, blanks, first_invalid, put, guess, block, end_at, is_end, last_end, replaced, AreRight}
use Rattle.tm_machine.specs.Machine.{Item, entries_at, use_at, all_used, item_if, fresh_items}
use Rattle.tm_machine.specs.Past.{HasEnds, IsItemWithin}
use Rattle.tm_machine.specs.Scratch.{Tokenizing, state_from_scratch, line_from_scratch}
use Rattle.tm_machine.specs.Turns.{Turns, DoesLines, Rests, Forces, opening}
use Rattle.tm_machine.proofs.ReachedTables.{front-start, every-append}
use Rattle.tm_machine.proofs.RightRuns.{AreRight-turn, AreRight-does}

module _ (P : List FrameData → Type 0) where
  abbrev Ends : List (Entry (List FrameData)) → Type 0
  Ends es = HasEnds P es

  ends-drop : (n : ℕ) (es : List (Entry (List FrameData))) → Ends es → Ends (drop n es)
  ends-drop zero es h = h
  ends-drop (suc n) [] h = tt
  ends-drop (suc n) (e ∷ es) h = ends-drop n es h.1

  ends-take : (n : ℕ) (es : List (Entry (List FrameData))) → Ends es → Ends (take n es)
  ends-take zero es h = tt
  ends-take (suc n) [] h = tt
  ends-take (suc n) (e ∷ es) h = (h.0, ends-take n es h.1)

  ends-append : (es fs : List (Entry (List FrameData))) → Ends es → Ends fs → Ends (es ++ fs)
  ends-append [] fs h g = g
  ends-append (e ∷ es) fs h g = (h.0, ends-append es fs h.1 g)

  ends-last : (before : Option (List FrameData)) (es : List (Entry (List FrameData))) → ((s : List FrameData) → before ≡ Some s → P s) → Ends es → (s : List FrameData) → last_end before es ≡ Some s → P s
  ends-last before [] b h s e = b s e
  ends-last before (x ∷ es) b h s e = ends-last x.end es h.0 h.1 s e

  ends-blanks : (n : ℕ) (end : Option (List FrameData)) → ((s : List FrameData) → end ≡ Some s → P s) → Ends (blanks n end)
  ends-blanks zero end h = tt
  ends-blanks (suc zero) end h = (h, tt)
  ends-blanks (suc (suc n)) end h = ((λ s e. absurd (cc)), ends-blanks (suc n) end h)

  pub ends-replaced : (e : LineEffect) (es : List (Entry (List FrameData))) → Ends es → Ends (replaced e es)
  ends-replaced e es h =
      let mid = drop e.first es in
      let g = ends-drop e.first es h in
      ends-append (take e.first es) (blanks e.new (last_end None (take e.old mid)) ++ drop e.old mid) (ends-take e.first es h)
      (ends-append (blanks e.new (last_end None (take e.old mid))) (drop e.old mid)
      (ends-blanks e.new (last_end None (take e.old mid)) (ends-last None (take e.old mid) (λ s q. absurd (cc)) (ends-take e.old mid g))) (ends-drop e.old mid g))

  pub ends-blank : (n : ℕ) → Ends (replicate n (blank None))
  ends-blank zero = tt
  ends-blank (suc n) = ((λ s e. absurd (cc)), ends-blank n)

  ends-unless : (same : Bool) (es : List (Entry (List FrameData))) → Ends es → Ends (cond same es (first_invalid es))
  ends-unless true es h = h
  ends-unless false [] h = tt
  ends-unless false (e ∷ es) h = (h.0, h.1)

  ends-put : (es : List (Entry (List FrameData))) (i : ℕ) (tokens : List Token) (end : List FrameData) (same : Bool) → Ends es → P end → Ends (put es i tokens end same)
  ends-put [] i tokens end same h p = tt
  ends-put (e ∷ es) zero tokens end same h p = ((λ x q. subst P (cc) p), ends-unless same es h.1)
  ends-put (e ∷ es) (suc i) tokens end same h p = (h.0, ends-put es i tokens end same h.1 p)

  ends-guess : (es : List (Entry (List FrameData))) (i : ℕ) (tokens : List Token) (end : List FrameData) (same : Bool) → Ends es → P end → Ends (guess es i tokens end same)
  ends-guess [] i tokens end same h p = tt
  ends-guess (e ∷ es) zero tokens end same h p = ((λ x q. subst P (cc) p), ends-unless same es h.1)
  ends-guess (e ∷ es) (suc i) tokens end same h p = (h.0, ends-guess es i tokens end same h.1 p)

  ends-block : (es : List (Entry (List FrameData))) (i : ℕ) → Ends es → Ends (block es i)
  ends-block [] i h = tt
  ends-block (e ∷ es) zero h = (h.0, h.1)
  ends-block (e ∷ es) (suc i) h = (h.0, ends-block es i h.1)

  -- items that are used, and items that are made
  ends-at : (es : List (Entry (List FrameData))) (x : Item) (o : Option ℕ) → Ends es → P x.end → Ends (entries_at es x o)
  ends-at es x None h p = h
  ends-at es x (Some i) h p = go (use_at es x (Some i))
    where
      go : (u : Use) → Ends (used_at is_end u es x.tokens x.end i)
      go Beyond = h
      go Touched = h
      go Unlike = h
      go Held = h
      go Kept = ends-put es i x.tokens x.end (is_end (end_at es i) x.end) h p
      go Guessed = ends-guess es i x.tokens x.end (is_end (end_at es i) x.end) h p

  pub ends-used : (births : List Birth) (es : List (Entry (List FrameData))) (xs : List Item) → Ends es → AllByRecursion (IsItemWithin P) xs → Ends (all_used births es xs)
  ends-used births es [] h p = h
  ends-used births es (x ∷ xs) h p = ends-used births (entries_at es x (place_of births x.birth)) xs (ends-at es x (place_of births x.birth) h p.0.end) p.1

  item-within : (f : Bool) (b : Birth) (line : List ℕ) (start : Option (List FrameData)) (tokens : Option (List Token)) (end : Option (List FrameData)) → ((x : List FrameData) → start ≡ Some x → P x) → ((x : List FrameData) → end ≡ Some x → P x) →
      AllByRecursion (IsItemWithin P) (item_if f b line start tokens end)
  item-within true b line (Some start) (Some tokens) (Some end) ps pd = (record { start = ps start refl; end = pd end refl }, tt)
  item-within _ b line _ _ _ ps pd = tt

  pub fresh-within : (before : Option (List FrameData)) (bs : List Birth) (lines : List (List ℕ)) (es : List (Entry (List FrameData))) (fs : List Bool) → ((x : List FrameData) → before ≡ Some x → P x) → Ends es →
      AllByRecursion (IsItemWithin P) (fresh_items before bs lines es fs)
  fresh-within before [] lines es fs p h = tt
  fresh-within before (b ∷ bs) [] es fs p h = tt
  fresh-within before (b ∷ bs) (line ∷ lines) [] fs p h = tt
  fresh-within before (b ∷ bs) (line ∷ lines) (e ∷ es) [] p h = tt
  fresh-within before (b ∷ bs) (line ∷ lines) (e ∷ es) (f ∷ fs) p h =
      every-append (IsItemWithin P) (item_if (f && e.good) b line before e.tokens e.end) (fresh_items e.end bs lines es fs)
      (item-within (f && e.good) b line before e.tokens e.end p h.0) (fresh-within e.end bs lines es fs h.0 h.1)

  -- turns, where the ends of the lines from scratch are such states
  module _ (k : Tokenizing) (budget : ℕ) (lines : List (List ℕ)) (closed : (i : ℕ) (line : List ℕ) → slice_get lines i ≡ Some line → P (line_from_scratch k lines i line).end) where
    turn-ends : (es : List (Entry (List FrameData))) (turn : Turn) (after : List (Entry (List FrameData))) → AreRight k budget opening lines es → Turns k budget lines es turn after → Ends es → Ends after
    turn-ends es Idle after a d h = subst Ends (sym d.1) h
    turn-ends es (Done i) after a d h =
        let at = front-start k budget lines es i a d.2.at_front in
        let begins = d.2.begins in
        let same : state_from_scratch k lines i ≡ d.0 = cc in
        let end = (k.tokenized d.0 d.1).end in
        subst Ends (sym d.3) (ends-put es i (k.tokenized d.0 d.1).tokens end (is_end (end_at es i) end) h (subst (λ s. P (k.tokenized s d.1).end) same (closed i d.1 d.2.holds)))
    turn-ends es (Blocked i) after a (inl d) h = subst Ends (sym d.2) h
    turn-ends es (Blocked i) after a (inr d) h = subst Ends (sym d.4) (ends-block es i h)

    does-ends : (last : ℕ) (es : List (Entry (List FrameData))) (done : List ℕ) (after : List (Entry (List FrameData))) → AreRight k budget opening lines es → DoesLines k budget lines last es done after → Ends es → Ends after
    does-ends last es [] after a d h = subst Ends (sym d) h
    does-ends last es (i ∷ done) after a d h = does-ends last d.1.0 done after (AreRight-turn k budget lines es (Done i) d.1.0 a d.1.1) d.1.2 (turn-ends es (Done i) d.1.0 a d.1.1 h)

    rests-ends : (last : ℕ) (es : List (Entry (List FrameData))) (blocked : Option ℕ) (after : List (Entry (List FrameData))) → AreRight k budget opening lines es → Rests k budget lines last es blocked after → Ends es → Ends after
    rests-ends last es None after a d h = subst Ends (sym d.1) h
    rests-ends last es (Some i) after a d h = turn-ends es (Blocked i) after a d.1 h

    forces-ends : (last : ℕ) (es : List (Entry (List FrameData))) (count : ℕ) (blocked : Option ℕ) (after : List (Entry (List FrameData))) → AreRight k budget opening lines es → Forces k budget lines last es count blocked after → Ends es → Ends after
    forces-ends last es count blocked after a d h =
        rests-ends last d.behind blocked after (AreRight-does k budget lines last es d.done d.behind a d.does) d.rests (does-ends last es d.done d.behind a d.does h)

  -- a step on a text
  module _ (r : Rules) (d : Document) (right : HasRightEntries r d) (closed : (i : ℕ) (line : List ℕ) → slice_get d.lines i ≡ Some line → P (line_from_scratch (r.setting d.epoch) d.lines i line).end) (h : Ends d.entries) where
    abbrev Behind : Document → Type 0
    Behind n = Ends n.entries

    run-ends : (last done : ℕ) (blocked : Option ℕ) (n : Document) → RunsTo r d last done blocked n → Behind n
    run-ends last done blocked n x = subst Behind (sym x.2) (forces-ends (r.setting d.epoch) r.budget d.lines closed last d.entries done blocked x.0 right x.1 h)

    stop-ends : (last : ℕ) (why : Refusal) (n : Document) → StopsWithin r d last why n → Behind n
    stop-ends last why n x = subst Behind (sym x.1.3) (does-ends (r.setting d.epoch) r.budget d.lines closed last d.entries x.1.0 x.1.1 right x.1.2 h)

    pub step-ends : (s : Step) (a : Answer) (n : Document) → DocumentSteps r d s a n → Behind n
    step-ends (step.Edit c) (Edited version) n x = subst Behind (sym x.2) (ends-replaced (effect_of d.lines c) d.entries h)
    step-ends (step.Edit c) (Refused why) n x = subst Behind (sym x.1) h
    step-ends (step.Setting number) Set n x = subst Behind (sym x.1) (ends-blank (length d.lines))
    step-ends (step.Setting number) (Refused why) n x = subst Behind (sym x.1) h
    step-ends step.Line (Lined turn) n x = subst Behind (sym x.2) (turn-ends (r.setting d.epoch) r.budget d.lines closed d.entries turn x.0 right x.1 h)
    step-ends step.Line (Refused why) n x = subst Behind (sym x.1) h
    step-ends (step.Force line) (Forced done blocked) n x = run-ends line done blocked n x.1
    step-ends (step.Force line) (Refused why) n (inl x) = subst Behind (sym x.2) h
    step-ends (step.Force line) (Refused why) n (inr x) = stop-ends line why n x.1
    step-ends step.Settle (Forced done blocked) n x = run-ends (length d.lines - 1) done blocked n x
    step-ends step.Settle (Refused why) n x = stop-ends (length d.lines - 1) why n x
    step-ends _ _ n x = absurd x

-- Each step on a text keeps what is kept of its lines right.
use Rattle.std.proofs.Common.{◌≡◌, ℕ, zero, suc, ◌+◌, ◌-◌, ◌<◌, ◌≤◌, false, not, List, [], ◌∷◌, ◌++◌, length, take, drop, Option, Some, None, refl, sym, ap, ◌∙◌, subst, inl, inr, arith}
use Rattle.std.specs.Prelude.{slice_get}
use Rattle.std.proofs.lemmas.List.Quantifiers.{position-Some}
use Rattle.std.proofs.lemmas.Option.{get_or_from_slice_get}
use Rattle.tm_defs.specs.declared.changes.Change.{Change}
use Rattle.tm_defs.specs.declared.events.Step.{Step}
use Rattle.tm_defs.specs.declared.events.Step.TheVariants as step
use Rattle.tm_defs.specs.declared.events.Turn.{Turn}
use Rattle.tm_defs.specs.declared.events.Turn.TheVariants.{Done, Idle, Blocked}
use Rattle.tm_defs.specs.declared.frames.FrameData.{FrameData}
use Rattle.tm_machine.specs.declared.entries.Entry.{Entry}
use Rattle.tm_machine.specs.Changes.{lines_changed, new_lines, effect_of, spliced}
use Rattle.tm_machine.specs.Entries.{blanks, last_end, replaced, front, AreRight}
use Rattle.tm_machine.specs.Documents.{Rules, Document, Refusal, Answer, Edited, Set, Lined, Forced, Refused, HasRightEntries, RunsTo, StopsWithin, DocumentSteps, edited, reset, new_document}
use Rattle.tm_machine.specs.Turns.{Turns, DoesLines, Rests, Forces, opening}
use Rattle.tm_machine.specs.Places.{IsIn, line_at}
use Rattle.tm_machine.specs.Scratch.{Tokenizing}
use Rattle.tm_machine.proofs.EntrySteps.{AreRight-stored, AreRight-block, AreRight-spliced, AreRight-blank}
use Rattle.tm_machine.proofs.Fronts.{not-true}
use Rattle.tm_machine.proofs.TextLines.{lines_some}

-- the front is not good
pub front-bad : (es : List (Entry (List FrameData))) (i : ℕ) (e : Entry (List FrameData)) → front es ≡ Some i → slice_get es i ≡ Some e → e.good ≡ false
front-bad es i e at there =
    let bad = (position-Some (λ (x : Entry (List FrameData)). not x.good) es i e at).1 in
    not-true e.good (ap (λ (x : Entry (List FrameData)). not x.good) (sym (get_or_from_slice_get es i e e there)) ∙ bad)

module _ (k : Tokenizing) (budget : ℕ) where
  pub AreRight-turn : (lines : List (List ℕ)) (es : List (Entry (List FrameData))) (turn : Turn) (after : List (Entry (List FrameData))) → AreRight k budget opening lines es → Turns k budget lines es turn after → AreRight k budget opening lines after
  AreRight-turn lines es Idle after h d = subst (AreRight k budget opening lines) (sym d.1) h
  AreRight-turn lines es (Done i) after h d = subst (AreRight k budget opening lines) (sym d.3) (AreRight-stored k budget opening lines es i d.0 d.1 h d.2.begins d.2.holds)
  AreRight-turn lines es (Blocked i) after h (inl a) = subst (AreRight k budget opening lines) (sym a.2) h
  AreRight-turn lines es (Blocked i) after h (inr b) =
      subst (AreRight k budget opening lines) (sym b.4) (AreRight-block k budget opening lines es i b.0 b.1 h (λ e there. front-bad es i e b.2.at_front there) b.2.begins b.2.holds b.3)

  -- lines done one after another, and what then ends them
  pub AreRight-does : (lines : List (List ℕ)) (last : ℕ) (es : List (Entry (List FrameData))) (done : List ℕ) (after : List (Entry (List FrameData))) → AreRight k budget opening lines es → DoesLines k budget lines last es done after → AreRight k budget opening lines after
  AreRight-does lines last es [] after h d = subst (AreRight k budget opening lines) (sym d) h
  AreRight-does lines last es (i ∷ done) after h d = AreRight-does lines last d.1.0 done after (AreRight-turn lines es (Done i) d.1.0 h d.1.1) d.1.2

  AreRight-rests : (lines : List (List ℕ)) (last : ℕ) (es : List (Entry (List FrameData))) (blocked : Option ℕ) (after : List (Entry (List FrameData))) → AreRight k budget opening lines es → Rests k budget lines last es blocked after → AreRight k budget opening lines after
  AreRight-rests lines last es None after h d = subst (AreRight k budget opening lines) (sym d.1) h
  AreRight-rests lines last es (Some i) after h d = AreRight-turn lines es (Blocked i) after h d.1

  pub AreRight-forces : (lines : List (List ℕ)) (last : ℕ) (es : List (Entry (List FrameData))) (count : ℕ) (blocked : Option ℕ) (after : List (Entry (List FrameData))) → AreRight k budget opening lines es → Forces k budget lines last es count blocked after → AreRight k budget opening lines after
  AreRight-forces lines last es count blocked after h d = AreRight-rests lines last d.behind blocked after (AreRight-does lines last es d.done d.behind h d.does) d.rests

  some-spliced : (n first old : ℕ) (before : Option (List FrameData)) (news lines : List (List ℕ)) (es : List (Entry (List FrameData))) → length news ≡ n → 0 < n → first + suc old ≤ length lines → AreRight k budget before lines es →
      AreRight k budget before (spliced first (suc old) news lines) (spliced first (suc old) (blanks n (last_end None (take (suc old) (drop first es)))) es)
  some-spliced zero first old before news lines es l some w h = absurd (omega arith)
  some-spliced (suc n) first old before news lines es l some w h = AreRight-spliced k budget first old n before news lines es l w h

  -- a change
  pub AreRight-replaced : (lines : List (List ℕ)) (es : List (Entry (List FrameData))) (c : Change) → IsIn lines c → AreRight k budget opening lines es → AreRight k budget opening (lines_changed lines c) (replaced (effect_of lines c) es)
  AreRight-replaced lines es c within h =
      some-spliced (length (new_lines lines c)) c.from_line (c.to_line - c.from_line) opening (new_lines lines c) lines es refl
      (lines_some false (take c.from_col (line_at lines c.from_line) ++ (c.text ++ drop c.to_col (line_at lines c.to_line))))
      (omega (arith, within.first, within.last, within.lines_in_order)) h

module _ (r : Rules) where
  pub right-edited : (d : Document) (c : Change) → IsIn d.lines c → HasRightEntries r d → HasRightEntries r (edited d c)
  right-edited d c within h = AreRight-replaced (r.setting d.epoch) r.budget d.lines d.entries c within h

  pub right-reset : (d : Document) (number : ℕ) → HasRightEntries r (reset d number)
  right-reset d number = AreRight-blank (r.setting number) r.budget opening d.lines

  pub right-new : (lines : List (List ℕ)) → HasRightEntries r (new_document lines)
  right-new lines = AreRight-blank (r.setting 0) r.budget opening lines

  runs-to-right : (d : Document) (last done : ℕ) (blocked : Option ℕ) (n : Document) → HasRightEntries r d → RunsTo r d last done blocked n → HasRightEntries r n
  runs-to-right d last done blocked n h x = subst (HasRightEntries r) (sym x.2) (AreRight-forces (r.setting d.epoch) r.budget d.lines last d.entries done blocked x.0 h x.1)

  stops-right : (d : Document) (last : ℕ) (why : Refusal) (n : Document) → HasRightEntries r d → StopsWithin r d last why n → HasRightEntries r n
  stops-right d last why n h x = subst (HasRightEntries r) (sym x.1.3) (AreRight-does (r.setting d.epoch) r.budget d.lines last d.entries x.1.0 x.1.1 h x.1.2)

  -- each step on a text keeps what is kept of its lines right
  pub right-step : (d : Document) (s : Step) (a : Answer) (n : Document) → HasRightEntries r d → DocumentSteps r d s a n → HasRightEntries r n
  right-step d (step.Edit c) (Edited version) n h x = subst (HasRightEntries r) (sym x.2) (right-edited d c x.0.within h)
  right-step d (step.Edit c) (Refused why) n h x = subst (HasRightEntries r) (sym x.1) h
  right-step d (step.Setting number) Set n h x = subst (HasRightEntries r) (sym x.1) (right-reset d number)
  right-step d (step.Setting number) (Refused why) n h x = subst (HasRightEntries r) (sym x.1) h
  right-step d step.Line (Lined turn) n h x = subst (HasRightEntries r) (sym x.2) (AreRight-turn (r.setting d.epoch) r.budget d.lines d.entries turn x.0 h x.1)
  right-step d step.Line (Refused why) n h x = subst (HasRightEntries r) (sym x.1) h
  right-step d (step.Force line) (Forced done blocked) n h x = runs-to-right d line done blocked n h x.1
  right-step d (step.Force line) (Refused why) n h (inl x) = subst (HasRightEntries r) (sym x.2) h
  right-step d (step.Force line) (Refused why) n h (inr x) = stops-right d line why n h x.1
  right-step d step.Settle (Forced done blocked) n h x = runs-to-right d (length d.lines - 1) done blocked n h x
  right-step d step.Settle (Refused why) n h x = stops-right d (length d.lines - 1) why n h x
  right-step d _ _ n h x = absurd x

-- A change of a settled text and a settle behind it do exactly the work of the change.
use Rattle.std.proofs.Common.{◌≡◌, ℕ, zero, suc, ◌+◌, ◌-◌, ◌<◌, ◌≤◌, Bool, true, false, cond, List, [], ◌∷◌, ◌++◌, length, take, drop, Option, Some, None, refl, sym, ap, ap₂, ◌∙◌, subst, arith}
use Rattle.std.specs.Prelude.{if◌then◌else◌, slice_get}
use Rattle.std.specs.List.{list_all}
use Rattle.std.proofs.lemmas.Bool.{and_parts}
use Rattle.std.proofs.lemmas.List.{take_all}
use Rattle.tm_defs.specs.declared.changes.Change.{Change}
use Rattle.tm_defs.specs.declared.events.Turn.TheVariants.{Done}
use Rattle.tm_defs.specs.declared.frames.FrameData.{FrameData}
use Rattle.tm_machine.specs.declared.entries.Entry.{Entry}
use Rattle.tm_machine.specs.Changes.{spliced, new_lines}
use Rattle.tm_machine.specs.Documents.{Rules, Document, HasRightEntries, RunsTo, edited}
use Rattle.tm_machine.specs.Entries.{blank, blanks, first_invalid, front, is_end, is_settled, last_end, start_at, stored, IsRight, AreRight}
use Rattle.tm_machine.specs.Places.{IsIn, line_at}
use Rattle.tm_machine.specs.Scratch.{Tokenizing, state_from}
use Rattle.tm_machine.specs.States.{same_state}
use Rattle.tm_machine.specs.Turns.{DoesLines, Forces, opening}
use Rattle.tm_machine.specs.Work.{differing, work}
use Rattle.tm_machine.proofs.EntrySteps.{length-right, right-drop}
use Rattle.tm_machine.proofs.Fronts.{front-facts, front-behind, good-each}
use Rattle.tm_machine.proofs.RightRuns.{AreRight-turn, AreRight-does, right-edited}
use Rattle.tm_machine.proofs.SameStates.{IsSame-state}
use Rattle.tm_machine.proofs.TextLines.{lines_some}

abbrev unless : Bool → List (Entry (List FrameData)) → List (Entry (List FrameData))
unless same es = cond same es (first_invalid es)

-- how many lines are still to do
abbrev todo : Tokenizing → List FrameData → List (List ℕ) → List (Entry (List FrameData)) → ℕ
todo k s [] es = 0
todo k s (l ∷ ls) [] = 0
todo k s (l ∷ ls) (e ∷ es) = if e.good then todo k (k.tokenized s l).end ls es else suc (todo k (k.tokenized s l).end ls (unless (is_end e.end (k.tokenized s l).end) es))

-- the front of a longer list
front-head : (e : Entry (List FrameData)) (es : List (Entry (List FrameData))) → front (e ∷ es) ≡ Some 0 → e.good ≡ false
front-head e es at = (front-facts (e ∷ es) 0 (blank None) at).1

front-passed : (e : Entry (List FrameData)) (es : List (Entry (List FrameData))) (i : ℕ) → front (e ∷ es) ≡ Some (suc i) → e.good ≡ true
front-passed e es i at = (front-facts (e ∷ es) (suc i) (blank None) at).2 0 (omega arith)

front-tail : (e : Entry (List FrameData)) (es : List (Entry (List FrameData))) (i : ℕ) → front (e ∷ es) ≡ Some (suc i) → front es ≡ Some i
front-tail e es i at =
    let p = front-facts (e ∷ es) (suc i) (blank None) at in
    front-behind es i (blank None) (omega (arith, p.0)) (good-each i es (blank None) (λ j lt. p.2 (suc j) (omega arith))) p.1

start-tail : (s : List FrameData) (e : Entry (List FrameData)) (es : List (Entry (List FrameData))) (i : ℕ) (d : List FrameData) → start_at (Some s) (e ∷ es) (suc i) ≡ Some d → start_at e.end es i ≡ Some d
start-tail s e es zero d h = h
start-tail s e es (suc i) d h = h

module _ (k : Tokenizing) (budget : ℕ) where
  -- the end of a good entry
  good-end : (s : List FrameData) (l : List ℕ) (e : Entry (List FrameData)) → IsRight k budget (Some s) l e → e.good ≡ true → e.end ≡ Some (k.tokenized s l).end
  good-end s l e h g =
      let d = h.good g in
      let same : d.0 ≡ s = cc in
      d.2.end ∙ ap (λ y. Some (k.tokenized y l).end) same

  -- each line done is one less
  done-one : (s : List FrameData) (lines : List (List ℕ)) (es : List (Entry (List FrameData))) (i : ℕ) (d : List FrameData) (line : List ℕ) → AreRight k budget (Some s) lines es → front es ≡ Some i → start_at (Some s) es i ≡ Some d → slice_get lines i ≡ Some line →
      todo k s lines es ≡ suc (todo k s lines (stored es i (k.tokenized d line)))
  done-one s [] es i d line h f st at = absurd (cc)
  done-one s (l ∷ lines) [] i d line h f st at = absurd h
  done-one s (l ∷ lines) (e ∷ es) zero d line h f st at =
      let bad = front-head e es f in
      let same : s ≡ d = cc in
      let same_line : l ≡ line = cc in
      rw bad (ap₂ (λ x y. suc (todo k (k.tokenized s l).end lines (unless (is_end e.end (k.tokenized x y).end) es))) same same_line)
  done-one s (l ∷ lines) (e ∷ es) (suc i) d line h f st at =
      let good = front-passed e es i f in
      let end = good-end s l e h.0 good in
      let ih = done-one (k.tokenized s l).end lines es i d line (subst (λ y. AreRight k budget y lines es) end h.1) (front-tail e es i f) (subst (λ y. start_at y es i ≡ Some d) end (start-tail s e es i d st)) at in
      rw good ih

  -- settled entries have nothing to do
  settled-none : (s : List FrameData) (lines : List (List ℕ)) (es : List (Entry (List FrameData))) → is_settled es ≡ true → todo k s lines es ≡ 0
  settled-none s [] es h = refl
  settled-none s (l ∷ lines) [] h = refl
  settled-none s (l ∷ lines) (e ∷ es) h = let p = and_parts e.good (is_settled es) h in let g = p.0 in rw g (settled-none (k.tokenized s l).end lines es p.1)

  -- what was settled from a, from b
  todo-differing : (a b : List FrameData) (lines : List (List ℕ)) (es : List (Entry (List FrameData))) → AreRight k budget (Some a) lines es → is_settled es ≡ true → todo k b lines (unless (same_state a b) es) ≡ differing k a b lines
  todo-differing a b [] es h t = refl
  todo-differing a b (l ∷ lines) [] h t = absurd h
  todo-differing a b (l ∷ lines) (e ∷ es) h t = go (same_state a b) refl (todo-differing (k.tokenized a l).end (k.tokenized b l).end lines es (subst (λ y. AreRight k budget y lines es) end h.1) p.1)
    where
      p : (e.good ≡ true) × (is_settled es ≡ true)
      p = and_parts e.good (is_settled es) t

      end : e.end ≡ Some (k.tokenized a l).end
      end = good-end a l e h.0 p.0

      go : (g : Bool) → same_state a b ≡ g → todo k (k.tokenized b l).end lines (unless (same_state (k.tokenized a l).end (k.tokenized b l).end) es) ≡ differing k (k.tokenized a l).end (k.tokenized b l).end lines → todo k b (l ∷ lines) (unless (same_state a b) (e ∷ es)) ≡ differing k a b (l ∷ lines)
      go true g ih =
          let same = IsSame-state.equal a b g in
          let good = p.0 in
          let alike : same_state (k.tokenized a l).end (k.tokenized b l).end ≡ true = ap (λ x. same_state (k.tokenized a l).end (k.tokenized x l).end) (sym same) ∙ IsSame-state.self (k.tokenized a l).end in
          rw (g, good) (subst (λ x. todo k (k.tokenized b l).end lines (unless x es) ≡ differing k (k.tokenized a l).end (k.tokenized b l).end lines) alike ih)
      go false g ih = rw (g, end) (ap suc ih)

  invalid-blanks : (n : ℕ) (end : Option (List FrameData)) (es : List (Entry (List FrameData))) → first_invalid (blanks (suc n) end ++ es) ≡ blanks (suc n) end ++ es
  invalid-blanks zero end es = refl
  invalid-blanks (suc n) end es = refl

  todo-blanks : (n : ℕ) (s a : List FrameData) (news lines : List (List ℕ)) (es : List (Entry (List FrameData))) → length news ≡ suc n →
      todo k s (news ++ lines) (blanks (suc n) (Some a) ++ es) ≡ suc n + todo k (state_from k s news (length news)) lines (unless (same_state a (state_from k s news (length news))) es)
  todo-blanks n s a [] lines es l = absurd (omega arith)
  todo-blanks zero s a (x ∷ []) lines es l = omega arith
  todo-blanks zero s a (x ∷ (y ∷ news)) lines es l = absurd (omega arith)
  todo-blanks (suc n) s a (x ∷ news) lines es l =
      let ih = todo-blanks n (k.tokenized s x).end a news lines es (omega arith) in
      ap (λ fs. suc (todo k (k.tokenized s x).end (news ++ lines) fs)) (invalid-blanks n (Some a) es) ∙ ap suc ih ∙ omega arith

  last-settled : (n : ℕ) (s : List FrameData) (lines : List (List ℕ)) (es : List (Entry (List FrameData))) → AreRight k budget (Some s) lines es → is_settled es ≡ true → last_end (Some s) (take n es) ≡ Some (state_from k s lines n)
  last-settled zero s lines es h t = refl
  last-settled (suc n) s [] [] h t = refl
  last-settled (suc n) s [] (e ∷ es) h t = absurd h
  last-settled (suc n) s (l ∷ lines) [] h t = absurd h
  last-settled (suc n) s (l ∷ lines) (e ∷ es) h t =
      let p = and_parts e.good (is_settled es) t in
      let end = good-end s l e h.0 p.0 in
      ap (λ o. last_end o (take n es)) end ∙ last-settled n (k.tokenized s l).end lines es (subst (λ y. AreRight k budget y lines es) end h.1) p.1

  settled-drop : (n : ℕ) (es : List (Entry (List FrameData))) → is_settled es ≡ true → is_settled (drop n es) ≡ true
  settled-drop zero es t = t
  settled-drop (suc n) [] t = t
  settled-drop (suc n) (e ∷ es) t = settled-drop n es (and_parts e.good (is_settled es) t).1

  -- at the changed range
  todo-here : (old n : ℕ) (s : List FrameData) (news lines : List (List ℕ)) (es : List (Entry (List FrameData))) → length news ≡ suc n → suc old ≤ length lines → AreRight k budget (Some s) lines es → is_settled es ≡ true →
      todo k s (news ++ drop (suc old) lines) (blanks (suc n) (last_end None (take (suc old) es)) ++ drop (suc old) es) ≡ suc n + differing k (state_from k s lines (suc old)) (state_from k s news (length news)) (drop (suc old) lines)
  todo-here old n s news [] es l w h t = absurd (omega arith)
  todo-here old n s news (x ∷ lines) [] l w h t = absurd h
  todo-here old n s news (x ∷ lines) (e ∷ es) l w h t =
      let p = and_parts e.good (is_settled es) t in
      let end = good-end s x e h.0 p.0 in
      let right = subst (λ y. AreRight k budget y lines es) end h.1 in
      let settled = last-settled old (k.tokenized s x).end lines es right p.1 in
      let a = state_from k (k.tokenized s x).end lines old in
      let last : last_end e.end (take old es) ≡ Some a = ap (λ o. last_end o (take old es)) end ∙ settled in
      let rest : AreRight k budget (Some a) (drop old lines) (drop old es) = subst (λ y. AreRight k budget y (drop old lines) (drop old es)) settled (right-drop k budget old (Some (k.tokenized s x).end) lines es right) in
      ap (λ o. todo k s (news ++ drop old lines) (blanks (suc n) o ++ drop old es)) last
      ∙ todo-blanks n s a news (drop old lines) (drop old es) l
      ∙ ap (λ m. suc n + m) (todo-differing a (state_from k s news (length news)) (drop old lines) (drop old es) rest (settled-drop old es p.1))

  todo-spliced : (first old n : ℕ) (s : List FrameData) (news lines : List (List ℕ)) (es : List (Entry (List FrameData))) → length news ≡ suc n → first + suc old ≤ length lines → AreRight k budget (Some s) lines es → is_settled es ≡ true →
      todo k s (spliced first (suc old) news lines) (spliced first (suc old) (blanks (suc n) (last_end None (take (suc old) (drop first es)))) es)
      ≡ suc n + differing k (state_from k (state_from k s lines first) (drop first lines) (suc old)) (state_from k (state_from k s lines first) news (length news)) (drop (suc old) (drop first lines))
  todo-spliced zero old n s news lines es l w h t = todo-here old n s news lines es l (omega arith) h t
  todo-spliced (suc first) old n s news [] es l w h t = absurd (omega arith)
  todo-spliced (suc first) old n s news (x ∷ lines) [] l w h t = absurd h
  todo-spliced (suc first) old n s news (x ∷ lines) (e ∷ es) l w h t =
      let p = and_parts e.good (is_settled es) t in
      let g = p.0 in
      let end = good-end s x e h.0 p.0 in
      rw g (todo-spliced first old n (k.tokenized s x).end news lines es l (omega arith) (subst (λ y. AreRight k budget y lines es) end h.1) p.1)

  some-spliced : (first old m : ℕ) (news lines : List (List ℕ)) (es : List (Entry (List FrameData))) → length news ≡ m → 0 < m → first + suc old ≤ length lines → AreRight k budget opening lines es → is_settled es ≡ true →
      todo k [] (spliced first (suc old) news lines) (spliced first (suc old) (blanks m (last_end None (take (suc old) (drop first es)))) es)
      ≡ m + differing k (state_from k (state_from k [] lines first) (drop first lines) (suc old)) (state_from k (state_from k [] lines first) news (length news)) (drop (suc old) (drop first lines))
  some-spliced first old zero news lines es l some w h t = absurd (omega arith)
  some-spliced first old (suc n) news lines es l some w h t = todo-spliced first old n [] news lines es l w h t

  -- lines that are done are so many less
  does-todo : (lines : List (List ℕ)) (last : ℕ) (es : List (Entry (List FrameData))) (done : List ℕ) (after : List (Entry (List FrameData))) → AreRight k budget opening lines es → DoesLines k budget lines last es done after → todo k [] lines es ≡ length done + todo k [] lines after
  does-todo lines last es [] after h d = let same = ap (λ xs. todo k [] lines xs) d in omega (arith, same)
  does-todo lines last es (i ∷ done) after h d =
      let t = d.1.1 in
      let one = done-one [] lines es i t.0 t.1 h t.2.at_front t.2.begins t.2.holds in
      let same = ap (λ xs. todo k [] lines xs) t.3 in
      let rest = does-todo lines last d.1.0 done after (AreRight-turn k budget lines es (Done i) d.1.0 h t) d.1.2 in
      omega (arith, one, same, rest)

  -- a run to the last line that blocks none does exactly what is to do
  forced-todo : (lines : List (List ℕ)) (last : ℕ) (es : List (Entry (List FrameData))) (count : ℕ) (after : List (Entry (List FrameData))) → length lines ≤ suc last → AreRight k budget opening lines es → Forces k budget lines last es count None after → count ≡ todo k [] lines es
  forced-todo lines last es count after l h f =
      let beside = length-right k budget opening lines f.behind (AreRight-does k budget lines last es f.done f.behind h f.does) in
      let settled : is_settled f.behind ≡ true = ap (list_all (λ (e : Entry (List FrameData)). e.good)) (sym (take_all (last + 1) f.behind (omega (arith, beside)))) ∙ f.rests.0 in
      let none = settled-none [] lines f.behind settled in
      let does = does-todo lines last es f.done f.behind h f.does in
      omega (arith, f.counts, none, does)

pub work-exact : (r : Rules) (d : Document) (c : Change) (n : ℕ) (after : Document) → HasRightEntries r d → is_settled d.entries ≡ true → IsIn d.lines c → RunsTo r (edited d c) (length (edited d c).lines - 1) n None after → n ≡ work (r.setting d.epoch) d.lines c
work-exact r d c n after h t i x =
    let k = r.setting d.epoch in
    forced-todo k r.budget (edited d c).lines (length (edited d c).lines - 1) (edited d c).entries n x.0 (omega arith) (right-edited r d c i h) x.1
    ∙ some-spliced k r.budget c.from_line (c.to_line - c.from_line) (length (new_lines d.lines c)) (new_lines d.lines c) d.lines d.entries refl
    (lines_some false (take c.from_col (line_at d.lines c.from_line) ++ (c.text ++ drop c.to_col (line_at d.lines c.to_line)))) (omega (arith, i.first, i.last, i.lines_in_order)) h t

-- A run that is being made, line by line, and the runs of a range.
use Rattle.std.proofs.Common.{◌≡◌, ℕ, zero, suc, ◌+◌, ◌-◌, ◌<◌, ◌≤◌, true, false, List, [], ◌∷◌, ◌++◌, length, Option, Some, None, refl, sym, ap, ap₂, ◌∙◌, arith, subst, append_assoc, append-nil}
use Rattle.std.specs.Prelude.{slice_get}
use Rattle.std.specs.Arc.{arc_value}
use Rattle.tm_defs.specs.declared.frames.FrameData.{FrameData}
use Rattle.tm_defs.specs.declared.frames.StateId.{StateId}
use Rattle.tm_defs.specs.Tables.{Tables, state_at}
use Rattle.tm_defs.specs.Tokenizer.{Tokenized}
use Rattle.tm_machine.specs.declared.entries.Entry.{Entry}
use Rattle.tm_machine.specs.Accepts.{good_at}
use Rattle.tm_machine.specs.Entries.{end_at, start_at, AreRight}
use Rattle.tm_machine.specs.Scratch.{Tokenizing}
use Rattle.tm_machine.specs.Turns.{opening}
use Rattle.tm_machine.proofs.KnownEnds.{some_inj}
use Rattle.tm_rebase.specs.Batches.{Placed, applied, items_of_runs, placed_from}
use Rattle.tm_rebase.specs.Right.{AreRightItems, IsRightItem}
use Rattle.tm_rebase.specs.declared.batches.Item.{Item}
use Rattle.tm_rebase.specs.declared.batches.Run.{Run}
use Rattle.tm_worker.specs.Posted.{placed_if}
use Rattle.tm_worker.specs.inner.Segments.{segment, state_behind}
use Rattle.tm_worker.proofs.RunItems.{behind-snoc, good-there, placed-snoc, right-at, right-snoc, runs-snoc}
use Rattle.tm_worker.proofs.Segments.{get-there, segment-none, segment-step}

pub record RunSoFar (tok : List FrameData → List ℕ → Tokenized) (lines : List (List ℕ)) (es : List (Entry (List FrameData))) (t : Tables) (first end at : ℕ) (s : List FrameData) (xs : List Item) (state : StateId) : Type 0 where
  pub items : placed_from first s xs ++ segment lines es at end ≡ segment lines es first end
  pub behind : state_behind s xs ≡ state_at t state
  pub right : AreRightItems tok s xs

module _ (tok : List FrameData → List ℕ → Tokenized) (lines : List (List ℕ)) (es : List (Entry (List FrameData))) (t : Tables) (first end : ℕ) where
  pub run-begins : (s : List FrameData) (state : StateId) → start_at opening es first ≡ Some (state_at t state) → start_at opening es first ≡ Some s → RunSoFar tok lines es t first end first s [] state
  run-begins s state begins is = record { items = refl; behind = some_inj (sym is ∙ begins); right = tt }

  -- the run with a state that is the same
  pub run-as : (at : ℕ) (s z : List FrameData) (items : List Item) (state : StateId) → z ≡ s → RunSoFar tok lines es t first end at s items state → RunSoFar tok lines es t first end at z items state
  run-as at s z items state same h = subst (λ x. RunSoFar tok lines es t first end at x items state) (sym same) h

-- what is to be posted of a good line
pub good-segment : (k : Tokenizing) (budget : ℕ) (lines : List (List ℕ)) (es : List (Entry (List FrameData))) → AreRight k budget opening lines es → (at end : ℕ) → at < end → end ≤ length lines → length es ≡ length lines → good_at es at ≡ true →
    (s z : List FrameData) (x : Item) → start_at opening es at ≡ Some s → end_at es at ≡ Some z → slice_get lines at ≡ Some (arc_value x.line) → x.tokens ≡ (k.tokenized s (arc_value x.line)).tokens → applied s x.delta ≡ z →
    segment lines es at end ≡ placed_from at s (x ∷ []) ++ segment lines es (suc at) end
good-segment k budget lines es right at end lt le beside good s z x begins ends there tokens leads =
    let e = get-there es at (omega (arith, lt, le, beside)) in
    let is_good : e.0.good ≡ true = sym (good-there es at e.0 e.1) ∙ good in
    let held = (right-at k budget opening lines es at (arc_value x.line) e.0 right there e.1).good is_good in
    let same : held.0 ≡ s = some_inj (sym held.1 ∙ begins) in
    let tokens_are : e.0.tokens ≡ Some x.tokens = held.2.tokens ∙ ap (λ y. Some (k.tokenized y (arc_value x.line)).tokens) same ∙ ap Some (sym tokens) in
    let end_is : e.0.end ≡ Some z = sym (ap (λ o. go o) e.1) ∙ ends in
    segment-step lines es at end (arc_value x.line) e.0 lt there e.1
    ∙ ap (λ xs. xs ++ segment lines es (suc at) end)
    (ap (λ b. placed_if b at (arc_value x.line) (start_at opening es at) e.0.tokens e.0.end) is_good
    ∙ ap (λ o. placed_if true at (arc_value x.line) o e.0.tokens e.0.end) begins
    ∙ ap₂ (λ o p. placed_if true at (arc_value x.line) (Some s) o p) tokens_are end_is
    ∙ ap (λ y. record { place = at; made = record { line = arc_value x.line; start = s; tokens = x.tokens; end = y } } ∷ []) (sym leads))
  where
    go : Option (Entry (List FrameData)) → Option (List FrameData)
    go None = None
    go (Some e) = e.end

-- and of one that is not
pub bad-segment : (lines : List (List ℕ)) (es : List (Entry (List FrameData))) (at end : ℕ) → at < end → end ≤ length lines → length es ≡ length lines → good_at es at ≡ false → segment lines es at end ≡ segment lines es (suc at) end
bad-segment lines es at end lt le beside bad =
    let e = get-there es at (omega (arith, lt, le, beside)) in
    let line = get-there lines at (omega (arith, lt, le)) in
    let is_bad : e.0.good ≡ false = sym (good-there es at e.0 e.1) ∙ bad in
    segment-step lines es at end line.0 e.0 lt line.1 e.1 ∙ ap (λ b. placed_if b at line.0 (start_at opening es at) e.0.tokens e.0.end ++ segment lines es (suc at) end) is_bad

-- one line more
pub run-next : (k : Tokenizing) (budget : ℕ) (lines : List (List ℕ)) (es : List (Entry (List FrameData))) (t : Tables) (first end at next : ℕ) → AreRight k budget opening lines es → at < end → end ≤ length lines → length es ≡ length lines → good_at es at ≡ true →
    (s : List FrameData) (items more : List Item) (state behind : StateId) (x : Item) → next ≡ suc at → at ≡ first + length items → more ≡ items ++ x ∷ [] → start_at opening es at ≡ Some (state_at t state) → end_at es at ≡ Some (state_at t behind) →
    slice_get lines at ≡ Some (arc_value x.line) → IsRightItem k.tokenized (state_at t state) x → applied (state_at t state) x.delta ≡ state_at t behind →
    RunSoFar k.tokenized lines es t first end at s items state → RunSoFar k.tokenized lines es t first end next s more behind
run-next k budget lines es t first end at next right lt le beside good s items more state behind x is count pushed begins ends there item leads h =
    let P : ℕ → Type 0 = λ n. RunSoFar k.tokenized lines es t first end n s more behind in
    let Q : List Item → Type 0 = λ xs. RunSoFar k.tokenized lines es t first end (suc at) s xs behind in
    subst P (sym is) (subst Q (sym pushed) (record {
      items =
          ap (λ xs. xs ++ segment lines es (suc at) end) (placed-snoc first s items x)
          ∙ append_assoc (placed_from first s items) (placed_from (first + length items) (state_behind s items) (x ∷ [])) (segment lines es (suc at) end)
          ∙ ap (λ xs. placed_from first s items ++ xs)
          (ap₂ (λ n z. placed_from n z (x ∷ []) ++ segment lines es (suc at) end) (sym count) h.behind
          ∙ sym (good-segment k budget lines es right at end lt le beside good (state_at t state) (state_at t behind) x begins ends there item.tokens leads))
          ∙ h.items;
      behind = behind-snoc s items x ∙ ap (λ z. applied z x.delta) h.behind ∙ leads;
      right = right-snoc k.tokenized s items x h.right (subst (λ z. IsRightItem k.tokenized z x) (sym h.behind) item);
    }))

module _ (lines : List (List ℕ)) (es : List (Entry (List FrameData))) (end : ℕ) (le : end ≤ length lines) (beside : length es ≡ length lines) where
  -- behind a run there is a line that is not good, or the end
  stop-segment : (at : ℕ) → at ≤ end → (at < end → good_at es at ≡ false) → segment lines es at end ≡ segment lines es (suc at) end
  stop-segment at within stops = go (end - at) refl
    where
      go : (n : ℕ) → end - at ≡ n → segment lines es at end ≡ segment lines es (suc at) end
      go zero e = segment-none lines es at end (omega (arith, e)) ∙ sym (segment-none lines es (suc at) end (omega (arith, e)))
      go (suc n) e = let lt : at < end = omega (arith, e) in bad-segment lines es at end lt le beside (stops lt)

  -- a run more
  pub runs-next : (runs more : List Run) (run : Run) (at next : ℕ) → more ≡ runs ++ run ∷ [] → run.first ≡ at → next ≡ suc (at + length run.items) → at + length run.items ≤ end →
      placed_from at run.start run.items ++ segment lines es (at + length run.items) end ≡ segment lines es at end → (at + length run.items < end → good_at es (at + length run.items) ≡ false) →
      items_of_runs more ++ segment lines es next end ≡ items_of_runs runs ++ segment lines es at end
  runs-next runs more run at next pushed first is within items stops =
      ap₂ (λ xs n. items_of_runs xs ++ segment lines es n end) pushed is
      ∙ ap (λ xs. xs ++ segment lines es (suc (at + length run.items)) end) (runs-snoc runs run ∙ ap (λ n. items_of_runs runs ++ placed_from n run.start run.items) first)
      ∙ append_assoc (items_of_runs runs) (placed_from at run.start run.items) (segment lines es (suc (at + length run.items)) end)
      ∙ ap (λ xs. items_of_runs runs ++ xs) (ap (λ xs. placed_from at run.start run.items ++ xs) (sym (stop-segment (at + length run.items) within stops)) ∙ items)

  -- a line that is not good
  pub runs-skip : (runs : List Run) (at next : ℕ) → at < end → next ≡ at + 1 → good_at es at ≡ false → items_of_runs runs ++ segment lines es next end ≡ items_of_runs runs ++ segment lines es at end
  runs-skip runs at next lt is bad =
      let one : next ≡ suc at = omega (arith, is) in
      ap (λ xs. items_of_runs runs ++ xs) (ap (λ n. segment lines es n end) one ∙ sym (bad-segment lines es at end lt le beside bad))

  pub runs-end : (runs : List Run) (at : ℕ) (whole : List (Placed (List FrameData))) → end ≤ at → items_of_runs runs ++ segment lines es at end ≡ whole → items_of_runs runs ≡ whole
  runs-end runs at whole past h = sym (append-nil (items_of_runs runs)) ∙ ap (λ xs. items_of_runs runs ++ xs) (sym (segment-none lines es at end past)) ∙ h

-- a good line has a start
pub start-there : (k : Tokenizing) (budget : ℕ) (lines : List (List ℕ)) (es : List (Entry (List FrameData))) (i : ℕ) → AreRight k budget opening lines es → i < length lines → length es ≡ length lines → good_at es i ≡ true → start_at opening es i ≡ None → ⊥
start-there k budget lines es i right lt beside good none =
    let e = get-there es i (omega (arith, lt, beside)) in
    let line = get-there lines i lt in
    let is_good : e.0.good ≡ true = sym (good-there es i e.0 e.1) ∙ good in
    let begins = ((right-at k budget opening lines es i line.0 e.0 right line.1 e.1).good is_good).1 in
    cc

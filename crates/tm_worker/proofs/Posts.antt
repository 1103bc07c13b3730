-- What a worker posts, range by range, and that it is right.
use Rattle.std.proofs.Common.{◌≡◌, ℕ, suc, ◌+◌, ◌-◌, ◌<◌, ◌≤◌, Bool, List, [], ◌∷◌, ◌++◌, length, drop, get_or, Some, refl, sym, ap, ◌∙◌, arith, subst, append_assoc, append-nil, length-append}
use Rattle.std.specs.Prelude.{slice_get, map, ◌^◌}
use Rattle.std.specs.List.{AllByRecursion}
use Rattle.std.specs.Option.{option_map}
use Rattle.std.proofs.lemmas.List.{get_or_default}
use Rattle.std.proofs.lemmas.Option.{slice_get-map}
use Rattle.tm_defs.specs.declared.frames.FrameData.{FrameData}
use Rattle.tm_defs.specs.Tables.{TableEntries}
use Rattle.tm_defs.specs.Tokenizer.{Tokenized}
use Rattle.tm_document.specs.Held.{Held, setting_now}
use Rattle.tm_machine.specs.declared.entries.Entry.{Entry}
use Rattle.tm_machine.specs.Settings.{tokenizing_of}
use Rattle.tm_machine.specs.Turns.{opening}
use Rattle.tm_rebase.specs.Batches.{Placed, Posted, applied, count_of_items, items_of_runs, placed_from}
use Rattle.tm_rebase.specs.Right.{IsRightBatch, IsRightRun}
use Rattle.tm_rebase.specs.declared.batches.Item.{Item}
use Rattle.tm_rebase.specs.declared.batches.Run.{Run}
use Rattle.tm_store.specs.declared.spans.Span.{Span}
use Rattle.tm_store.specs.Spans.{AreFrom}
use Rattle.tm_worker.specs.Fresh.{covers, marks_of, tests_from}
use Rattle.tm_worker.specs.Posted.{AreApart, IsPosted, fresh_placed, items_to_post}
use Rattle.tm_worker.specs.Working.{Working}
use Rattle.tm_worker.specs.inner.Segments.{AreUpTo, segment, segments}
use Rattle.tm_worker.proofs.FreshSteps.{drop-read}
use Rattle.tm_worker.proofs.Ranges.{AreBelow}
use Rattle.tm_worker.proofs.RunItems.{upto-count}
use Rattle.tm_worker.proofs.Segments.{drop-past, get-there, segments-from}

-- ranges that are still to be posted, behind runs that end below them
pub record SpansLeft (n : ℕ) (runs : List Run) (spans : List Span) : Type 0 where
  pub behind : ℕ
  pub upto : AreUpTo 0 runs behind
  pub apart : AreFrom behind spans
  pub within : behind ≤ suc n
  pub below : AreBelow n spans

module _ (lines : List (List ℕ)) (es : List (Entry (List FrameData))) where
  -- the runs of one range more
  pub post-next : (spans : List Span) (i : ℕ) (r : Span) (runs more : List Run) (whole : List (Placed (List FrameData))) → drop i spans ≡ r ∷ drop (i + 1) spans → items_of_runs more ≡ items_of_runs runs ++ segment lines es r.first r.end →
      items_of_runs runs ++ segments lines es (drop i spans) ≡ whole → items_of_runs more ++ segments lines es (drop (i + 1) spans) ≡ whole
  post-next spans i r runs more whole there pushed so_far =
      ap (λ xs. xs ++ segments lines es (drop (i + 1) spans)) pushed
      ∙ append_assoc (items_of_runs runs) (segment lines es r.first r.end) (segments lines es (drop (i + 1) spans))
      ∙ ap (λ xs. items_of_runs runs ++ segments lines es xs) (sym there)
      ∙ so_far

  pub post-last : (spans : List Span) (i : ℕ) (runs : List Run) (whole : List (Placed (List FrameData))) → length spans ≤ i → items_of_runs runs ++ segments lines es (drop i spans) ≡ whole → items_of_runs runs ≡ whole
  post-last spans i runs whole le h = sym (append-nil (items_of_runs runs)) ∙ ap (λ xs. items_of_runs runs ++ segments lines es xs) (sym (drop-past spans i le)) ∙ h

  -- all ranges together are all lines
  pub post-whole : (marks : List Bool) (spans : List Span) → length marks ≡ length lines → length es ≡ length lines → marks ≡ marks_of (length marks) spans → AreFrom 0 spans → AreBelow (length marks) spans → segments lines es spans ≡ fresh_placed 0 opening lines es marks
  post-whole marks spans count beside is apart below =
      let n : ℕ = length marks in
      let n0 : n - 0 ≡ n = omega arith in
      sym (segments-from lines es n (sym count) (beside ∙ sym count) spans 0 (omega arith) apart below)
      ∙ ap (λ m. fresh_placed 0 opening lines es (tests_from (covers spans) 0 m)) n0
      ∙ ap (fresh_placed 0 opening lines es) (sym is)

-- the range that a loop comes to
pub left-there : (n : ℕ) (runs : List Run) (spans : List Span) (i : ℕ) (r : Span) → drop i spans ≡ r ∷ drop (i + 1) spans → (h : SpansLeft n runs (drop i spans)) → (h.behind ≤ r.first) × (r.first < r.end) × (r.end ≤ n) × AreFrom (suc r.end) (drop (i + 1) spans) × AreBelow n (drop (i + 1) spans)
left-there n runs spans i r there h =
    let a = subst (AreFrom h.behind) there h.apart in
    let b = subst (AreBelow n) there h.below in
    (a.0, a.1, b.0, a.2, b.1)

pub left-at : (n : ℕ) (runs : List Run) (spans : List Span) (i : ℕ) (d : Span) → i < length spans → (h : SpansLeft n runs (drop i spans)) → h.behind ≤ (get_or spans i d).first
left-at n runs spans i d lt h = (left-there n runs spans i (get_or spans i d) (drop-read spans i (get_or spans i d) lt (get_or_default spans i d (get_or spans i d) lt)) h).0

pub left-next : (n : ℕ) (runs more : List Run) (spans : List Span) (i : ℕ) (r : Span) → drop i spans ≡ r ∷ drop (i + 1) spans → SpansLeft n runs (drop i spans) → AreUpTo 0 more (suc r.end) → SpansLeft n more (drop (i + 1) spans)
left-next n runs more spans i r there h upto =
    let f = left-there n runs spans i r there h in
    record { behind = suc r.end; upto = upto; apart = f.3; within = omega (arith, f.2); below = f.4 }

pub left-few : (n : ℕ) (runs : List Run) (spans : List Span) → n ≤ 16777217 → SpansLeft n runs spans → count_of_items runs < 2 ^ 31
left-few n runs spans few h = let count = upto-count 0 runs h.behind h.upto in omega (arith, count, h.within, few)

module _ {T P : Type 0} (plain : T → P) (tokenized : P → List FrameData → List ℕ → Tokenized) (plain_cost : P → List FrameData → List ℕ → ℕ) (entries_made : P → List FrameData → List ℕ → TableEntries) where
  -- a batch by the setting of the epoch
  pub right-batch : (held : Held T) (epoch version : ℕ) (runs : List Run) → held.epoch < length held.settings → epoch ≡ held.epoch → AllByRecursion (IsRightRun (setting_now plain tokenized plain_cost entries_made held).tokenized) runs → count_of_items runs < 2 ^ 31 →
      IsRightBatch tokenized (map plain held.settings) (record { epoch = epoch; version = version; runs = runs })
  right-batch held epoch version runs there same right few =
      let setting = get-there held.settings held.epoch there in
      let plain_there : slice_get (map plain held.settings) held.epoch ≡ Some (plain setting.0) = slice_get-map plain held.settings held.epoch ∙ ap (option_map plain) setting.1 in
      record {
        setting = plain setting.0;
        is_setting = ap (slice_get (map plain held.settings)) same ∙ plain_there;
        runs = subst (λ o. AllByRecursion (IsRightRun (tokenizing_of tokenized plain_cost entries_made o).tokenized) runs) plain_there right;
        few = few;
      }

length-placed : (i : ℕ) (s : List FrameData) (xs : List Item) → length (placed_from i s xs) ≡ length xs
length-placed i s [] = refl
length-placed i s (x ∷ xs) = ap suc (length-placed (suc i) (applied s x.delta) xs)

-- where there is a run, there is an item
pub some-items : (k : ℕ) (runs : List Run) → AreApart k runs → 0 < length runs → 0 < length (items_of_runs runs)
some-items k [] h lt = absurd (omega (arith, lt))
some-items k (run ∷ runs) h lt =
    let count = length-append (placed_from run.first run.start run.items) (items_of_runs runs) in
    let first = length-placed run.first run.start run.items in
    omega (arith, count, first, h.1)

pub none-items : (runs : List Run) → length runs ≡ 0 → items_of_runs runs ≡ []
none-items [] none = refl
none-items (run ∷ runs) none = absurd (omega (arith, none))

-- a batch of these runs
pub posted-is : {T : Type 0} (w : Working T) (batch : Posted) (runs : List Run) (epoch version : ℕ) → batch ≡ record { epoch = epoch; version = version; runs = runs } → epoch ≡ w.held.epoch → version ≡ w.held.version → items_of_runs runs ≡ items_to_post w → AreApart 0 runs → 0 < length runs → IsPosted w batch
posted-is w batch runs epoch version is same_epoch same_version items apart some =
    subst (IsPosted w) (sym is) (record { epoch = same_epoch; version = same_version; items = items; some = some-items 0 runs apart some; apart = apart })

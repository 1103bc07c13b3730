-- Items of a run, one after another, and runs of a batch.
use Rattle.std.proofs.Common.{◌≡◌, ℕ, zero, suc, ◌+◌, ◌<◌, ◌≤◌, List, [], ◌∷◌, ◌++◌, length, Option, Some, refl, sym, ap, ◌∙◌, arith, subst, append_assoc}
use Rattle.std.specs.Prelude.{slice_get, map}
use Rattle.std.specs.Arc.{arc_value}
use Rattle.std.specs.List.{fold, AllByRecursion}
use Rattle.tm_defs.specs.declared.frames.FrameData.{FrameData}
use Rattle.tm_defs.specs.Tokenizer.{Tokenized}
use Rattle.tm_machine.specs.declared.entries.Entry.{Entry}
use Rattle.tm_machine.specs.Accepts.{good_at}
use Rattle.tm_machine.specs.Entries.{start_at, AreRight, IsRight}
use Rattle.tm_machine.specs.Scratch.{Tokenizing}
use Rattle.tm_rebase.specs.Batches.{Placed, applied, count_of_items, items_of_runs, placed_from}
use Rattle.tm_rebase.specs.Right.{IsRightItem, AreRightItems}
use Rattle.tm_rebase.specs.declared.batches.Item.{Item}
use Rattle.tm_rebase.specs.declared.batches.Run.{Run}
use Rattle.tm_worker.specs.Posted.{AreApart}
use Rattle.tm_worker.specs.inner.Segments.{AreUpTo, state_behind}

pub placed-snoc : (i : ℕ) (s : List FrameData) (xs : List Item) (x : Item) → placed_from i s (xs ++ x ∷ []) ≡ placed_from i s xs ++ placed_from (i + length xs) (state_behind s xs) (x ∷ [])
placed-snoc i s [] x = let z : i ≡ i + 0 = omega arith in ap (λ n. placed_from n s (x ∷ [])) z
placed-snoc i s (y ∷ xs) x =
    let next : suc i + length xs ≡ i + suc (length xs) = omega arith in
    ap (λ zs. record { place = i; made = record { line = arc_value y.line; start = s; tokens = y.tokens; end = applied s y.delta } } ∷ zs)
    (placed-snoc (suc i) (applied s y.delta) xs x ∙ ap (λ n. placed_from (suc i) (applied s y.delta) xs ++ placed_from n (state_behind (applied s y.delta) xs) (x ∷ [])) next)

pub behind-snoc : (s : List FrameData) (xs : List Item) (x : Item) → state_behind s (xs ++ x ∷ []) ≡ applied (state_behind s xs) x.delta
behind-snoc s [] x = refl
behind-snoc s (y ∷ xs) x = behind-snoc (applied s y.delta) xs x

pub right-snoc : (tok : List FrameData → List ℕ → Tokenized) (s : List FrameData) (xs : List Item) (x : Item) → AreRightItems tok s xs → IsRightItem tok (state_behind s xs) x → AreRightItems tok s (xs ++ x ∷ [])
right-snoc tok s [] x h r = (r, tt)
right-snoc tok s (y ∷ xs) x h r = (h.0, right-snoc tok (applied s y.delta) xs x h.1 r)

-- what is known of line i
pub right-at : (k : Tokenizing) (budget : ℕ) (before : Option (List FrameData)) (lines : List (List ℕ)) (es : List (Entry (List FrameData))) (i : ℕ) (line : List ℕ) (e : Entry (List FrameData)) →
    AreRight k budget before lines es → slice_get lines i ≡ Some line → slice_get es i ≡ Some e → IsRight k budget (start_at before es i) line e
right-at k budget before [] es i line e h there at = absurd cc
right-at k budget before (l ∷ lines) [] i line e h there at = absurd h
right-at k budget before (l ∷ lines) (x ∷ es) zero line e h there at =
    let lines_same : l ≡ line = cc in
    let entry_same : x ≡ e = cc in
    subst (λ y. IsRight k budget before line y) entry_same (subst (λ y. IsRight k budget before y x) lines_same h.0)
right-at k budget before (l ∷ lines) (x ∷ es) (suc zero) line e h there at = right-at k budget x.end lines es 0 line e h.1 there at
right-at k budget before (l ∷ lines) (x ∷ es) (suc (suc i)) line e h there at = right-at k budget x.end lines es (suc i) line e h.1 there at

pub good-there : {S : Type 0} (es : List (Entry S)) (i : ℕ) (e : Entry S) → slice_get es i ≡ Some e → good_at es i ≡ e.good
good-there [] i e h = absurd cc
good-there (x ∷ es) zero e h = let same : x ≡ e = cc in ap (λ (y : Entry _). y.good) same
good-there (x ∷ es) (suc i) e h = good-there es i e h

-- one run more
pub runs-snoc : (runs : List Run) (run : Run) → items_of_runs (runs ++ run ∷ []) ≡ items_of_runs runs ++ placed_from run.first run.start run.items
runs-snoc [] run = go (placed_from run.first run.start run.items)
  where
    go : (xs : List (Placed (List FrameData))) → xs ++ [] ≡ xs
    go [] = refl
    go (x ∷ xs) = ap (λ ys. x ∷ ys) (go xs)
runs-snoc (r ∷ runs) run =
    ap (λ xs. placed_from r.first r.start r.items ++ xs) (runs-snoc runs run)
    ∙ sym (append_assoc (placed_from r.first r.start r.items) (items_of_runs runs) (placed_from run.first run.start run.items))

pub upto-more : (k : ℕ) (runs : List Run) (a b : ℕ) → a ≤ b → AreUpTo k runs a → AreUpTo k runs b
upto-more k [] a b le h = omega (arith, le, h)
upto-more k (r ∷ runs) a b le h = (h.0, h.1, upto-more (suc (r.first + length r.items)) runs a b le h.2)

pub upto-snoc : (k : ℕ) (runs : List Run) (run : Run) (a : ℕ) → AreUpTo k runs a → a ≤ run.first → 0 < length run.items → AreUpTo k (runs ++ run ∷ []) (suc (run.first + length run.items))
upto-snoc k [] run a h le some = (omega (arith, le, h), some, omega arith)
upto-snoc k (r ∷ runs) run a h le some = (h.0, h.1, upto-snoc (suc (r.first + length r.items)) runs run a h.2 le some)

pub upto-apart : (k : ℕ) (runs : List Run) (a : ℕ) → AreUpTo k runs a → AreApart k runs
upto-apart k [] a h = tt
upto-apart k (r ∷ runs) a h = (h.0, h.1, upto-apart (suc (r.first + length r.items)) runs a h.2)

sum-from : (a : ℕ) (xs : List ℕ) → fold ◌+◌ a xs ≡ a + fold ◌+◌ 0 xs
sum-from a [] = omega arith
sum-from a (x ∷ xs) =
    let first = sum-from (a + x) xs in
    let later = sum-from (0 + x) xs in
    omega (arith, first, later)

count-cons : (r : Run) (runs : List Run) → count_of_items (r ∷ runs) ≡ length r.items + count_of_items runs
count-cons r runs = let split = sum-from (0 + length r.items) (map (λ (run : Run). length run.items) runs) in omega (arith, split)

pub upto-count : (k : ℕ) (runs : List Run) (a : ℕ) → AreUpTo k runs a → k + count_of_items runs ≤ a
upto-count k [] a h = omega (arith, h)
upto-count k (r ∷ runs) a h =
    let more = upto-count (suc (r.first + length r.items)) runs a h.2 in
    let split = count-cons r runs in
    omega (arith, more, h.0, split)

pub all-snoc : {X : Type 0} (P : X → Type 0) (xs : List X) (x : X) → AllByRecursion P xs → P x → AllByRecursion P (xs ++ x ∷ [])
all-snoc P [] x h p = (p, tt)
all-snoc P (y ∷ xs) x h p = (h.0, all-snoc P xs x h.1 p)

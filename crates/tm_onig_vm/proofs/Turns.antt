-- The run so far, over the machine's trail.
use Rattle.std.proofs.Common.{◌≡◌, ℕ, ◌+◌, ◌<◌, ◌≤◌, List, [], ◌∷◌, ◌++◌, length, take, drop, Option, Some, None, slice_get, refl, sym, ap, ap₂, ◌∙◌, subst, replicate, arith}
use Rattle.std.specs.Prelude.{MatchOption}
use Rattle.tm_onig_search.specs.Outcomes.{Caps, Outcome, fail, accept}
use Rattle.tm_onig_search.specs.Places.{Subject}
use Rattle.tm_onig_vm.specs.declared.code.Instr.{Instr}
use Rattle.tm_onig_vm.specs.declared.trail.Way.{Way}
use Rattle.tm_onig_vm.specs.declared.trail.Trail.{Trail}
use Rattle.tm_onig_vm.specs.declared.machine.Waiting.{Waiting}
use Rattle.tm_onig_vm.specs.declared.machine.Acted.TheVariants as A
use Rattle.tm_onig_vm.specs.inner.Machine.{Thread as Plain, Did, Succeeds, Goes, Waits, Do, at_pc, AllMean, exec, resumed_threads}
use Rattle.tm_onig_vm.specs.inner.Threads.{plain, plains, numbers_of, groups_under, hit_at, now_threads, Does, Acts}
use Rattle.tm_onig_class.specs.Tree.{Tree}
use Rattle.tm_onig_search.specs.Find.{at_start, blank, last_group}
use Rattle.tm_onig_search.specs.Search.{search_tree}
use Rattle.tm_onig_search.proofs.Outcomes.{or_else-fail_right}
use Rattle.tm_onig_vm.specs.inner.Code.{IsCodeOf}
use Rattle.tm_onig_vm.proofs.Stacked.{began}
use Rattle.tm_onig_vm.proofs.Runs as R
use Rattle.tm_onig_vm.proofs.Runs.{Runs}

pub run_begins : (s : Subject) (code : List Instr) (threads : List Plain) (o : Outcome) (n : ℕ) → n ≡ 0 → AllMean s code threads o → Runs s code o n threads
run_begins s code threads o n none mean =
    let e : n + o.cost ≡ o.cost = omega arith in
    record { rest = o; mean = mean; total = ap (λ (c : ℕ). let r : Outcome = record { hit = o.hit; cost = c } in r) e }

-- the way that goes on is the next one on the trail
pub next_is : (next : Option Way) (old : List Plain) (new : Trail) (after : Caps) → MatchOption next (old ≡ []) (λ way. old ≡ plain way (numbers_of new) after ∷ plains new after) → old ≡ now_threads next new after
next_is None old new after is = is
next_is (Some way) old new after is = is

-- a body that is searched alone, and what goes on after it
pub record Awaits (s : Subject) (code : List Instr) (o : Outcome) (n : ℕ) (w : Waiting) (numbers : List ℕ) (caps : Caps) (left : List Plain) : Type 0 where
  pub alone : Outcome
  pub mean : AllMean s code (plains w.inner caps) alone
  pub same : groups_under w.inner caps ≡ caps
  pub on : Runs s code o (n + 1 + alone.cost) (resumed_threads w.negative w.stays alone.hit (plain w.rest numbers caps) ++ left)

module _ (s : Subject) (code : List Instr) (small : length s.line < 0x80000000) (o : Outcome) (n : ℕ) (threads : List Plain) (way : Way) (trail : Trail) (caps : Caps) (was : Runs s code o n threads)
    (is : threads ≡ plain way (numbers_of trail) caps ∷ plains trail caps) where
  here : Runs s code o n (plain way (numbers_of trail) caps ∷ plains trail caps)
  here = rw is at was

  pub top_within : way.pos ≤ length s.line
  top_within = R.top_within s code small o n (plain way (numbers_of trail) caps) (plains trail caps) here

  pub has_code : slice_get code way.pc ≡ None → ⊥
  has_code none = R.has_code s code small o n (plain way (numbers_of trail) caps) (plains trail caps) here none

  module _ (i : Instr) (at : slice_get code way.pc ≡ Some i) (new : Trail) (after : Caps) where
    pub after_costs : (cost : ℕ) → Acts s i way.pos trail caps new after (A.Costs cost) → Runs s code o (n + cost) (plains new after) × (0 < cost)
    after_costs cost = go (exec s i (numbers_of trail) way.pos caps) refl
      where
        go : (did : Did) → exec s i (numbers_of trail) way.pos caps ≡ did → Does did (A.Costs cost) way.pos trail caps new after → Runs s code o (n + cost) (plains new after) × (0 < cost)
        go Succeeds does done = absurd done
        go (Goes m ts) does done = (rw (done.0, done.1) (R.run_goes s code small o n (plain way (numbers_of trail) caps) (plains trail caps) here i at m ts does), done.2)
        go (Waits inner negative stays left) does done = absurd done

    pub after_goes : (cost : ℕ) (on : Way) → Acts s i way.pos trail caps new after (A.Goes cost on) → Runs s code o (n + cost) (now_threads (Some on) new after) × (0 < cost)
    after_goes cost on = go (exec s i (numbers_of trail) way.pos caps) refl
      where
        go : (did : Did) → exec s i (numbers_of trail) way.pos caps ≡ did → Does did (A.Goes cost on) way.pos trail caps new after → Runs s code o (n + cost) (now_threads (Some on) new after) × (0 < cost)
        go Succeeds does done = absurd done
        go (Goes m ts) does done = (rw (done.0, done.1) (R.run_goes s code small o n (plain way (numbers_of trail) caps) (plains trail caps) here i at m ts does), done.2)
        go (Waits inner negative stays left) does done = absurd done

    pub after_success : (end : ℕ) → Acts s i way.pos trail caps new after (A.Succeeds end) → (o.hit ≡ Some (hit_at after end)) × (o.cost ≡ n + 1)
    after_success end = go (exec s i (numbers_of trail) way.pos caps) refl
      where
        go : (did : Did) → exec s i (numbers_of trail) way.pos caps ≡ did → Does did (A.Succeeds end) way.pos trail caps new after → (o.hit ≡ Some (hit_at after end)) × (o.cost ≡ n + 1)
        go Succeeds does same =
            let done = R.run_succeeds s code small o n (plain way (numbers_of trail) caps) (plains trail caps) here i at does in
            (done.0 ∙ ap₂ (λ (at : ℕ) (cs : Caps). Some (hit_at cs at)) (sym same.0) (sym same.1), done.1)
        go (Goes m ts) does bad = absurd bad
        go (Waits inner negative stays left) does bad = absurd bad

    pub after_waits : (w : Waiting) → Acts s i way.pos trail caps new after (A.Waits w) → Awaits s code o n w (numbers_of new) after (plains new after)
    after_waits w = go (exec s i (numbers_of trail) way.pos caps) refl
      where
        go : (did : Did) → exec s i (numbers_of trail) way.pos caps ≡ did → Does did (A.Waits w) way.pos trail caps new after → Awaits s code o n w (numbers_of new) after (plains new after)
        go Succeeds does bad = absurd bad
        go (Goes m ts) does bad = absurd bad
        go (Waits inner negative stays left) does done =
            let wait = R.waits s code small o n (plain way (numbers_of trail) caps) (plains trail caps) here i at inner negative stays left does in
            let on = R.run_waited s code small o n (plain way (numbers_of trail) caps) (plains trail caps) here i at inner negative stays left does in
            record {
              alone = wait.alone;
              mean = rw done.0 wait.mean;
              same = done.1;
              on = rw (done.2, done.3, done.4, done.5) on;
            }

-- the thread that a search of the whole tree begins with
pub program_means : (s : Subject) (code : List Instr) (first : ℕ) (t : Tree) (start : ℕ) (caps : Caps) (threads : List Plain) → IsCodeOf code first t → start ≤ length s.line → caps ≡ blank t →
    threads ≡ at_pc first [] start caps ∷ [] → AllMean s code threads (search_tree s t accept start (blank t))
program_means s code first t start caps threads is fits none begun =
    let o = search_tree s t accept start (blank t) in
    rw (begun, none) (o, fail, (Do t ∷ [], is, fits, refl), refl, sym (or_else-fail_right o))

-- the way that an attempt at a start begins with
pub attempt_means : (s : Subject) (code made : List Instr) (first groups start : ℕ) (t : Tree) (trail : Trail) (caps : Caps) → code ≡ made → IsCodeOf made first t → start ≤ length s.line → groups ≡ last_group t →
    caps ≡ replicate (groups + 1) None → trail.marks.items ≡ [] → trail.numbers.items ≡ [] → AllMean s code (now_threads (Some (record { pc = first; pos = start })) trail caps) (at_start s t start)
attempt_means s code made first groups start t trail caps same is fits many none marks numbers =
    subst (λ (cs : List Instr). AllMean s cs (now_threads (Some (record { pc = first; pos = start })) trail caps) (at_start s t start)) (sym same)
    (program_means s made first t start caps (now_threads (Some (record { pc = first; pos = start })) trail caps) is fits (none ∙ ap (λ (n : ℕ). replicate (n + 1) None) many)
    (began trail (now_threads (Some (record { pc = first; pos = start })) trail caps) first start caps marks numbers refl))

take_all : (ws ys : Caps) → take (length ws) (ws ++ ys) ≡ ws
take_all [] ys = refl
take_all (w ∷ ws) ys = ap (λ (cs : Caps). w ∷ cs) (take_all ws ys)

-- groups that were lent, and came back as many
pub refilled : (xs ws : Caps) → length ws ≡ length xs → take (length xs) (ws ++ drop (length ws) xs) ≡ ws
refilled xs ws same = subst (λ (n : ℕ). take n (ws ++ drop (length ws) xs) ≡ ws) same (take_all ws (drop (length ws) xs))

-- The ways on the machine's trail as the plain threads.
use Rattle.std.specs.Prelude.{◌≡◌, ℕ, ◌<◌, List, [], ◌∷◌, ◌++◌, reverse, drop, slice_set, Option, Some, None}
use Rattle.tm_onig_search.specs.Outcomes.{Caps, Hit}
use Rattle.tm_onig_search.specs.Places.{Subject}
use Rattle.tm_onig_vm.specs.declared.code.Instr.{Instr}
use Rattle.tm_onig_vm.specs.declared.trail.Way.{Way}
use Rattle.tm_onig_vm.specs.declared.trail.Mark.{Mark}
use Rattle.tm_onig_vm.specs.declared.trail.Mark.TheVariants as M
use Rattle.tm_onig_vm.specs.declared.trail.Trail.{Trail}
use Rattle.tm_onig_vm.specs.declared.machine.Acted.{Acted}
use Rattle.tm_onig_vm.specs.declared.machine.Acted.TheVariants as A
use Rattle.tm_onig_vm.specs.inner.Machine.{Thread as Plain, Did, Succeeds, Goes, Waits, at_pc, from_each, exec}

abbrev pub plain : Way → List ℕ → Caps → Plain
plain way numbers caps = at_pc way.pc numbers way.pos caps

-- the ways, the top one first: what was changed above a way is undone before it
unfoldable pub ways : List Mark → List ℕ → Caps → List Plain
ways [] numbers caps = []
ways (M.Way way ∷ marks) numbers caps = plain way numbers caps ∷ ways marks numbers caps
ways (M.Each pc lowest n ∷ marks) numbers caps = from_each pc numbers caps lowest n ++ ways marks numbers caps
ways (M.Group number was ∷ marks) numbers caps = ways marks numbers (slice_set caps number was)
ways (M.Put ∷ marks) numbers caps = ways marks (drop 1 numbers) caps
ways (M.Taken number ∷ marks) numbers caps = ways marks (number ∷ numbers) caps

-- the groups when all is undone
unfoldable pub undone : List Mark → Caps → Caps
undone [] caps = caps
undone (M.Way way ∷ marks) caps = undone marks caps
undone (M.Each pc lowest n ∷ marks) caps = undone marks caps
undone (M.Group number was ∷ marks) caps = undone marks (slice_set caps number was)
undone (M.Put ∷ marks) caps = undone marks caps
undone (M.Taken number ∷ marks) caps = undone marks caps

-- the numbers of the goals at hand, the top one first
abbrev pub numbers_of : Trail → List ℕ
numbers_of trail = reverse trail.numbers.items

-- the threads that the trail holds, where these are the groups now
unfoldable pub plains : Trail → Caps → List Plain
plains trail caps = ways (reverse trail.marks.items) (reverse trail.numbers.items) caps

-- the groups as they were when the trail was empty
unfoldable pub groups_under : Trail → Caps → Caps
groups_under trail caps = undone (reverse trail.marks.items) caps

abbrev pub hit_at : Caps → ℕ → Hit
hit_at caps end = record { end = end; caps = caps }

-- the way that goes on, before the ways on the trail; none: no way is left
abbrev pub now_threads : Option Way → Trail → Caps → List Plain
now_threads None trail caps = []
now_threads (Some way) trail caps = plain way (numbers_of trail) caps ∷ plains trail caps

-- what carrying out an instruction at pos leaves, and what to undo, is what it does
abbrev pub Does : Did → Acted → ℕ → Trail → Caps → Trail → Caps → Type 0
Does Succeeds (A.Succeeds end) pos old before new after = (end ≡ pos) × (after ≡ before)
Does Succeeds (A.Costs n) pos old before new after = ⊥
Does Succeeds (A.Goes n way) pos old before new after = ⊥
Does Succeeds (A.Waits w) pos old before new after = ⊥
Does (Goes cost threads) (A.Succeeds end) pos old before new after = ⊥
Does (Goes cost threads) (A.Costs n) pos old before new after = (n ≡ cost) × (plains new after ≡ threads ++ plains old before) × (0 < n)
Does (Goes cost threads) (A.Goes n way) pos old before new after =
    (n ≡ cost) × (plain way (numbers_of new) after ∷ plains new after ≡ threads ++ plains old before) × (0 < n)
Does (Goes cost threads) (A.Waits w) pos old before new after = ⊥
Does (Waits inner negative stays rest) (A.Succeeds end) pos old before new after = ⊥
Does (Waits inner negative stays rest) (A.Costs n) pos old before new after = ⊥
Does (Waits inner negative stays rest) (A.Goes n way) pos old before new after = ⊥
Does (Waits inner negative stays rest) (A.Waits w) pos old before new after =
    (plains w.inner after ≡ inner) × (groups_under w.inner after ≡ after) × (w.negative ≡ negative) × (w.stays ≡ stays)
    × (plain w.rest (numbers_of new) after ≡ rest) × (plains new after ≡ plains old before)

abbrev pub Acts : Subject → Instr → ℕ → Trail → Caps → Trail → Caps → Acted → Type 0
Acts s i pos old before new after acted = Does (exec s i (numbers_of old) pos before) acted pos old before new after

use Rattle.std.proofs.Common.{◌≡◌, ℕ, ◌<◌, [], true, false, get_or, slice_get}
use Rattle.tm_rules.specs.Readers.{is_only}
use Rattle.tm_rules.specs.inner.Flows.{tasks_of, IsFlow}
use Rattle.tm_rules.specs.inner.Made.{AreMade}
use Rattle.tm_rules.proofs.only_lists.OnlyLists.build.Given as goal

abbrev pub invariant-loop-i : goal.invariant-loop-i
invariant-loop-i l = record {
  made : AreMade l.rules l.lists;
  flow : IsFlow l.rules l.flow;
  ended : tasks_of l.flow ≡ [];
  all : (n : ℕ) → n < l.i → is_only (slice_get l.rules n) ≡ true → get_or l.lists.made.items n false ≡ true;
}

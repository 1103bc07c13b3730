use Rattle.std.proofs.Common.{◌≡◌, ℕ, ◌<◌, ◌≤◌, Some}
use Rattle.std.specs.Prelude.{slice_get}
use Rattle.tm_cases_searches.proofs.templates.are_within.Given as goal

abbrev pub invariant-groups : goal.invariant-groups
invariant-groups l = (group start end : ℕ) → group < l.i → slice_get l.groups group ≡ Some (Some (start, end)) → (start ≤ end) × (end ≤ l.count)

-- What a body did in a search.
use Rattle.std.specs.Prelude.{◌≡◌, ◌<◌, ℕ, Result, IfOk, IsErrOf}
use Rattle.tm_line_parts.specs.Adds.{Spends}
use Rattle.tm_line_turns.specs.declared.found.Winner.{Winner}
use Rattle.tm_onig_vm.specs.declared.fault.FindFault.{FindFault}

-- this was found, within the budget; `Budget` comes only where the searches cost more than that
pub record Searches (winner : Winner) (cost before after : ℕ) (result : Result Winner FindFault) : Type 0 where
  pub found : IfOk result (λ w. w ≡ winner)
  pub spends : Spends cost before after
  pub over : IsErrOf result FindFault.Budget → before < cost

-- The lists that are made once for each rule.
use Rattle.std.specs.Prelude.{◌≡◌, ℕ, ◌<◌, ◌≤◌, List, length, Some, slice_get}
use Rattle.tm_rules.specs.Candidates.{listed}
use Rattle.tm_rules.specs.Sizes.{rule_limit}
use Rattle.tm_rules.specs.declared.candidate.Candidate.{Candidate}
use Rattle.tm_defs.specs.declared.rules.Rule.{Rule}

-- there is one for each rule
pub record AreLists (rules : List Rule) (lists : List (List Candidate)) : Type 0 where
  pub numbered : length rules ≤ rule_limit
  pub long : length lists ≡ length rules
  pub right : (n : ℕ) → n < length rules → slice_get lists n ≡ Some (listed rules n)

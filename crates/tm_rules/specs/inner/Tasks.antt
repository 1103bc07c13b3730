-- What is left of a flattening that goes by a list of tasks.
use Rattle.std.specs.Prelude.{◌≡◌, ℕ, ◌<◌, ⊤, List, [], ◌∷◌, ◌++◌, length, reverse, Bool, false, get_or, Option, Some, None}
use Rattle.tm_rules.specs.Candidates.{is_among, flattened}
use Rattle.tm_rules.specs.declared.candidate.Candidate.{Candidate}
use Rattle.tm_rules.specs.declared.candidate.Candidate.TheVariants.{Start}
use Rattle.tm_rules.specs.declared.flow.Task.{Task}
use Rattle.tm_rules.specs.declared.flow.Task.TheVariants.{Visit, Close}
use Rattle.tm_defs.specs.declared.rules.Rule.{Rule}

-- the rules that are open, the innermost first: those that are still to be closed
abbrev pub opened_by : List Task → List ℕ
opened_by [] = []
opened_by (Close n ∷ tasks) = n ∷ opened_by tasks
opened_by (Visit n ∷ tasks) = opened_by tasks

-- what the tasks will contribute, the next one first
abbrev pub tasks_left : List Rule → List Task → List Candidate
tasks_left rules [] = []
tasks_left rules (Close n ∷ tasks) = tasks_left rules tasks
tasks_left rules (Visit n ∷ tasks) = flattened rules (opened_by tasks) n ++ tasks_left rules tasks

-- the next task is the last of its vector
abbrev pub stacked : List Task → List Task
stacked tasks = reverse tasks

-- the start that was found, if there is one, and then the others
abbrev pub found_first : Option ℕ → List Candidate → List Candidate
found_first None others = others
found_first (Some n) others = Start n ∷ others

-- no number stands there twice
abbrev pub AreApart : List ℕ → Type 0
AreApart [] = ⊤
AreApart (n ∷ ns) = (is_among n ns ≡ false) × AreApart ns

-- one mark for each rule, set where it is open
pub record AreMarked (rules : List Rule) (marks : List Bool) (opened : List ℕ) : Type 0 where
  pub apart : AreApart opened
  pub long : length marks ≡ length rules
  pub marked : (n : ℕ) → n < length rules → get_or marks n false ≡ is_among n opened

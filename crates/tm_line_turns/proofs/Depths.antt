-- The line relation at each depth, and where groups add nothing.
use Rattle.std.proofs.Common.{◌≡◌, ℕ, List, [], Bool, ap}
use Rattle.tm_line_turns.specs.declared.found.Match.{Match}
use Rattle.tm_line_turns.specs.declared.found.Whose.{Whose}
use Rattle.tm_line_turns.specs.Captures.{capture_productions}
use Rattle.tm_line_turns.specs.Language.{FindsInText, GroupsAddNothing, HasNoCaptures, IsRunAtEachDepth, Language, grammar_at, inner_at, without_groups}
use Rattle.tm_line_turns.specs.LineRun.{Grammar, Open, Part, line_run, nothing}
use Rattle.tm_line_turns.proofs.Turns.{is_line_run}

pub is_run_at_each_depth : (l : Language) → FindsInText l → IsRunAtEachDepth l
is_run_at_each_depth l finds depth text = is_line_run (grammar_at l depth text) (finds text)

abbrev Captured : Type 0
Captured = Whose → ℕ → Match → List Open → List (List ℕ) → Bool → Part

-- a walk over no groups adds nothing
captured-none : (l : Language) → HasNoCaptures l → (depth : ℕ) (text : List ℕ) → (grammar_at l depth text).captured ≡ (λ whose rule m stack base first. nothing)
captured-none l none depth text =
    λ i whose rule m stack base first. ap (capture_productions (l.filled text m) base m (inner_at l depth text first stack) []) (none whose rule) i

pub grammar-none : (l : Language) → HasNoCaptures l → (depth : ℕ) (text : List ℕ) → grammar_at l depth text ≡ without_groups (grammar_at l depth text)
grammar-none l none depth text =
    let by : Captured → Grammar = λ captured. record (grammar_at l depth text) { captured = captured } in
    ap by (captured-none l none depth text)

pub groups-nothing : (l : Language) → HasNoCaptures l → GroupsAddNothing l
groups-nothing l none depth text p = ap (λ g. line_run g p) (grammar-none l none depth text)

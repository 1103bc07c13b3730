-- Names that are the same for every match.
use Rattle.std.proofs.Common.{◌≡◌, ℕ, List, Option, Some, None, Result, Ok, Err}
use Rattle.std.specs.Prelude.{IfOk, MatchOption, ⊤}
use Rattle.tm_defs.specs.declared.memory.OutOfMemory.{OutOfMemory}
use Rattle.tm_onig_search.specs.Outcomes.{Caps}
use Rattle.tm_template.specs.Names.{names_of}
use Rattle.tm_line.specs.inner.Prepared.{AreNamesOf}

abbrev Alone : List ℕ → Option (List (List ℕ)) → Type 0
Alone name found = MatchOption found ⊤ (λ path. (line : List ℕ) (caps : Caps) → path ≡ names_of name line caps)

found-alone : (name : List ℕ) (found : Option (List (List ℕ))) → Alone name found → AreNamesOf (Some name) found
found-alone name None h = tt
found-alone name (Some path) h = λ text m. h text m.groups

pub are-names : (name : List ℕ) (result : Result (Option (List (List ℕ))) OutOfMemory) → IfOk result (Alone name) → IfOk result (AreNamesOf (Some name))
are-names name (Ok found) h = found-alone name found h
are-names name (Err e) h = tt

-- Work in whose way nothing stands is done whole.
use Rattle.std.proofs.Common.{◌≡◌, ℕ, ◌+◌, ◌++◌, List, Option, true, false, take, drop, refl, ap, sym, ◌∙◌, subst}
use Rattle.std.proofs.lemmas.List.{take-append-drop}
use Rattle.tm_defs.specs.declared.events.Step.{Step}
use Rattle.tm_forms.specs.declared.script.Scripted.{Scripted}
use Rattle.tm_machine.specs.Changes.{lines_of}
use Rattle.tm_machine.specs.Documents.{Rules}
use Rattle.tm_machine.specs.Machine.{Machine, machine_of}
use Rattle.tm_machine.specs.Reach.{stand_in, stands_of, ReachesMoreThan}
use Rattle.tm_machine.proofs.ReachedTables.{reaches-more, stands-more}
use Rattle.tm_app.specs.Complete.{Completes}
use Rattle.tm_app.specs.Outcome.{grammar_rules}
use Rattle.tm_app.specs.Play.{machine_steps}
use Rattle.tm_app.specs.inner.Setup.{Work, Linted, Played}
use Rattle.tm_app.specs.Stops.{large_reach}
use Rattle.tm_app.specs.declared.status.What.TheVariants.{NotJson, BadShape, NotYet, TooManyRules, BadPlace}
use Rattle.tm_app.specs.declared.status.Status.{Status}
use Rattle.tm_app.specs.declared.status.Status.TheVariants.{Ok, Usage, FileFault, Refused, SinkFault, OutOfMemory, BudgetSeen, TableFull}
use Rattle.tm_app.proofs.PlayRuns.{steps-append}
use Rattle.tm_cases_lines.specs.Unhindered.{IsFree, IsWhole}

-- what a front of the steps reaches is reached by all of them
front-reaches : (r : Rules) (m : Machine) (steps : List Scripted) (k : ℕ) → ReachesMoreThan large_reach r (stands_of (stand_in m) (machine_steps (take k steps))) → ReachesMoreThan large_reach r (stands_of (stand_in m) (machine_steps steps))
front-reaches r m steps k h =
    let front = machine_steps (take k steps) in
    let rest = machine_steps (drop k steps) in
    let P : List Step → Type 0 = λ l. ReachesMoreThan large_reach r (stands_of (stand_in m) l) in
    subst P (sym (steps-append (take k steps) (drop k steps)) ∙ ap machine_steps (take-append-drop k steps))
    (reaches-more r (stands_of (stand_in m) front) (stands_of (stand_in m) (front ++ rest)) (stands-more (stand_in m) front rest) large_reach h)

pub whole : (work : Work) (taken taken_now : Option (List ℕ)) (faults faults_now : ℕ) (status : Status) → IsFree work → Completes work taken taken_now faults faults_now status → IsWhole work taken taken_now status
whole work taken taken_now faults faults_now Ok free h = h
whole work taken taken_now faults faults_now OutOfMemory free h = tt
whole (Linted settings) taken taken_now faults faults_now BudgetSeen free h = let e : true ≡ false = h.1 in absurd cc
whole (Played setup) taken taken_now faults faults_now BudgetSeen free h = absurd (free.costs (h.5 refl))
whole (Linted settings) taken taken_now faults faults_now (Refused name (BadPlace line)) free h = h
whole (Played setup) taken taken_now faults faults_now (Refused name (BadPlace line)) free h =
    absurd (free.places h.0 h.1.bytes h.1.last h.2.0 line h.1.plays h.2.1 h.2.2)
whole work taken taken_now faults faults_now (Refused name NotJson) free h = h
whole work taken taken_now faults faults_now (Refused name (BadShape path)) free h = h
whole work taken taken_now faults faults_now (Refused name NotYet) free h = h
whole work taken taken_now faults faults_now (Refused name TooManyRules) free h = h
whole (Linted settings) taken taken_now faults faults_now TableFull free h = h
whole (Played setup) taken taken_now faults faults_now TableFull free h = absurd (free.reach (front-reaches (grammar_rules setup.settings setup.budget) (machine_of (lines_of setup.text)) setup.script (h.0 + 1) h.2))
whole work taken taken_now faults faults_now Usage free h = h
whole work taken taken_now faults faults_now (FileFault name) free h = h
whole work taken taken_now faults faults_now SinkFault free h = h

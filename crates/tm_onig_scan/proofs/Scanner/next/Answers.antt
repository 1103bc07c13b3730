use Rattle.std.proofs.Common.{◌≡◌, ◌+◌, ◌-◌, List, Option, length, subst, ◌∙◌}
use Rattle.tm_onig_class.specs.declared.patterns.Pattern.{Pattern}
use Rattle.tm_onig_search.specs.Places.{subject}
use Rattle.tm_onig_scan.specs.Winner.{trees_of}
use Rattle.tm_onig_scan.specs.Pass.{Tries, pass_from}
use Rattle.tm_onig_scan.proofs.Tried.{plainly, searches}
use Rattle.tm_onig_scan.proofs.Scanner.next.Goals as goal
use Rattle.tm_onig_scan.proofs.Scanner.next.Goals.{After-pass}

module _ (c : After-pass) where
  searched : Tries (plainly c.args.line.now c.args.from c.args.allow_a c.args.allow_g (trees_of c.args.self.now)) c.args.budget.now c.pass.new.budget c.pass.result
  searched =
      let line = c.args.line.now in
      let from = c.args.from in
      let same : c.as_slice.result.now ≡ c.args.self.now = c.as_slice.ensures.value ∙ c.self.view_is in
      searches line from c.args.allow_a c.args.allow_g (trees_of c.args.self.now) c.args.budget.now c.pass.new.budget c.pass.result
      (subst (λ (ps : List (Option Pattern)). Tries (pass_from (subject line from c.args.allow_a c.args.allow_g) (length line + 1 - from) from (trees_of ps)) c.args.budget.now c.pass.new.budget c.pass.result) same
      (subst (λ (text : List _). Tries (pass_from (subject text from c.args.allow_a c.args.allow_g) (length text + 1 - from) from (trees_of c.as_slice.result.now)) c.args.budget.now c.pass.new.budget c.pass.result) c.as_slice-2.ensures
      c.pass.ensures))

pub returns-clause-hit : goal.returns-clause-hit
returns-clause-hit c = (searched (goal.at.returns-clause-hit c).After-pass).hit

pub returns-clause-over : goal.returns-clause-over
returns-clause-over c = (searched (goal.at.returns-clause-over c).After-pass).over

pub returns-clause-falls : goal.returns-clause-falls
returns-clause-falls c = (searched (goal.at.returns-clause-falls c).After-pass).falls

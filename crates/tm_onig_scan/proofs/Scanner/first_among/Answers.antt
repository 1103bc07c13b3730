use Rattle.std.proofs.Common.{◌≡◌, ◌+◌, ◌-◌, List, Option, length, subst, ◌∙◌}
use Rattle.tm_onig_class.specs.declared.patterns.Pattern.{Pattern}
use Rattle.tm_onig_class.specs.Tree.{Tree}
use Rattle.tm_onig_search.specs.Places.{subject}
use Rattle.tm_onig_scan.specs.Winner.{trees_of, patterns_at}
use Rattle.tm_onig_scan.specs.Pass.{Tries, pass_from}
use Rattle.tm_onig_scan.proofs.Tried.{plainly, searches}
use Rattle.tm_onig_scan.specs.Asked.{put_in}
use Rattle.tm_onig_scan.proofs.Scanner.first_among.Goals as goal
use Rattle.tm_onig_scan.proofs.Scanner.first_among.Goals.{After-pass}

module _ (c : After-pass) where
  abbrev among : List (Option Pattern) → List (Option Tree)
  among ps = put_in (patterns_at (trees_of ps) c.args.candidates.now.numbers.items) c.args.instead

  searched : Tries (plainly c.args.asked.text.now c.args.asked.anchors.first c.args.asked.anchors.allow_a c.args.asked.anchors.allow_g (among c.args.self.now)) c.args.budget.now c.pass.new.budget c.pass.result
  searched =
      let text = c.args.asked.text.now in
      let at = c.args.asked.anchors in
      let same : c.as_slice.result.now ≡ c.args.self.now = c.as_slice.ensures.value ∙ c.self.view_is in
      searches text at.first at.allow_a at.allow_g (among c.args.self.now) c.args.budget.now c.pass.new.budget c.pass.result
      (subst (λ (ps : List (Option Pattern)). Tries (pass_from (subject text at.first at.allow_a at.allow_g) (length text + 1 - at.first) at.first (among ps)) c.args.budget.now c.pass.new.budget c.pass.result) same
      c.pass.ensures)

pub returns-clause-hit : goal.returns-clause-hit
returns-clause-hit c = (searched (goal.at.returns-clause-hit c).After-pass).hit

pub returns-clause-over : goal.returns-clause-over
returns-clause-over c = (searched (goal.at.returns-clause-over c).After-pass).over

pub returns-clause-falls : goal.returns-clause-falls
returns-clause-falls c = (searched (goal.at.returns-clause-falls c).After-pass).falls

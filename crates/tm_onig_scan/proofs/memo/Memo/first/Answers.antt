use Rattle.std.proofs.Common.{ℕ, ◌+◌, ◌-◌, List, Option, length, sym, subst}
use Rattle.std.specs.Option.{option_copied}
use Rattle.std.specs.Prelude.{Result}
use Rattle.tm_onig_class.specs.Tree.{Tree}
use Rattle.tm_onig_search.specs.Outcomes.{Caps}
use Rattle.tm_onig_search.specs.Places.{subject}
use Rattle.tm_onig_vm.specs.declared.fault.FindFault.{FindFault}
use Rattle.tm_onig_scan.specs.Memo.{MemoOf, sought}
use Rattle.tm_onig_scan.specs.inner.MemoView.{searched}
use Rattle.tm_onig_scan.specs.Pass.{Tries, pass_from}
use Rattle.tm_onig_scan.proofs.Remembered.{searches_later, remembered, sought_is}
use Rattle.tm_onig_scan.proofs.Tried.{plainly}
use Rattle.tm_onig_scan.proofs.memo.Memo.first.Goals as goal
use Rattle.tm_onig_scan.proofs.memo.Memo.first.Goals.{After-pass}

module _ (c : After-pass) where
  abbrev text : List ℕ
  text = c.self.inside.text.now

  abbrev patterns : List (Option Tree)
  patterns = searched c.self.inside

  abbrev Passed : Result (Option (ℕ × Caps)) FindFault → Type 0
  Passed r =
      Tries (pass_from (subject text c.args.anchors.first c.args.anchors.allow_a c.args.anchors.allow_g) (length text + 1 - c.first_start-begin.result) c.first_start-begin.result patterns)
      c.args.budget.now c.pass.new.budget r

  -- a pass that begins later finds what is found from the beginning
  done : (r : Result (Option (ℕ × Caps)) FindFault) → Passed r → Tries (plainly text c.args.anchors.first c.args.anchors.allow_a c.args.anchors.allow_g patterns) c.args.budget.now c.pass.new.budget r
  done r passed =
      searches_later text patterns c.args.anchors.first c.args.anchors.allow_a c.args.anchors.allow_g c.first_start-begin.result c.args.budget.now c.pass.new.budget r c.first_start-begin.ensures.later
      (c.first_start-begin.ensures.none text patterns c.self.invariant.none) passed

  told : (r : Result (Option (ℕ × Caps)) FindFault) → Passed r →
      Tries (plainly c.args.self.now.text c.args.anchors.first c.args.anchors.allow_a c.args.anchors.allow_g (sought c.args.self.now)) c.args.budget.now c.pass.new.budget r
  told r passed =
      subst (λ (m : MemoOf). Tries (plainly m.text c.args.anchors.first c.args.anchors.allow_a c.args.anchors.allow_g (sought m)) c.args.budget.now c.pass.new.budget r) c.self.view_is
      (subst (λ (ps : List (Option Tree)). Tries (plainly text c.args.anchors.first c.args.anchors.allow_a c.args.anchors.allow_g ps) c.args.budget.now c.pass.new.budget r)
      (sym (sought_is c.self.inside.programs.now (option_copied c.self.inside.list) c.self.inside.instead)) (done r passed))

pub invariant_of-self : goal.invariant_of-self
invariant_of-self c =
    let r = (goal.at.invariant_of-self c).After-pass in
    let known = c.self.invariant in
    record {
      few = known.few;
      small = known.small;
      candidates = known.candidates;
      steady = known.steady;
      none = rw c.until_of-self-inside.ensures (remembered (text r) (patterns r) c.args.anchors.first c.args.anchors.allow_a c.args.anchors.allow_g (known.steady c.if-self.true) c.in-Ok.found (done r _ c.in-Ok.ensures).hit);
    }

pub returns-after-self-clause-hit : goal.returns-after-self-clause-hit
returns-after-self-clause-hit c = (told (goal.at.returns-after-self-clause-hit c).After-pass _ c.in-Ok.ensures).hit

pub returns-after-self-clause-falls : goal.returns-after-self-clause-falls
returns-after-self-clause-falls c = (told (goal.at.returns-after-self-clause-falls c).After-pass _ c.in-Ok.ensures).falls

pub returns-in-Err-clause-over : goal.returns-in-Err-clause-over
returns-in-Err-clause-over c = (told (goal.at.returns-in-Err-clause-over c).After-pass _ c.in-Err.ensures).over

pub returns-in-Err-clause-falls : goal.returns-in-Err-clause-falls
returns-in-Err-clause-falls c = (told (goal.at.returns-in-Err-clause-falls c).After-pass _ c.in-Err.ensures).falls

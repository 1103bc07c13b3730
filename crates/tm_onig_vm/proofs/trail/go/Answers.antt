use Rattle.std.proofs.Common.{refl}
use Rattle.tm_onig_vm.proofs.Stacked.{way_on, way_kept}
use Rattle.tm_onig_vm.proofs.trail.go.Goals as goal

pub returns-clause-ways : goal.returns-clause-ways
returns-clause-ways c = way_on c.args.trail.now _ _ c.in_ok-push.ensures.items refl

pub returns-clause-kept : goal.returns-clause-kept
returns-clause-kept c = way_kept c.args.trail.now _ _ c.in_ok-push.ensures.items

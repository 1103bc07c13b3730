use Rattle.std.proofs.Common.{refl}
use Rattle.tm_onig_vm.proofs.Stacked.{each_on, each_kept}
use Rattle.tm_onig_vm.proofs.trail.go_from_each.Goals as goal

pub returns-clause-ways : goal.returns-clause-ways
returns-clause-ways c = each_on c.args.trail.now _ c.args.pc c.args.lowest c.args.count c.in_ok-push.ensures.items refl

pub returns-clause-kept : goal.returns-clause-kept
returns-clause-kept c = each_kept c.args.trail.now _ c.args.pc c.args.lowest c.args.count c.in_ok-push.ensures.items

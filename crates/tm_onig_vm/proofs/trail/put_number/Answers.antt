use Rattle.tm_onig_vm.proofs.Stacked.{put_on, put_kept}
use Rattle.tm_onig_vm.proofs.trail.put_number.Goals as goal

pub returns-clause-ways : goal.returns-clause-ways
returns-clause-ways c = put_on c.args.trail.now _ c.args.number c.in_ok-push-2.ensures.items c.in_ok-push.ensures.items

pub returns-clause-kept : goal.returns-clause-kept
returns-clause-kept c = put_kept c.args.trail.now _ c.in_ok-push-2.ensures.items

use Rattle.std.proofs.Common.{◌≡◌}
use Rattle.serde_json.specs.View.{members_view}
use Rattle.tm_forms.specs.Checks.{wrong_member}
use Rattle.tm_forms.proofs.checks.wrong_member.Given as goal

abbrev pub invariant-loop-key : goal.invariant-loop-key
invariant-loop-key g l = wrong_member g.C.Check.wrong (members_view l.key-iterator) ≡ wrong_member g.C.Check.wrong (members_view l.members.entries)

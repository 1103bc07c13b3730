use Rattle.std.proofs.Common.{Some, ap}
use Rattle.tm_rules.specs.Readers.{is_only}
use Rattle.tm_defs.specs.declared.rules.Rule.{Rule}
use Rattle.tm_rules.proofs.Flattened.{included-read}
use Rattle.tm_rules.proofs.rules.Rules.included.Goals as goal

pub returns-in-Match : goal.returns-in-Match
returns-in-Match c =
    included-read c.args.self.now c.self.inside.rules.items c.self.inside.lists.items c.args.n c.index-2.result.now c.as_slice-list.result.now c.index.result.now
    c.self.invariant c.self.view_is c.requires c.index-2.ensures c.index.ensures c.as_slice-list.ensures (ap (λ (r : Rule). is_only (Some r)) c.in-Match.is)

pub returns-in-BeginEnd : goal.returns-in-BeginEnd
returns-in-BeginEnd c =
    included-read c.args.self.now c.self.inside.rules.items c.self.inside.lists.items c.args.n c.index-2.result.now c.as_slice-list.result.now c.index.result.now
    c.self.invariant c.self.view_is c.requires c.index-2.ensures c.index.ensures c.as_slice-list.ensures (ap (λ (r : Rule). is_only (Some r)) c.in-BeginEnd.is)

pub returns-in-BeginWhile : goal.returns-in-BeginWhile
returns-in-BeginWhile c =
    included-read c.args.self.now c.self.inside.rules.items c.self.inside.lists.items c.args.n c.index-2.result.now c.as_slice-list.result.now c.index.result.now
    c.self.invariant c.self.view_is c.requires c.index-2.ensures c.index.ensures c.as_slice-list.ensures (ap (λ (r : Rule). is_only (Some r)) c.in-BeginWhile.is)

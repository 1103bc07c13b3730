use Rattle.std.proofs.Common.{List, [], ◌++◌, ap, sym, ◌∙◌}
use Rattle.tm_rules.specs.declared.candidate.Candidate.{Candidate}
use Rattle.tm_rules.proofs.Flattened.{flattened-start}
use Rattle.tm_rules.proofs.only_lists.push_one.Goals as goal

pub returns-in_ok-push-in-None : goal.returns-in_ok-push-in-None
returns-in_ok-push-in-None c =
    c.in_ok-push-in-None.ensures.items
    ∙ ap (λ (cs : List Candidate). c.args.list.now.items ++ cs) (sym (flattened-start c.args.rules.now [] c.args.number c.in-None.ensures))

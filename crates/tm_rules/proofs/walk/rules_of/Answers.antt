use Rattle.std.proofs.Common.{◌≡◌, List, [], ◌++◌, map, drop, ap, sym, ◌∙◌}
use Rattle.std.proofs.lemmas.List.{append-nil, drop_all}
use Rattle.tm_rules.specs.Rules.{rules_from}
use Rattle.tm_defs.specs.declared.rules.Rule.{Rule}
use Rattle.tm_rules.proofs.Walked.{rules_from-none}
use Rattle.tm_rules.proofs.walk.rules_of.Goals as goal

pub returns : goal.returns
returns c =
    let loaded = c.args.loaded.now in
    let items = c.loop-i.walk.rules.items in
    let none : drop c.loop-i.i c.args.grammars.now ≡ [] = drop_all c.loop-i.i c.args.grammars.now c.loop-i-test.false in
    sym (append-nil items)
    ∙ ap (λ (rs : List Rule). items ++ rs) (sym (ap (λ gs. rules_from loaded (drop c.loop-i.i loaded) (map (λ g. g.now) gs)) none ∙ rules_from-none loaded (drop c.loop-i.i loaded)))
    ∙ c.loop-i.invariant.rules

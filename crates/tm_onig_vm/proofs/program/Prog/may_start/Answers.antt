use Rattle.std.proofs.Common.{◌≡◌, false, true, sym, ap, subst, ◌∙◌}
use Rattle.tm_onig_class.specs.Tree.{tree_of}
use Rattle.tm_onig_vm.specs.First.{in_first, in_class, first_behind, may_begin}
use Rattle.tm_onig_vm.proofs.Firsts.{in_class-next}
use Rattle.tm_onig_vm.proofs.Follows.{never_begins}
use Rattle.tm_onig_vm.proofs.program.Prog.may_start.Goals as goal

pub returns : goal.returns
returns c = λ off next same s start sits is.
    let t = tree_of c.self.inside.pattern in
    let f = first_behind c.self.inside.firsts c.args.behind in
    let out : in_first f next ≡ false = sym (in_class-next f next) ∙ ap (in_class f) same ∙ ap (λ g. in_class g c.args.class) (sym c.behind_of.ensures) ∙ sym c.admits.ensures ∙ off in
    let never : may_begin c.args.behind next t ≡ false = sym (c.self.invariant.firsts_is c.args.behind next) ∙ out in
    rw (← c.self.view_is) (never_begins s c.args.behind start sits t (subst (λ n. may_begin c.args.behind n t ≡ false) (sym is) never))

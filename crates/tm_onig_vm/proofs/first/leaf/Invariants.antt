use Rattle.std.proofs.Common.{◌≡◌, ℕ, ◌<◌, ◌≤◌, false}
use Rattle.tm_onig_class.specs.Ascii.{has_bit}
use Rattle.tm_onig_class.specs.Tree.{tree_of}
use Rattle.tm_onig_vm.specs.First.{leaf_test}
use Rattle.tm_onig_vm.proofs.first.leaf.Given as goal

abbrev pub invariant-loop-code : goal.invariant-loop-code
invariant-loop-code l = ((c : ℕ) → c < l.code → has_bit l.ascii c ≡ leaf_test (tree_of l.pattern) c) × ((i : ℕ) → l.code ≤ i → has_bit l.ascii i ≡ false)

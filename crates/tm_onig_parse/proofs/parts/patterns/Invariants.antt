use Rattle.std.proofs.Common.{◌≡◌, map}
use Rattle.tm_onig_class.specs.Tree.{tree_of}
use Rattle.tm_onig_parse.specs.Meaning.{tree_in}
use Rattle.tm_onig_parse.specs.inner.Views.{built_of}
use Rattle.tm_onig_parse.proofs.parts.patterns.Given as goal

abbrev pub invariant-loop-part : goal.invariant-loop-part
invariant-loop-part l = map tree_of l.patterns.items ≡ map tree_in (map built_of l.yielded)

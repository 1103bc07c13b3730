use Rattle.std.proofs.Common.{◌≡◌, drop, map}
use Rattle.ucd_sets.specs.Loose.{value_named}
use Rattle.tm_onig_class.specs.Named.{with_name}
use Rattle.tm_onig_atom.specs.Classes.{class_sets, class_name}
use Rattle.tm_onig_atom.proofs.posix.class_name.Given as goal

abbrev pub invariant-names : goal.invariant-names
invariant-names l = value_named (drop l.i (map with_name class_sets)) l.name ≡ class_name l.name

use Rattle.std.proofs.Common.{◌≡◌, drop}
use Rattle.ucd_sets.specs.Loose.{value_named}
use Rattle.tm_onig_class.specs.Named.{listed_names}
use Rattle.tm_onig_class.proofs.names.listed_by_name.Given as goal

abbrev pub invariant-names : goal.invariant-names
invariant-names l = value_named (drop l.i listed_names) l.name ≡ value_named listed_names l.name

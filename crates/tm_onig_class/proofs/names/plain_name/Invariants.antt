use Rattle.std.proofs.Common.{◌≡◌, take, true, filter_map}
use Rattle.std.specs.List.{list_all}
use Rattle.std.specs.Char.{is_ascii}
use Rattle.tm_onig_class.specs.Named.{plain}
use Rattle.tm_onig_class.proofs.names.plain_name.Given as goal

abbrev pub invariant-chars : goal.invariant-chars
invariant-chars l = (list_all is_ascii (take l.index l.name) ≡ true) × (l.out.items ≡ filter_map plain (take l.index l.name))

use Rattle.std.proofs.Common.{◌≡◌, ◌++◌, map, take}
use Rattle.tm_template.specs.Names.{in_case}
use Rattle.tm_template.proofs.names.put_in_case.Given as goal

abbrev pub invariant-loop-c : goal.invariant-loop-c
invariant-loop-c l = l.out.items ≡ l.fn.out.items ++ map (in_case l.manner) (take l.c-index l.text)

use Rattle.std.proofs.Common.{◌≡◌, drop}
use Rattle.tm_forms.specs.Grammar.{has_later_item, has_later_keyed}
use Rattle.tm_forms.proofs.grammar.+later.Given as goal

abbrev pub invariant-later_captured-loop-i : goal.invariant-later_captured-loop-i
invariant-later_captured-loop-i l = has_later_keyed (drop l.i l.all) ≡ has_later_keyed l.all

abbrev pub invariant-later_listed-loop-i : goal.invariant-later_listed-loop-i
invariant-later_listed-loop-i l = has_later_item (drop l.i l.all) ≡ has_later_item l.all

abbrev pub invariant-later_named-loop-i : goal.invariant-later_named-loop-i
invariant-later_named-loop-i l = has_later_keyed (drop l.i l.rules) ≡ has_later_keyed l.rules

use Rattle.std.proofs.Common.{◌≡◌, ◌+◌, drop}
use Rattle.std.specs.List.{prefix_len}
use Rattle.tm_template.specs.Names.{is_dot}
use Rattle.tm_template.proofs.names.without_dots.Given as goal

abbrev pub invariant-dots : goal.invariant-dots
invariant-dots l = prefix_len is_dot l.text ≡ l.i + prefix_len is_dot (drop l.i l.text)

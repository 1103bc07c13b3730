use Rattle.std.proofs.Common.{◌≡◌, [], take, drop}
use Rattle.tm_theme.specs.Theme.{base_parts, parts_from}
use Rattle.tm_theme.proofs.theme.parts_of.Given as goal

abbrev pub invariant-loop-place : goal.invariant-loop-place
invariant-loop-place l =
    parts_from l.alternatives l.languages (take l.place l.path) (drop l.place l.path) l.parts ≡ parts_from l.alternatives l.languages [] l.path (base_parts l.fn.base)

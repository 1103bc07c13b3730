use Rattle.std.proofs.Common.{◌≡◌, ◌≤◌, map, max, drop}
use Rattle.tm_onig_parse.specs.Meaning.{highest}
use Rattle.tm_onig_parse.specs.inner.Views.{built_of}
use Rattle.tm_onig_parse.proofs.parts.highest_of.Given as goal

abbrev pub invariant-loop-part : goal.invariant-loop-part
invariant-loop-part l = (max l.high (highest (map built_of (drop l.part-index l.parts))) ≡ highest (map built_of l.parts)) × (l.high ≤ 200)

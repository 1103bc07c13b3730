use Rattle.std.specs.Prelude.{◌==◌}
use Rattle.std.specs.Cmp.Lexicographic.{pointwise}
use Rattle.tm_patcache.proofs.Kept.{promoted-right}
use Rattle.tm_patcache.proofs.programs.found_in.Goals as goal

pub returns-clause-kept : goal.returns-clause-kept
returns-clause-kept c = rw c.promote.ensures.entries (promoted-right (pointwise ◌==◌ c.args.text.now) c.args.kept.now.entries c.requires)

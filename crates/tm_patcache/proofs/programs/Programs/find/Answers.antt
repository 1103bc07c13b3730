use Rattle.tm_patcache.proofs.Kept.{absent-seen}
use Rattle.tm_patcache.proofs.programs.Programs.find.Goals as goal

pub returns-clause-absent : goal.returns-clause-absent
returns-clause-absent c = rw (← c.self.view_is) (absent-seen c.args.text.now c.self.inside.kept.entries c.found_in.result c.found_in.ensures.absent)

use Rattle.tm_patcache.proofs.Kept.{put-seen}
use Rattle.tm_patcache.proofs.programs.Programs.keep.Goals as goal

pub returns-clause-put : goal.returns-clause-put
returns-clause-put c = put-seen c.args.text c.put_in.new.kept.entries c.args.program c.put_in.result c.put_in.ensures.put

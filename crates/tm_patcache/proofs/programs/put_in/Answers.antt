use Rattle.std.specs.Prelude.{◌==◌}
use Rattle.std.specs.Cmp.Lexicographic.{pointwise, nat_list_eq_equiv}
use Rattle.lru.proofs.CallerLemmas.{lookup-put_entries}
use Rattle.tm_patcache.proofs.Kept.{put-right}
use Rattle.tm_patcache.proofs.programs.put_in.Goals as goal

pub returns-clause-kept : goal.returns-clause-kept
returns-clause-kept c = rw c.in_ok-put.ensures.entries (put-right c.args.kept.now c.args.text c.args.program c.requires.kept c.requires.program)

pub returns-clause-put : goal.returns-clause-put
returns-clause-put c = rw c.in_ok-put.ensures.entries (lookup-put_entries (pointwise ◌==◌) c.args.kept.now c.args.text c.args.program nat_list_eq_equiv)

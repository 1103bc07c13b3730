-- Programs and a cache of them may cross and be shared between threads. A crate above cites these, so that its own search
-- does not go through the map of the cache again.
use denote.Param.Send.{IsSend, IsSync, sendable}
use Rattle.std.proofs.Crossing as std
use Rattle.std.proofs.MapsCrossing as maps
use Rattle.std.proofs.alloc.Global.TheSendSync as global
use Rattle.std.proofs.hash.BuildHasherDefault.TheSendSync as build
use Rattle.std.proofs.hash.FoldHasher.TheSendSync as hasher
use Rattle.std.proofs.option.Option.TheSendSync as option
use Rattle.std.proofs.sync.Arc.TheSendSync as arc
use Rattle.lru.proofs.cache.LruCache.TheSendSync as lru
use Rattle.tm_defs.proofs.texts.Name.TheSendSync as name
use Rattle.tm_onig_class.proofs.patterns.Pattern.TheLaws.TheKnot as knot
use Rattle.tm_onig_vm.specs.contracts.program.Prog as Prog
use Rattle.tm_patcache.specs.contracts.programs.Programs as Programs
use Rattle.tm_patcache.specs.contracts.cache.PatCache as PatCache

pub program_send : IsSend Prog.the_row
program_send = search (maps.crosses, std.crosses, knot.crosses, sendable) depth 60 fits 20000

pub program_sync : IsSync Prog.the_row
program_sync = search (maps.crosses, std.crosses, knot.crosses, sendable) depth 60 fits 20000

kept_send : IsSend Programs.the_row
kept_send = search (
  lru.the_send,
  global.the_send,
  build.the_send,
  hasher.the_send,
  option.the_field_send,
  option.the_send,
  arc.the_send,
  name.the_send,
  name.the_sync,
  program_send,
  program_sync,
  maps.crosses,
  std.crosses,
  sendable,
) depth 60 fits 20000

pub cache_send : IsSend PatCache.the_row
cache_send = search (kept_send, std.crosses, sendable) depth 60 fits 20000

pub cache_sync : IsSync PatCache.the_row
cache_sync = search (kept_send, std.crosses, sendable) depth 60 fits 20000

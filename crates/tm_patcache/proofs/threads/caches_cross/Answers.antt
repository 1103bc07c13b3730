use denote.Param.Send.{sendable}
use Rattle.tm_patcache.proofs.Crossing.{cache_send, cache_sync}
use Rattle.tm_patcache.proofs.threads.caches_cross.Goals as goal

pub crosses-requires-send-T : goal.crosses-requires-send-T
crosses-requires-send-T c κs = search (cache_send, sendable)

pub crosses-requires-sync-T : goal.crosses-requires-sync-T
crosses-requires-sync-T c κs = search (cache_sync, sendable)

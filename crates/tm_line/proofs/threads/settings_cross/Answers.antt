use denote.Param.Send.{sendable}
use Rattle.tm_line.proofs.Crossing.{setting_send, setting_sync}
use Rattle.tm_line.proofs.threads.settings_cross.Goals as goal

pub crosses-requires-send-T : goal.crosses-requires-send-T
crosses-requires-send-T c κs = search (setting_send, sendable)

pub crosses-requires-sync-T : goal.crosses-requires-sync-T
crosses-requires-sync-T c κs = search (setting_sync, sendable)

-- Settings may cross and be shared between threads, field by field.
use denote.Param.Send.{IsSend, IsSync, view_send, view_sync, sendable}
use denote.Param.SendFields.{declared_send, declared_sync}
use Rattle.std.proofs.Crossing as std
use Rattle.tm_defs.proofs.texts.ScopePath.TheSendSync as path
use Rattle.tm_line_lint.proofs.Unread.TheSendSync as unread
use Rattle.tm_onig_scan.specs.contracts.Scanner as Scanner
use Rattle.tm_patcache.proofs.Crossing.{program_send, program_sync, cache_send, cache_sync}
use Rattle.tm_rules.proofs.rules.Rules.TheSendSync as rules
use Rattle.tm_line.proofs.prepared.Inside.TheSendSync as inside
use Rattle.tm_line.specs.contracts.prepared.Prepared.TheInside as Prepared
use Rattle.tm_line.specs.contracts.tokenizer.Setting.TheInside as Setting

scanner_send : IsSend Scanner.the_row
scanner_send = search (program_send, std.crosses, sendable) depth 60 fits 20000

scanner_sync : IsSync Scanner.the_row
scanner_sync = search (program_sync, std.crosses, sendable) depth 60 fits 20000

prepared_send : IsSend Prepared.the_row
prepared_send = declared_send Prepared.the_type (rules.the_send, (scanner_send, (std.Vec-send _ inside.the_send, (cache_send, (std.send, tt)))))

prepared_sync : IsSync Prepared.the_row
prepared_sync = declared_sync Prepared.the_type (rules.the_sync, (scanner_sync, (std.Vec-sync _ inside.the_sync, (cache_sync, (std.sync, tt)))))

pub setting_send : IsSend Setting.the_row
setting_send = declared_send Setting.the_type (path.the_send, (view_send _ _ _ _ _ prepared_send, (std.Vec-send _ unread.the_send, (std.send, tt))))

pub setting_sync : IsSync Setting.the_row
setting_sync = declared_sync Setting.the_type (path.the_sync, (view_sync _ _ _ _ _ prepared_sync, (std.Vec-sync _ unread.the_sync, (std.sync, tt))))

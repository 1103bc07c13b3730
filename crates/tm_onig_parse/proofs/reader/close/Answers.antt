use Rattle.tm_onig_parse.specs.inner.Views.{state_of_reader}
use Rattle.tm_onig_parse.proofs.Settling.{close_goes, close_fails}
use Rattle.tm_onig_parse.proofs.reader.close.Goals as goal

pub returns-in-Ok : goal.returns-in-Ok
returns-in-Ok c = close_goes (state_of_reader c.args.reader.now) (state_of_reader c.settle.new.reader) c.leave.result (state_of_reader c.leave.new.reader) c.in-Ok.ensures.pair c.in-Ok.ensures.opened c.leave.ensures

pub returns-in-Err : goal.returns-in-Err
returns-in-Err c = close_fails c.in-Err.fault (state_of_reader c.args.reader.now) c.in-Err.ensures.pair

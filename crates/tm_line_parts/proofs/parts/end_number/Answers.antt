use Rattle.std.proofs.Common.{arith}
use Rattle.tm_line_parts.proofs.parts.end_number.Goals as goal

pub returns-in-Err-TableFull-clause-adds : goal.returns-in-Err-TableFull-clause-adds
returns-in-Err-TableFull-clause-adds g c meta o =
    rw c.in-Some.is (record {
      pieces = tt;
      grows = c.in-Err-TableFull.ensures.grows;
      spends = record { falls = omega arith; most = omega arith };
      cause = rw c.in-Err-TableFull.field-0-is at c.in-Err-TableFull.ensures.full;
    })

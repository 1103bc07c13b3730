use Rattle.std.proofs.Common.{◌≡◌, ◌≤◌, length, take}
use Rattle.std.specs.Str.Parse.{digits_value}
use Rattle.tm_template.proofs.captures.group_of.Given as goal

-- the number of the digits so far is in range
abbrev pub invariant-digits : goal.invariant-digits
invariant-digits l = record {
  value : l.number ≡ digits_value 10 (take l.i l.digits);
  small : l.number ≤ length l.groups;
}

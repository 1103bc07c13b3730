use Rattle.std.proofs.Common.{refl}
use Rattle.tm_onig_class.proofs.listed.Listed.name.Goals as goal

pub returns-in-Word : goal.returns-in-Word
returns-in-Word c = rw c.in-Word.is refl

pub returns-in-Digit : goal.returns-in-Digit
returns-in-Digit c = rw c.in-Digit.is refl

pub returns-in-Space : goal.returns-in-Space
returns-in-Space c = rw c.in-Space.is refl

pub returns-in-Xdigit : goal.returns-in-Xdigit
returns-in-Xdigit c = rw c.in-Xdigit.is refl

pub returns-in-Alpha : goal.returns-in-Alpha
returns-in-Alpha c = rw c.in-Alpha.is refl

pub returns-in-Alnum : goal.returns-in-Alnum
returns-in-Alnum c = rw c.in-Alnum.is refl

pub returns-in-Blank : goal.returns-in-Blank
returns-in-Blank c = rw c.in-Blank.is refl

pub returns-in-Cntrl : goal.returns-in-Cntrl
returns-in-Cntrl c = rw c.in-Cntrl.is refl

pub returns-in-Lower : goal.returns-in-Lower
returns-in-Lower c = rw c.in-Lower.is refl

pub returns-in-Upper : goal.returns-in-Upper
returns-in-Upper c = rw c.in-Upper.is refl

pub returns-in-Punct : goal.returns-in-Punct
returns-in-Punct c = rw c.in-Punct.is refl

pub returns-in-Graph : goal.returns-in-Graph
returns-in-Graph c = rw c.in-Graph.is refl

pub returns-in-Print : goal.returns-in-Print
returns-in-Print c = rw c.in-Print.is refl

pub returns-in-Ascii : goal.returns-in-Ascii
returns-in-Ascii c = rw c.in-Ascii.is refl

pub returns-in-Any : goal.returns-in-Any
returns-in-Any c = rw c.in-Any.is refl

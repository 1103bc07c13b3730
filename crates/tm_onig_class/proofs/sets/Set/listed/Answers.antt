use Rattle.std.proofs.Common.{◌∙◌, ap₂, ◌||◌}
use Rattle.std.proofs.lemmas.Result.{IfOk-weaker}
use Rattle.tm_onig_class.specs.Listed.{in_listed}
use Rattle.tm_onig_class.proofs.sets.Set.listed.Goals as goal

pub returns-in-Word : goal.returns-in-Word
unfolding in_listed
returns-in-Word c = rw c.in-Word.is c.set_among.ensures

pub returns-in-Digit : goal.returns-in-Digit
unfolding in_listed
returns-in-Digit c = rw c.in-Digit.is c.set_among-in-Digit.ensures

pub returns-in-Space : goal.returns-in-Space
unfolding in_listed
returns-in-Space c = rw c.in-Space.is c.space.ensures

pub returns-in-Xdigit : goal.returns-in-Xdigit
unfolding in_listed
returns-in-Xdigit c = rw c.in-Xdigit.is c.set_among-in-Xdigit.ensures

pub returns-in-Alpha : goal.returns-in-Alpha
unfolding in_listed
returns-in-Alpha c = rw c.in-Alpha.is c.set_among-in-Alpha.ensures

pub returns-in-Alnum : goal.returns-in-Alnum
unfolding in_listed
returns-in-Alnum c = rw c.in-Alnum.is c.set_among-in-Alnum.ensures

pub returns-in-Blank : goal.returns-in-Blank
unfolding in_listed
returns-in-Blank c = rw c.in-Blank.is c.set_among-in-Blank.ensures

pub returns-in-Cntrl : goal.returns-in-Cntrl
unfolding in_listed
returns-in-Cntrl c = rw c.in-Cntrl.is c.set_among-in-Cntrl.ensures

pub returns-in-Lower : goal.returns-in-Lower
unfolding in_listed
returns-in-Lower c = rw c.in-Lower.is c.set_among-in-Lower.ensures

pub returns-in-Upper : goal.returns-in-Upper
unfolding in_listed
returns-in-Upper c = rw c.in-Upper.is c.set_among-in-Upper.ensures

pub returns-in-Punct : goal.returns-in-Punct
unfolding in_listed
returns-in-Punct c = rw c.in-Punct.is c.set_among-in-Punct.ensures

pub returns-in-Graph : goal.returns-in-Graph
unfolding in_listed
returns-in-Graph c = rw c.in-Graph.is c.graph.ensures

pub returns-in_ok-set_among-in-Print : goal.returns-in_ok-set_among-in-Print
unfolding in_listed
returns-in_ok-set_among-in-Print c = rw c.in-Print.is (IfOk-weaker c.union-in-Print-2.result _ _
    (λ s h x is. h x is ∙ ap₂ ◌||◌ (c.in_ok-graph-in-Print.ensures x is) (c.in_ok-set_among-in-Print.ensures x is))
    c.union-in-Print-2.ensures)

pub returns-in-Ascii : goal.returns-in-Ascii
unfolding in_listed
returns-in-Ascii c = rw c.in-Ascii.is c.set_among-in-Ascii.ensures

pub returns-in-Any : goal.returns-in-Any
unfolding in_listed
returns-in-Any c = rw c.in-Any.is c.set_among-in-Any.ensures

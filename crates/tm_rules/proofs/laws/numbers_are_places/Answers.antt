use Rattle.tm_rules.proofs.Lengths.{length-inside, length-captures, length-items, length-names}
use Rattle.tm_rules.proofs.laws.numbers_are_places.Goals as goal

pub returns : goal.returns
returns c = λ loaded grammar. record {
  inside = length-inside loaded grammar;
  captures = length-captures loaded grammar;
  items = length-items loaded grammar;
  names = length-names loaded grammar;
}

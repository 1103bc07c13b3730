use Rattle.std.proofs.Common.{rules}
use Rattle.std.proofs.lemmas.Str.{chars_from_encodes}
use Rattle.tm_text.proofs.text.characters_of_str.Goals as goal

pub returns : goal.returns
returns c = search (rules, chars_from_encodes)

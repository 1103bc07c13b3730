use Rattle.std.proofs.Common.{ℕ, List, Option, subst}
use Rattle.tm_onig_class.specs.Tree.{Tree, tree_of}
use Rattle.tm_onig_parse.specs.Parsed.{parsed}
use Rattle.tm_onig_parse.specs.inner.Views.{Gives}
use Rattle.tm_onig_parse.proofs.Laws.{parsed_only, found_in, numbered_in, ordered_in}
use Rattle.tm_onig_parse.proofs.parse_with.Goals as goal

read_text : (c : goal.After-read) → Gives tree_of c.read.result (parsed c.args.text.now)
read_text c = subst (λ (t : List ℕ). Gives tree_of c.read.result (parsed t)) c.as_slice.ensures c.read.ensures

pub returns-clause-found : goal.returns-clause-found
returns-clause-found c = found_in c.args.text.now c.read.result (read_text c)

pub returns-clause-only : goal.returns-clause-only
returns-clause-only c alts spells = subst (λ (o : Option Tree). Gives tree_of c.read.result o) (parsed_only c.args.text.now alts spells) (read_text c)

pub returns-clause-numbered : goal.returns-clause-numbered
returns-clause-numbered c = numbered_in c.args.text.now c.read.result (read_text c)

pub returns-clause-ordered : goal.returns-clause-ordered
returns-clause-ordered c = ordered_in c.args.text.now c.read.result (read_text c)

pub returns-clause-read : goal.returns-clause-read
returns-clause-read c = read_text c

-- How many rules all grammars have.
use Rattle.std.proofs.Common.{◌≡◌, ◌+◌, List, [], ◌∷◌, ◌++◌, arith}
use Rattle.tm_grammar.specs.File.{GrammarTree}
use Rattle.tm_rules.specs.Rules.{grammar_size, grammars_size, grammars_of}
use Rattle.tm_rules.specs.declared.grammars.Grammars.{Grammars}

pub grammars_size-append : (gs hs : List GrammarTree) → grammars_size (gs ++ hs) ≡ grammars_size gs + grammars_size hs
grammars_size-append [] hs = omega arith
grammars_size-append (g ∷ gs) hs = omega (arith, grammars_size-append gs hs)

pub grammars_size_of : (parts : Grammars) → grammars_size (grammars_of parts) ≡ grammar_size parts.root + grammars_size parts.more.items + grammars_size parts.injected.items
grammars_size_of parts = omega (arith, grammars_size-append parts.more.items parts.injected.items)

-- A setting as plain data.
use Rattle.std.specs.Prelude.{ℕ, List}
use Rattle.tm_rules.specs.Rules.{plain_rules}
use Rattle.tm_rules.specs.declared.grammars.Grammars.{Grammars}
use Rattle.tm_defs.specs.declared.rules.Rule.{Rule}
use Rattle.tm_template.specs.Names.{words_of}

-- the scopes of every token, and the rules of all grammars by number; rule 0 is the root
pub record Setting : Type 0 where
  pub scopes : List (List ℕ)
  pub rules : List Rule

abbrev pub setting_with : List (List ℕ) → List Rule → Setting
setting_with scopes rules = record { scopes = scopes; rules = rules }

-- the scope name of the root grammar gives scopes as a name does
abbrev pub setting_of : Grammars → Setting
setting_of parts = setting_with (words_of parts.root.scope_name) (plain_rules parts)

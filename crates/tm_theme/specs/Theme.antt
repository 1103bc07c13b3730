-- The metadata of a path of scopes, by a theme and the rules beside it.
use Rattle.std.specs.Prelude.{◌≡◌, ℕ, ◌++◌, Bool, List, [], ◌∷◌, unwrap_or}
use Rattle.tm_meta.specs.Fields.{packed_fields}
use Rattle.tm_meta.specs.Metadata.{decided_type, type_bits}
use Rattle.tm_meta.specs.declared.metadata.TokenType.TheVariants.{Other}
use Rattle.tm_selector.specs.declared.tokens.Token.{Token}
use Rattle.tm_theme.specs.declared.style.Look.{Look}
use Rattle.tm_theme.specs.declared.style.Alternative.{Alternative}
use Rattle.tm_theme.specs.declared.theme.Parts.{Parts}
use Rattle.tm_theme.specs.Style.{styled}
use Rattle.tm_theme.specs.Rules.{language_of, is_balanced}

-- the look of plain text, and the alternatives of the rules in the order of the file
pub record ThemeRules : Type 0 where
  pub base : Look
  pub alternatives : List Alternative

abbrev pub theme_rules : Look → List Alternative → ThemeRules
theme_rules base alternatives = record { base = base; alternatives = alternatives }

-- no font style; colour 1 on colour 2; and no rules
abbrev pub plain_theme : ThemeRules
plain_theme = theme_rules (record { font = 0; foreground = 1; background = 2 }) []

-- the parts of no scope: language 1, and plain text
abbrev pub base_parts : Look → Parts
base_parts base = record { language = 1; token_type = Other; look = base }

-- the parts of a scope below these, where those of the scope above it are known: each is what the scope says, or else kept
abbrev pub pushed : List Alternative → List (List ℕ × ℕ) → List (List ℕ) → List ℕ → Parts → Parts
pushed alternatives languages above scope parts = record {
  language = unwrap_or (language_of languages scope) parts.language;
  token_type = unwrap_or (decided_type scope) parts.token_type;
  look = styled alternatives above scope parts.look;
}

-- scope by scope, the outermost first
abbrev pub parts_from : List Alternative → List (List ℕ × ℕ) → List (List ℕ) → List (List ℕ) → Parts → Parts
parts_from alternatives languages above [] parts = parts
parts_from alternatives languages above (scope ∷ path) parts =
    parts_from alternatives languages (above ++ scope ∷ []) path (pushed alternatives languages above scope parts)

abbrev pub parts_of : ThemeRules → List (List ℕ × ℕ) → List (List ℕ) → Parts
parts_of theme languages path = parts_from theme.alternatives languages [] path (base_parts theme.base)

-- the metadata word of parts
abbrev pub word_of : Parts → Bool → ℕ
word_of parts balanced = packed_fields (record {
  language = parts.language;
  token_type = type_bits parts.token_type;
  balanced = balanced;
  font = parts.look.font;
  foreground = parts.look.foreground;
  background = parts.look.background;
})

-- the metadata of a path
abbrev pub metadata_by : ThemeRules → List (List ℕ × ℕ) → List (List Token) → List (List ℕ) → ℕ
metadata_by theme languages unbalanced path = word_of (parts_of theme languages path) (is_balanced unbalanced path)

-- the parts of a path are those of the path above its last scope with that scope
abbrev pub IsByLast : Type 0
IsByLast = (theme : ThemeRules) (languages : List (List ℕ × ℕ)) (above : List (List ℕ)) (scope : List ℕ) →
    parts_of theme languages (above ++ scope ∷ []) ≡ pushed theme.alternatives languages above scope (parts_of theme languages above)

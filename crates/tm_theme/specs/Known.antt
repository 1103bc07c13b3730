-- What is known of one name, whatever stands above it.
use Rattle.std.specs.Prelude.{◌≡◌, ℕ, List}
use Rattle.tm_meta.specs.Metadata.{decided_type}
use Rattle.tm_theme.specs.declared.style.Alternative.{Alternative}
use Rattle.tm_theme.specs.declared.theme.KnownScope.{KnownScope}
use Rattle.tm_theme.specs.Rules.{language_of}
use Rattle.tm_theme.specs.Places.{AreFor}

-- this is what a theme of these alternatives and these languages say of the scope
pub record IsKnown (alternatives : List Alternative) (languages : List (List ℕ × ℕ)) (scope : List ℕ) (known : KnownScope) : Type 0 where
  pub language : known.language ≡ language_of languages scope
  pub token_type : known.token_type ≡ decided_type scope
  pub places : AreFor alternatives scope known.places.items

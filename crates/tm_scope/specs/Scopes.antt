-- What numbered texts and scope lists stand for.
use Rattle.std.specs.Prelude.{◌≡◌, ℕ, ◌<◌, ◌^◌, List, [], ◌∷◌, length, slice_index_or}
use Rattle.std.specs.List.{AllByRecursion}
use Rattle.tm_defs.specs.Tables.{Tables, IsNumbering}
use Rattle.tm_scope.specs.Links.{resolved, LeadBack}
use Rattle.tm_scope.specs.Numbered.{NumberedValues}
use Rattle.tm_scope.specs.declared.scopes.NameLink.{NameLink}

-- the scope lists, of which the empty one has number 0
abbrev pub paths_of : List (List ℕ) → List NameLink → List (List (List ℕ))
paths_of texts links = resolved (λ link. slice_index_or texts link.name.0 []) (λ link. link.rest.0) ([] ∷ []) links

-- the tables before there are states other than the opening one
abbrev pub scopes_of : List (List ℕ) → List NameLink → ℕ → Tables
scopes_of texts links limit = record { texts = texts; paths = paths_of texts links; states = [] ∷ []; limit = limit }

-- the numbers in the links are in range, and no entry has two numbers
pub record AreScopes (texts : NumberedValues (List ℕ)) (links : NumberedValues NameLink) (limit : ℕ) : Type 0 where
  pub first_text : texts.first ≡ 0
  pub first_link : links.first ≡ 1
  pub back : LeadBack (λ link. link.rest.0) 1 links.values
  pub names : AllByRecursion (λ link. link.name.0 < length texts.values) links.values
  pub numbering : IsNumbering (scopes_of texts.values links.values limit)
  pub small : limit < 2 ^ 32

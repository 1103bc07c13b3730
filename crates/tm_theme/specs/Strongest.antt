-- Which alternative is the strongest, without an order of looking at them.
use Rattle.std.specs.Prelude.{◌≡◌, ℕ, ◌<◌, List, true, false, Some, slice_get, MatchOption}
use Rattle.tm_theme.specs.declared.style.Alternative.{Alternative}
use Rattle.tm_theme.specs.Style.{Attribute, is_weaker, sets, strongest}

-- the alternative stands among these and sets the attribute; it is weaker than none that does, and all such behind it are
-- weaker than it
pub record IsStrongest (attribute : Attribute) (above : List (List ℕ)) (scope : List ℕ) (all : List Alternative) (a : Alternative) : Type 0 where
  pub place : ℕ
  pub here : slice_get all place ≡ Some a
  pub set : sets attribute above scope a ≡ true
  pub weaker_than_none : (other : ℕ) (b : Alternative) → slice_get all other ≡ Some b → sets attribute above scope b ≡ true → is_weaker a.words b.words ≡ false
  pub last : (other : ℕ) (b : Alternative) → place < other → slice_get all other ≡ Some b → sets attribute above scope b ≡ true → is_weaker b.words a.words ≡ true

-- none of these sets the attribute, or the one that wins is the strongest
abbrev pub IsByStrength : Type 0
IsByStrength = (attribute : Attribute) (above : List (List ℕ)) (scope : List ℕ) (all : List Alternative) → MatchOption (strongest attribute above scope all)
    ((place : ℕ) (b : Alternative) → slice_get all place ≡ Some b → sets attribute above scope b ≡ false)
    (IsStrongest attribute above scope all)

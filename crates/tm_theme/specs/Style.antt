-- What the rules of a theme set, and which of them sets an attribute of a scope.
use Rattle.std.specs.Prelude.{ℕ, ◌+◌, ◌≤◌, ◌==◌, ◌&&◌, Bool, true, false, List, [], ◌∷◌, length, if◌then◌else◌, Option, Some, None, is_some, unwrap_or, option_and_then, nat_lt, ⊤}
use Rattle.tm_selector.specs.Names.{covers, place_above}
use Rattle.tm_theme.specs.declared.style.Look.{Look}
use Rattle.tm_theme.specs.declared.style.Style.{Style}
use Rattle.tm_theme.specs.declared.style.Alternative.{Alternative}

-- a part of a look
pub data Attribute : Type 0 where
  Font : Attribute
  Foreground : Attribute
  Background : Attribute

abbrev pub value_of : Attribute → Style → Option ℕ
value_of Font style = style.font
value_of Foreground style = style.foreground
value_of Background style = style.background

-- the dots of a word: its parts are one more
abbrev pub dots : List ℕ → ℕ
dots [] = 0
dots (c ∷ word) = if c == 46 then 1 + dots word else dots word

-- of two lists of words, the last word of an alternative first, whether the first is the weaker: where the words first
-- differ in the number of their parts, that with fewer; else that with fewer words
abbrev pub is_weaker : List (List ℕ) → List (List ℕ) → Bool
is_weaker [] [] = false
is_weaker [] (v ∷ vs) = true
is_weaker (w ∷ ws) [] = false
is_weaker (w ∷ ws) (v ∷ vs) = if nat_lt (dots w) (dots v) then true else (if nat_lt (dots v) (dots w) then false else is_weaker ws vs)

-- the words match scopes above a place, each at the nearest place above the one before
abbrev pub climb : List (List ℕ) → List (List ℕ) → Option ℕ → Bool
climb [] above place = is_some place
climb (word ∷ words) above place = climb words above (option_and_then (place_above word above) place)

-- the first word matches the scope, and the others match scopes above it
abbrev pub matches : List (List ℕ) → List (List ℕ) → List ℕ → Bool
matches [] above scope = false
matches (word ∷ words) above scope = covers word scope && climb words above (Some (length above))

-- the alternative matches the scope below these, and sets the attribute
abbrev pub sets : Attribute → List (List ℕ) → List ℕ → Alternative → Bool
sets attribute above scope a = matches a.words above scope && is_some (value_of attribute a.style)

-- an alternative, or one behind it that is not weaker
abbrev pub stronger : Alternative → Option Alternative → Alternative
stronger a None = a
stronger a (Some b) = if is_weaker b.words a.words then a else b

-- the strongest alternative that matches and sets the attribute, of equally strong ones the last
abbrev pub strongest : Attribute → List (List ℕ) → List ℕ → List Alternative → Option Alternative
strongest attribute above scope [] = None
strongest attribute above scope (a ∷ more) =
    if sets attribute above scope a then Some (stronger a (strongest attribute above scope more)) else strongest attribute above scope more

-- what the strongest alternative sets
abbrev pub setting : Attribute → List (List ℕ) → List ℕ → List Alternative → Option ℕ
setting attribute above scope alternatives = option_and_then (λ a. value_of attribute a.style) (strongest attribute above scope alternatives)

-- the look of a scope below these, where that above it is known
abbrev pub styled : List Alternative → List (List ℕ) → List ℕ → Look → Look
styled alternatives above scope look = record {
  font = unwrap_or (setting Font above scope alternatives) look.font;
  foreground = unwrap_or (setting Foreground above scope alternatives) look.foreground;
  background = unwrap_or (setting Background above scope alternatives) look.background;
}

-- the parts fit into a metadata word
pub record IsSmall (look : Look) : Type 0 where
  pub font : look.font ≤ 15
  pub foreground : look.foreground ≤ 511
  pub background : look.background ≤ 255

abbrev pub IsAtMost : ℕ → Option ℕ → Type 0
IsAtMost n None = ⊤
IsAtMost n (Some value) = value ≤ n

pub record IsSmallStyle (style : Style) : Type 0 where
  pub font : IsAtMost 15 style.font
  pub foreground : IsAtMost 511 style.foreground
  pub background : IsAtMost 255 style.background

abbrev pub AreSmall : List Alternative → Type 0
AreSmall [] = ⊤
AreSmall (a ∷ more) = IsSmallStyle a.style × AreSmall more

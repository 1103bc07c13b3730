-- The parts of a path, by its last scope; and that they are small.
use Rattle.std.proofs.Common.{◌≡◌, ℕ, ◌≤◌, Bool, true, false, List, [], ◌∷◌, ◌++◌, Option, Some, None, refl, ap, sym, subst, ◌∙◌, append_assoc, if◌then◌else◌}
use Rattle.std.specs.Prelude.{unwrap_or, option_and_then}
use Rattle.tm_meta.specs.declared.metadata.TokenType.{TokenType}
use Rattle.tm_theme.specs.declared.style.Look.{Look}
use Rattle.tm_theme.specs.declared.style.Alternative.{Alternative}
use Rattle.tm_theme.specs.declared.theme.Parts.{Parts}
use Rattle.tm_theme.specs.declared.theme.KnownScope.{KnownScope}
use Rattle.tm_theme.specs.Known.{IsKnown}
use Rattle.tm_theme.specs.Style.{Attribute, Font, Foreground, Background, value_of, is_weaker, sets, stronger, strongest, styled, IsSmall, IsAtMost, IsSmallStyle, AreSmall}
use Rattle.tm_theme.specs.Theme.{base_parts, pushed, parts_from, IsByLast}

last : (alternatives : List Alternative) (languages : List (List ℕ × ℕ)) (above path : List (List ℕ)) (scope : List ℕ) (parts : Parts) →
    parts_from alternatives languages above (path ++ scope ∷ []) parts ≡ pushed alternatives languages (above ++ path) scope (parts_from alternatives languages above path parts)
last alternatives languages above [] scope parts = ap (λ names. pushed alternatives languages names scope parts) (sym (append-nil above))
  where
    append-nil : (xs : List (List ℕ)) → xs ++ [] ≡ xs
    append-nil [] = refl
    append-nil (x ∷ xs) = ap (λ ys. x ∷ ys) (append-nil xs)
last alternatives languages above (name ∷ path) scope parts =
    let more = pushed alternatives languages above name parts in
    last alternatives languages (above ++ name ∷ []) path scope more
    ∙ ap (λ names. pushed alternatives languages names scope (parts_from alternatives languages (above ++ name ∷ []) path more)) (append_assoc above (name ∷ []) path)

pub parts-by-last : IsByLast
parts-by-last theme languages above scope = last theme.alternatives languages [] above scope (base_parts theme.base)

IsSmallOption : Option Alternative → Type 0
IsSmallOption None = Unit {0}
IsSmallOption (Some a) = IsSmallStyle a.style

strongest-small : (attribute : Attribute) (above : List (List ℕ)) (scope : List ℕ) (alternatives : List Alternative) → AreSmall alternatives → IsSmallOption (strongest attribute above scope alternatives)
unfolding IsSmallOption
strongest-small attribute above scope [] h = tt
strongest-small attribute above scope (a ∷ more) h = go (sets attribute above scope a) (strongest attribute above scope more) (strongest-small attribute above scope more h.1)
  where
    two : (b : Bool) (x y : Alternative) → IsSmallStyle x.style → IsSmallStyle y.style → IsSmallStyle (if b then x else y).style
    two true x y hx hy = hx
    two false x y hx hy = hy

    go : (b : Bool) (o : Option Alternative) → IsSmallOption o → IsSmallOption (if b then Some (stronger a o) else o)
    go false o ho = ho
    go true None ho = h.0
    go true (Some x) ho = two (is_weaker x.words a.words) a x h.0 ho

font-small : (o : Option Alternative) (d : ℕ) → IsSmallOption o → d ≤ 15 → unwrap_or (option_and_then (λ a. value_of Font a.style) o) d ≤ 15
unfolding IsSmallOption
font-small None d h le = le
font-small (Some a) d h le = go a.style.font h.font
  where
    go : (v : Option ℕ) → IsAtMost 15 v → unwrap_or v d ≤ 15
    go None k = le
    go (Some v) k = k

foreground-small : (o : Option Alternative) (d : ℕ) → IsSmallOption o → d ≤ 511 → unwrap_or (option_and_then (λ a. value_of Foreground a.style) o) d ≤ 511
unfolding IsSmallOption
foreground-small None d h le = le
foreground-small (Some a) d h le = go a.style.foreground h.foreground
  where
    go : (v : Option ℕ) → IsAtMost 511 v → unwrap_or v d ≤ 511
    go None k = le
    go (Some v) k = k

background-small : (o : Option Alternative) (d : ℕ) → IsSmallOption o → d ≤ 255 → unwrap_or (option_and_then (λ a. value_of Background a.style) o) d ≤ 255
unfolding IsSmallOption
background-small None d h le = le
background-small (Some a) d h le = go a.style.background h.background
  where
    go : (v : Option ℕ) → IsAtMost 255 v → unwrap_or v d ≤ 255
    go None k = le
    go (Some v) k = k

pub styled-small : (alternatives : List Alternative) (above : List (List ℕ)) (scope : List ℕ) (look : Look) → AreSmall alternatives → IsSmall look → IsSmall (styled alternatives above scope look)
styled-small alternatives above scope look h small = record {
  font = font-small (strongest Font above scope alternatives) look.font (strongest-small Font above scope alternatives h) small.font;
  foreground = foreground-small (strongest Foreground above scope alternatives) look.foreground (strongest-small Foreground above scope alternatives h) small.foreground;
  background = background-small (strongest Background above scope alternatives) look.background (strongest-small Background above scope alternatives h) small.background;
}

pub parts-small : (alternatives : List Alternative) (languages : List (List ℕ × ℕ)) (above path : List (List ℕ)) (parts : Parts) → AreSmall alternatives → IsSmall parts.look →
    IsSmall (parts_from alternatives languages above path parts).look
parts-small alternatives languages above [] parts h small = small
parts-small alternatives languages above (scope ∷ path) parts h small =
    parts-small alternatives languages (above ++ scope ∷ []) path (pushed alternatives languages above scope parts) h (styled-small alternatives above scope parts.look h small)

pub pushed-small : (r parts : Parts) (alternatives : List Alternative) (languages : List (List ℕ × ℕ)) (above : List (List ℕ)) (scope : List ℕ) → r ≡ pushed alternatives languages above scope parts →
    AreSmall alternatives → IsSmall parts.look → IsSmall r.look
pushed-small r parts alternatives languages above scope is h small = subst (λ (p : Parts). IsSmall p.look) (sym is) (styled-small alternatives above scope parts.look h small)

-- a known name, below others
pub known-pushed : (alternatives : List Alternative) (languages : List (List ℕ × ℕ)) (above : List (List ℕ)) (scope : List ℕ) (known : KnownScope) (parts : Parts) (language : ℕ) (token_type : TokenType) (look : Look) →
    IsKnown alternatives languages scope known → language ≡ unwrap_or known.language parts.language → token_type ≡ unwrap_or known.token_type parts.token_type → look ≡ styled alternatives above scope parts.look →
    ◌≡◌ {A = Parts} (record { language = language; token_type = token_type; look = look }) (pushed alternatives languages above scope parts)
known-pushed alternatives languages above scope known parts language token_type look k l t is =
    let kl = k.language in
    let kt = k.token_type in
    cc

pub all-small : (r base : Parts) (alternatives : List Alternative) (languages : List (List ℕ × ℕ)) (path : List (List ℕ)) → r ≡ parts_from alternatives languages [] path base →
    AreSmall alternatives → IsSmall base.look → IsSmall r.look
all-small r base alternatives languages path is h small = subst (λ (p : Parts). IsSmall p.look) (sym is) (parts-small alternatives languages [] path base h small)

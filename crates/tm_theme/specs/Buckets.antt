-- The alternatives in buckets by their first word, and what a look-up in them finds.
use Rattle.std.specs.Prelude.{◌≡◌, ℕ, zero, suc, ◌+◌, ◌-◌, ◌*◌, ◌/◌, ◌%◌, ◌<◌, ◌&&◌, Bool, true, false, List, [], ◌∷◌, length, take, set, get_or, if◌then◌else◌, Option, Some, None, unwrap_or, slice_get}
use Rattle.std.specs.Option.{option_or}
use Rattle.std.specs.Str.{bytes_eq}
use Rattle.tm_selector.specs.Names.{ends_a_part}
use Rattle.tm_theme.specs.declared.style.Look.{Look}
use Rattle.tm_theme.specs.declared.style.Style.{Style}
use Rattle.tm_theme.specs.declared.style.Alternative.{Alternative}
use Rattle.tm_theme.specs.Style.{Attribute, value_of, is_weaker, climb, setting}

abbrev pub unset : Style
unset = record { font = None; foreground = None; background = None }

-- what the first style sets, and for the rest the second one
abbrev pub kept : Style → Style → Style
kept first second = record {
  font = option_or first.font second.font;
  foreground = option_or first.foreground second.foreground;
  background = option_or first.background second.background;
}

-- one that matches nothing
abbrev pub no_alternative : Alternative
no_alternative = record { words = []; style = unset }

-- the alternative at a place; past the end one that matches nothing
abbrev pub alternative_at : List Alternative → ℕ → Alternative
alternative_at all place = unwrap_or (slice_get all place) no_alternative

abbrev pub character : List ℕ → ℕ → ℕ
character word place = unwrap_or (slice_get word place) 0

-- a number of a word, by its length and three of its characters
abbrev pub slot_key : List ℕ → ℕ
slot_key word = length word + 31 * character word (length word - 1) + 131 * character word (length word - 4) + 1021 * character word (length word / 2)

-- the bucket of a word, of so many
abbrev pub slot : List ℕ → ℕ → ℕ
slot word count = slot_key word % count

abbrev pub bucket_at : List (List ℕ) → ℕ → List ℕ
bucket_at buckets place = get_or buckets place []

-- the first word is this piece of the scope, and the others match scopes above it
abbrev pub fits : List ℕ → List (List ℕ) → List (List ℕ) → Bool
fits piece above [] = false
fits piece above (word ∷ parents) = bytes_eq word piece && climb parents above (Some (length above))

-- the style with what an alternative sets, where it fits
abbrev pub with_one : List ℕ → List (List ℕ) → Style → Alternative → Style
with_one piece above style a = if fits piece above a.words then kept style a.style else style

abbrev pub with_bucket : List Alternative → List ℕ → List (List ℕ) → Style → List ℕ → Style
with_bucket all piece above style [] = style
with_bucket all piece above style (place ∷ more) = with_bucket all piece above (with_one piece above style (alternative_at all place)) more

-- the style with what those alternatives set whose first word is the scope up to this end, if a word may end there
abbrev pub with_piece : List Alternative → List (List ℕ) → List (List ℕ) → List ℕ → Style → ℕ → Style
with_piece all buckets above scope style end =
    if ends_a_part (slice_get scope end) then with_bucket all (take end scope) above style (bucket_at buckets (slot (take end scope) (length buckets))) else style

-- the longest piece first
abbrev pub with_pieces : List Alternative → List (List ℕ) → List (List ℕ) → List ℕ → Style → ℕ → Style
with_pieces all buckets above scope style zero = style
with_pieces all buckets above scope style (suc end) = with_pieces all buckets above scope (with_piece all buckets above scope style end) end

abbrev pub found_style : List Alternative → List (List ℕ) → List (List ℕ) → List ℕ → Style
found_style all buckets above scope = with_pieces all buckets above scope unset (length scope + 1)

-- the look with what a style sets
abbrev pub with_style : Look → Style → Look
with_style look style = record {
  font = unwrap_or style.font look.font;
  foreground = unwrap_or style.foreground look.foreground;
  background = unwrap_or style.background look.background;
}

-- the place before the first in the bucket that is weaker
abbrev pub with_place : List Alternative → ℕ → List ℕ → List ℕ
with_place all new [] = new ∷ []
with_place all new (place ∷ more) =
    if is_weaker (alternative_at all place).words (alternative_at all new).words then new ∷ place ∷ more else place ∷ with_place all new more

abbrev pub with_words : List Alternative → ℕ → List (List ℕ) → List (List ℕ) → List (List ℕ)
with_words all new [] buckets = buckets
with_words all new (word ∷ parents) buckets =
    set buckets (slot word (length buckets)) (with_place all new (bucket_at buckets (slot word (length buckets))))

-- the alternative at a place, in the bucket of its first word
abbrev pub with_alternative : List Alternative → ℕ → List (List ℕ) → List (List ℕ)
with_alternative all new buckets = with_words all new (alternative_at all new).words buckets

-- a look-up finds what the strongest alternatives set
pub record IsTable (all : List Alternative) (buckets : List (List ℕ)) : Type 0 where
  pub some : 0 < length buckets
  pub looks : (attribute : Attribute) (above : List (List ℕ)) (scope : List ℕ) → value_of attribute (found_style all buckets above scope) ≡ setting attribute above scope all

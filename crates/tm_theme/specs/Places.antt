-- The alternatives whose first word matches a scope, and what they set by what stands above it.
use Rattle.std.specs.Prelude.{◌≡◌, ℕ, zero, suc, ◌++◌, Bool, true, false, List, [], ◌∷◌, length, take, if◌then◌else◌, Some, slice_get}
use Rattle.std.specs.Str.{bytes_eq}
use Rattle.tm_selector.specs.Names.{ends_a_part}
use Rattle.tm_theme.specs.declared.style.Style.{Style}
use Rattle.tm_theme.specs.declared.style.Alternative.{Alternative}
use Rattle.tm_theme.specs.Style.{Attribute, value_of, climb, setting}
use Rattle.tm_theme.specs.Buckets.{unset, kept, alternative_at, slot, bucket_at}

-- the first word is this piece
abbrev pub is_first : List ℕ → List (List ℕ) → Bool
is_first piece [] = false
is_first piece (word ∷ parents) = bytes_eq word piece

abbrev pub bucket_places : List Alternative → List ℕ → List ℕ → List ℕ
bucket_places all piece [] = []
bucket_places all piece (place ∷ more) =
    if is_first piece (alternative_at all place).words then place ∷ bucket_places all piece more else bucket_places all piece more

abbrev pub piece_places : List Alternative → List (List ℕ) → List ℕ → ℕ → List ℕ
piece_places all buckets scope end =
    if ends_a_part (slice_get scope end) then bucket_places all (take end scope) (bucket_at buckets (slot (take end scope) (length buckets))) else []

-- those of the longest piece first
abbrev pub scope_places : List Alternative → List (List ℕ) → List ℕ → ℕ → List ℕ
scope_places all buckets scope zero = []
scope_places all buckets scope (suc end) = piece_places all buckets scope end ++ scope_places all buckets scope end

-- the words behind the first match scopes above
abbrev pub parents_match : List (List ℕ) → List (List ℕ) → Bool
parents_match above [] = false
parents_match above (word ∷ parents) = climb parents above (Some (length above))

abbrev pub with_known_one : List (List ℕ) → Style → Alternative → Style
with_known_one above style a = if parents_match above a.words then kept style a.style else style

abbrev pub with_known : List Alternative → List (List ℕ) → Style → List ℕ → Style
with_known all above style [] = style
with_known all above style (place ∷ more) = with_known all above (with_known_one above style (alternative_at all place)) more

-- by these places a scope looks as the strongest alternatives say, whatever stands above it
abbrev pub AreFor : List Alternative → List ℕ → List ℕ → Type 0
AreFor all scope places = (attribute : Attribute) (above : List (List ℕ)) → value_of attribute (with_known all above unset places) ≡ setting attribute above scope all

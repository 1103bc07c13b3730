-- What the places for a scope set is what a look-up finds.
use Rattle.std.proofs.Common.{◌≡◌, ℕ, zero, suc, ◌+◌, ◌-◌, ◌<◌, Bool, true, false, ◌&&◌, List, [], ◌∷◌, ◌++◌, length, take, drop, Option, Some, None, refl, ap, sym, ◌∙◌, subst, arith, if◌then◌else◌}
use Rattle.std.specs.Prelude.{slice_get}
use Rattle.std.specs.Str.{bytes_eq}
use Rattle.tm_selector.specs.Names.{ends_a_part}
use Rattle.tm_theme.specs.declared.style.Style.{Style}
use Rattle.tm_theme.specs.declared.style.Alternative.{Alternative}
use Rattle.tm_theme.specs.Style.{Attribute, value_of, climb, setting}
use Rattle.tm_theme.specs.Buckets.{unset, kept, alternative_at, slot, bucket_at, fits, with_one, with_bucket, with_piece, with_pieces, found_style, IsTable}
use Rattle.tm_theme.specs.Places.{is_first, bucket_places, piece_places, scope_places, parents_match, with_known_one, with_known, AreFor}

known-append : (all : List Alternative) (above : List (List ℕ)) (style : Style) (xs ys : List ℕ) → with_known all above style (xs ++ ys) ≡ with_known all above (with_known all above style xs) ys
known-append all above style [] ys = refl
known-append all above style (x ∷ xs) ys = known-append all above (with_known_one above style (alternative_at all x)) xs ys

first-fits : (b : Bool) (piece : List ℕ) (above words : List (List ℕ)) → is_first piece words ≡ b → fits piece above words ≡ (b && parents_match above words)
first-fits true piece above [] e = refl
first-fits false piece above [] e = refl
first-fits b piece above (w ∷ ws) e = ap (λ c. c && climb ws above (Some (length above))) e

known-bucket : (all : List Alternative) (piece : List ℕ) (above : List (List ℕ)) (style : Style) (bucket : List ℕ) →
    with_bucket all piece above style bucket ≡ with_known all above style (bucket_places all piece bucket)
known-bucket all piece above style [] = refl
known-bucket all piece above style (p ∷ more) = go (λ s. known-bucket all piece above s more) (is_first piece (alternative_at all p).words) refl
  where
    go : ((s : Style) → with_bucket all piece above s more ≡ with_known all above s (bucket_places all piece more)) → (b : Bool) → is_first piece (alternative_at all p).words ≡ b →
        with_bucket all piece above style (p ∷ more) ≡ with_known all above style (if b then p ∷ bucket_places all piece more else bucket_places all piece more)
    go rest true f =
        ap (λ (b : Bool). with_bucket all piece above (if b then kept style (alternative_at all p).style else style) more) (first-fits true piece above (alternative_at all p).words f)
        ∙ rest (with_known_one above style (alternative_at all p))
    go rest false f =
        ap (λ (b : Bool). with_bucket all piece above (if b then kept style (alternative_at all p).style else style) more) (first-fits false piece above (alternative_at all p).words f)
        ∙ rest style

known-piece : (all : List Alternative) (buckets above : List (List ℕ)) (scope : List ℕ) (style : Style) (end : ℕ) →
    with_piece all buckets above scope style end ≡ with_known all above style (piece_places all buckets scope end)
known-piece all buckets above scope style end = go (ends_a_part (slice_get scope end))
  where
    bucket : List ℕ
    bucket = bucket_at buckets (slot (take end scope) (length buckets))

    go : (b : Bool) → (if b then with_bucket all (take end scope) above style bucket else style) ≡ with_known all above style (if b then bucket_places all (take end scope) bucket else [])
    go true = known-bucket all (take end scope) above style bucket
    go false = refl

known-pieces : (all : List Alternative) (buckets above : List (List ℕ)) (scope : List ℕ) (style : Style) (n : ℕ) →
    with_pieces all buckets above scope style n ≡ with_known all above style (scope_places all buckets scope n)
known-pieces all buckets above scope style zero = refl
known-pieces all buckets above scope style (suc n) =
    known-pieces all buckets above scope (with_piece all buckets above scope style n) n
    ∙ ap (λ s. with_known all above s (scope_places all buckets scope n)) (known-piece all buckets above scope style n)
    ∙ sym (known-append all above style (piece_places all buckets scope n) (scope_places all buckets scope n))

pub places-for : (all : List Alternative) (buckets : List (List ℕ)) (scope places : List ℕ) → IsTable all buckets → places ≡ scope_places all buckets scope (length scope + 1) → AreFor all scope places
places-for all buckets scope places table is attribute above =
    ap (λ ps. value_of attribute (with_known all above unset ps)) is
    ∙ ap (value_of attribute) (sym (known-pieces all buckets above scope unset (length scope + 1)))
    ∙ table.looks attribute above scope

-- one step of the loop over the ends of pieces
pub places-step : (all : List Alternative) (buckets : List (List ℕ)) (scope : List ℕ) (end : ℕ) → 0 < end →
    scope_places all buckets scope end ≡ piece_places all buckets scope (end - 1) ++ scope_places all buckets scope (end - 1)
places-step all buckets scope zero lt = absurd (omega arith)
places-step all buckets scope (suc n) lt =
    let same : n ≡ suc n - 1 = omega arith in
    subst (λ (m : ℕ). scope_places all buckets scope (suc n) ≡ piece_places all buckets scope m ++ scope_places all buckets scope m) same refl

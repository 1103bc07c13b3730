-- The look-up in buckets finds the strongest alternatives.
--
-- By a recursion over the alternatives from the last: one more changes what a bucket finds for the piece that is its first
-- word, and only there; a longer piece finds what is stronger, and a shorter one what is weaker.
use Rattle.std.proofs.Common.{◌≡◌, ℕ, zero, suc, ◌+◌, ◌-◌, ◌<◌, ◌≤◌, ◌⊎◌, inl, inr, Bool, true, false, ◌&&◌, List, [], ◌∷◌, length, take, drop, get_or, Option, Some, None, refl, ap, sym, ◌∙◌, subst, arith, if◌then◌else◌}
use Rattle.std.specs.Prelude.{slice_get, is_some, option_and_then, set, replicate, ◌==◌, ⊤}
use Rattle.std.specs.Option.{option_or}
use Rattle.std.specs.Str.{bytes_eq}
use Rattle.std.specs.Cmp.Lexicographic.{same_text}
use Rattle.std.proofs.Math.Seq.{drop-cons}
use Rattle.std.proofs.lemmas.List.{length-set, length-take-le, length-replicate, get_or-set_same, get_or-set_other}
use Rattle.std.proofs.lemmas.Option.{unwrap_or-slice_get}
use Rattle.std.proofs.lemmas.Nat.{mod_below}
use Rattle.tm_selector.specs.Names.{ends_a_part, covers}
use Rattle.tm_theme.specs.declared.style.Style.{Style}
use Rattle.tm_theme.specs.declared.style.Alternative.{Alternative}
use Rattle.tm_theme.specs.Style.{Attribute, Font, Foreground, Background, value_of, dots, is_weaker, climb, matches, sets, stronger, strongest, setting}
use Rattle.tm_theme.specs.Buckets.{unset, kept, no_alternative, alternative_at, slot_key, slot, bucket_at, fits, with_one, with_bucket, with_piece, with_pieces, found_style, with_place, with_words, with_alternative, IsTable}
use Rattle.tm_theme.proofs.Strongest.{which, less, between, asymmetric, some-same}

and-left : (b c : Bool) → (b && c) ≡ true → b ≡ true
and-left true c e = refl
and-left false c e = e

and-right : (b c : Bool) → (b && c) ≡ true → c ≡ true
and-right true c e = e
and-right false c e = cc

both : (b c : Bool) → b ≡ true → c ≡ true → (b && c) ≡ true
both b c e f = cc

-- what a bucket finds for a piece of a scope
abbrev hits : Attribute → List ℕ → List (List ℕ) → Alternative → Bool
hits t piece above a = fits piece above a.words && is_some (value_of t a.style)

abbrev first_in : List Alternative → Attribute → List ℕ → List (List ℕ) → List ℕ → Option Alternative
first_in all t piece above [] = None
first_in all t piece above (p ∷ more) = if hits t piece above (alternative_at all p) then Some (alternative_at all p) else first_in all t piece above more

abbrev setting_of : Attribute → Option Alternative → Option ℕ
setting_of t o = option_and_then (λ a. value_of t a.style) o

or-none : (x : Option ℕ) → option_or x None ≡ x
or-none None = refl
or-none (Some n) = refl

kept-value : (t : Attribute) (x y : Style) → value_of t (kept x y) ≡ option_or (value_of t x) (value_of t y)
kept-value Font x y = refl
kept-value Foreground x y = refl
kept-value Background x y = refl

one-value : (t : Attribute) (piece : List ℕ) (above : List (List ℕ)) (style : Style) (a : Alternative) (o : Option Alternative) →
    option_or (value_of t (with_one piece above style a)) (setting_of t o) ≡ option_or (value_of t style) (setting_of t (if hits t piece above a then Some a else o))
one-value t piece above style a o = go (fits piece above a.words)
  where
    last : (x v : Option ℕ) → value_of t a.style ≡ v → option_or (option_or x v) (setting_of t o) ≡ option_or x (setting_of t (if is_some v then Some a else o))
    last (Some n) v e = refl
    last None None e = refl
    last None (Some n) e = sym e

    go : (b : Bool) → option_or (value_of t (if b then kept style a.style else style)) (setting_of t o) ≡ option_or (value_of t style) (setting_of t (if b && is_some (value_of t a.style) then Some a else o))
    go false = refl
    go true = ap (λ x. option_or x (setting_of t o)) (kept-value t style a.style) ∙ last (value_of t style) (value_of t a.style) refl

bucket-value : (all : List Alternative) (t : Attribute) (piece : List ℕ) (above : List (List ℕ)) (style : Style) (bucket : List ℕ) →
    value_of t (with_bucket all piece above style bucket) ≡ option_or (value_of t style) (setting_of t (first_in all t piece above bucket))
bucket-value all t piece above style [] = sym (or-none (value_of t style))
bucket-value all t piece above style (p ∷ more) =
    bucket-value all t piece above (with_one piece above style (alternative_at all p)) more ∙ one-value t piece above style (alternative_at all p) (first_in all t piece above more)

first-hits : (all : List Alternative) (t : Attribute) (piece : List ℕ) (above : List (List ℕ)) (bucket : List ℕ) (a : Alternative) → first_in all t piece above bucket ≡ Some a → hits t piece above a ≡ true
first-hits all t piece above [] a e = cc
first-hits all t piece above (p ∷ more) a e = go (λ k. first-hits all t piece above more a k) (hits t piece above (alternative_at all p)) refl e
  where
    go : (first_in all t piece above more ≡ Some a → hits t piece above a ≡ true) → (b : Bool) → hits t piece above (alternative_at all p) ≡ b → (if b then Some (alternative_at all p) else first_in all t piece above more) ≡ Some a → hits t piece above a ≡ true
    go rest true h k = subst (λ (y : Alternative). hits t piece above y ≡ true) (some-same (alternative_at all p) a k) h
    go rest false h k = rest k

-- what the pieces of a scope find, the longest first
abbrev first_at : List Alternative → Attribute → List (List ℕ) → List (List ℕ) → List ℕ → ℕ → Option Alternative
first_at all t buckets above scope end = first_in all t (take end scope) above (bucket_at buckets (slot (take end scope) (length buckets)))

abbrev found : List Alternative → Attribute → List (List ℕ) → List (List ℕ) → List ℕ → ℕ → Option Alternative
found all t buckets above scope zero = None
found all t buckets above scope (suc end) =
    if ends_a_part (slice_get scope end) then option_or (first_at all t buckets above scope end) (found all t buckets above scope end) else found all t buckets above scope end

some-or : (v w : Option ℕ) → is_some v ≡ true → option_or v w ≡ v
some-or None w e = cc
some-or (Some n) w e = refl

merged : (t : Attribute) (x : Option ℕ) (f o : Option Alternative) → ((a : Alternative) → f ≡ Some a → is_some (value_of t a.style) ≡ true) →
    option_or (option_or x (setting_of t f)) (setting_of t o) ≡ option_or x (setting_of t (option_or f o))
merged t (Some n) f o h = refl
merged t None None o h = refl
merged t None (Some a) o h = some-or (value_of t a.style) (setting_of t o) (h a refl)

pieces-value : (all : List Alternative) (t : Attribute) (buckets above : List (List ℕ)) (scope : List ℕ) (style : Style) (n : ℕ) →
    value_of t (with_pieces all buckets above scope style n) ≡ option_or (value_of t style) (setting_of t (found all t buckets above scope n))
pieces-value all t buckets above scope style zero = sym (or-none (value_of t style))
pieces-value all t buckets above scope style (suc n) =
    pieces-value all t buckets above scope (with_piece all buckets above scope style n) n ∙ go (ends_a_part (slice_get scope n))
  where
    go : (b : Bool) → option_or (value_of t (if b then with_bucket all (take n scope) above style (bucket_at buckets (slot (take n scope) (length buckets))) else style)) (setting_of t (found all t buckets above scope n))
        ≡ option_or (value_of t style) (setting_of t (if b then option_or (first_at all t buckets above scope n) (found all t buckets above scope n) else found all t buckets above scope n))
    go false = refl
    go true =
        ap (λ x. option_or x (setting_of t (found all t buckets above scope n))) (bucket-value all t (take n scope) above style (bucket_at buckets (slot (take n scope) (length buckets))))
        ∙ merged t (value_of t style) (first_at all t buckets above scope n) (found all t buckets above scope n)
        (λ a e. and-right (fits (take n scope) above a.words) (is_some (value_of t a.style)) (first-hits all t (take n scope) above (bucket_at buckets (slot (take n scope) (length buckets))) a e))

-- the order in a bucket
abbrev words_of : List Alternative → ℕ → List (List ℕ)
words_of all p = (alternative_at all p).words

abbrev NoneStronger : List Alternative → ℕ → List ℕ → Type 0
NoneStronger all p [] = ⊤
NoneStronger all p (q ∷ more) = (is_weaker (words_of all p) (words_of all q) ≡ false) × NoneStronger all p more

abbrev IsSorted : List Alternative → List ℕ → Type 0
IsSorted all [] = ⊤
IsSorted all (p ∷ more) = NoneStronger all p more × IsSorted all more

abbrev AllWeaker : List Alternative → ℕ → List ℕ → Type 0
AllWeaker all k [] = ⊤
AllWeaker all k (q ∷ more) = (is_weaker (words_of all q) (words_of all k) ≡ true) × AllWeaker all k more

behind-weaker : (all : List Alternative) (k p : ℕ) (more : List ℕ) → is_weaker (words_of all p) (words_of all k) ≡ true → NoneStronger all p more → AllWeaker all k more
behind-weaker all k p [] w h = tt
behind-weaker all k p (q ∷ more) w h = (between (words_of all p) (words_of all k) (words_of all q) w h.0, behind-weaker all k p more w h.1)

weaker-none : (all : List Alternative) (k : ℕ) (more : List ℕ) → AllWeaker all k more → NoneStronger all k more
weaker-none all k [] h = tt
weaker-none all k (q ∷ more) h = (asymmetric (words_of all q) (words_of all k) h.0, weaker-none all k more h.1)

still-none : (all : List Alternative) (k p : ℕ) (more : List ℕ) → is_weaker (words_of all p) (words_of all k) ≡ false → NoneStronger all p more → NoneStronger all p (with_place all k more)
still-none all k p [] w h = (w, tt)
still-none all k p (q ∷ more) w h = go (still-none all k p more w h.1) (is_weaker (words_of all q) (words_of all k))
  where
    go : NoneStronger all p (with_place all k more) → (b : Bool) → NoneStronger all p (if b then k ∷ q ∷ more else q ∷ with_place all k more)
    go rest true = (w, h)
    go rest false = (h.0, rest)

with-sorted : (all : List Alternative) (k : ℕ) (bucket : List ℕ) → IsSorted all bucket → IsSorted all (with_place all k bucket)
with-sorted all k [] s = (tt, tt)
with-sorted all k (p ∷ more) s = go (with-sorted all k more s.1) (is_weaker (words_of all p) (words_of all k)) refl
  where
    go : IsSorted all (with_place all k more) → (b : Bool) → is_weaker (words_of all p) (words_of all k) ≡ b → IsSorted all (if b then k ∷ p ∷ more else p ∷ with_place all k more)
    go rest true w = ((asymmetric (words_of all p) (words_of all k) w, weaker-none all k more (behind-weaker all k p more w s.0)), s)
    go rest false w = (still-none all k p more w s.0, rest)

first-weaker : (all : List Alternative) (t : Attribute) (piece : List ℕ) (above : List (List ℕ)) (k : ℕ) (bucket : List ℕ) (a : Alternative) → AllWeaker all k bucket →
    first_in all t piece above bucket ≡ Some a → is_weaker a.words (words_of all k) ≡ true
first-weaker all t piece above k [] a h e = cc
first-weaker all t piece above k (p ∷ more) a h e = go (λ i. first-weaker all t piece above k more a h.1 i) (hits t piece above (alternative_at all p)) e
  where
    go : (first_in all t piece above more ≡ Some a → is_weaker a.words (words_of all k) ≡ true) → (b : Bool) → (if b then Some (alternative_at all p) else first_in all t piece above more) ≡ Some a → is_weaker a.words (words_of all k) ≡ true
    go rest true i = subst (λ (y : Alternative). is_weaker y.words (words_of all k) ≡ true) (some-same (alternative_at all p) a i) h.0
    go rest false i = rest i

new-stronger : (a : Alternative) (o : Option Alternative) → ((c : Alternative) → o ≡ Some c → is_weaker c.words a.words ≡ true) → a ≡ stronger a o
new-stronger a None h = refl
new-stronger a (Some c) h = sym (ap (λ b. if b then a else c) (h c refl))

-- what is found with one alternative more before those that were in it
abbrev combined : Attribute → List ℕ → List (List ℕ) → Alternative → Option Alternative → Option Alternative
combined t piece above a o = if hits t piece above a then Some (stronger a o) else o

first-with : (all : List Alternative) (t : Attribute) (piece : List ℕ) (above : List (List ℕ)) (k : ℕ) (bucket : List ℕ) → IsSorted all bucket →
    first_in all t piece above (with_place all k bucket) ≡ combined t piece above (alternative_at all k) (first_in all t piece above bucket)
first-with all t piece above k [] s = refl
first-with all t piece above k (p ∷ more) s = go (first-with all t piece above k more s.1) (is_weaker (words_of all p) (words_of all k)) refl
  where
    one : (b c : Bool) → is_weaker (words_of all p) (words_of all k) ≡ false →
        (if b then Some (alternative_at all p) else (if c then Some (stronger (alternative_at all k) (first_in all t piece above more)) else first_in all t piece above more))
        ≡ (if c then Some (stronger (alternative_at all k) (if b then Some (alternative_at all p) else first_in all t piece above more)) else (if b then Some (alternative_at all p) else first_in all t piece above more))
    one true true w = ap (λ x. Some (if x then alternative_at all k else alternative_at all p)) (sym w)
    one true false w = refl
    one false true w = refl
    one false false w = refl

    go : first_in all t piece above (with_place all k more) ≡ combined t piece above (alternative_at all k) (first_in all t piece above more) → (b : Bool) → is_weaker (words_of all p) (words_of all k) ≡ b →
        first_in all t piece above (if b then k ∷ p ∷ more else p ∷ with_place all k more) ≡ combined t piece above (alternative_at all k) (first_in all t piece above (p ∷ more))
    go rest true w =
        ap (λ x. if hits t piece above (alternative_at all k) then Some x else first_in all t piece above (p ∷ more))
        (new-stronger (alternative_at all k) (first_in all t piece above (p ∷ more)) (λ c e. first-weaker all t piece above k (p ∷ more) c (w, behind-weaker all k p more w s.0) e))
    go rest false w =
        ap (λ x. if hits t piece above (alternative_at all p) then Some (alternative_at all p) else x) rest
        ∙ one (hits t piece above (alternative_at all p)) (hits t piece above (alternative_at all k)) w

-- words and pieces
fits-word : (piece : List ℕ) (above : List (List ℕ)) (w : List ℕ) (parents : List (List ℕ)) → fits piece above (w ∷ parents) ≡ true → w ≡ piece
fits-word piece above w parents e = same_text w piece (sym (and-left (bytes_eq w piece) (climb parents above (Some (length above))) e))

hits-fits : (t : Attribute) (piece : List ℕ) (above : List (List ℕ)) (a : Alternative) → hits t piece above a ≡ true → fits piece above a.words ≡ true
hits-fits t piece above a e = and-left (fits piece above a.words) (is_some (value_of t a.style)) e

fits-length : (end : ℕ) (scope : List ℕ) (above : List (List ℕ)) (w : List ℕ) (parents : List (List ℕ)) → end ≤ length scope → fits (take end scope) above (w ∷ parents) ≡ true → length w ≡ end
fits-length end scope above w parents le e = ap length (fits-word (take end scope) above w parents e) ∙ length-take-le end scope le

fits-matches : (end : ℕ) (scope : List ℕ) (above words : List (List ℕ)) → end ≤ length scope → ends_a_part (slice_get scope end) ≡ true → fits (take end scope) above words ≡ true → matches words above scope ≡ true
fits-matches end scope above [] le d e = e
fits-matches end scope above (w ∷ parents) le d e =
    let same : length w ≡ end = fits-length end scope above w parents le e in
    let eq : bytes_eq w (take end scope) ≡ true = and-left (bytes_eq w (take end scope)) (climb parents above (Some (length above))) e in
    both (covers w scope) (climb parents above (Some (length above)))
    (both (bytes_eq w (take (length w) scope)) (ends_a_part (slice_get scope (length w))) (ap (λ m. bytes_eq w (take m scope)) same ∙ eq) (ap (λ m. ends_a_part (slice_get scope m)) same ∙ d))
    (and-right (bytes_eq w (take end scope)) (climb parents above (Some (length above))) e)

dots-more : (s : List ℕ) (i j : ℕ) → i < j → j ≤ length s → ends_a_part (slice_get s i) ≡ true → dots (take i s) < dots (take j s)
dots-more [] i j lt le e = absurd (omega arith)
dots-more (c ∷ s) zero zero lt le e = absurd (omega arith)
dots-more (c ∷ s) (suc i) zero lt le e = absurd (omega arith)
dots-more (c ∷ s) zero (suc j) lt le e = subst (λ (b : Bool). 0 < (if b then 1 + dots (take j s) else dots (take j s))) (sym e) (omega arith)
dots-more (c ∷ s) (suc i) (suc j) lt le e = go (c == 46) (dots-more s i j (omega arith) (omega arith) e)
  where
    go : (b : Bool) → dots (take i s) < dots (take j s) → (if b then 1 + dots (take i s) else dots (take i s)) < (if b then 1 + dots (take j s) else dots (take j s))
    go true h = omega (arith, h)
    go false h = h

-- of two words that are pieces the longer one is the stronger
longer-stronger : (scope : List ℕ) (above : List (List ℕ)) (i j : ℕ) (xs ys : List (List ℕ)) → i < j → j ≤ length scope → ends_a_part (slice_get scope i) ≡ true →
    fits (take i scope) above xs ≡ true → fits (take j scope) above ys ≡ true → is_weaker xs ys ≡ true
longer-stronger scope above i j [] ys lt le d e f = cc
longer-stronger scope above i j (x ∷ xs) [] lt le d e f = cc
longer-stronger scope above i j (x ∷ xs) (y ∷ ys) lt le d e f =
    less (dots x) (dots y) (is_weaker xs ys) (omega (arith, dots-more scope i j lt le d, ap dots (fits-word (take i scope) above x xs e), ap dots (fits-word (take j scope) above y ys f)))

-- what is found stands in a bucket of a piece
record IsFrom (t : Attribute) (above : List (List ℕ)) (scope : List ℕ) (n : ℕ) (a : Alternative) : Type 0 where
  place : ℕ
  within : place < n
  ends : ends_a_part (slice_get scope place) ≡ true
  fit : fits (take place scope) above a.words ≡ true

found-from : (all : List Alternative) (t : Attribute) (buckets above : List (List ℕ)) (scope : List ℕ) (n : ℕ) (a : Alternative) → found all t buckets above scope n ≡ Some a → IsFrom t above scope n a
found-from all t buckets above scope zero a e = cc
found-from all t buckets above scope (suc n) a e = go (λ k. found-from all t buckets above scope n a k) (ends_a_part (slice_get scope n)) refl e
  where
    later : IsFrom t above scope n a → IsFrom t above scope (suc n) a
    later f = record { place = f.place; within = omega (arith, f.within); ends = f.ends; fit = f.fit }

    here : (found all t buckets above scope n ≡ Some a → IsFrom t above scope n a) → (o : Option Alternative) → first_at all t buckets above scope n ≡ o → ends_a_part (slice_get scope n) ≡ true → option_or o (found all t buckets above scope n) ≡ Some a → IsFrom t above scope (suc n) a
    here rest None h d k = later (rest k)
    here rest (Some b) h d k =
        record { place = n; within = omega arith; ends = d; fit = hits-fits t (take n scope) above a (first-hits all t (take n scope) above (bucket_at buckets (slot (take n scope) (length buckets))) a (h ∙ k)) }

    go : (found all t buckets above scope n ≡ Some a → IsFrom t above scope n a) → (b : Bool) → ends_a_part (slice_get scope n) ≡ b →
        (if b then option_or (first_at all t buckets above scope n) (found all t buckets above scope n) else found all t buckets above scope n) ≡ Some a →
        IsFrom t above scope (suc n) a
    go rest true d k = here rest (first_at all t buckets above scope n) refl d k
    go rest false d k = later (rest k)

-- all buckets are in order
abbrev AreSorted : List Alternative → List (List ℕ) → Type 0
AreSorted all buckets = (i : ℕ) → IsSorted all (bucket_at buckets i)

-- one alternative more in the bucket of a word
abbrev one_more : List Alternative → ℕ → List ℕ → List (List ℕ) → List (List ℕ)
one_more all k w buckets = set buckets (slot w (length buckets)) (with_place all k (bucket_at buckets (slot w (length buckets))))

not-hit : (t : Attribute) (piece : List ℕ) (above : List (List ℕ)) (a : Alternative) (w : List ℕ) (parents : List (List ℕ)) → w ∷ parents ≡ a.words → (w ≡ piece → ⊥) → hits t piece above a ≡ false
not-hit t piece above a w parents is other = go (hits t piece above a) refl
  where
    go : (b : Bool) → hits t piece above a ≡ b → b ≡ false
    go false e = refl
    go true e = absurd (other (fits-word piece above w parents (ap (fits piece above) is ∙ hits-fits t piece above a e)))

first-more : (all : List Alternative) (t : Attribute) (buckets above : List (List ℕ)) (scope : List ℕ) (k end : ℕ) (w : List ℕ) (parents : List (List ℕ)) → w ∷ parents ≡ words_of all k →
    slot w (length buckets) < length buckets → AreSorted all buckets →
    first_at all t (one_more all k w buckets) above scope end ≡ combined t (take end scope) above (alternative_at all k) (first_at all t buckets above scope end)
first-more all t buckets above scope k end w parents is lt s =
    ap (λ n. first_in all t (take end scope) above (bucket_at (one_more all k w buckets) (slot (take end scope) n))) (length-set buckets (slot w (length buckets)) (with_place all k (bucket_at buckets (slot w (length buckets)))))
    ∙ go (which (slot (take end scope) (length buckets)) (slot w (length buckets)))
  where
    same : slot (take end scope) (length buckets) ≡ slot w (length buckets) →
        first_in all t (take end scope) above (bucket_at (one_more all k w buckets) (slot (take end scope) (length buckets)))
        ≡ combined t (take end scope) above (alternative_at all k) (first_in all t (take end scope) above (bucket_at buckets (slot (take end scope) (length buckets))))
    same e =
        ap (λ n. first_in all t (take end scope) above (bucket_at (one_more all k w buckets) n)) e
        ∙ ap (first_in all t (take end scope) above) (get_or-set_same buckets (slot w (length buckets)) (with_place all k (bucket_at buckets (slot w (length buckets)))) [] lt)
        ∙ first-with all t (take end scope) above k (bucket_at buckets (slot w (length buckets))) (s (slot w (length buckets)))
        ∙ ap (λ n. combined t (take end scope) above (alternative_at all k) (first_in all t (take end scope) above (bucket_at buckets n))) (sym e)

    other : (slot (take end scope) (length buckets) ≡ slot w (length buckets) → ⊥) →
        first_in all t (take end scope) above (bucket_at (one_more all k w buckets) (slot (take end scope) (length buckets)))
        ≡ combined t (take end scope) above (alternative_at all k) (first_in all t (take end scope) above (bucket_at buckets (slot (take end scope) (length buckets))))
    other ne =
        ap (first_in all t (take end scope) above) (get_or-set_other buckets (slot w (length buckets)) (slot (take end scope) (length buckets)) (with_place all k (bucket_at buckets (slot w (length buckets)))) [] ne)
        ∙ sym (ap (λ (b : Bool). if b then Some (stronger (alternative_at all k) (first_at all t buckets above scope end)) else first_at all t buckets above scope end)
        (not-hit t (take end scope) above (alternative_at all k) w parents is (λ e. ne (ap (λ p. slot p (length buckets)) (sym e)))))

    go : ((slot (take end scope) (length buckets) < slot w (length buckets)) ⊎ ((slot (take end scope) (length buckets) ≡ slot w (length buckets)) ⊎ (slot w (length buckets) < slot (take end scope) (length buckets)))) →
        first_in all t (take end scope) above (bucket_at (one_more all k w buckets) (slot (take end scope) (length buckets)))
        ≡ combined t (take end scope) above (alternative_at all k) (first_in all t (take end scope) above (bucket_at buckets (slot (take end scope) (length buckets))))
    go (inl h) = other (λ e. omega (arith, h, e))
    go (inr (inl h)) = same h
    go (inr (inr h)) = other (λ e. omega (arith, h, e))

-- what a piece finds with one alternative more
abbrev IsStep : List Alternative → Attribute → List (List ℕ) → List (List ℕ) → List ℕ → ℕ → List ℕ → Type 0
IsStep all t buckets above scope k w = (end : ℕ) →
    first_at all t (one_more all k w buckets) above scope end ≡ combined t (take end scope) above (alternative_at all k) (first_at all t buckets above scope end)

-- where the new one does not hit, nothing changes
same-first : (all : List Alternative) (t : Attribute) (buckets above : List (List ℕ)) (scope : List ℕ) (k end : ℕ) (w : List ℕ) → IsStep all t buckets above scope k w →
    hits t (take end scope) above (alternative_at all k) ≡ false → first_at all t (one_more all k w buckets) above scope end ≡ first_at all t buckets above scope end
same-first all t buckets above scope k end w step e =
    step end ∙ ap (λ (b : Bool). if b then Some (stronger (alternative_at all k) (first_at all t buckets above scope end)) else first_at all t buckets above scope end) e

same-found : (all : List Alternative) (t : Attribute) (buckets above : List (List ℕ)) (scope : List ℕ) (k : ℕ) (w : List ℕ) → IsStep all t buckets above scope k w → (n : ℕ) →
    ((end : ℕ) → end < n → ends_a_part (slice_get scope end) ≡ true → hits t (take end scope) above (alternative_at all k) ≡ false) →
    found all t (one_more all k w buckets) above scope n ≡ found all t buckets above scope n
same-found all t buckets above scope k w step zero h = refl
same-found all t buckets above scope k w step (suc n) h =
    go (ends_a_part (slice_get scope n)) refl (same-found all t buckets above scope k w step n (λ end lt d. h end (omega (arith, lt)) d))
  where
    go : (b : Bool) → ends_a_part (slice_get scope n) ≡ b → found all t (one_more all k w buckets) above scope n ≡ found all t buckets above scope n →
        (if b then option_or (first_at all t (one_more all k w buckets) above scope n) (found all t (one_more all k w buckets) above scope n) else found all t (one_more all k w buckets) above scope n)
        ≡ (if b then option_or (first_at all t buckets above scope n) (found all t buckets above scope n) else found all t buckets above scope n)
    go true d rest =
        ap (λ x. option_or x (found all t (one_more all k w buckets) above scope n)) (same-first all t buckets above scope k n w step (h n (omega arith) d))
        ∙ ap (option_or (first_at all t buckets above scope n)) rest
    go false d rest = rest

stronger-or : (a : Alternative) (f o : Option Alternative) → ((c : Alternative) → o ≡ Some c → is_weaker c.words a.words ≡ true) → stronger a f ≡ stronger a (option_or f o)
stronger-or a None o h = new-stronger a o h
stronger-or a (Some b) o h = refl

kept-stronger : (a : Alternative) (f o : Option Alternative) → ((c : Alternative) → f ≡ Some c → is_weaker c.words a.words ≡ false) →
    option_or f (Some (stronger a o)) ≡ Some (stronger a (option_or f o))
kept-stronger a None o h = refl
kept-stronger a (Some b) o h = sym (ap (λ x. Some (if x then a else b)) (h b refl))

-- where it hits, it is the last word on what was found
record Hit (all : List Alternative) (t : Attribute) (above : List (List ℕ)) (scope : List ℕ) (k : ℕ) (w : List ℕ) (parents : List (List ℕ)) : Type 0 where
  words : w ∷ parents ≡ words_of all k
  within : length w ≤ length scope
  ends : ends_a_part (slice_get scope (length w)) ≡ true
  fit : fits (take (length w) scope) above (words_of all k) ≡ true
  value : is_some (value_of t (alternative_at all k).style) ≡ true

other-length : (all : List Alternative) (t : Attribute) (above : List (List ℕ)) (scope : List ℕ) (k end : ℕ) (w : List ℕ) (parents : List (List ℕ)) → w ∷ parents ≡ words_of all k → end ≤ length scope →
    (length w ≡ end → ⊥) → hits t (take end scope) above (alternative_at all k) ≡ false
other-length all t above scope k end w parents is le ne =
    not-hit t (take end scope) above (alternative_at all k) w parents is (λ e. ne (ap length e ∙ length-take-le end scope le))

at-hit : (all : List Alternative) (t : Attribute) (buckets above : List (List ℕ)) (scope : List ℕ) (k : ℕ) (w : List ℕ) (parents : List (List ℕ)) → Hit all t above scope k w parents → IsStep all t buckets above scope k w →
    found all t (one_more all k w buckets) above scope (suc (length w)) ≡ Some (stronger (alternative_at all k) (found all t buckets above scope (suc (length w))))
at-hit all t buckets above scope k w parents h step =
    ap (λ (b : Bool). if b then option_or (first_at all t (one_more all k w buckets) above scope (length w)) (found all t (one_more all k w buckets) above scope (length w)) else found all t (one_more all k w buckets) above scope (length w)) h.ends
    ∙ ap (λ x. option_or x (found all t (one_more all k w buckets) above scope (length w))) (step (length w))
    ∙ ap (λ (b : Bool). option_or (if b then Some (stronger (alternative_at all k) (first_at all t buckets above scope (length w))) else first_at all t buckets above scope (length w)) (found all t (one_more all k w buckets) above scope (length w)))
    (both (fits (take (length w) scope) above (words_of all k)) (is_some (value_of t (alternative_at all k).style)) h.fit h.value)
    ∙ ap (λ x. Some x) (stronger-or (alternative_at all k) (first_at all t buckets above scope (length w)) (found all t buckets above scope (length w)) weaker)
    ∙ sym (ap (λ (b : Bool). Some (stronger (alternative_at all k) (if b then option_or (first_at all t buckets above scope (length w)) (found all t buckets above scope (length w)) else found all t buckets above scope (length w)))) h.ends)
  where
    weaker : (c : Alternative) → found all t buckets above scope (length w) ≡ Some c → is_weaker c.words (words_of all k) ≡ true
    weaker c e =
        let f : IsFrom t above scope (length w) c = found-from all t buckets above scope (length w) c e in
        longer-stronger scope above f.place (length w) c.words (words_of all k) f.within h.within f.ends f.fit h.fit

behind-hit : (all : List Alternative) (t : Attribute) (buckets above : List (List ℕ)) (scope : List ℕ) (k : ℕ) (w : List ℕ) (parents : List (List ℕ)) → Hit all t above scope k w parents → IsStep all t buckets above scope k w →
    (more : ℕ) → length w + more ≤ length scope → found all t (one_more all k w buckets) above scope (suc (length w + more)) ≡ Some (stronger (alternative_at all k) (found all t buckets above scope (suc (length w + more))))
behind-hit all t buckets above scope k w parents h step zero le =
    subst (λ (n : ℕ). found all t (one_more all k w buckets) above scope (suc n) ≡ Some (stronger (alternative_at all k) (found all t buckets above scope (suc n)))) (sym none) (at-hit all t buckets above scope k w parents h step)
  where
    none : length w + 0 ≡ length w
    none = omega arith
behind-hit all t buckets above scope k w parents h step (suc more) le =
    subst (λ (n : ℕ). found all t (one_more all k w buckets) above scope (suc n) ≡ Some (stronger (alternative_at all k) (found all t buckets above scope (suc n)))) (sym one)
    (go (ends_a_part (slice_get scope (suc (length w + more)))) refl (behind-hit all t buckets above scope k w parents h step more (omega (arith, le))))
  where
    one : length w + suc more ≡ suc (length w + more)
    one = omega arith

    not-weaker : (c : Alternative) → first_at all t buckets above scope (suc (length w + more)) ≡ Some c → is_weaker c.words (words_of all k) ≡ false
    not-weaker c e =
        asymmetric (words_of all k) c.words
        (longer-stronger scope above (length w) (suc (length w + more)) (words_of all k) c.words (omega arith) (omega (arith, le)) h.ends h.fit
        (hits-fits t (take (suc (length w + more)) scope) above c (first-hits all t (take (suc (length w + more)) scope) above (bucket_at buckets (slot (take (suc (length w + more)) scope) (length buckets))) c e)))

    go : (b : Bool) → ends_a_part (slice_get scope (suc (length w + more))) ≡ b →
        found all t (one_more all k w buckets) above scope (suc (length w + more)) ≡ Some (stronger (alternative_at all k) (found all t buckets above scope (suc (length w + more)))) →
        (if b then option_or (first_at all t (one_more all k w buckets) above scope (suc (length w + more))) (found all t (one_more all k w buckets) above scope (suc (length w + more))) else found all t (one_more all k w buckets) above scope (suc (length w + more)))
        ≡ Some (stronger (alternative_at all k) (if b then option_or (first_at all t buckets above scope (suc (length w + more))) (found all t buckets above scope (suc (length w + more))) else found all t buckets above scope (suc (length w + more))))
    go true d rest =
        ap (λ x. option_or x (found all t (one_more all k w buckets) above scope (suc (length w + more))))
        (same-first all t buckets above scope k (suc (length w + more)) w step (other-length all t above scope k (suc (length w + more)) w parents h.words (omega (arith, le)) (λ e. omega (arith, e))))
        ∙ ap (option_or (first_at all t buckets above scope (suc (length w + more)))) rest
        ∙ kept-stronger (alternative_at all k) (first_at all t buckets above scope (suc (length w + more))) (found all t buckets above scope (suc (length w + more))) not-weaker
    go false d rest = rest

take-within : (n : ℕ) (s : List ℕ) → length (take n s) ≡ n → n ≤ length s
take-within zero s e = omega arith
take-within (suc n) [] e = absurd (omega (arith, e))
take-within (suc n) (c ∷ s) e = omega (arith, take-within n s (omega (arith, e)))

-- what sets the attribute hits at its word
sets-hit : (all : List Alternative) (t : Attribute) (above : List (List ℕ)) (scope : List ℕ) (k : ℕ) (w : List ℕ) (parents : List (List ℕ)) → w ∷ parents ≡ words_of all k → sets t above scope (alternative_at all k) ≡ true →
    Hit all t above scope k w parents
sets-hit all t above scope k w parents is e =
    let m : matches (w ∷ parents) above scope ≡ true = ap (λ ws. matches ws above scope) is ∙ and-left (matches (words_of all k) above scope) (is_some (value_of t (alternative_at all k).style)) e in
    let c : covers w scope ≡ true = and-left (covers w scope) (climb parents above (Some (length above))) m in
    let s : bytes_eq w (take (length w) scope) ≡ true = and-left (bytes_eq w (take (length w) scope)) (ends_a_part (slice_get scope (length w))) c in
    record {
      words = is;
      within = take-within (length w) scope (sym (ap length (same_text w (take (length w) scope) (sym s))));
      ends = and-right (bytes_eq w (take (length w) scope)) (ends_a_part (slice_get scope (length w))) c;
      fit = ap (fits (take (length w) scope) above) (sym is) ∙ both (bytes_eq w (take (length w) scope)) (climb parents above (Some (length above))) s (and-right (covers w scope) (climb parents above (Some (length above))) m);
      value = and-right (matches (words_of all k) above scope) (is_some (value_of t (alternative_at all k).style)) e;
    }

-- what does not set it hits nowhere
unset-hits : (all : List Alternative) (t : Attribute) (above : List (List ℕ)) (scope : List ℕ) (k end : ℕ) → end ≤ length scope → ends_a_part (slice_get scope end) ≡ true → sets t above scope (alternative_at all k) ≡ false →
    hits t (take end scope) above (alternative_at all k) ≡ false
unset-hits all t above scope k end le d e = go (hits t (take end scope) above (alternative_at all k)) refl
  where
    go : (b : Bool) → hits t (take end scope) above (alternative_at all k) ≡ b → b ≡ false
    go false h = refl
    go true h =
        sym (both (matches (words_of all k) above scope) (is_some (value_of t (alternative_at all k).style))
        (fits-matches end scope above (words_of all k) le d (hits-fits t (take end scope) above (alternative_at all k) h)) (and-right (fits (take end scope) above (words_of all k)) (is_some (value_of t (alternative_at all k).style)) h))
        ∙ e

-- the buckets know the alternatives from some place on
pub record Knows (all rest : List Alternative) (buckets : List (List ℕ)) : Type 0 where
  pub some : 0 < length buckets
  pub sorted : (i : ℕ) → IsSorted all (get_or buckets i [])
  pub finds : (t : Attribute) (above : List (List ℕ)) (scope : List ℕ) → found all t buckets above scope (length scope + 1) ≡ strongest t above scope rest

finds-more : (all rest : List Alternative) (t : Attribute) (buckets above : List (List ℕ)) (scope : List ℕ) (k : ℕ) (w : List ℕ) (parents : List (List ℕ)) → w ∷ parents ≡ words_of all k → IsStep all t buckets above scope k w →
    found all t buckets above scope (length scope + 1) ≡ strongest t above scope rest →
    found all t (one_more all k w buckets) above scope (length scope + 1) ≡ strongest t above scope (alternative_at all k ∷ rest)
finds-more all rest t buckets above scope k w parents is step known = go (sets t above scope (alternative_at all k)) refl
  where
    hit : Hit all t above scope k w parents → found all t (one_more all k w buckets) above scope (length scope + 1) ≡ Some (stronger (alternative_at all k) (found all t buckets above scope (length scope + 1)))
    hit h =
        let all_places : suc (length w + (length scope - length w)) ≡ length scope + 1 = omega (arith, h.within) in
        subst (λ (n : ℕ). found all t (one_more all k w buckets) above scope n ≡ Some (stronger (alternative_at all k) (found all t buckets above scope n)))
        all_places (behind-hit all t buckets above scope k w parents h step (length scope - length w) (omega (arith, h.within)))

    go : (b : Bool) → sets t above scope (alternative_at all k) ≡ b →
        found all t (one_more all k w buckets) above scope (length scope + 1) ≡ (if b then Some (stronger (alternative_at all k) (strongest t above scope rest)) else strongest t above scope rest)
    go true e = hit (sets-hit all t above scope k w parents is e) ∙ ap (λ o. Some (stronger (alternative_at all k) o)) known
    go false e = same-found all t buckets above scope k w step (length scope + 1) (λ end lt d. unset-hits all t above scope k end (omega (arith, lt)) d e) ∙ known

sorted-more : (all : List Alternative) (buckets : List (List ℕ)) (k i : ℕ) (w : List ℕ) → slot w (length buckets) < length buckets → ((j : ℕ) → IsSorted all (get_or buckets j [])) →
    IsSorted all (get_or (one_more all k w buckets) i [])
sorted-more all buckets k i w lt s = go (which i (slot w (length buckets)))
  where
    other : (i ≡ slot w (length buckets) → ⊥) → IsSorted all (get_or (one_more all k w buckets) i [])
    other ne = subst (IsSorted all) (sym (get_or-set_other buckets (slot w (length buckets)) i (with_place all k (bucket_at buckets (slot w (length buckets)))) [] ne)) (s i)

    same : i ≡ slot w (length buckets) → IsSorted all (get_or (one_more all k w buckets) i [])
    same e =
        subst (λ (n : ℕ). IsSorted all (get_or (one_more all k w buckets) n [])) (sym e)
        (subst (IsSorted all) (sym (get_or-set_same buckets (slot w (length buckets)) (with_place all k (bucket_at buckets (slot w (length buckets)))) [] lt))
        (with-sorted all k (bucket_at buckets (slot w (length buckets))) (s (slot w (length buckets)))))

    go : ((i < slot w (length buckets)) ⊎ ((i ≡ slot w (length buckets)) ⊎ (slot w (length buckets) < i))) → IsSorted all (get_or (one_more all k w buckets) i [])
    go (inl h) = other (λ e. omega (arith, h, e))
    go (inr (inl h)) = same h
    go (inr (inr h)) = other (λ e. omega (arith, h, e))

knows-words : (all rest : List Alternative) (k : ℕ) (words buckets : List (List ℕ)) → words ≡ words_of all k → ((w : List ℕ) → slot w (length buckets) < length buckets) → Knows all rest buckets →
    Knows all (alternative_at all k ∷ rest) (with_words all k words buckets)
knows-words all rest k [] buckets is lt h = record { some = h.some; sorted = h.sorted; finds = λ t above scope. h.finds t above scope ∙ none t above scope }
  where
    none : (t : Attribute) (above : List (List ℕ)) (scope : List ℕ) → strongest t above scope rest ≡ strongest t above scope (alternative_at all k ∷ rest)
    none t above scope =
        ap (λ ws. if matches ws above scope && is_some (value_of t (alternative_at all k).style) then Some (stronger (alternative_at all k) (strongest t above scope rest)) else strongest t above scope rest) is
knows-words all rest k (w ∷ parents) buckets is lt h = record {
  some = subst (λ (n : ℕ). 0 < n) (sym (length-set buckets (slot w (length buckets)) (with_place all k (bucket_at buckets (slot w (length buckets)))))) h.some;
  sorted = λ i. sorted-more all buckets k i w (lt w) h.sorted;
  finds = λ t above scope. finds-more all rest t buckets above scope k w parents is (λ end. first-more all t buckets above scope k end w parents is (lt w) h.sorted) (h.finds t above scope);
}

rest-at : (all : List Alternative) (k : ℕ) → k < length all → drop k all ≡ alternative_at all k ∷ drop (suc k) all
rest-at all k lt = drop-cons all k no_alternative lt ∙ ap (λ a. a ∷ drop (suc k) all) (sym (unwrap_or-slice_get all k no_alternative))

-- one alternative more
pub knows-more : (all : List Alternative) (k : ℕ) (buckets : List (List ℕ)) → k < length all → Knows all (drop (suc k) all) buckets → Knows all (drop k all) (with_alternative all k buckets)
knows-more all k buckets lt h =
    subst (λ (rest : List Alternative). Knows all rest (with_alternative all k buckets)) (sym (rest-at all k lt))
    (knows-words all (drop (suc k) all) k (words_of all k) buckets refl (λ w. mod_below (slot_key w) (length buckets) h.some) h)

-- without any
abbrev pub no_buckets : ℕ → List (List ℕ)
no_buckets count = replicate count []

empty-bucket : (n i : ℕ) → get_or (no_buckets n) i [] ≡ []
empty-bucket zero i = refl
empty-bucket (suc n) zero = refl
empty-bucket (suc n) (suc i) = empty-bucket n i

empty-found : (all : List Alternative) (t : Attribute) (count : ℕ) (above : List (List ℕ)) (scope : List ℕ) (n : ℕ) → found all t (no_buckets count) above scope n ≡ None
empty-found all t count above scope zero = refl
empty-found all t count above scope (suc n) = go (ends_a_part (slice_get scope n)) (empty-found all t count above scope n)
  where
    go : (b : Bool) → found all t (no_buckets count) above scope n ≡ None →
        (if b then option_or (first_at all t (no_buckets count) above scope n) (found all t (no_buckets count) above scope n) else found all t (no_buckets count) above scope n) ≡ None
    go true rest = ap (λ x. option_or (first_in all t (take n scope) above x) (found all t (no_buckets count) above scope n)) (empty-bucket count (slot (take n scope) (length (no_buckets count)))) ∙ rest
    go false rest = rest

drop-all : (all : List Alternative) → drop (length all) all ≡ []
drop-all [] = refl
drop-all (a ∷ all) = drop-all all

pub knows-none : (all : List Alternative) (count : ℕ) → 0 < count → Knows all (drop (length all) all) (no_buckets count)
knows-none all count lt = record {
  some = let e : length (no_buckets count) ≡ count = length-replicate count [] in omega (arith, lt, e);
  sorted = λ i. subst (IsSorted all) (sym (empty-bucket count i)) tt;
  finds = λ t above scope. empty-found all t count above scope (length scope + 1) ∙ ap (strongest t above scope) (sym (drop-all all));
}

unset-value : (t : Attribute) (o : Option ℕ) → option_or (value_of t unset) o ≡ o
unset-value Font o = refl
unset-value Foreground o = refl
unset-value Background o = refl

pub knows-table : (all : List Alternative) (buckets : List (List ℕ)) → Knows all all buckets → IsTable all buckets
knows-table all buckets h = record { some = h.some; looks = looks }
  where
    looks : (t : Attribute) (above : List (List ℕ)) (scope : List ℕ) → value_of t (found_style all buckets above scope) ≡ setting t above scope all
    looks t above scope =
        pieces-value all t buckets above scope unset (length scope + 1) ∙ unset-value t (setting_of t (found all t buckets above scope (length scope + 1))) ∙ ap (setting_of t) (h.finds t above scope)

-- With a scope list, its names and its fronts are in the table.
use Rattle.std.proofs.Common.{◌≡◌, ℕ, zero, suc, ◌+◌, ◌-◌, ◌<◌, ◌≤◌, ◌++◌, List, [], ◌∷◌, length, get_or, map, Some, Contains, refl, ap, sym, ◌∙◌, arith, subst}
use Rattle.std.specs.Prelude.{slice_get}
use Rattle.std.specs.List.{AllByRecursion}
use Rattle.std.proofs.lemmas.List.{map-append}
use Rattle.std.proofs.lemmas.Option.{slice_get-get_or, get_or_from_slice_get}
use Rattle.tm_defs.specs.Tables.{Tables, GrowsBy, longer_path}
use Rattle.tm_defs.proofs.Growth.{slice_get-grown}
use Rattle.tm_scope.specs.declared.scopes.NameLink.{NameLink}
use Rattle.tm_scope.specs.Numbered.{NumberedValues, taken, HasNumber}
use Rattle.tm_scope.specs.Entries.{fronts, path_entries, HasEntries, HasPathEntries}
use Rattle.tm_scope.specs.Scopes.{scopes_of, AreScopes}
use Rattle.tm_scope.proofs.Taken.{contains-at, at-contains}
use Rattle.tm_scope.proofs.Linked.{length-resolved, all-found, back-at}
use Rattle.tm_scope.proofs.Pushed.{all-at}

pub all-push : {X : Type 0} (P : X → Type 0) (xs : List X) (x : X) → AllByRecursion P xs → P x → AllByRecursion P (xs ++ x ∷ [])
all-push P [] x h p = (p, tt)
all-push P (y ∷ xs) x h p = (h.0, all-push P xs x h.1 p)

-- the fronts of a list with one more element
pub fronts-push : {X : Type 0} (xs : List X) (x : X) → fronts (xs ++ x ∷ []) ≡ fronts xs ++ (xs ++ x ∷ []) ∷ []
fronts-push [] x = refl
fronts-push (y ∷ xs) x =
    ap (λ l. [] ∷ map (λ front. y ∷ front) l) (fronts-push xs x) ∙ ap (λ l. [] ∷ l) (map-append (λ front. y ∷ front) (fronts xs) ((xs ++ x ∷ []) ∷ []))

pub contains-grown : {X : Type 0} (made old new : List X) (x : X) → GrowsBy made old new → Contains old x → Contains new x
contains-grown made old new x h there = contains-at new there.0 x (slice_get-grown made old new there.0 x h (at-contains old x there))

pub entries-longer : (t : Tables) (path : List (List ℕ)) (name : List ℕ) → HasEntries (path_entries path) t → Contains t.texts name → Contains t.paths (path ++ name ∷ []) → HasEntries (path_entries (path ++ name ∷ [])) t
entries-longer t path name h known there =
    let All : List (List (List ℕ)) → Type 0 = λ l. AllByRecursion (Contains t.paths) l in
    record {
      texts = all-push (Contains t.texts) path name h.texts known;
      paths = subst All (sym (fronts-push path name)) (all-push (Contains t.paths) (fronts path) (path ++ name ∷ []) h.paths there);
      states = tt;
    }

module _ (texts : NumberedValues (List ℕ)) (links : NumberedValues NameLink) (limit : ℕ) (inv : AreScopes texts links limit) where
  abbrev t : Tables
  t = scopes_of texts.values links.values limit

  abbrev part : NameLink → List ℕ
  part l = get_or texts.values l.name.0 []

  abbrev rest : NameLink → ℕ
  rest l = l.rest.0

  count : length t.paths ≡ 1 + length links.values
  count = length-resolved part rest ([] ∷ []) links.values

  -- a number other than that of the empty list has a link
  pub link-within : (n : ℕ) → n < length t.paths → n < taken links
  link-within n h = omega (arith, count, inv.first_link)

  pub link-from : (n : ℕ) → (n ≡ 0 → ⊥) → links.first ≤ n
  link-from n some = omega (arith, inv.first_link)

  at-link : (n : ℕ) (l : NameLink) → HasNumber links n l → slice_get links.values (n - 1) ≡ Some l
  at-link n l h = ap (λ k. slice_get links.values (n - k)) (sym inv.first_link) ∙ h.1

  pub link-before : (n : ℕ) (l : NameLink) → (n ≡ 0 → ⊥) → HasNumber links n l → l.rest.0 < n
  link-before n l some h = omega (arith, back-at part rest 1 links.values (n - 1) l inv.back (at-link n l h))

  pub link-in_range : (n : ℕ) (l : NameLink) → (n ≡ 0 → ⊥) → n < length t.paths → HasNumber links n l → (l.name.0 < length t.texts) × (l.rest.0 < length t.paths)
  link-in_range n l some low h =
      (all-at (λ (x : NameLink). x.name.0 < length texts.values) links.values (n - 1) l inv.names (at-link n l h), omega (arith, link-before n l some h))

  pub link-parts : (n : ℕ) (l : NameLink) → (n ≡ 0 → ⊥) → HasNumber links n l → get_or t.paths n [] ≡ longer_path t l.rest l.name
  link-parts n l some h =
      let next : n - 1 + 1 ≡ n = omega arith in
      ap (λ k. get_or t.paths k []) (sym next) ∙ get_or_from_slice_get t.paths (n - 1 + 1) (longer_path t l.rest l.name) [] (all-found part rest links.values (n - 1) l inv.back (at-link n l h))

  abbrev Closed : ℕ → Type 0
  Closed n = HasEntries (path_entries (get_or t.paths n [])) t

  closed-link : (n : ℕ) (l : NameLink) → (n ≡ 0 → ⊥) → n < length t.paths → HasNumber links n l → Closed l.rest.0 → Closed n
  closed-link n l some low h before =
      let P : List (List ℕ) → Type 0 = λ p. HasEntries (path_entries p) t in
      let same = link-parts n l some h in
      let there : Contains t.paths (longer_path t l.rest l.name) = contains-at t.paths n (longer_path t l.rest l.name) (slice_get-get_or t.paths n [] low ∙ ap Some same) in
      let known : Contains t.texts (part l) = contains-at t.texts l.name.0 (part l) (slice_get-get_or t.texts l.name.0 [] (link-in_range n l some low h).0) in
      subst P (sym same) (entries-longer t (get_or t.paths l.rest.0 []) (part l) before known there)

  closed-below : (most n : ℕ) → n < most → n < length t.paths → Closed n
  closed-below zero n h low = absurd (omega arith)
  closed-below (suc most) zero h low =
      let P : List (List ℕ) → Type 0 = λ p. HasEntries (path_entries p) t in
      let none : get_or t.paths 0 [] ≡ [] = get_or_from_slice_get t.paths 0 [] [] inv.numbering.empty_path in
      subst P (sym none) (record { texts = tt; paths = (contains-at t.paths 0 [] inv.numbering.empty_path, tt); states = tt })
  closed-below (suc most) (suc n) h low =
      let l = get_or links.values n (record { name = record { 0 = 0 }; rest = record { 0 = 0 } }) in
      let short : n < length links.values = omega (arith, count) in
      let from : n ≡ suc n - links.first = omega (arith, inv.first_link) in
      let has : HasNumber links (suc n) l =
      (omega (arith, inv.first_link), ap (slice_get links.values) (sym from) ∙ slice_get-get_or links.values n _ short) in
      let before = link-before (suc n) l (λ e. absurd (omega arith)) has in
      closed-link (suc n) l (λ e. absurd (omega arith)) low has (closed-below most l.rest.0 (omega arith) (omega arith))

  pub closed-paths : HasPathEntries t
  closed-paths path there =
      let P : List (List ℕ) → Type 0 = λ p. HasEntries (path_entries p) t in
      let same : get_or t.paths there.0 [] ≡ path = get_or_from_slice_get t.paths there.0 path [] (at-contains t.paths path there) in
      subst P same (closed-below (suc there.0) there.0 (omega arith) there.1)

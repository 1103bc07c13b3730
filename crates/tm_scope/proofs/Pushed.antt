-- Scope lists that take in a list.
use Rattle.std.proofs.Common.{◌≡◌, ℕ, zero, suc, ◌-◌, ◌<◌, ◌≤◌, ◌++◌, List, [], ◌∷◌, length, get_or, Some, Contains, inl, inr, refl, ap, sym, ◌∙◌, arith, subst}
use Rattle.std.specs.Prelude.{slice_get}
use Rattle.std.specs.List.{AllByRecursion}
use Rattle.std.proofs.lemmas.Option.{slice_get-get_or}
use Rattle.tm_defs.specs.declared.frames.TextId.{TextId}
use Rattle.tm_defs.specs.declared.frames.ScopeList.{ScopeList}
use Rattle.tm_defs.specs.Tables.{Tables, longer_path, GrowsWithin, only_path}
use Rattle.tm_defs.specs.declared.tables.TableFault.{TableFault}
use Rattle.tm_defs.specs.declared.tables.TableFault.TheVariants.{TableFull, OutOfMemory}
use Rattle.tm_defs.proofs.Growth.{grows-refl, slice_get-grown}
use Rattle.tm_scope.specs.declared.scopes.NameLink.{NameLink}
use Rattle.tm_scope.specs.Numbered.{NumberedValues, taken, HasNumber, TakesIn, KeepsLimit, IsFullAt}
use Rattle.tm_scope.specs.Entries.{KeepsLimits, IsFullFor}
use Rattle.tm_scope.specs.Scopes.{scopes_of, AreScopes}
use Rattle.tm_scope.proofs.Taken.{at-contains, grows-taken, once-taken, limit-kept}
use Rattle.tm_scope.proofs.Linked.{length-resolved, all-unfound, linked-back, linked-takes, linked-number}

pub all-at : {X : Type 0} (P : X → Type 0) (xs : List X) (i : ℕ) (x : X) → AllByRecursion P xs → slice_get xs i ≡ Some x → P x
all-at P [] i x h at = cc
all-at P (y ∷ xs) zero x h at = let same : y ≡ x = cc in subst P same h.0
all-at P (y ∷ xs) (suc i) x h at = all-at P xs i x h.1 at

pub all-taken : {X : Type 0} (P : X → Type 0) (x : X) (old new : List X) → TakesIn x old new → AllByRecursion P old → P x → AllByRecursion P new
all-taken P x old new (inl (there, same)) h p = let Q : List _ → Type 0 = λ l. AllByRecursion P l in subst Q (sym same) h
all-taken P x old new (inr (none, same)) h p = let Q : List _ → Type 0 = λ l. AllByRecursion P l in subst Q (sym same) (push old h)
  where
    push : (xs : List _) → AllByRecursion P xs → AllByRecursion P (xs ++ x ∷ [])
    push [] h = (p, tt)
    push (y ∷ xs) h = (h.0, push xs h.1)

module _ (texts : NumberedValues (List ℕ)) (links : NumberedValues NameLink) (limit : ℕ) (inv : AreScopes texts links limit) where
  abbrev t : Tables
  t = scopes_of texts.values links.values limit

  abbrev part : NameLink → List ℕ
  part l = get_or texts.values l.name.0 []

  abbrev rest : NameLink → ℕ
  rest l = l.rest.0

  -- a number of a list is a number of its link
  pub count-paths : length t.paths ≡ taken links
  count-paths = omega (arith, length-resolved part rest ([] ∷ []) links.values, inv.first_link)

  module _ (list : ScopeList) (name : TextId) (there : list.0 < length t.paths) (known : name.0 < length texts.values) where
    abbrev link : NameLink
    link = record { name = name; rest = list }

    abbrev longer : List (List ℕ)
    longer = longer_path t list name

    one-link : (l : NameLink) → Contains links.values l → part l ≡ part link → rest l ≡ rest link → l ≡ link
    one-link l there e r =
        let low : l.name.0 < length texts.values = all-at (λ (x : NameLink). x.name.0 < length texts.values) links.values there.0 l inv.names (at-contains links.values l there) in
        let same : l.name.0 ≡ name.0 = inv.numbering.texts_once l.name.0 name.0 (part link) (slice_get-get_or texts.values l.name.0 [] low ∙ ap Some e) (slice_get-get_or texts.values name.0 [] known) in
        ap (λ n. record { name = record { 0 = n }; rest = l.rest }) same ∙ ap (λ n. record { name = name; rest = record { 0 = n } }) r

    pub push-absent : (Contains links.values link → ⊥) → Contains t.paths longer → ⊥
    push-absent none = all-unfound part rest links.values link inv.back inv.numbering.paths_once there one-link none

    pub push-full : (most : ℕ) (fault : TableFault) → IsFullAt most (taken links) fault → (Contains links.values link → ⊥) → IsFullFor most (only_path longer) t fault
    push-full most (TableFull n) full none =
        let long : most ≤ length t.paths = omega (arith, count-paths, full.1) in
        (full.0, inr (inl (long, (longer, (0, omega arith, refl), push-absent none))))
    push-full most OutOfMemory full none = tt

    module _ (new : NumberedValues NameLink) (takes : TakesIn link links.values new.values) (first : new.first ≡ links.first) where
      abbrev u : Tables
      u = scopes_of texts.values new.values limit

      push-takes : TakesIn longer t.paths u.paths
      push-takes = linked-takes part rest links.values new.values link takes inv.back inv.numbering.paths_once there one-link

      count-new : length u.paths ≡ taken new
      count-new = omega (arith, length-resolved part rest ([] ∷ []) new.values, first, inv.first_link)

      pub push-grows : GrowsWithin (only_path longer) t u
      push-grows = record { texts = grows-refl [] texts.values; paths = grows-taken longer t.paths u.paths push-takes; states = grows-refl [] t.states; limit = refl }

      pub push-ok : (n : ℕ) → HasNumber new n link → slice_get u.paths n ≡ Some longer
      push-ok n h =
          let from : new.first ≡ 1 = first ∙ inv.first_link in
          let low : 1 ≤ n = omega (arith, h.0) in
          linked-number part rest links.values new.values link takes inv.back there n low (ap (λ k. slice_get new.values (n - k)) (sym from) ∙ h.1)

      pub push-limits : (most : ℕ) → KeepsLimit most (taken links) (taken new) → KeepsLimits most t u
      push-limits most h =
          let P : ℕ → ℕ → Type 0 = λ a b. KeepsLimit most a b in
          record { texts = inl refl; paths = subst (λ a. P a (length u.paths)) (sym count-paths) (subst (P (taken links)) (sym count-new) h); states = inl refl }

      pub push-invariant : (most : ℕ) → KeepsLimit most (taken links) (taken new) → most ≤ limit → AreScopes texts new limit
      push-invariant most kept low = record {
        first_text = inv.first_text;
        first_link = first ∙ inv.first_link;
        back = linked-back part rest links.values new.values link takes inv.back there;
        names = all-taken (λ (l : NameLink). l.name.0 < length texts.values) link links.values new.values takes inv.names known;
        numbering = record {
          empty_path = slice_get-grown (longer ∷ []) t.paths u.paths 0 [] (grows-taken longer t.paths u.paths push-takes) inv.numbering.empty_path;
          opening = inv.numbering.opening;
          texts_once = inv.numbering.texts_once;
          paths_once = once-taken longer t.paths u.paths push-takes inv.numbering.paths_once;
          states_once = inv.numbering.states_once;
          texts_within = inv.numbering.texts_within;
          paths_within = let k = limit-kept most (taken links) (taken new) limit kept low (omega (arith, count-paths, inv.numbering.paths_within)) in omega (arith, count-new);
          states_within = inv.numbering.states_within;
        };
        small = inv.small;
      }

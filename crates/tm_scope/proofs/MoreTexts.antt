-- Texts that take in a text, beside scope lists that stay.
use Rattle.std.proofs.Common.{◌≡◌, ℕ, ◌<◌, ◌≤◌, List, [], ◌∷◌, length, get_or, Contains, inl, inr, refl, ap, sym, ◌∙◌, arith, subst}
use Rattle.std.specs.List.{AllByRecursion}
use Rattle.tm_defs.specs.Tables.{Tables, IsNumbering, GrowsBy, GrowsWithin, only_text}
use Rattle.tm_defs.specs.declared.tables.TableFault.{TableFault}
use Rattle.tm_defs.specs.declared.tables.TableFault.TheVariants.{TableFull, OutOfMemory}
use Rattle.tm_defs.proofs.Growth.{grows-refl}
use Rattle.tm_scope.specs.declared.scopes.NameLink.{NameLink}
use Rattle.tm_scope.specs.Numbered.{NumberedValues, taken, TakesIn, KeepsLimit, IsFullAt}
use Rattle.tm_scope.specs.Entries.{KeepsLimits, IsFullFor}
use Rattle.tm_scope.specs.Scopes.{scopes_of, AreScopes}
use Rattle.tm_scope.proofs.Taken.{grows-taken, once-taken, get_or-taken, longer-taken, limit-kept}
use Rattle.tm_scope.proofs.Linked.{resolved-same}

pub all-map : {X : Type 0} (P Q : X → Type 0) (xs : List X) → ((x : X) → P x → Q x) → AllByRecursion P xs → AllByRecursion Q xs
all-map P Q [] f h = tt
all-map P Q (x ∷ xs) f h = (f x h.0, all-map P Q xs f h.1)

module _ (texts new : NumberedValues (List ℕ)) (links : NumberedValues NameLink) (limit : ℕ) (inv : AreScopes texts links limit) (text : List ℕ) where
  abbrev t : Tables
  t = scopes_of texts.values links.values limit

  abbrev u : Tables
  u = scopes_of new.values links.values limit

  pub text-full : (most : ℕ) (fault : TableFault) → IsFullAt most (taken texts) fault → (Contains texts.values text → ⊥) → IsFullFor most (only_text text) t fault
  text-full most (TableFull n) full none =
      let long : most ≤ length texts.values = omega (arith, inv.first_text, full.1) in
      (full.0, inl (long, (text, (0, omega arith, refl), none)))
  text-full most OutOfMemory full none = tt

  module _ (takes : TakesIn text texts.values new.values) (first : new.first ≡ texts.first) where
    same-paths : u.paths ≡ t.paths
    same-paths =
        resolved-same (λ (l : NameLink). get_or texts.values l.name.0 []) (λ (l : NameLink). l.rest.0) (λ (l : NameLink). get_or new.values l.name.0 []) ([] ∷ []) links.values
        (all-map (λ (l : NameLink). l.name.0 < length texts.values) (λ (l : NameLink). get_or new.values l.name.0 [] ≡ get_or texts.values l.name.0 []) links.values
        (λ l low. get_or-taken text texts.values new.values takes l.name.0 [] low) inv.names)

    pub text-grows : GrowsWithin (only_text text) t u
    text-grows = record {
      texts = grows-taken text texts.values new.values takes;
      paths = let P : List _ → Type 0 = λ p. GrowsBy [] t.paths p in subst P (sym same-paths) (grows-refl [] t.paths);
      states = grows-refl [] t.states;
      limit = refl;
    }

    pub text-limits : (most : ℕ) → KeepsLimit most (taken texts) (taken new) → KeepsLimits most t u
    text-limits most h = record { texts = by h; paths = inl (ap length same-paths); states = inl refl }
      where
        by : KeepsLimit most (taken texts) (taken new) → KeepsLimit most (length texts.values) (length new.values)
        by (inl same) = inl (omega (arith, first, inv.first_text))
        by (inr low) = inr (omega (arith, first, inv.first_text))

    pub text-invariant : (most : ℕ) → KeepsLimit most (taken texts) (taken new) → most ≤ limit → AreScopes new links limit
    text-invariant most kept low =
        let P : List _ → Type 0 = λ p. IsNumbering (record u { paths = p }) in
        record {
          first_text = first ∙ inv.first_text;
          first_link = inv.first_link;
          back = inv.back;
          names = all-map (λ (l : NameLink). l.name.0 < length texts.values) (λ (l : NameLink). l.name.0 < length new.values) links.values (λ l h. omega (arith, longer-taken text texts.values new.values takes)) inv.names;
          numbering = subst P (sym same-paths) (record {
            empty_path = inv.numbering.empty_path;
            opening = inv.numbering.opening;
            texts_once = once-taken text texts.values new.values takes inv.numbering.texts_once;
            paths_once = inv.numbering.paths_once;
            states_once = inv.numbering.states_once;
            texts_within = let k = limit-kept most (taken texts) (taken new) limit kept low (omega (arith, inv.first_text, inv.numbering.texts_within)) in omega (arith, first, inv.first_text);
            paths_within = inv.numbering.paths_within;
            states_within = inv.numbering.states_within;
          });
          small = inv.small;
        }

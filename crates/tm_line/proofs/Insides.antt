-- What is searched inside the rules, made one after another.
use Rattle.std.proofs.Common.{◌≡◌, ℕ, zero, suc, ◌+◌, ◌++◌, List, [], ◌∷◌, length, length-append, Some, None, get_or, ◌<◌, ◌≤◌, refl, ap, sym, ◌∙◌, arith, ◌⊎◌, inl, inr, ⊎_elim, subst}
use Rattle.std.specs.Prelude.{slice_get}
use Rattle.std.proofs.lemmas.Option.{slice_get-get_or, slice_get_past}
use Rattle.tm_defs.specs.declared.rules.Rule.{Rule}
use Rattle.tm_line.specs.inner.Prepared.{IsInside, AreInsides}
use Rattle.tm_line.specs.declared.prepared.Inside.{Inside}

-- as many as were made so far are those of the first rules
pub record IsMaking (rules : List Rule) (count : ℕ) (insides : List Inside) : Type 0 where
  pub long : length insides ≡ count
  pub right : (n : ℕ) (inside : Inside) → slice_get insides n ≡ Some inside → IsInside rules n inside

pub none-made : (rules : List Rule) → IsMaking rules 0 []
none-made rules = record { long = refl; right = λ n inside e. absurd cc }

-- what stands behind a list, or is one of it
behind : (xs : List Inside) (y x : Inside) (n : ℕ) → slice_get (xs ++ y ∷ []) n ≡ Some x → (slice_get xs n ≡ Some x) ⊎ ((n ≡ length xs) × (y ≡ x))
behind [] y x zero e = inr (refl, cc)
behind [] y x (suc n) e = absurd cc
behind (z ∷ zs) y x zero e = inl e
behind (z ∷ zs) y x (suc n) e = ⊎_elim (λ h. inl h) (λ h. inr (ap suc h.0, h.1)) (behind zs y x n e)

pub one-made : (rules : List Rule) (i : ℕ) (insides new : List Inside) (inside : Inside) → IsMaking rules i insides → new ≡ insides ++ inside ∷ [] → IsInside rules i inside → IsMaking rules (i + 1) new
one-made rules i insides new inside h e is = record {
  long = omega (arith, ap length e, length-append insides (inside ∷ []), h.long);
  right = λ n x got. ⊎_elim (λ old. h.right n x old) (λ last. the_last n x last.0 last.1) (behind insides inside x n (sym (ap (λ l. slice_get l n) e) ∙ got));
}
  where
    the_last : (n : ℕ) (x : Inside) → n ≡ length insides → inside ≡ x → IsInside rules n x
    the_last n x last same =
        let P : ℕ → Type 0 = λ k. IsInside rules k inside in
        let Q : Inside → Type 0 = λ y. IsInside rules n y in
        subst Q same (subst P (sym (last ∙ h.long)) is)

pub all-made : (rules : List Rule) (count : ℕ) (insides : List Inside) → count ≡ length rules → IsMaking rules count insides → AreInsides rules insides
all-made rules count insides e h = record { long = h.long ∙ e; right = h.right }

-- what stands at a number is what is searched inside its rule
module _ (rules : List Rule) (insides : List Inside) (n : ℕ) (are : AreInsides rules insides) where
  pub inside-found : (inside d : Inside) → n < length insides → inside ≡ get_or insides n d → IsInside rules n inside
  inside-found inside d low is = are.right n inside (slice_get-get_or insides n d low ∙ ap (λ (x : Inside). Some x) (sym is))

  pub inside-none : length insides ≤ n → slice_get rules n ≡ None
  inside-none past = slice_get_past rules n (omega (arith, are.long, past))

-- The names of scripts that are refused are those that are not long.
use Rattle.std.proofs.Common.{◌≡◌, ℕ, Bool, true, false, cond, inl, inr, List, [], ◌∷◌, None, refl, ap, subst, ◌∙◌, bytes_eq}
use Rattle.std.proofs.lemmas.Slice.Eq.{bytes_eq-Decides}
use Rattle.std.proofs.lemmas.Bool.{cases_Bool}
use Rattle.ucd_sets.specs.Loose.{loosely, value_named, normalize}
use Rattle.ucd_sets.specs.Names.{script_names}
use Rattle.tm_onig_class.specs.Named.{is_short_script, long_rows}

-- the rows whose names are not refused
unfoldable without : {V : Type 0} → (List ℕ → Bool) → List (List ℕ × V) → List (List ℕ × V)
without refused [] = []
without refused (r ∷ rows) = cond (refused r.0) (without refused rows) (r ∷ without refused rows)

-- the rows with long names are those not refused
rows_same : loosely (long_rows 0 script_names) ≡ without is_short_script (loosely script_names)
unfolding long_rows script_names normalize without
rows_same = refl

-- a name is found among the rest where it is not refused
found_without : {V : Type 0} (refused : List ℕ → Bool) (rows : List (List ℕ × V)) (name : List ℕ) → value_named (without refused rows) name ≡ cond (refused name) None (value_named rows name)
unfolding without value_named
found_without refused [] name = elim (cases_Bool (refused name)) [ inl is ↦ rw is refl | inr free ↦ rw free refl ]
found_without refused (r ∷ rows) name =
    elim (cases_Bool (refused r.0)) [
      | inl is ↦ rw is (elim (cases_Bool (bytes_eq r.0 name)) [
        | inl same ↦
            let at : refused name ≡ true = subst (λ n. refused n ≡ true) ((bytes_eq-Decides r.0 name).0 same) is in
            rw (same, at) (found_without refused rows name ∙ rw at refl)
        | inr other ↦ rw other (found_without refused rows name)
      ])
      | inr free ↦ rw free (elim (cases_Bool (bytes_eq r.0 name)) [
        | inl same ↦
            let at : refused name ≡ false = subst (λ n. refused n ≡ false) ((bytes_eq-Decides r.0 name).0 same) free in
            rw (same, at) refl
        | inr other ↦ rw other (found_without refused rows name)
      ])
    ]

-- a name that is not refused is a long one, and each long one is not refused
pub long_is : (name : List ℕ) → value_named (loosely (long_rows 0 script_names)) name ≡ cond (is_short_script name) None (value_named (loosely script_names) name)
long_is name = ap (λ rows. value_named rows name) rows_same ∙ found_without is_short_script (loosely script_names) name

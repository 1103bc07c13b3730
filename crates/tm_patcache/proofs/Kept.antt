-- Each entry stays the program of its own text.
use Rattle.std.proofs.Common.{◌≡◌, ℕ, Bool, true, false, cond, List, [], ◌∷◌, Option, Some, None, ap, sym, ◌∙◌, subst, inl, inr, refl, arith}
use Rattle.std.specs.Prelude.{◌==◌, map, option_map, Result, Ok, Err, IfOk, OnOk, IsNone}
use Rattle.std.specs.Arc.{arc_value}
use Rattle.std.specs.Cmp.Lexicographic.{pointwise, bytes_decides}
use Rattle.std.specs.Map.{lookup}
use Rattle.std.specs.declared.sync.Arc.{Arc}
use Rattle.lru.specs.LruCache.{LruCache, promoted, put_entries}
use Rattle.lru.proofs.CallerLemmas.{Contains-promoted, Contains-lookup, Contains-put_entries}
use Rattle.tm_onig_class.specs.declared.patterns.Pattern.{Pattern}
use Rattle.tm_patcache.specs.Programs.{IsProgramOf, AreOfTheirTexts, patterns_kept}

module _ {A : Type 0} where
  -- the order does not matter
  pub promoted-right : (test : List ℕ → Bool) (entries : List (List ℕ × Option (Arc Pattern A))) → AreOfTheirTexts entries → AreOfTheirTexts (promoted test entries)
  promoted-right test entries right text program has = right text program (Contains-promoted test entries (text, program) has)

  -- what is found of a text
  pub lookup-right : (entries : List (List ℕ × Option (Arc Pattern A))) (text : List ℕ) (program : Option (Arc Pattern A)) → AreOfTheirTexts entries → lookup (pointwise ◌==◌ text) entries ≡ Some program → IsProgramOf text program
  lookup-right entries text program right is =
      let e = Contains-lookup (pointwise ◌==◌ text) entries program is in
      let same : text ≡ e.0 = (bytes_decides text e.0).0 e.2 in
      subst (λ t. IsProgramOf t program) (sym same) (right e.0 program e.1)

  -- what is put
  pub put-right : (cache : LruCache (List ℕ) (Option (Arc Pattern A))) (text : List ℕ) (program : Option (Arc Pattern A)) → AreOfTheirTexts cache.entries → IsProgramOf text program → AreOfTheirTexts (put_entries (pointwise ◌==◌) cache text program)
  put-right cache text program right is t p has = elim (Contains-put_entries (pointwise ◌==◌) cache text program (t, p) has) [
    | inl was ↦ right t p was
    | inr put ↦ elim put.1 [
      | inl same ↦ subst (λ x. IsProgramOf x p) (sym same) (subst (λ y. IsProgramOf text y) (sym put.0) is)
      | inr was ↦ subst (λ x. IsProgramOf x p) ((bytes_decides text t).0 was.2) (subst (λ y. IsProgramOf text y) (sym put.0) is)
    ]
  ]

-- a look-up of values that are seen as others
pub lookup-map : {V W : Type 0} (f : V → W) (test : List ℕ → Bool) (entries : List (List ℕ × V)) → lookup test (map (λ e. (e.0, f e.1)) entries) ≡ option_map f (lookup test entries)
lookup-map f test [] = refl
lookup-map f test (e ∷ es) = go (test e.0) (lookup-map f test es)
  where
    go : (b : Bool) → lookup test (map (λ x. (x.0, f x.1)) es) ≡ option_map f (lookup test es) →
        cond b (Some (f e.1)) (lookup test (map (λ x. (x.0, f x.1)) es)) ≡ option_map f (cond b (Some e.1) (lookup test es))
    go true rest = refl
    go false rest = rest

module _ {A E : Type 0} (text : List ℕ) (entries : List (List ℕ × Option (Arc Pattern A))) where
  -- what is absent is so to contracts
  pub absent-seen : {X : Type 0} (result : Result (Option X) E) → IfOk result (λ found. IsNone found → lookup (pointwise ◌==◌ text) entries ≡ None) →
      IfOk result (λ found. IsNone found → lookup (pointwise ◌==◌ text) (patterns_kept entries) ≡ None)
  absent-seen (Ok found) absent = λ none. lookup-map (option_map arc_value) (pointwise ◌==◌ text) entries ∙ ap (option_map (option_map arc_value)) (absent none)
  absent-seen (Err e) absent = tt

  -- what is put is so to contracts
  pub put-seen : {X : Type 0} (program : Option (Arc Pattern A)) (result : Result X E) → OnOk result (lookup (pointwise ◌==◌ text) entries ≡ Some program) →
      OnOk result (lookup (pointwise ◌==◌ text) (patterns_kept entries) ≡ Some (option_map arc_value program))
  put-seen program (Ok x) put = lookup-map (option_map arc_value) (pointwise ◌==◌ text) entries ∙ ap (option_map (option_map arc_value)) put
  put-seen program (Err e) put = tt

-- nothing is kept
pub none-right : {A : Type 0} → AreOfTheirTexts {A = A} []
none-right text program has = absurd (omega (arith, has.1))

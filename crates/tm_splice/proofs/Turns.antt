-- Parts of a list that are turned.
use Rattle.std.proofs.Common.{◌≡◌, ℕ, suc, ◌+◌, ◌≤◌, ◌-◌, List, [], ◌∷◌, ◌++◌, length, take, drop, refl, ap, ap₂, arith, ◌∙◌, sym, append_assoc}
use Rattle.std.proofs.lemmas.List.{length-append, length-take-le, length-drop}

module _ {X : Type 0} where
  take-all-of : (a b : List X) → take (length a) (a ++ b) ≡ a
  take-all-of [] b = refl
  take-all-of (x ∷ xs) b = ap (λ r. x ∷ r) (take-all-of xs b)

  drop-all-of : (a b : List X) → drop (length a) (a ++ b) ≡ b
  drop-all-of [] b = refl
  drop-all-of (x ∷ xs) b = drop-all-of xs b

  take-front : (a b : List X) (n : ℕ) → length a ≡ n → take n (a ++ b) ≡ a
  take-front a b n e = ap (λ m. take m (a ++ b)) (sym e) ∙ take-all-of a b

  drop-front : (a b : List X) (n : ℕ) → length a ≡ n → drop n (a ++ b) ≡ b
  drop-front a b n e = ap (λ m. drop m (a ++ b)) (sym e) ∙ drop-all-of a b

  -- behind a front, a part goes to the end, and falls away; then another one comes in before the rest
  moved-in : (a t o n : List X) (first behind : ℕ) (cut more end : List X) → length a ≡ first → length t ≡ behind →
      cut ≡ take (first + behind) (a ++ (t ++ o)) → more ≡ cut ++ n →
      end ≡ take first more ++ (drop behind (drop first more) ++ take behind (drop first more)) → end ≡ a ++ (n ++ t)
  moved-in a t o n first behind cut more end ea et ec em ee =
      ee ∙ ap₂ (λ x y. x ++ (drop behind y ++ take behind y)) (ap (take first) whole ∙ take-front a (t ++ n) first ea) (ap (drop first) whole ∙ drop-front a (t ++ n) first ea)
      ∙ ap₂ (λ x y. a ++ (x ++ y)) (drop-front t n behind et) (take-front t n behind et)
    where
      cut-is : cut ≡ a ++ t
      cut-is = ec ∙ ap (take (first + behind)) (sym (append_assoc a t o)) ∙ take-front (a ++ t) o (first + behind) (length-append a t ∙ ap₂ (λ x y. x + y) ea et)

      whole : more ≡ a ++ (t ++ n)
      whole = em ∙ ap (λ c. c ++ n) cut-is ∙ append_assoc a t n

  -- a range of a list is replaced by another
  pub replaced-range : (xs n : List X) (first old behind : ℕ) (turned cut more end : List X) → first + old + behind ≡ length xs →
      turned ≡ take first xs ++ (drop old (drop first xs) ++ take old (drop first xs)) → cut ≡ take (first + behind) turned → more ≡ cut ++ n →
      end ≡ take first more ++ (drop behind (drop first more) ++ take behind (drop first more)) → end ≡ take first xs ++ (n ++ drop old (drop first xs))
  replaced-range xs n first old behind turned cut more end count et ec em ee =
      moved-in (take first xs) (drop old (drop first xs)) (take old (drop first xs)) n first behind cut more end
      (length-take-le first xs (omega (arith, count)))
      (let a = length-drop old (drop first xs) in let b = length-drop first xs in omega (arith, a, b, count))
      (ec ∙ ap (take (first + behind)) et) em ee

-- Where lists of words end, and where a climb ends.
use Rattle.std.proofs.Common.{◌≡◌, ℕ, suc, ◌-◌, ◌<◌, ◌≤◌, false, List, [], ◌∷◌, length, get_or, drop, Some, None, refl, ap, sym, ◌∙◌, arith, nat_lt}
use Rattle.std.proofs.Math.Seq.{drop-cons}
use Rattle.std.proofs.lemmas.Bool.Decides.{nat_tests}
use Rattle.std.proofs.lemmas.List.{length-drop}
use Rattle.tm_selector.specs.Names.{place_above}
use Rattle.tm_theme.specs.Style.{is_weaker, climb}

one-ended : (ws vs : List (List ℕ)) → (0 < length ws → 0 < length vs → ⊥) → nat_lt (length ws) (length vs) ≡ is_weaker ws vs
one-ended [] [] h = refl
one-ended [] (v ∷ vs) h = grind (arith, nat_tests)
one-ended (w ∷ ws) [] h = grind (arith, nat_tests)
one-ended (w ∷ ws) (v ∷ vs) h = absurd (h (omega arith) (omega arith))

less-behind : (n a b : ℕ) → n ≤ a → n ≤ b → nat_lt a b ≡ nat_lt (a - n) (b - n)
less-behind n a b h i = grind (arith, nat_tests)

pub weaker-end : (ws vs : List (List ℕ)) (n : ℕ) → n ≤ length ws → n ≤ length vs → (n < length ws → n < length vs → ⊥) → is_weaker (drop n ws) (drop n vs) ≡ is_weaker ws vs →
    nat_lt (length ws) (length vs) ≡ is_weaker ws vs
weaker-end ws vs n h i ended same =
    less-behind n (length ws) (length vs) h i
    ∙ ap (λ k. nat_lt k (length vs - n)) (sym (length-drop n ws)) ∙ ap (nat_lt (length (drop n ws))) (sym (length-drop n vs))
    ∙ one-ended (drop n ws) (drop n vs) (λ a b. ended (omega (arith, length-drop n ws)) (omega (arith, length-drop n vs))) ∙ same

climb-none : (ws above : List (List ℕ)) → climb ws above None ≡ false
climb-none [] above = refl
climb-none (w ∷ ws) above = climb-none ws above

pub climb-ends : (words above : List (List ℕ)) (i place : ℕ) (w : List ℕ) → i < length words → w ≡ get_or words i w → place_above w above place ≡ None → climb (drop i words) above (Some place) ≡ false
climb-ends words above i place w lt is e =
    ap (λ ws. climb ws above (Some place)) (drop-cons words i w lt) ∙ ap (λ v. climb (v ∷ drop (suc i) words) above (Some place)) (sym is) ∙ ap (climb (drop (suc i) words) above) e ∙ climb-none (drop (suc i) words) above

-- An item that is put behind all others.
use Rattle.std.proofs.Common.{◌≡◌, ℕ, ◌≤◌, false, List, [], ◌∷◌, ◌++◌, drop, length, ap, ◌∙◌, arith, Result, Ok, Err, cond, is_ok, true≢false}
use Rattle.std.specs.List.{insert}
use Rattle.std.specs.Result.{is_err}
use Rattle.std.proofs.lemmas.List.{take_all, drop_all}

insert-end : {X : Type 0} (xs : List X) (n : ℕ) (x : X) → length xs ≤ n → insert xs n x ≡ xs ++ x ∷ []
insert-end xs n x le = ap (λ l. l ++ x ∷ drop n xs) (take_all n xs le) ∙ ap (λ l. xs ++ x ∷ l) (drop_all n xs le)

-- where it could be inserted
pub inserted-end : {X U E : Type 0} (r : Result U E) (xs new : List X) (n : ℕ) (x : X) → is_err r ≡ false → n ≡ length xs → new ≡ cond (is_ok r) (insert xs n x) xs → new ≡ xs ++ x ∷ []
inserted-end (Ok u) xs new n x ok len is = is ∙ insert-end xs n x (omega (arith, len))
inserted-end (Err e) xs new n x ok len is = absurd (true≢false ok)

-- What a test says of neighbouring numbers, as a list.
use Rattle.std.proofs.Common.{◌≡◌, ℕ, zero, suc, ◌+◌, ◌-◌, ◌<◌, ◌≤◌, Bool, true, false, List, [], ◌∷◌, ◌++◌, length, take, drop, replicate, refl, sym, ap, ap₂, ◌∙◌, arith}
use Rattle.std.specs.Prelude.{◌||◌, nat_eq}
use Rattle.std.proofs.lemmas.Bool.Decides.{nat_tests}
use Rattle.tm_machine.specs.Changes.{spliced}
use Rattle.tm_machine.specs.Machine.{marked}
use Rattle.tm_worker.specs.Fresh.{tests_from}

pub length-tests : (f : ℕ → Bool) (k n : ℕ) → length (tests_from f k n) ≡ n
length-tests f k zero = refl
length-tests f k (suc n) = ap suc (length-tests f (suc k) n)

-- tests that agree from two numbers on
pub tests-alike : (f g : ℕ → Bool) (k l n : ℕ) → ((j : ℕ) → j < n → f (k + j) ≡ g (l + j)) → tests_from f k n ≡ tests_from g l n
tests-alike f g k l zero h = refl
tests-alike f g k l (suc n) h =
    let k0 : k + 0 ≡ k = omega arith in
    let l0 : l + 0 ≡ l = omega arith in
    ap₂ (λ b bs. b ∷ bs) (sym (ap f k0) ∙ h 0 (omega arith) ∙ ap g l0)
    (tests-alike f g (suc k) (suc l) n (λ j lt. let ks : suc k + j ≡ k + suc j = omega arith in let ls : l + suc j ≡ suc l + j = omega arith in ap f ks ∙ h (suc j) (omega (arith, lt)) ∙ ap g ls))

pub tests-false : (f : ℕ → Bool) (k n : ℕ) → ((j : ℕ) → j < n → f (k + j) ≡ false) → tests_from f k n ≡ replicate n false
tests-false f k zero h = refl
tests-false f k (suc n) h =
    let k0 : k + 0 ≡ k = omega arith in
    ap₂ (λ b bs. b ∷ bs) (sym (ap f k0) ∙ h 0 (omega arith))
    (tests-false f (suc k) n (λ j lt. let ks : suc k + j ≡ k + suc j = omega arith in ap f ks ∙ h (suc j) (omega (arith, lt))))

pub tests-append : (f : ℕ → Bool) (k m n : ℕ) → tests_from f k (m + n) ≡ tests_from f k m ++ tests_from f (k + m) n
tests-append f k zero n =
    let k0 : k ≡ k + 0 = omega arith in
    let n0 : 0 + n ≡ n = omega arith in
    ap (tests_from f k) n0 ∙ ap (λ x. tests_from f x n) k0
tests-append f k (suc m) n =
    let ks : suc k + m ≡ k + suc m = omega arith in
    let mn : suc m + n ≡ suc (m + n) = omega arith in
    ap (tests_from f k) mn ∙ ap (λ bs. f k ∷ bs) (tests-append f (suc k) m n ∙ ap (λ x. tests_from f (suc k) m ++ tests_from f x n) ks)

take-all : {A : Type 0} (xs ys : List A) (m : ℕ) → length xs ≡ m → take m (xs ++ ys) ≡ xs
take-all [] ys m e = ap (λ n. take n ys) (sym e)
take-all (x ∷ xs) ys zero e = absurd (omega (arith, e))
take-all (x ∷ xs) ys (suc m) e = ap (λ zs. x ∷ zs) (take-all xs ys m (omega (arith, e)))

drop-all : {A : Type 0} (xs ys : List A) (m : ℕ) → length xs ≡ m → drop m (xs ++ ys) ≡ ys
drop-all [] ys m e = ap (λ n. drop n ys) (sym e)
drop-all (x ∷ xs) ys zero e = absurd (omega (arith, e))
drop-all (x ∷ xs) ys (suc m) e = drop-all xs ys m (omega (arith, e))

pub tests-take : (f : ℕ → Bool) (k m n : ℕ) → take m (tests_from f k (m + n)) ≡ tests_from f k m
tests-take f k m n = ap (take m) (tests-append f k m n) ∙ take-all (tests_from f k m) (tests_from f (k + m) n) m (length-tests f k m)

pub tests-drop : (f : ℕ → Bool) (k m n : ℕ) → drop m (tests_from f k (m + n)) ≡ tests_from f (k + m) n
tests-drop f k m n = ap (drop m) (tests-append f k m n) ∙ drop-all (tests_from f k m) (tests_from f (k + m) n) m (length-tests f k m)

-- one of the numbers is marked
pub tests-marked : (f : ℕ → Bool) (k n i : ℕ) → i < n → marked (tests_from f k n) i ≡ tests_from (λ j. nat_eq j (k + i) || f j) k n
tests-marked f k zero i lt = absurd (omega (arith, lt))
tests-marked f k (suc n) zero lt =
    ap₂ (λ b bs. b ∷ bs) (let here : nat_eq k (k + 0) ≡ true = grind (arith, nat_tests) in rw here refl)
    (tests-alike f (λ j. nat_eq j (k + 0) || f j) (suc k) (suc k) n (λ j l. let other : nat_eq (suc k + j) (k + 0) ≡ false = grind (arith, nat_tests) in rw other refl))
tests-marked f k (suc n) (suc i) lt =
    let ks : suc k + i ≡ k + suc i = omega arith in
    ap₂ (λ b bs. b ∷ bs) (let other : nat_eq k (k + suc i) ≡ false = grind (arith, nat_tests) in rw other refl)
    (tests-marked f (suc k) n i (omega (arith, lt)) ∙ ap (λ x. tests_from (λ j. nat_eq j x || f j) (suc k) n) ks)

-- a range of numbers is replaced by others for which a test fails
pub tests-spliced : (f g : ℕ → Bool) (first old new n : ℕ) → first + old ≤ n → ((j : ℕ) → j < first → g j ≡ f j) → ((j : ℕ) → j < new → g (first + j) ≡ false) → ((j : ℕ) → g (first + new + j) ≡ f (first + old + j)) →
    tests_from g 0 (n + new - old) ≡ spliced first old (replicate new false) (tests_from f 0 n)
tests-spliced f g first old new n le low none high =
    let behind : ℕ = n - (first + old) in
    let count : n + new - old ≡ first + (new + (n - (first + old))) = omega (arith, le) in
    let whole : n ≡ first + (old + (n - (first + old))) = omega (arith, le) in
    let first_is : 0 + first ≡ first = omega arith in
    ap (tests_from g 0) count
    ∙ tests-append g 0 first (new + behind)
    ∙ ap₂ (λ xs ys. xs ++ ys)
    (tests-alike g f 0 0 first (λ j lt. let z : 0 + j ≡ j = omega arith in ap g z ∙ low j lt ∙ ap f (sym z)) ∙ sym (tests-take f 0 first (old + behind)) ∙ ap (λ m. take first (tests_from f 0 m)) (sym whole))
    (ap (λ x. tests_from g x (new + behind)) first_is ∙ tests-append g first new behind
    ∙ ap₂ (λ xs ys. xs ++ ys) (tests-false g first new none)
    (tests-alike g f (first + new) (first + old) behind (λ j lt. high j)
    ∙ sym (tests-drop f first old behind) ∙ ap (λ x. drop old (tests_from f x (old + behind))) (sym first_is) ∙ ap (drop old) (sym (tests-drop f 0 first (old + behind)) ∙ ap (λ m. drop first (tests_from f 0 m)) (sym whole))))

-- Lines read one after another: what is answered behind some of them.
use Rattle.std.proofs.Common.{◌≡◌, ◌≤◌, ℕ, suc, ◌+◌, Bool, true, false, List, [], ◌∷◌, ◌++◌, length, take, Some, None, Ok, Err, refl, ap, sym, ◌∙◌, arith, append-nil, append_assoc, length-append, if◌then◌else◌, nat_eq, nat_lt}
use Rattle.std.specs.Prelude.{Option, Result, not}
use Rattle.std.specs.List.{position_from, prefix_len}
use Rattle.tm_script.specs.declared.script.ScriptFault.{ScriptFault}
use Rattle.tm_script.specs.declared.script.ScriptFault.TheVariants.{BadStep, TooManySteps}
use Rattle.tm_script.specs.declared.steps.Scripted.{Scripted}
use Rattle.tm_script.specs.declared.words.Said.{Said}
use Rattle.tm_script.specs.declared.words.Said.TheVariants.{Nothing, Step, Wrong}
use Rattle.tm_script.specs.Script.{step_limit, is_right, steps_from, steps_or_fault, unless_wrong}

-- the lines from number n on, behind these steps
abbrev pub read_on : ℕ → List Scripted → List Said → Result (List Scripted) ScriptFault
read_on n done [] = Ok done
read_on n done (Nothing ∷ lines) = read_on (suc n) done lines
read_on n done (Step step ∷ lines) = if nat_eq (length done) step_limit then Err TooManySteps else read_on (suc n) (done ++ record { line = n; step = step } ∷ []) lines
read_on n done (Wrong ∷ lines) = Err (BadStep n)

-- few steps are not too many
few_steps : (done : List Scripted) (wrong : Option ℕ) → length done ≤ step_limit → steps_or_fault (done ++ []) wrong ≡ unless_wrong done wrong
few_steps done wrong few =
    let e : nat_lt step_limit (length done) ≡ false = grind (arith, few) in
    rw (append-nil done) (rw e refl)

too_many : (done rest : List Scripted) (x : Scripted) (wrong : Option ℕ) → length done ≡ step_limit → Err TooManySteps ≡ steps_or_fault (done ++ x ∷ rest) wrong
too_many done rest x wrong full =
    let n : length (done ++ x ∷ rest) ≡ length done + suc (length rest) = length-append done (x ∷ rest) in
    let e : nat_lt step_limit (length (done ++ x ∷ rest)) ≡ true = grind (arith, n, full) in
    rw e refl

abbrev Answers : ℕ → List Scripted → List Said → Type 0
Answers n done lines = read_on n done lines ≡ steps_or_fault (done ++ steps_from n (take (prefix_len is_right lines) lines)) (position_from (λ line. not (is_right line)) n lines)

one_more : (n : ℕ) (done rest : List Scripted) (x : Scripted) (wrong : Option ℕ) (next : Result (List Scripted) ScriptFault) → length done ≤ step_limit
    → (length (done ++ x ∷ []) ≤ step_limit → next ≡ steps_or_fault ((done ++ x ∷ []) ++ rest) wrong)
    → (if nat_eq (length done) step_limit then Err TooManySteps else next) ≡ steps_or_fault (done ++ x ∷ rest) wrong
one_more n done rest x wrong next few h = go (nat_eq (length done) step_limit) refl
  where
    go : (t : Bool) → nat_eq (length done) step_limit ≡ t → (if nat_eq (length done) step_limit then Err TooManySteps else next) ≡ steps_or_fault (done ++ x ∷ rest) wrong
    go true e = rw e (too_many done rest x wrong (grind (arith, e)))
    go false e =
        let l : length (done ++ x ∷ []) ≡ length done + 1 = length-append done (x ∷ []) in
        rw e (h (grind (arith, e, few, l)) ∙ ap (λ steps. steps_or_fault steps wrong) (append_assoc done (x ∷ []) rest))

-- the sums that the words of lists write as `1 + k` and `n + 1`
one_line : (n k : ℕ) (done : List Scripted) (line : Said) (lines : List Said) (r : Result (List Scripted) ScriptFault)
    → r ≡ steps_or_fault (done ++ steps_from n (line ∷ take k lines)) (position_from (λ l. not (is_right l)) (suc n) lines)
    → r ≡ steps_or_fault (done ++ steps_from n (take (1 + k) (line ∷ lines))) (position_from (λ l. not (is_right l)) (n + 1) lines)
one_line n k done line lines r h =
    let a : n + 1 ≡ suc n = omega arith in
    let b : 1 + k ≡ suc k = omega arith in
    rw (a, b) h

pub read-on : (n : ℕ) (done : List Scripted) (lines : List Said) → length done ≤ step_limit → Answers n done lines
read-on n done [] few = sym (few_steps done None few)
read-on n done (Nothing ∷ lines) few = one_line n (prefix_len is_right lines) done Nothing lines _ (read-on (suc n) done lines few)
read-on n done (Step step ∷ lines) few = one_line n (prefix_len is_right lines) done (Step step) lines _
    (one_more n done _ (record { line = n; step = step }) _ _ few (λ more. read-on (suc n) (done ++ record { line = n; step = step } ∷ []) lines more))
read-on n done (Wrong ∷ lines) few = sym (few_steps done (Some n) few)

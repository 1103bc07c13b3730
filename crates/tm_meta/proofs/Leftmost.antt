-- The leftmost word decides a scope's token type.
use Rattle.std.proofs.Common.{◌≡◌, ℕ, zero, suc, ◌+◌, ◌<◌, ◌≤◌, Bool, true, false, List, length, Some, None, Option, refl, ap, sym, ◌∙◌, arith, nat_lt}
use Rattle.std.specs.Prelude.{MatchOption}
use Rattle.std.specs.Option.{option_or}
use Rattle.std.proofs.lemmas.Bool.Decides.{nat_tests}
use Rattle.tm_meta.specs.declared.metadata.TokenType.{TokenType}
use Rattle.tm_meta.specs.Metadata.{type_at, leftmost_type}
use Rattle.tm_meta.specs.Leftmost.{IsLeftmost}
use Rattle.tm_meta.proofs.Matches.{match-map}

leftmost-at : (scope : List ℕ) (n here : ℕ) → MatchOption (leftmost_type scope here n)
    ((place : ℕ) → here ≤ place → place < here + n → type_at scope place ≡ None)
    (λ type. (place : ℕ) × (here ≤ place) × (place < here + n) × (type_at scope place ≡ Some type) × ((before : ℕ) → here ≤ before → before < place → type_at scope before ≡ None))
leftmost-at scope zero here = λ place low high. absurd (omega arith)
leftmost-at scope (suc n) here = go (type_at scope here) refl (leftmost_type scope (here + 1) n) (leftmost-at scope n (here + 1))
  where
    step : (place : ℕ) → type_at scope here ≡ None → here ≤ place → (here + 1 ≤ place → type_at scope place ≡ None) → type_at scope place ≡ None
    step place none le further = by (nat_lt here place) refl
      where
        by : (b : Bool) → nat_lt here place ≡ b → type_at scope place ≡ None
        by true e = further (grind (arith, nat_tests))
        by false e = let same : here ≡ place = grind (arith, nat_tests) in ap (type_at scope) (sym same) ∙ none

    go : (x : Option TokenType) → type_at scope here ≡ x → (w : Option TokenType) →
        MatchOption w ((place : ℕ) → here + 1 ≤ place → place < (here + 1) + n → type_at scope place ≡ None)
        (λ type. (place : ℕ) × (here + 1 ≤ place) × (place < (here + 1) + n) × (type_at scope place ≡ Some type) × ((before : ℕ) → here + 1 ≤ before → before < place → type_at scope before ≡ None)) →
        MatchOption (option_or x w) ((place : ℕ) → here ≤ place → place < here + suc n → type_at scope place ≡ None)
        (λ type. (place : ℕ) × (here ≤ place) × (place < here + suc n) × (type_at scope place ≡ Some type) × ((before : ℕ) → here ≤ before → before < place → type_at scope before ≡ None))
    go (Some type) e w h = (here, omega arith, omega arith, e, λ before low high. absurd (omega arith))
    go None e None h = λ place low high. step place e low (λ more. h place more (omega arith))
    go None e (Some type) h = (h.0, omega (arith, h.1), omega (arith, h.2), h.3, λ before low high. step before e low (λ more. h.4 before more high))

pub leftmost : (scope : List ℕ) → IsLeftmost scope
leftmost scope =
    match-map (leftmost_type scope 0 (length scope)) (λ none place lt. none place (omega arith) (omega arith)) (λ type h. (h.0, omega (arith, h.2), h.3, λ before lt. h.4 before (omega arith) lt)) (leftmost-at scope (length scope) 0)

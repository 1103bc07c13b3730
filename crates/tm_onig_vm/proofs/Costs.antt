-- What searches cost in all.
use Rattle.std.proofs.Common.{◌≡◌, ℕ, ◌+◌, Option, Some, None, ap, arith, refl}
use Rattle.tm_onig_search.specs.Outcomes.{Hit, Outcome, tick, spend, or_else, or_else_at}

pub cost_same : (o : Option Hit) (m n : ℕ) → m ≡ n → let a : Outcome = record { hit = o; cost = m } in a ≡ record { hit = o; cost = n }
cost_same o m n e = ap (λ (c : ℕ). let a : Outcome = record { hit = o; cost = c } in a) e

pub or_else-spend : (n : ℕ) (a b : Outcome) → or_else (spend n a) b ≡ spend n (or_else a b)
or_else-spend n a b = go a.hit
  where
    go : (x : Option Hit) → or_else_at x (n + a.cost) b ≡ spend n (or_else_at x a.cost b)
    go (Some h) = refl
    go None = ap (λ (c : ℕ). let r : Outcome = record { hit = b.hit; cost = c } in r) (omega arith)

pub tick-spend : (o : Outcome) → tick o ≡ spend 1 o
tick-spend o = cost_same o.hit _ _ (omega arith)

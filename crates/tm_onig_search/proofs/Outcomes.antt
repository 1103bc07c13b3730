-- The laws of outcomes.
use Rattle.std.proofs.Common.{◌≡◌, ℕ, suc, ◌+◌, Option, Some, None, refl, ap, arith}
use Rattle.tm_onig_search.specs.Outcomes.{Hit, Outcome, tick, fail, spend, or_else_at, or_else}

outcome_same : (o : Option Hit) (m n : ℕ) → m ≡ n → let a : Outcome = record { hit = o; cost = m } in a ≡ record { hit = o; cost = n }
outcome_same o m n e = ap (λ (c : ℕ). let a : Outcome = record { hit = o; cost = c } in a) e

pub or_else_assoc : (a b c : Outcome) → or_else (or_else a b) c ≡ or_else a (or_else b c)
or_else_assoc a b c = go a.hit b.hit
  where
    go : (x y : Option Hit) → or_else (or_else_at x a.cost (record { hit = y; cost = b.cost })) c ≡ or_else_at x a.cost (or_else_at y b.cost c)
    go (Some h) y = refl
    go None (Some h) = refl
    go None None = outcome_same c.hit _ _ (omega arith)

pub or_else-tick : (a b : Outcome) → or_else (tick a) b ≡ tick (or_else a b)
or_else-tick a b = go a.hit
  where
    go : (x : Option Hit) → or_else_at x (suc a.cost) b ≡ tick (or_else_at x a.cost b)
    go (Some h) = refl
    go None = outcome_same b.hit _ _ (omega arith)

pub or_else-fail_left : (o : Outcome) → or_else fail o ≡ o
or_else-fail_left o = outcome_same o.hit _ _ (omega arith)

pub or_else-fail_right : (o : Outcome) → or_else o fail ≡ o
or_else-fail_right o = go o.hit
  where
    go : (x : Option Hit) → or_else_at x o.cost fail ≡ record { hit = x; cost = o.cost }
    go (Some h) = refl
    go None = outcome_same None _ _ (omega arith)

pub spend-spend : (m n : ℕ) (o : Outcome) → spend m (spend n o) ≡ spend (m + n) o
spend-spend m n o = outcome_same o.hit _ _ (omega arith)

pub spend-tick : (n : ℕ) (o : Outcome) → spend (n + 1) o ≡ spend n (tick o)
spend-tick n o = outcome_same o.hit _ _ (omega arith)

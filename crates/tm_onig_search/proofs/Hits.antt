-- Where a success of two searches comes from.
use Rattle.std.proofs.Common.{◌≡◌, ℕ, Bool, true, false, cond, Option, Some, None, nat_lt, ◌⊎◌, inl, inr, refl}
use Rattle.tm_onig_search.specs.Outcomes.{Hit, Outcome, Rest, fail, or_else_at, or_else, and_then, then_at, prefer, if_none}
use Rattle.tm_onig_search.specs.Search.{is_at, choose}

pub or_else_hit : (a b : Outcome) (h : Hit) → (or_else a b).hit ≡ Some h → (a.hit ≡ Some h) ⊎ (b.hit ≡ Some h)
or_else_hit a b h = go a.hit
  where
    go : (hit : Option Hit) → (or_else_at hit a.cost b).hit ≡ Some h → (hit ≡ Some h) ⊎ (b.hit ≡ Some h)
    go None e = inr e
    go (Some x) e = inl e

pub choose_hit : (c least : ℕ) (greatest : Option ℕ) (greedy : Bool) (round leave : Outcome) (h : Hit) →
    (choose c least greatest greedy round leave).hit ≡ Some h → (round.hit ≡ Some h) ⊎ (leave.hit ≡ Some h)
choose_hit c least greatest greedy round leave h = below (nat_lt c least)
  where
    swap_sum : {A B : Type 0} → A ⊎ B → B ⊎ A
    swap_sum (inl a) = inr a
    swap_sum (inr b) = inl b

    by_greed : (b : Bool) → (prefer b round leave).hit ≡ Some h → (round.hit ≡ Some h) ⊎ (leave.hit ≡ Some h)
    by_greed true e = or_else_hit round leave h e
    by_greed false e = swap_sum (or_else_hit leave round h e)

    at_limit : (b : Bool) → (cond b leave (prefer greedy round leave)).hit ≡ Some h → (round.hit ≡ Some h) ⊎ (leave.hit ≡ Some h)
    at_limit true e = inr e
    at_limit false e = by_greed greedy e

    below : (b : Bool) → (cond b round (cond (is_at c greatest) leave (prefer greedy round leave))).hit ≡ Some h → (round.hit ≡ Some h) ⊎ (leave.hit ≡ Some h)
    below true e = inl e
    below false e = at_limit (is_at c greatest) e

pub cond_hit : (b : Bool) (x y : Outcome) (h : Hit) → (cond b x y).hit ≡ Some h → (x.hit ≡ Some h) ⊎ (y.hit ≡ Some h)
cond_hit true x y h e = inl e
cond_hit false x y h e = inr e

pub then_hit : (o : Outcome) (k : Rest) (h : Hit) → (and_then o k).hit ≡ Some h → (x : Hit) × (o.hit ≡ Some x) × ((k x.end x.caps).hit ≡ Some h)
then_hit o k h = go o.hit
  where
    go : (hit : Option Hit) → (then_at hit o.cost k).hit ≡ Some h → (x : Hit) × (hit ≡ Some x) × ((k x.end x.caps).hit ≡ Some h)
    go None e = absurd cc
    go (Some x) e = (x, refl, e)

pub if_none_hit : (o : Option Hit) (b : Outcome) (h : Hit) → (if_none o b).hit ≡ Some h → b.hit ≡ Some h
if_none_hit None b h e = e
if_none_hit (Some x) b h e = absurd cc

pub fail_hit : (h : Hit) → fail.hit ≡ Some h → ⊥
fail_hit h e = cc

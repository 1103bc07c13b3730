-- The starts tried so far, and those that are left.
use Rattle.std.proofs.Common.{◌≡◌, ℕ, zero, suc, ◌+◌, ◌-◌, ◌<◌, ◌≤◌, Bool, Option, Some, None, List, length, refl, sym, ap, ◌∙◌, arith}
use Rattle.std.specs.Prelude.{option_map}
use Rattle.tm_onig_class.specs.Tree.{Tree}
use Rattle.tm_onig_search.specs.Outcomes.{Caps, Hit, Outcome}
use Rattle.tm_onig_search.specs.Places.{subject}
use Rattle.tm_onig_search.specs.Find.{Search, found_or, at_start, first_of, tries, with_whole}

module _ (t : Tree) (line : List ℕ) (from : ℕ) (allow_a allow_g : Bool) where
  abbrev whole : Search
  whole = tries t line from allow_a allow_g

  abbrev later : ℕ → Search
  later start = first_of (subject line from allow_a allow_g) t (length line + 1 - start) start

  abbrev here : ℕ → Outcome
  here start = at_start (subject line from allow_a allow_g) t start

  -- no match starts before this start, and the budget fell from `before` to `now` by no more than those starts cost
  pub record Seeks (before now start : ℕ) : Type 0 where
    pub found : (later start).found ≡ whole.found
    pub spent : before + (later start).cost ≤ now + whole.cost
    pub falls : now ≤ before

  later_step : (start : ℕ) → start ≤ length line → later start ≡ found_or start (here start).hit (here start).cost (later (start + 1))
  unfolding first_of
  later_step start fits = let e : length line + 1 - start ≡ suc (length line + 1 - (start + 1)) = omega arith in rw e refl

  here_cost : (start : ℕ) → start ≤ length line → (here start).cost ≤ (later start).cost
  here_cost start fits = go (here start).hit (ap (λ (s : Search). s.cost) (later_step start fits))
    where
      go : (hit : Option Hit) → (later start).cost ≡ (found_or start hit (here start).cost (later (start + 1))).cost → (here start).cost ≤ (later start).cost
      go None e = omega arith
      go (Some h) e = omega arith

  pub seeks_begin : (before : ℕ) → Seeks before before from
  seeks_begin before = record { found = refl; spent = omega arith; falls = omega arith }

  module _ (before now after start : ℕ) (fits : start ≤ length line) (was : Seeks before now start) where
    pub seeks_on : None ≡ option_map (with_whole start) (here start).hit → (after ≤ now) × (now ≤ after + (here start).cost) → Seeks before after (start + 1)
    seeks_on none paid = go (here start).hit (later_step start fits) none
      where
        go : (hit : Option Hit) → later start ≡ found_or start hit (here start).cost (later (start + 1)) → None ≡ option_map (with_whole start) hit → Seeks before after (start + 1)
        go None e is =
            let cost : (later start).cost ≡ (here start).cost + (later (start + 1)).cost = ap (λ (s : Search). s.cost) e in
            let spent = was.spent in
            let falls = was.falls in
            let less = paid.0 in
            let most = paid.1 in
            record { found = sym (ap (λ (s : Search). s.found) e) ∙ was.found; spent = omega arith; falls = omega arith }
        go (Some h) e is = absurd cc

    pub seeks_won : (caps : Caps) → Some caps ≡ option_map (with_whole start) (here start).hit → Some caps ≡ whole.found
    seeks_won caps some = go (here start).hit (later_step start fits) some
      where
        go : (hit : Option Hit) → later start ≡ found_or start hit (here start).cost (later (start + 1)) → Some caps ≡ option_map (with_whole start) hit → Some caps ≡ whole.found
        go None e is = absurd cc
        go (Some h) e is = is ∙ sym (ap (λ (s : Search). s.found) e) ∙ was.found

    pub seeks_falls : (after ≤ now) × (now ≤ after + (here start).cost) → (after ≤ before) × (before ≤ after + whole.cost)
    seeks_falls paid =
        let more = here_cost start fits in
        let spent = was.spent in
        let falls = was.falls in
        let less = paid.0 in
        let most = paid.1 in (omega arith, omega arith)

    pub seeks_over : now < (here start).cost → before < whole.cost
    seeks_over over = let more = here_cost start fits in let spent = was.spent in omega arith

  -- no start is left
  pub seeks_end : (before now start : ℕ) → length line < start → Seeks before now start → None ≡ whole.found
  unfolding first_of
  seeks_end before now start past was = let e : length line + 1 - start ≡ zero = omega arith in rw e at was.found

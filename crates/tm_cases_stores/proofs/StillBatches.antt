-- A batch of one line by a tokenizer that changes no state is right.
use Rattle.std.proofs.Common.{◌≡◌, ℕ, zero, suc, ◌+◌, ◌-◌, ◌^◌, ◌<◌, ◌≤◌, List, [], ◌∷◌, length, map, Some, refl, arith}
use Rattle.std.specs.Prelude.{slice_get}
use Rattle.tm_rebase.specs.declared.batches.Item.{Item}
use Rattle.tm_rebase.specs.declared.batches.Run.{Run}
use Rattle.tm_rebase.specs.Batches.{applied, count_of_items}
use Rattle.tm_rebase.specs.Right.{IsRightBatch}

pub get-plain : {A : Type 0} (xs : List A) (i : ℕ) → i < length xs → slice_get {X = ℕ} (map {B = ℕ} (λ (x : A). 0) xs) i ≡ Some 0
get-plain [] i h = let n : ⊥ = omega (arith, h) in absurd n
get-plain (x ∷ xs) zero h = refl
get-plain (x ∷ xs) (suc i) h = let k : i < length xs = omega (arith, h) in get-plain xs i k

pub still-right : (plains : List ℕ) (plain epoch version first : ℕ) (x : Item) (runs : List Run)
    → slice_get plains epoch ≡ Some plain → x.tokens ≡ [] → x.delta.pops ≡ 0 → x.delta.pushed ≡ [] → first + 1 < 2 ^ 31
    → runs ≡ record { first = first; start = []; items = x ∷ [] } ∷ []
    → IsRightBatch (λ p start line. record { tokens = []; end = start }) plains (record { epoch = epoch; version = version; runs = runs })
still-right plains plain epoch version first x runs get tokens pops pushed line is =
    let none : x.delta.pops ≤ 0 = omega (arith, pops) in
    let end : applied [] x.delta ≡ [] = rw (pops, pushed) refl in
    let one : count_of_items (record { first = first; start = []; items = x ∷ [] } ∷ []) ≡ 1 = refl in
    let few : count_of_items (record { first = first; start = []; items = x ∷ [] } ∷ []) < 2 ^ 31 = omega (arith, one) in
    rw is (record {
      setting = plain;
      is_setting = get;
      runs = (record { items = (record { tokens = tokens; pops = none; end = end }, tt); lines = line }, tt);
      few = few;
    })

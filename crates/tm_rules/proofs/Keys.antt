-- A map by texts, and the list of its entries.
use Rattle.std.proofs.Common.{◌≡◌, ℕ, List, [], ◌∷◌, Some, refl, ap, cond}
use Rattle.std.specs.Prelude.{Vec}
use Rattle.std.specs.BTreeMap.{insert_entry, is_at}
use Rattle.std.specs.Cmp.Lexicographic.{slice_cmp}
use Rattle.std.specs.Map.{lookup}
use Rattle.std.specs.Ordering.{nat_cmp, match_ordering}
use Rattle.std.specs.declared.alloc.Global.{Global}
use Rattle.std.specs.declared.cmp.Ordering.{Ordering}
use Rattle.std.specs.declared.cmp.Ordering.TheVariants.{Less, Equal, Greater}
use Rattle.std.proofs.lemmas.Map.Text.{is_eq-slice_cmp}
use Rattle.tm_rules.specs.Includes.{named}
use Rattle.tm_rules.specs.inner.Keyed.{keyed}

abbrev Pairs : Type 0
Pairs = List (Vec ℕ Global × ℕ)

inserted-by : (o : Ordering) (k : Vec ℕ Global) (v : ℕ) (e : Vec ℕ Global × ℕ) (es rest : Pairs) (more : List (List ℕ × ℕ)) → keyed rest ≡ more
    → keyed (match_ordering o ((k, v) ∷ e ∷ es) ((e.0, v) ∷ es) (e ∷ rest)) ≡ match_ordering o ((k.items, v) ∷ (e.0.items, e.1) ∷ keyed es) ((e.0.items, v) ∷ keyed es) ((e.0.items, e.1) ∷ more)
inserted-by Less k v e es rest more h = refl
inserted-by Equal k v e es rest more h = refl
inserted-by Greater k v e es rest more h = ap (λ (xs : List (List ℕ × ℕ)). (e.0.items, e.1) ∷ xs) h

pub keyed-insert : (es : Pairs) (k : Vec ℕ Global) (v : ℕ) → keyed (insert_entry (λ a b. slice_cmp nat_cmp a.items b.items) es k v) ≡ insert_entry (slice_cmp nat_cmp) (keyed es) k.items v
keyed-insert [] k v = refl
keyed-insert (e ∷ es) k v = inserted-by (slice_cmp nat_cmp k.items e.0.items) k v e es _ _ (keyed-insert es k v)

pub named-keyed : (name : List ℕ) (es : Pairs) → lookup (is_at (λ k. slice_cmp nat_cmp name k.items)) es ≡ named name (keyed es)
named-keyed name [] = refl
named-keyed name (e ∷ es) = λ i. cond (is_eq-slice_cmp name e.0.items i) (Some e.1) (named-keyed name es i)

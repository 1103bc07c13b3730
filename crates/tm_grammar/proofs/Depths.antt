-- How deep what is found in a value lies.
use Rattle.std.proofs.Common.{◌≡◌, ℕ, zero, suc, length, get_or, ◌<◌, ◌≤◌, List, [], ◌∷◌, Option, Some, None, sym, Ordering, Less, Equal, Greater, nat_cmp, arith, Bor, subst}
use Rattle.std.specs.Cmp.Lexicographic.{slice_cmp}
use Rattle.std.specs.Ordering.{match_ordering}
use Rattle.serde_json.specs.Data.{Data, null, boolean, number, string, array, object, Members, no_members, member, depth, items_depth, members_depth}
use Rattle.std.specs.Prelude.{IfSome, option_map}
use Rattle.serde_json.specs.View.{view, items_view}
use Rattle.serde_json.specs.declared.value.Value.{Value}
use Rattle.serde_json.specs.Find.{get, get_member}

abbrev IsWithin : ℕ → Option Data → Type 0
IsWithin n o = IfSome o (λ d. depth d ≤ n)

either : (o : Ordering) (n : ℕ) (a b : Option Data) → IsWithin n a → IsWithin n b → IsWithin n (match_ordering o a b a)
either Less n a b h k = h
either Equal n a b h k = k
either Greater n a b h k = h

more : (o : Option Data) (n m : ℕ) → n ≤ m → IsWithin n o → IsWithin m o
more None n m h k = tt
more (Some d) n m h k = omega (arith, h, k)

get_member-within : (key : List ℕ) (ms : Members) → IsWithin (members_depth ms) (get_member key ms)
get_member-within key no_members = tt
get_member-within key (member k d ms) =
    either (slice_cmp nat_cmp key k) _ (get_member key ms) (Some d) (more (get_member key ms) (members_depth ms) _ (omega arith) (get_member-within key ms)) (omega arith)

below : (o : Option Data) (n : ℕ) → IsWithin n o → IfSome o (λ d. depth d < suc n)
below None n h = tt
below (Some d) n h = omega (arith, h)

pub get-below : (key : List ℕ) (d : Data) → IfSome (get key d) (λ e. depth e < depth d)
get-below key null = tt
get-below key (boolean b) = tt
get-below key (number n) = tt
get-below key (string s) = tt
get-below key (array ds) = tt
get-below key (object ms) = below (get_member key ms) (members_depth ms) (get_member-within key ms)

-- the member that was found
pub found-below : (r : Option (Bor Value)) (key : List ℕ) (d : Data) → option_map (λ v. view v.now) r ≡ get key d → IfSome r (λ v. depth (view v.now) < depth d)
found-below None key d is = tt
found-below (Some v) key d is = subst (λ o. IfSome o (λ e. depth e < depth d)) (sym is) (get-below key d)

-- an item of a list
pub item-within : (vs : List Value) (i : ℕ) (v : Value) → i < length vs → v ≡ get_or vs i v → depth (view v) ≤ items_depth (items_view vs)
item-within [] i v h is = absurd (omega arith)
item-within (w ∷ vs) zero v h is = rw is (omega arith)
item-within (w ∷ vs) (suc i) v h is = let inner = item-within vs i v (omega arith) is in omega arith

-- A scope list, numbered name by name.
use Rattle.std.proofs.Common.{◌≡◌, ℕ, zero, suc, ◌+◌, ◌<◌, ◌++◌, List, [], ◌∷◌, length, get_or, take, map, Some, Contains, refl, ap, sym, ◌∙◌, arith, subst}
use Rattle.std.specs.Prelude.{slice_get}
use Rattle.std.specs.List.{AllByRecursion}
use Rattle.std.proofs.lemmas.List.{take_more}
use Rattle.tm_defs.specs.declared.frames.ScopeList.{ScopeList}
use Rattle.tm_defs.specs.Tables.{Tables, GrowsWithin, path_at}
use Rattle.tm_defs.specs.declared.tables.TableFault.{TableFault}
use Rattle.tm_defs.proofs.Growth.{AreAmong, tables-trans, none-among}
use Rattle.tm_defs.proofs.Chains.{path_at-is}
use Rattle.tm_scope.specs.Entries.{fronts, text_and_path, path_entries, HasEntries, HasPathEntries, IsFullFor}
use Rattle.tm_scope.proofs.Taken.{at-contains}
use Rattle.tm_scope.proofs.Pushed.{all-at}
use Rattle.tm_scope.proofs.Closed.{contains-grown}
use Rattle.tm_scope.proofs.Limits.{full-among}

contains-map : {X Y : Type 0} (f : X → Y) (xs : List X) (x : X) → Contains xs x → Contains (map f xs) (f x)
contains-map f [] x (i, lt, is) = absurd (omega arith)
contains-map f (y ∷ ys) x (zero, lt, is) = (zero, omega arith, ap f is)
contains-map f (y ∷ ys) x (suc i, lt, is) = let r = contains-map f ys x (i, omega arith, is) in (suc r.0, omega (arith, r.1), r.2)

pub contains-one : {X : Type 0} (x y : X) → Contains (x ∷ []) y → x ≡ y
contains-one x y (zero, lt, is) = is
contains-one x y (suc i, lt, is) = absurd (omega arith)

-- one of those of which each has it
pub all-in : {X : Type 0} (P : X → Type 0) (xs : List X) (x : X) → AllByRecursion P xs → Contains xs x → P x
all-in P xs x all h = all-at P xs h.0 x all (at-contains xs x h)

-- what stands at the front of a list is one of its fronts
pub front-among : {X : Type 0} (xs : List X) (k : ℕ) → Contains (fronts xs) (take k xs)
front-among [] zero = (0, omega arith, refl)
front-among [] (suc k) = (0, omega arith, refl)
front-among (x ∷ xs) zero = (0, omega arith, refl)
front-among (x ∷ xs) (suc k) =
    let r = contains-map (λ front. x ∷ front) (fronts xs) (take k xs) (front-among xs k) in
    (suc r.0, omega (arith, r.1), r.2)

module _ (path : List (List ℕ)) (i : ℕ) (name : List ℕ) (within : i < length path) (is : name ≡ get_or path i name) (t u : Tables) (list : ScopeList) (at : slice_get u.paths list.0 ≡ Some (take i path)) where
  abbrev next : List (List ℕ)
  next = path_at u list ++ name ∷ []

  same-next : next ≡ take (i + 1) path
  same-next =
      ap (λ p. p ++ name ∷ []) (path_at-is u list (take i path) at)
      ∙ ap (λ n. take i path ++ n ∷ []) is
      ∙ sym (take_more path i name within)

  there : Contains path name
  there = (i, within, sym is)

  next-among : AreAmong (text_and_path name next) (path_entries path)
  next-among = record {
    texts = λ x h. subst (Contains path) (contains-one name x h) there;
    paths = λ x h. subst (Contains (fronts path)) (sym same-next ∙ contains-one next x h) (front-among path (i + 1));
    states = λ x h. none-among [] x h;
  }

  pub next-ok : (v : Tables) (longer : ScopeList) → slice_get v.paths longer.0 ≡ Some next → slice_get v.paths longer.0 ≡ Some (take (i + 1) path)
  next-ok v longer h = h ∙ ap Some same-next

  pub next-grows : (v : Tables) → GrowsWithin (path_entries path) t u → GrowsWithin (text_and_path name next) u v → GrowsWithin (path_entries path) t v
  next-grows v h k = tables-trans (text_and_path name next) (path_entries path) t u v next-among h k

  pub next-full : (n : ℕ) (v : Tables) (fault : TableFault) → IsFullFor n (text_and_path name next) v fault → IsFullFor n (path_entries path) v fault
  next-full n v fault h = full-among n (text_and_path name next) (path_entries path) v fault next-among h

  -- a list that was there is there whole
  pub next-absent : HasPathEntries t → GrowsWithin (path_entries path) t u → (Contains u.texts name × Contains u.paths next → ⊥) → Contains t.paths path → ⊥
  next-absent entries grew none whole =
      let e : HasEntries (path_entries path) t = entries path whole in
      none (
        contains-grown path t.texts u.texts name grew.texts (all-in (Contains t.texts) path name e.texts there),
        contains-grown (fronts path) t.paths u.paths next grew.paths (subst (Contains t.paths) (sym same-next) (all-in (Contains t.paths) (fronts path) (take (i + 1) path) e.paths (front-among path (i + 1)))),
      )

-- A text, and then the list with that text at its end.
use Rattle.std.proofs.Common.{◌≡◌, ℕ, ◌<◌, ◌++◌, List, [], ◌∷◌, length, Some, Contains, Result, Ok, Err, ap, ◌∙◌, subst}
use Rattle.std.specs.Prelude.{slice_get, IfOk, IfErr, OnErr}
use Rattle.tm_defs.specs.declared.frames.TextId.{TextId}
use Rattle.tm_defs.specs.declared.frames.ScopeList.{ScopeList}
use Rattle.tm_defs.specs.Tables.{Tables, GrowsWithin, only_text, only_path, path_at, text_at, longer_path}
use Rattle.tm_defs.specs.declared.tables.TableFault.{TableFault}
use Rattle.tm_defs.proofs.Chains.{grows-then, left-among, right-among, path_at-grown, text_at-is}
use Rattle.tm_scope.specs.Entries.{text_and_path, IsFullFor}
use Rattle.tm_scope.proofs.Limits.{full-among}
use Rattle.tm_scope.proofs.Closed.{contains-grown}

module _ (t u : Tables) (list : ScopeList) (name : TextId) (text : List ℕ) (low : list.0 < length t.paths) (grew : GrowsWithin (only_text text) t u) (at : slice_get u.texts name.0 ≡ Some text) where
  abbrev longer : List (List ℕ)
  longer = path_at t list ++ text ∷ []

  same-longer : longer_path u list name ≡ longer
  same-longer =
      ap (λ p. p ++ text_at u name ∷ []) (path_at-grown (only_text text) t u list low grew)
      ∙ ap (λ x. path_at t list ++ x ∷ []) (text_at-is u name text at)

  pub then-ok : (r : Result ScopeList TableFault) (v : Tables) → IfOk r (λ id. slice_get v.paths id.0 ≡ Some (longer_path u list name)) → IfOk r (λ id. slice_get v.paths id.0 ≡ Some longer)
  then-ok r v h = let P : List (List ℕ) → Type 0 = λ p. IfOk r (λ id. slice_get v.paths id.0 ≡ Some p) in subst P same-longer h

  pub then-grows : (v : Tables) → GrowsWithin (only_path (longer_path u list name)) u v → GrowsWithin (text_and_path text longer) t v
  then-grows v h =
      let P : List (List ℕ) → Type 0 = λ p. GrowsWithin (only_path p) u v in
      grows-then (only_text text) (only_path longer) t u v grew (subst P same-longer h)

  pub then-absent : (r : Result ScopeList TableFault) → OnErr r (Contains u.paths (longer_path u list name) → ⊥) → OnErr r (Contains t.texts text × Contains t.paths longer → ⊥)
  then-absent (Ok id) h = tt
  then-absent (Err fault) h =
      let P : List (List ℕ) → Type 0 = λ p. Contains u.paths p → ⊥ in
      λ (both : Contains t.texts text × Contains t.paths longer). subst P same-longer h (contains-grown [] t.paths u.paths longer grew.paths both.1)

  pub then-full : (n : ℕ) (r : Result ScopeList TableFault) (v : Tables) → IfErr r (IsFullFor n (only_path (longer_path u list name)) v) → IfErr r (IsFullFor n (text_and_path text longer) v)
  then-full n (Ok id) v h = tt
  then-full n (Err fault) v h =
      let P : List (List ℕ) → Type 0 = λ p. IsFullFor n (only_path p) v fault in
      full-among n (only_path longer) (text_and_path text longer) v fault (right-among (only_text text) (only_path longer)) (subst P same-longer h)

pub text-then-full : (n : ℕ) (text : List ℕ) (path : List (List ℕ)) (t : Tables) (fault : TableFault) → IsFullFor n (only_text text) t fault → IsFullFor n (text_and_path text path) t fault
text-then-full n text path t fault h = full-among n (only_text text) (text_and_path text path) t fault (left-among (only_text text) (only_path path)) h

-- Lists that stand behind links, each the rest and a part.
use Rattle.std.proofs.Common.{◌≡◌, ℕ, suc, zero, ◌+◌, ◌-◌, ◌<◌, ◌≤◌, ◌++◌, List, [], ◌∷◌, length, get_or, Some, refl, ap, sym, arith, add-zero, add_comm, ◌∙◌, subst, length-append, inl, inr}
use Rattle.std.specs.Prelude.{slice_get, Contains}
use Rattle.std.specs.List.{AllByRecursion}
use Rattle.std.proofs.Math.ListN.{get_or-append}
use Rattle.std.proofs.Math.Seq.{get_or-append_seam}
use Rattle.std.proofs.lemmas.Option.{slice_get-get_or, slice_get_within}
use Rattle.tm_defs.specs.Tables.{NoneTwice}
use Rattle.tm_scope.specs.Numbered.{TakesIn}
use Rattle.tm_scope.specs.Links.{resolved, LeadBack}
use Rattle.tm_scope.proofs.Taken.{snoc-rest, snoc-last, not-empty, contains-at, at-contains, some_inj}

module _ {X L : Type 0} (part : L → X) (rest : L → ℕ) where
  abbrev entry : List (List X) → L → List X
  entry done link = get_or done (rest link) [] ++ part link ∷ []

  pub resolved-push : (done : List (List X)) (links : List L) (link : L) → resolved part rest done (links ++ link ∷ []) ≡ resolved part rest done links ++ entry (resolved part rest done links) link ∷ []
  resolved-push done [] link = refl
  resolved-push done (l ∷ links) link = resolved-push (done ++ entry done l ∷ []) links link

  pub length-resolved : (done : List (List X)) (links : List L) → length (resolved part rest done links) ≡ length done + length links
  length-resolved done [] = omega arith
  length-resolved done (l ∷ links) = omega (arith, length-resolved (done ++ entry done l ∷ []) links, length-append done (entry done l ∷ []))

  -- what stands stays
  pub resolved-front : (done : List (List X)) (links : List L) (k : ℕ) (d : List X) → k < length done → get_or (resolved part rest done links) k d ≡ get_or done k d
  resolved-front done [] k d h = refl
  resolved-front done (l ∷ links) k d h =
      resolved-front (done ++ entry done l ∷ []) links k d (omega (arith, length-append done (entry done l ∷ []))) ∙ get_or-append done (entry done l ∷ []) d k h

  -- the entry of a link
  pub resolved-at : (done : List (List X)) (links : List L) (k : ℕ) (link : L) → LeadBack rest (length done) links → slice_get links k ≡ Some link →
      get_or (resolved part rest done links) (length done + k) [] ≡ entry (resolved part rest done links) link
  resolved-at done [] k link back at = cc
  resolved-at done (l ∷ links) zero link back at =
      let more = done ++ entry done l ∷ [] in
      let long = length-append done (entry done l ∷ []) in
      let left : get_or (resolved part rest more links) (length done + 0) [] ≡ entry done l =
      ap (λ n. get_or (resolved part rest more links) n []) (add-zero (length done)) ∙ resolved-front more links (length done) [] (omega (arith, long)) ∙ get_or-append_seam done (entry done l) [] [] in
      let lead : get_or (resolved part rest more links) (rest l) [] ≡ get_or done (rest l) [] =
      resolved-front more links (rest l) [] (omega (arith, long, back.0)) ∙ get_or-append done (entry done l ∷ []) [] (rest l) back.0 in
      left ∙ ap (λ r. r ++ part l ∷ []) (sym lead) ∙ ap (entry (resolved part rest more links)) (some_inj at)
  resolved-at done (l ∷ links) (suc k) link back at =
      let more = done ++ entry done l ∷ [] in
      let long : length more ≡ length done + 1 = length-append done (entry done l ∷ []) in
      let Back : ℕ → Type 0 = λ n. LeadBack rest n links in
      let same : length done + suc k ≡ length more + k = omega (arith, long) in
      ap (λ n. get_or (resolved part rest more links) n []) same ∙ resolved-at more links k link (subst Back (sym long) back.1) at

  -- parts that are the same of these links
  pub resolved-same : (other : L → X) (done : List (List X)) (links : List L) → AllByRecursion (λ l. other l ≡ part l) links → resolved other rest done links ≡ resolved part rest done links
  resolved-same other done [] h = refl
  resolved-same other done (l ∷ links) h =
      ap (λ x. resolved other rest (done ++ (get_or done (rest l) [] ++ x ∷ []) ∷ []) links) h.0 ∙ resolved-same other (done ++ entry done l ∷ []) links h.1

  pub back-push : (count : ℕ) (links : List L) (link : L) → LeadBack rest count links → rest link < count + length links → LeadBack rest count (links ++ link ∷ [])
  back-push count [] link back h = (omega arith, tt)
  back-push count (l ∷ links) link back h = (back.0, back-push (count + 1) links link back.1 (omega arith))

  abbrev all : List L → List (List X)
  all links = resolved part rest ([] ∷ []) links

  pub back-at : (count : ℕ) (links : List L) (k : ℕ) (link : L) → LeadBack rest count links → slice_get links k ≡ Some link → rest link < count + k
  back-at count [] k link back at = cc
  back-at count (l ∷ links) zero link back at = let R : L → Type 0 = λ x. rest x < count + 0 in subst R (some_inj at) (omega (arith, back.0))
  back-at count (l ∷ links) (suc k) link back at = omega (arith, back-at (count + 1) links k link back.1 at)

  -- a link that is there has the next number
  pub all-found : (links : List L) (k : ℕ) (link : L) → LeadBack rest 1 links → slice_get links k ≡ Some link → slice_get (all links) (k + 1) ≡ Some (entry (all links) link)
  all-found links k link back at =
      let within = slice_get_within links k link at in
      slice_get-get_or (all links) (k + 1) [] (omega (arith, length-resolved ([] ∷ []) links))
      ∙ ap Some (ap (λ n. get_or (all links) n []) (add_comm k 1) ∙ resolved-at ([] ∷ []) links k link back at)

  -- an entry is there only where its link is
  pub all-unfound : (links : List L) (link : L) → LeadBack rest 1 links → NoneTwice (all links) → rest link < length (all links) →
      ((l : L) → Contains links l → part l ≡ part link → rest l ≡ rest link → l ≡ link) → (Contains links link → ⊥) → Contains (all links) (entry (all links) link) → ⊥
  all-unfound links link back once h inj none (zero, within, is) =
      not-empty (get_or (all links) (rest link) []) (part link) (sym (resolved-front ([] ∷ []) links 0 (entry (all links) link) (omega arith)) ∙ is)
  all-unfound links link back once h inj none (suc k, within, is) =
      let l = get_or links k link in
      let short : k < length links = omega (arith, length-resolved ([] ∷ []) links) in
      let at : slice_get links k ≡ Some l = slice_get-get_or links k link short in
      let next : suc k ≡ 1 + k = omega arith in
      let value : entry (all links) l ≡ entry (all links) link =
      sym (ap (λ n. get_or (all links) n []) next ∙ resolved-at ([] ∷ []) links k l back at)
      ∙ some_inj (sym (slice_get-get_or (all links) (suc k) [] within) ∙ slice_get-get_or (all links) (suc k) (entry (all links) link) within) ∙ is in
      let lead : get_or (all links) (rest l) [] ≡ get_or (all links) (rest link) [] = snoc-rest _ _ (part l) (part link) value in
      let low : rest l < length (all links) = omega (arith, back-at 1 links k l back at, length-resolved ([] ∷ []) links) in
      let one : rest l ≡ rest link = once (rest l) (rest link) (get_or (all links) (rest link) [])
      (slice_get-get_or (all links) (rest l) [] low ∙ ap Some lead) (slice_get-get_or (all links) (rest link) [] h) in
      let same = inj l (contains-at links k l at) (snoc-last (get_or (all links) (rest l) []) (get_or (all links) (rest link) []) (part l) (part link) value) one in
      let There : L → Type 0 = λ x. Contains links x in
      none (subst There same (contains-at links k l at))

  module _ (links new : List L) (link : L) (takes : TakesIn link links new) where
    pub linked-back : LeadBack rest 1 links → rest link < length (all links) → LeadBack rest 1 new
    linked-back back h = by takes
      where
        by : TakesIn link links new → LeadBack rest 1 new
        by (inl (there, same)) = let P : List L → Type 0 = λ l. LeadBack rest 1 l in subst P (sym same) back
        by (inr (none, same)) = let P : List L → Type 0 = λ l. LeadBack rest 1 l in subst P (sym same) (back-push 1 links link back (omega (arith, length-resolved ([] ∷ []) links)))

    -- the lists take in the list of the link
    pub linked-takes : LeadBack rest 1 links → NoneTwice (all links) → rest link < length (all links) →
        ((l : L) → Contains links l → part l ≡ part link → rest l ≡ rest link → l ≡ link) → TakesIn (entry (all links) link) (all links) (all new)
    linked-takes back once h inj = by takes
      where
        by : TakesIn link links new → TakesIn (entry (all links) link) (all links) (all new)
        by (inl (there, same)) = inl (contains-at (all links) (there.0 + 1) (entry (all links) link) (all-found links there.0 link back (at-contains links link there)), ap all same)
        by (inr (none, same)) = inr (all-unfound links link back once h inj none, ap all same ∙ resolved-push ([] ∷ []) links link)

    -- the number of the link is that of its list
    pub linked-number : LeadBack rest 1 links → rest link < length (all links) → (n : ℕ) → 1 ≤ n → slice_get new (n - 1) ≡ Some link → slice_get (all new) n ≡ Some (entry (all links) link)
    linked-number back h n from at =
        let next : n - 1 + 1 ≡ n = omega arith in
        let lead : get_or (all new) (rest link) [] ≡ get_or (all links) (rest link) [] = by takes in
        ap (slice_get (all new)) (sym next) ∙ all-found new (n - 1) link (linked-back back h) at ∙ ap Some (ap (λ r. r ++ part link ∷ []) lead)
      where
        by : TakesIn link links new → get_or (all new) (rest link) [] ≡ get_or (all links) (rest link) []
        by (inl (there, same)) = ap (λ l. get_or (all l) (rest link) []) same
        by (inr (none, same)) = ap (λ l. get_or (all l) (rest link) []) same ∙ ap (λ l. get_or l (rest link) []) (resolved-push ([] ∷ []) links link) ∙ get_or-append (all links) (entry (all links) link ∷ []) [] (rest link) h

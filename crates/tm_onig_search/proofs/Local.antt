-- A search calls what follows only from its position on, and not past the text.
use Rattle.std.proofs.Common.{◌≡◌, ℕ, zero, suc, ◌+◌, ◌-◌, ◌<◌, ◌≤◌, Bool, true, false, cond, length, Option, Some, None, slice_get, ◌==◌, refl, ap, ap₂, arith}
use Rattle.std.proofs.lemmas.Option.{slice_get_within}
use Rattle.std.proofs.lemmas.Bool.{eqb-false}
use Rattle.std.specs.Prelude.{drop, slice_range}
use Rattle.tm_onig_class.specs.Tree.{Tree, Empty, Char, Any, InSet, Cat, Alt, Group, Atomic, Repeat, Look, Back, Holds, Trees, NoTrees, More}
use Rattle.tm_onig_search.specs.Widths.{least_width, greatest_width}
use Rattle.tm_onig_search.specs.Outcomes.{Caps, Hit, Outcome, Rest, tick, fail, spend, or_else, accept, and_then, then_at, if_none, looked}
use Rattle.tm_onig_search.specs.Places.{Subject, passes, begins, holds}
use Rattle.tm_onig_search.specs.Search.{one, again, look_back, at_goal, read_group, last_set, choose, rounds, loop, search_tree, search_row, search_any}
use Rattle.tm_onig_search.proofs.Reading.{begins_within}
use Rattle.tm_onig_search.proofs.Ends.{accept_ends, tree_ends}

cond_second : {A : Type 0} (b : Bool) (x y z : A) → (b ≡ false → y ≡ z) → cond b x y ≡ cond b x z
cond_second true x y z h = refl
cond_second false x y z h = h refl

cond_first : {A : Type 0} (b : Bool) (x y z : A) → (b ≡ true → x ≡ y) → cond b x z ≡ cond b y z
cond_first true x y z h = h refl
cond_first false x y z h = refl

module _ (s : Subject) where
  -- k and k2 agree where a search from pos can lead
  abbrev pub Same : Rest → Rest → ℕ → Type 0
  Same k k2 pos = (at : ℕ) (cs : Caps) → pos ≤ at → at ≤ length s.line → k at cs ≡ k2 at cs

  abbrev pub IsLocal : (Rest → Rest) → Type 0
  IsLocal m = (k k2 : Rest) (pos : ℕ) (caps : Caps) → pos ≤ length s.line → Same k k2 pos → m k pos caps ≡ m k2 pos caps

  one_local : (test : ℕ → Bool) → IsLocal (one s test)
  one_local test k k2 pos caps within same = ap tick (at_item (slice_get s.line pos) refl)
    where
      at_item : (o : Option ℕ) → slice_get s.line pos ≡ o → cond (passes test o) (k (pos + 1) caps) fail ≡ cond (passes test o) (k2 (pos + 1) caps) fail
      at_item None e = refl
      at_item (Some c) e =
          let inside : pos < length s.line = slice_get_within s.line pos c e in
          ap (λ o. cond (test c) o fail) (same (pos + 1) caps (omega arith) (omega arith))

  then_local : (o : Outcome) (k k2 : Rest) (pos : ℕ) → ((h : Hit) → o.hit ≡ Some h → k h.end h.caps ≡ k2 h.end h.caps) → and_then o k ≡ and_then o k2
  then_local o k k2 pos h = go o.hit o.cost h
    where
      go : (hit : Option Hit) (n : ℕ) → ((h : Hit) → hit ≡ Some h → k h.end h.caps ≡ k2 h.end h.caps) → then_at hit n k ≡ then_at hit n k2
      go None n h = refl
      go (Some x) n h = ap (spend n) (h x refl)

  rounds_local : (body : Rest → Rest) (least : ℕ) (greatest : Option ℕ) (greedy : Bool) → IsLocal body →
      (n c : ℕ) → IsLocal (λ k. rounds s body least greatest greedy k n c)
  unfolding rounds
  rounds_local body least greatest greedy local zero c k k2 pos caps within same = refl
  rounds_local body least greatest greedy local (suc n) c k k2 pos caps within same =
      ap₂ (choose c least greatest greedy)
      (local _ _ pos caps within (λ at cs low high.
      ap₂ (λ x y. tick (cond (at == pos) x y)) (same at cs low high)
      (rounds_local body least greatest greedy local n (c + 1) k k2 at cs high (λ at2 cs2 low2 high2. same at2 cs2 (omega arith) high2))))
      (same pos caps (omega arith) within)

  -- with as many rounds as characters are left, and one more, the number of rounds does not matter
  pub rounds_enough : (body : Rest → Rest) (least : ℕ) (greatest : Option ℕ) (greedy : Bool) → IsLocal body →
      (k : Rest) (n m c pos : ℕ) (caps : Caps) → pos ≤ length s.line → length s.line - pos < n → length s.line - pos < m →
      rounds s body least greatest greedy k n c pos caps ≡ rounds s body least greatest greedy k m c pos caps
  unfolding rounds
  rounds_enough body least greatest greedy local k zero m c pos caps within a b = absurd (omega arith)
  rounds_enough body least greatest greedy local k (suc n) zero c pos caps within a b = absurd (omega arith)
  rounds_enough body least greatest greedy local k (suc n) (suc m) c pos caps within a b =
      ap (λ round. choose c least greatest greedy round (k pos caps))
      (local _ _ pos caps within (λ at cs low high.
      ap tick (cond_second (at == pos) _ _ _ (λ differs.
      let apart : at ≡ pos → ⊥ = eqb-false at pos differs in
      rounds_enough body least greatest greedy local k n m (c + 1) at cs high (omega arith) (omega arith)))))

  read_local : (fold : Bool) (g : Option (ℕ × ℕ)) → IsLocal (read_group s fold g)
  read_local fold None k k2 pos caps within same = refl
  read_local fold (Some g) k k2 pos caps within same =
      let text = slice_range s.line g.0 g.1 in
      cond_first (begins fold text (drop pos s.line)) _ _ fail
      (λ fits. same (pos + length text) caps (omega arith) (begins_within s.line pos fold text within fits))

  look_local : (negative : Bool) (o : Outcome) → IsLocal (looked negative o)
  look_local false o k k2 pos caps within same = then_local _ _ _ pos (λ h e. same pos h.caps (omega arith) within)
  look_local true o k k2 pos caps within same = ap (λ r. spend o.cost (if_none o.hit r)) (same pos caps (omega arith) within)

  mutual
    unfolding search_tree rounds

    pub tree_local : (t : Tree) → IsLocal (search_tree s t)
    tree_local Empty k k2 pos caps within same = ap tick (same pos caps (omega arith) within)
    tree_local (Char c fold) k k2 pos caps within same = one_local _ k k2 pos caps within same
    tree_local (Any newline) k k2 pos caps within same = one_local _ k k2 pos caps within same
    tree_local (InSet set fold) k k2 pos caps within same = one_local _ k k2 pos caps within same
    tree_local (Cat ts) k k2 pos caps within same = ap tick (row_local ts k k2 pos caps within same)
    tree_local (Alt ts) k k2 pos caps within same = ap tick (any_local ts k k2 pos caps within same)
    tree_local (Group number t) k k2 pos caps within same =
        ap tick (tree_local t _ _ pos caps within (λ at cs low high. ap tick (same at _ low high)))
    tree_local (Atomic t) k k2 pos caps within same =
        ap tick (then_local _ _ _ pos (λ h e.
        let ends = tree_ends s t accept pos pos caps (omega arith) within (accept_ends s pos) h e in
        same h.end h.caps ends.0 ends.1))
    tree_local (Repeat t least greatest greedy) k k2 pos caps within same =
        rounds_local (search_tree s t) least greatest greedy (tree_local t) (suc (length s.line - pos)) 0 k k2 pos caps within same
    tree_local (Look t true negative) k k2 pos caps within same =
        ap tick (look_local negative (search_tree s t accept pos caps) k k2 pos caps within same)
    tree_local (Look t false negative) k k2 pos caps within same =
        ap tick (look_local negative (look_back (λ q. search_tree s t (at_goal pos accept) q caps) (least_width t) (greatest_width t) pos) k k2 pos caps within same)
    tree_local (Back groups fold) k k2 pos caps within same = ap tick (read_local fold (last_set caps groups) k k2 pos caps within same)
    tree_local (Holds p) k k2 pos caps within same =
        ap (λ r. tick (cond (holds s p pos) r fail)) (same pos caps (omega arith) within)

    row_local : (ts : Trees) → IsLocal (search_row s ts)
    row_local NoTrees k k2 pos caps within same = same pos caps (omega arith) within
    row_local (More t ts) k k2 pos caps within same =
        tree_local t _ _ pos caps within (λ at cs low high.
        row_local ts k k2 at cs high (λ at2 cs2 low2 high2. same at2 cs2 (omega arith) high2))

    any_local : (ts : Trees) → IsLocal (search_any s ts)
    any_local NoTrees k k2 pos caps within same = refl
    any_local (More t ts) k k2 pos caps within same =
        ap₂ or_else (tree_local t k k2 pos caps within same) (any_local ts k k2 pos caps within same)

  -- one case of a loop, whose round is the body, then Again, then the rest
  pub loop_step : (body : Rest → Rest) (least : ℕ) (greatest : Option ℕ) (greedy : Bool) → IsLocal body →
      (k : Rest) (c pos : ℕ) (caps : Caps) → pos ≤ length s.line →
      loop s body least greatest greedy k c pos caps
      ≡ choose c least greatest greedy (body (again s body least greatest greedy k (c + 1) pos) pos caps) (k pos caps)
  unfolding rounds
  loop_step body least greatest greedy local k c pos caps within =
      ap (λ round. choose c least greatest greedy round (k pos caps))
      (local _ _ pos caps within (λ at cs low high.
      ap tick (cond_second (at == pos) _ _ _ (λ differs.
      let apart : at ≡ pos → ⊥ = eqb-false at pos differs in
      rounds_enough body least greatest greedy local k (length s.line - pos) (suc (length s.line - at)) (c + 1) at cs high (omega arith) (omega arith)))))

-- The groups of a success are those before, with some of them set.
use Rattle.std.proofs.Common.{◌≡◌, ℕ, zero, suc, ◌+◌, ◌-◌, Bool, true, false, length, Option, Some, None, slice_get, ◌==◌, ⊎_elim, subst}
use Rattle.std.specs.Prelude.{slice_set, drop, slice_range}
use Rattle.tm_onig_class.specs.Tree.{Tree, Empty, Char, Any, InSet, Cat, Alt, Group, Atomic, Repeat, Look, Back, Holds, Trees, NoTrees, More}
use Rattle.tm_onig_search.specs.Widths.{least_width, greatest_width}
use Rattle.tm_onig_search.specs.Outcomes.{Caps, Hit, Outcome, Rest, fail, accept, looked}
use Rattle.tm_onig_search.specs.Places.{Subject, passes, begins, holds}
use Rattle.tm_onig_search.specs.Search.{one, look_back, at_goal, read_group, last_set, rounds, search_tree, search_row, search_any}
use Rattle.tm_onig_search.proofs.Hits.{or_else_hit, choose_hit, cond_hit, then_hit, if_none_hit, fail_hit}
use Rattle.tm_onig_search.proofs.Within.{behind_hit}

-- a fact of groups that setting one keeps
module _ (s : Subject) (P : Caps → Type 0) (set : (caps : Caps) (number start end : ℕ) → P caps → P (slice_set caps number (Some (start, end)))) where
  -- the groups of a success of k have it
  abbrev KeptBy : Rest → Type 0
  KeptBy k = (at : ℕ) (cs : Caps) (h : Hit) → P cs → (k at cs).hit ≡ Some h → P h.caps

  abbrev Keeps : (Rest → Rest) → Type 0
  Keeps m = (k : Rest) → KeptBy k → KeptBy (m k)

  pub accept_kept : KeptBy accept
  accept_kept at cs h all e = let same : cs ≡ h.caps = cc in subst P same all

  at_kept : (q : ℕ) → KeptBy (at_goal q accept)
  at_kept q at cs h all e = ⊎_elim (accept_kept at cs h all) (λ f. absurd (fail_hit h f)) (cond_hit (at == q) (accept at cs) fail h e)

  one_kept : (test : ℕ → Bool) → Keeps (one s test)
  one_kept test k kept pos caps h all e =
      ⊎_elim (kept (pos + 1) caps h all) (λ f. absurd (fail_hit h f)) (cond_hit (passes test (slice_get s.line pos)) (k (pos + 1) caps) fail h e)

  rounds_kept : (body : Rest → Rest) (least : ℕ) (greatest : Option ℕ) (greedy : Bool) → Keeps body →
      (n c : ℕ) → Keeps (λ k. rounds s body least greatest greedy k n c)
  unfolding rounds
  rounds_kept body least greatest greedy keeps zero c k kept pos caps h all e = absurd (fail_hit h e)
  rounds_kept body least greatest greedy keeps (suc n) c k kept pos caps h all e =
      ⊎_elim
      (λ r. keeps _
      (λ at cs x aw got. ⊎_elim (kept at cs x aw) (rounds_kept body least greatest greedy keeps n (c + 1) k kept at cs x aw)
      (cond_hit (at == pos) (k at cs) (rounds s body least greatest greedy k n (c + 1) at cs) x got)) pos caps h all r)
      (kept pos caps h all)
      (choose_hit c least greatest greedy _ _ h e)

  read_kept : (fold : Bool) (g : Option (ℕ × ℕ)) → Keeps (read_group s fold g)
  read_kept fold None k kept pos caps h all e = absurd (fail_hit h e)
  read_kept fold (Some g) k kept pos caps h all e =
      let text = slice_range s.line g.0 g.1 in
      ⊎_elim (kept (pos + length text) caps h all) (λ f. absurd (fail_hit h f)) (cond_hit (begins fold text (drop pos s.line)) (k (pos + length text) caps) fail h e)

  -- the body alone gave o
  look_kept : (negative : Bool) (o : Outcome) (k : Rest) → KeptBy k → (pos : ℕ) (caps : Caps) (h : Hit) → P caps →
      ((x : Hit) → o.hit ≡ Some x → P x.caps) → (looked negative o k pos caps).hit ≡ Some h → P h.caps
  look_kept false o k kept pos caps h all inner e =
      let parts = then_hit o (λ at cs. k pos cs) h e in kept pos parts.0.caps h (inner parts.0 parts.1) parts.2
  look_kept true o k kept pos caps h all inner e = kept pos caps h all (if_none_hit o.hit (k pos caps) h e)

  mutual
    unfolding search_tree

    pub tree_kept : (t : Tree) → Keeps (search_tree s t)
    tree_kept Empty k kept pos caps h all e = kept pos caps h all e
    tree_kept (Char c fold) k kept pos caps h all e = one_kept _ k kept pos caps h all e
    tree_kept (Any newline) k kept pos caps h all e = one_kept _ k kept pos caps h all e
    tree_kept (InSet set fold) k kept pos caps h all e = one_kept _ k kept pos caps h all e
    tree_kept (Cat ts) k kept pos caps h all e = row_kept ts k kept pos caps h all e
    tree_kept (Alt ts) k kept pos caps h all e = any_kept ts k kept pos caps h all e
    tree_kept (Group number t) k kept pos caps h all e =
        tree_kept t _ (λ at cs x aw. kept at _ x (set cs number pos at aw)) pos caps h all e
    tree_kept (Atomic t) k kept pos caps h all e =
        let parts = then_hit (search_tree s t accept pos caps) k h e in
        kept parts.0.end parts.0.caps h (tree_kept t accept accept_kept pos caps parts.0 all parts.1) parts.2
    tree_kept (Repeat t least greatest greedy) k kept pos caps h all e =
        rounds_kept (search_tree s t) least greatest greedy (tree_kept t) (suc (length s.line - pos)) 0 k kept pos caps h all e
    tree_kept (Look t true negative) k kept pos caps h all e =
        look_kept negative (search_tree s t accept pos caps) k kept pos caps h all (λ x got. tree_kept t accept accept_kept pos caps x all got) e
    tree_kept (Look t false negative) k kept pos caps h all e =
        look_kept negative (look_back (λ q. search_tree s t (at_goal pos accept) q caps) (least_width t) (greatest_width t) pos) k kept pos caps h all
        (λ x got.
        let found = behind_hit (λ q. search_tree s t (at_goal pos accept) q caps) (least_width t) (greatest_width t) pos x got in
        tree_kept t (at_goal pos accept) (at_kept pos) found.0 caps x all found.2) e
    tree_kept (Back groups fold) k kept pos caps h all e = read_kept fold (last_set caps groups) k kept pos caps h all e
    tree_kept (Holds p) k kept pos caps h all e =
        ⊎_elim (kept pos caps h all) (λ f. absurd (fail_hit h f)) (cond_hit (holds s p pos) (k pos caps) fail h e)

    row_kept : (ts : Trees) → Keeps (search_row s ts)
    row_kept NoTrees k kept pos caps h all e = kept pos caps h all e
    row_kept (More t ts) k kept pos caps h all e = tree_kept t _ (row_kept ts k kept) pos caps h all e

    any_kept : (ts : Trees) → Keeps (search_any s ts)
    any_kept NoTrees k kept pos caps h all e = absurd (fail_hit h e)
    any_kept (More t ts) k kept pos caps h all e =
        ⊎_elim (tree_kept t k kept pos caps h all) (any_kept ts k kept pos caps h all) (or_else_hit (search_tree s t k pos caps) (search_any s ts k pos caps) h e)

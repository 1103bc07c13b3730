-- A pattern without `\A` and `\G` is searched alike wherever the search began.
use Rattle.std.proofs.Common.{◌≡◌, ℕ, zero, suc, ◌+◌, ◌-◌, Bool, true, false, cond, List, [], ◌∷◌, length, Option, Some, slice_get, slice_set, ◌==◌, refl, ap, ap₂, ◌∙◌}
use Rattle.std.specs.Prelude.{◌&&◌}
use Rattle.std.proofs.Math.Path.{fun_ext}
use Rattle.tm_onig_class.specs.declared.patterns.Position.{Position}
use Rattle.tm_onig_class.specs.declared.patterns.Position.TheVariants.{LineStart, LineEnd, TextStart, SearchStart, BeforeFinal, TextEnd, Word, NotWord}
use Rattle.tm_onig_class.specs.Tree.{Tree, Empty, Char, Any, InSet, Cat, Alt, Group, Atomic, Repeat, Look, Back, Holds, Trees, NoTrees, More}
use Rattle.tm_onig_search.specs.Outcomes.{Caps, Outcome, Rest, tick, fail, accept, or_else, and_then, looked}
use Rattle.tm_onig_search.specs.Places.{Subject, subject, holds}
use Rattle.tm_onig_search.specs.Find.{hit_at, blank}
use Rattle.tm_onig_search.specs.Widths.{least_width, greatest_width}
use Rattle.tm_onig_search.specs.Search.{close, look_back, at_goal, choose, rounds, search_tree, search_row, search_any}
use Rattle.tm_onig_scan.specs.Steady.{is_of_text, is_steady, are_steady, steady_if, all_steady}

pub both : (a b : Bool) → (a && b) ≡ true → (a ≡ true) × (b ≡ true)
both true b is = (refl, is)
both false b is = absurd cc

module _ (line : List ℕ) (first first2 : ℕ) (a a2 g g2 : Bool) where
  abbrev here : Subject
  here = subject line first a g

  abbrev there : Subject
  there = subject line first2 a2 g2

  abbrev Alike : (Rest → Rest) → (Rest → Rest) → Type 0
  Alike m m2 = (k : Rest) (pos : ℕ) (caps : Caps) → m k pos caps ≡ m2 k pos caps

  holds_alike : (p : Position) (pos : ℕ) → is_of_text p ≡ true → holds here p pos ≡ holds there p pos
  holds_alike LineStart pos is = refl
  holds_alike LineEnd pos is = refl
  holds_alike TextStart pos is = absurd cc
  holds_alike SearchStart pos is = absurd cc
  holds_alike BeforeFinal pos is = refl
  holds_alike TextEnd pos is = refl
  holds_alike Word pos is = refl
  holds_alike NotWord pos is = refl

  rounds_alike : (body : Rest → Rest) (least : ℕ) (greatest : Option ℕ) (greedy : Bool) (n c : ℕ) →
      Alike (λ k. rounds here body least greatest greedy k n c) (λ k. rounds there body least greatest greedy k n c)
  unfolding rounds
  rounds_alike body least greatest greedy zero c k pos caps = refl
  rounds_alike body least greatest greedy (suc n) c k pos caps =
      ap (λ (later : Rest). choose c least greatest greedy (body (λ at cs. tick (cond (at == pos) (k at cs) (later at cs))) pos caps) (k pos caps))
      (fun_ext (λ at. fun_ext (λ cs. rounds_alike body least greatest greedy n (c + 1) k at cs)))

  mutual
    unfolding search_tree rounds is_steady

    tree_alike : (t : Tree) → is_steady t ≡ true → Alike (search_tree here t) (search_tree there t)
    tree_alike Empty is k pos caps = refl
    tree_alike (Char c fold) is k pos caps = refl
    tree_alike (Any newline) is k pos caps = refl
    tree_alike (InSet set fold) is k pos caps = refl
    tree_alike (Cat ts) is k pos caps = ap tick (row_alike ts is k pos caps)
    tree_alike (Alt ts) is k pos caps = ap tick (any_alike ts is k pos caps)
    tree_alike (Group number t) is k pos caps = ap tick (tree_alike t is (close number pos k) pos caps)
    tree_alike (Atomic t) is k pos caps = ap (λ (o : Outcome). tick (and_then o k)) (tree_alike t is accept pos caps)
    tree_alike (Repeat t least greatest greedy) is k pos caps =
        rounds_alike (search_tree here t) least greatest greedy (suc (length line - pos)) 0 k pos caps
        ∙ ap (λ (body : Rest → Rest). rounds there body least greatest greedy k (suc (length line - pos)) 0 pos caps)
        (fun_ext (λ k2. fun_ext (λ at. fun_ext (λ cs. tree_alike t is k2 at cs))))
    tree_alike (Look t true negative) is k pos caps = ap (λ (o : Outcome). tick (looked negative o k pos caps)) (tree_alike t is accept pos caps)
    tree_alike (Look t false negative) is k pos caps =
        ap (λ (attempt : ℕ → Outcome). tick (looked negative (look_back attempt (least_width t) (greatest_width t) pos) k pos caps))
        (fun_ext (λ q. tree_alike t is (at_goal pos accept) q caps))
    tree_alike (Back groups fold) is k pos caps = refl
    tree_alike (Holds p) is k pos caps = ap (λ (b : Bool). tick (cond b (k pos caps) fail)) (holds_alike p pos is)

    row_alike : (ts : Trees) → are_steady ts ≡ true → Alike (search_row here ts) (search_row there ts)
    row_alike NoTrees is k pos caps = refl
    row_alike (More t ts) is k pos caps =
        let each = both (is_steady t) (are_steady ts) is in
        tree_alike t each.0 (search_row here ts k) pos caps
        ∙ ap (λ (rest : Rest). search_tree there t rest pos caps) (fun_ext (λ at. fun_ext (λ cs. row_alike ts each.1 k at cs)))

    any_alike : (ts : Trees) → are_steady ts ≡ true → Alike (search_any here ts) (search_any there ts)
    any_alike NoTrees is k pos caps = refl
    any_alike (More t ts) is k pos caps =
        let each = both (is_steady t) (are_steady ts) is in ap₂ or_else (tree_alike t each.0 k pos caps) (any_alike ts each.1 k pos caps)

  pub hit_alike : (t : Tree) (start : ℕ) → is_steady t ≡ true → hit_at t line first a g start ≡ hit_at t line first2 a2 g2 start
  hit_alike t start is = ap (λ (o : Outcome). o.hit) (tree_alike t is accept start (blank t))

pub steady_at : (ps : List (Option Tree)) (number : ℕ) (t : Tree) → all_steady ps ≡ true → slice_get ps number ≡ Some (Some t) → is_steady t ≡ true
steady_at [] number t is listed = absurd cc
steady_at (p ∷ ps) zero t is listed = let same : p ≡ Some t = cc in rw same at (both (steady_if p) (all_steady ps) is).0
steady_at (p ∷ ps) (suc number) t is listed = steady_at ps number t (both (steady_if p) (all_steady ps) is).1 listed

pub steady-set : (ps : List (Option Tree)) (place : ℕ) (p : Option Tree) → all_steady ps ≡ true → steady_if p ≡ true → all_steady (slice_set ps place p) ≡ true
steady-set [] place p is one = is
steady-set (q ∷ ps) zero p is one = rw (one, (both (steady_if q) (all_steady ps) is).1) refl
steady-set (q ∷ ps) (suc place) p is one =
    let each = both (steady_if q) (all_steady ps) is in rw (each.0, steady-set ps place p each.1 one) refl

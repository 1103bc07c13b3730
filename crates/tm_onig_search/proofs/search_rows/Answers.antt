use Rattle.std.proofs.Common.{◌≡◌, ℕ, List, ◌++◌, refl, ap}
use Rattle.tm_onig_class.specs.Tree.{Trees, NoTrees, More}
use Rattle.tm_onig_search.specs.Outcomes.{Caps, or_else, tick}
use Rattle.tm_onig_search.specs.Places.{Subject}
use Rattle.tm_onig_search.specs.Search.{search_tree, search_row, search_any}
use Rattle.tm_onig_search.specs.Rows.{Goal, goals_of, search, first_of}
use Rattle.tm_onig_search.proofs.Local.{loop_step, tree_local}
use Rattle.tm_onig_search.proofs.search_rows.Goals as goal

row_is : (s : Subject) (ts : Trees) (gs : List Goal) → search_row s ts (search s gs) ≡ search s (goals_of ts ++ gs)
unfolding search search_row
row_is s NoTrees gs = refl
row_is s (More t ts) gs = ap (search_tree s t) (row_is s ts gs)

any_is : (s : Subject) (ts : Trees) (gs : List Goal) (pos : ℕ) (caps : Caps) → search_any s ts (search s gs) pos caps ≡ first_of s ts gs pos caps
unfolding search search_any
any_is s NoTrees gs pos caps = refl
any_is s (More t ts) gs pos caps = ap (or_else (search_tree s t (search s gs) pos caps)) (any_is s ts gs pos caps)

pub returns : goal.returns
unfolding search search_tree
returns c = λ s. record {
  none = λ pos caps. refl;
  empty = λ gs pos caps. refl;
  char = λ ch fold gs pos caps. refl;
  any = λ newline gs pos caps. refl;
  set = λ set fold gs pos caps. refl;
  cat = λ ts gs pos caps. ap (λ (r : ℕ → Caps → _). tick (r pos caps)) (row_is s ts gs);
  alt = λ ts gs pos caps. ap tick (any_is s ts gs pos caps);
  group = λ n t gs pos caps. refl;
  closes = λ n start gs pos caps. refl;
  atomic = λ t gs pos caps. refl;
  repeat = λ t least greatest greedy gs pos caps. refl;
  loops = λ t least greatest greedy c gs pos caps fits. loop_step s (search_tree s t) least greatest greedy (tree_local s t) (search s gs) c pos caps fits;
  agains = λ t least greatest greedy c start gs pos caps. refl;
  ahead = λ t negative gs pos caps. refl;
  behind = λ t negative gs pos caps. refl;
  at = λ q gs pos caps. refl;
  back = λ groups fold gs pos caps. refl;
  place = λ place gs pos caps. refl;
}

-- A success ends within the text, and not before its start.
use Rattle.std.proofs.Common.{◌≡◌, ℕ, ◌≤◌, length, Some, arith}
use Rattle.tm_onig_class.specs.Tree.{Tree}
use Rattle.tm_onig_search.specs.Outcomes.{Caps, Hit, Rest, accept}
use Rattle.tm_onig_search.specs.Places.{Subject}
use Rattle.tm_onig_search.specs.Search.{search_tree}
use Rattle.tm_onig_search.proofs.Spans.{tree_spans}

module _ (s : Subject) where
  -- a success of k from pos on ends within base and the end of the line
  abbrev pub EndsFrom : ℕ → Rest → ℕ → Type 0
  EndsFrom base k pos = (at : ℕ) (cs : Caps) (h : Hit) → pos ≤ at → at ≤ length s.line → (k at cs).hit ≡ Some h → (base ≤ h.end) × (h.end ≤ length s.line)

  abbrev pub KeepsEnds : (Rest → Rest) → Type 0
  KeepsEnds m = (k : Rest) (base pos : ℕ) (caps : Caps) → base ≤ pos → pos ≤ length s.line → EndsFrom base k pos →
      (h : Hit) → (m k pos caps).hit ≡ Some h → (base ≤ h.end) × (h.end ≤ length s.line)

  pub accept_ends : (pos : ℕ) → EndsFrom pos accept pos
  accept_ends pos at cs h low high e =
      let same : at ≡ h.end = cc in omega arith

  pub tree_ends : (t : Tree) → KeepsEnds (search_tree s t)
  tree_ends t k base pos caps low within ends h e =
      let came = tree_spans s ⊥ t (λ f. absurd f) k pos caps h within e in
      let far = came.far in
      ends came.at came.caps h (omega arith) came.within came.hit

-- What is found lies in the text, and its rule is one of the list.
use Rattle.std.proofs.Common.{◌≡◌, ℕ, ◌+◌, ◌≤◌, Bool, List, [], ◌∷◌, length, Some, None, Option, refl, arith, nat_lt, subst}
use Rattle.std.specs.Prelude.{option_map, slice_get}
use Rattle.std.proofs.lemmas.Option.{slice_get_within}
use Rattle.tm_onig_class.specs.Tree.{Tree}
use Rattle.tm_onig_search.specs.Outcomes.{Caps}
use Rattle.tm_onig_search.specs.Find.{first_match, AreWithin}
use Rattle.tm_onig_search.proofs.Least.{within}
use Rattle.tm_onig_scan.specs.Winner.{start_of, earlier, found, winner_from, earliest_winner}
use Rattle.tm_line_turns.specs.Laws.{IsMatchWithin, IsWinnerWithin}
use Rattle.tm_line_turns.specs.Language.{FindsInText}
use Rattle.tm_line_turns.specs.declared.found.Match.{Match}
use Rattle.tm_line_turns.proofs.Turns.{both}
use Rattle.tm_defs.specs.declared.rules.Rule.{Rule}
use Rattle.tm_defs.specs.declared.rules.Rule.TheVariants as R
use Rattle.tm_rules.specs.Candidates.{flattened_candidates}
use Rattle.tm_rules.specs.declared.candidate.Candidate.{Candidate}
use Rattle.tm_rules.specs.declared.candidate.Candidate.TheVariants.{Start, End}
use Rattle.tm_line.specs.Search.{end_of, match_of, patterns_in, started, won_by, winner_in}
use Rattle.tm_line.specs.Grammar.{rules_language}

-- where the whole match ends is where the first of the groups does
end-first : (caps : Caps) (n : ℕ) → AreWithin n caps → end_of caps ≤ n
end-first [] n h = omega arith
end-first (None ∷ gs) n h = omega arith
end-first (Some g ∷ gs) n h = (h 0 g.0 g.1 refl).1

match-within : (caps : Caps) (n : ℕ) → AreWithin n caps → IsMatchWithin n (match_of caps)
match-within caps n h = record { end = end-first caps n h; groups = h }

module _ (text : List ℕ) (at : ℕ) (allow_a allow_g : Bool) where
  -- the groups of a match lie in the text, if there is one
  abbrev Lies : Option (ℕ × Caps) → Type 0
  Lies o = (w : ℕ × Caps) → o ≡ Some w → AreWithin (length text) w.1

  found-lies : (n : ℕ) (p : Option Tree) → Lies (option_map (λ caps. (n, caps)) (found text at allow_a allow_g p))
  found-lies n None = λ w e. absurd cc
  found-lies n (Some tree) = go (first_match tree text at allow_a allow_g) refl
    where
      go : (o : Option Caps) → first_match tree text at allow_a allow_g ≡ o → Lies (option_map (λ caps. (n, caps)) o)
      go None is w e = absurd cc
      go (Some caps) is w e = let same : caps ≡ w.1 = cc in subst (AreWithin (length text)) same (within tree text at allow_a allow_g caps is)

  earlier-lies : (a b : Option (ℕ × Caps)) → Lies a → Lies b → Lies (earlier a b)
  earlier-lies None b h k = k
  earlier-lies (Some a) None h k = h
  earlier-lies (Some a) (Some b) h k = both Lies (nat_lt (start_of b.1) (start_of a.1)) (Some b) (Some a) (λ _. k) (λ _. h)

  winner-lies : (n : ℕ) (ps : List (Option Tree)) → Lies (winner_from text at allow_a allow_g n ps)
  winner-lies n [] = λ w e. absurd cc
  winner-lies n (p ∷ ps) = earlier-lies (option_map (λ caps. (n, caps)) (found text at allow_a allow_g p)) (winner_from text at allow_a allow_g (n + 1) ps) (found-lies n p) (winner-lies (n + 1) ps)

  module _ (rules : List Rule) (m : Match) (h : IsMatchWithin (length text) m) where
    started-within : (n : ℕ) (r : Option Rule) → slice_get rules n ≡ r → IsWinnerWithin (length rules) (length text) (started m n r)
    started-within n (Some (R.Match grammar path name content_name match_text captures)) e = h
    started-within n (Some (R.BeginEnd grammar path name content_name patterns begin end_text end_last begin_captures end_captures)) e = (h, slice_get_within rules n _ e)
    started-within n (Some (R.BeginWhile grammar path name content_name patterns begin while_text begin_captures while_captures)) e = (h, slice_get_within rules n _ e)
    started-within n (Some (R.Only grammar path name content_name patterns)) e = tt
    started-within n None e = tt

    won-within : (c : Option Candidate) → IsWinnerWithin (length rules) (length text) (won_by rules m c)
    won-within (Some (Start n)) = started-within n (slice_get rules n) refl
    won-within (Some End) = h
    won-within None = tt

  pub winner-within : (rules : List Rule) (cs : List Candidate) (won : Option (ℕ × Caps)) → Lies won → IsWinnerWithin (length rules) (length text) (winner_in rules cs won)
  winner-within rules cs None h = tt
  winner-within rules cs (Some w) h = won-within rules (match_of w.1) (match-within w.1 (length text) (h w refl)) (slice_get cs w.0)

-- So rules find only what is so.
pub finds-in-text : (rules : List Rule) → FindsInText (rules_language rules)
finds-in-text rules text frame has_end at first anchored =
    let ps = patterns_in rules frame has_end in
    winner-within text at first anchored rules (flattened_candidates rules frame.rule) (earliest_winner text at first anchored ps) (winner-lies text at first anchored 0 ps)

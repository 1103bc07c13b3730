-- The patterns that a search goes over are those of the open rule, and what it found is what is found first of them.
use Rattle.std.proofs.Common.{◌≡◌, ℕ, zero, suc, [], ◌∷◌, ◌+◌, ◌<◌, ◌≤◌, Bool, List, length, map, Some, None, Option, refl, ap, subst, sym, ◌∙◌, arith}
use Rattle.std.specs.Prelude.{slice_get, Result, Ok, Err, IsErrOf}
use Rattle.std.specs.Result.{IsErr, IsErrAnd}
use Rattle.tm_defs.specs.declared.frames.FrameData.{FrameData}
use Rattle.tm_defs.specs.declared.rules.Rule.{Rule}
use Rattle.tm_line_turns.specs.declared.found.Winner.{Winner}
use Rattle.tm_onig_class.specs.Tree.{Tree}
use Rattle.tm_onig_search.specs.Outcomes.{Caps}
use Rattle.tm_onig_scan.specs.Winner.{earliest_winner, patterns_at, scan_cost}
use Rattle.tm_onig_vm.specs.declared.fault.FindFault.{FindFault}
use Rattle.tm_rules.specs.Candidates.{flattened_candidates, with_end_if}
use Rattle.tm_rules.specs.declared.candidate.Candidate.{Candidate}
use Rattle.tm_rules.specs.declared.candidate.Candidate.TheVariants.{Start}
use Rattle.tm_rules.specs.Readers.{end_last_in}
use Rattle.tm_line.specs.Search.{pattern_of, patterns_in, winner_in}
use Rattle.tm_line.specs.inner.Prepared.{IsInside, StandsIn, end_place, number_of, patterns_read, replaced}
use Rattle.tm_line.specs.inner.Searched.{Searches}
use Rattle.tm_line.specs.declared.prepared.Inside.{Inside}
use Rattle.tm_line.proofs.Listed.{listed, starts_in}
use Rattle.tm_line.proofs.ReadPatterns.{all-numbered, own_pattern, searched}

missing : (rules : List Rule) (n : ℕ) → n < length rules → slice_get rules n ≡ None → ⊥
missing [] n low at = omega (arith, low)
missing (r ∷ rs) zero low at = absurd cc
missing (r ∷ rs) (suc n) low at = missing rs n (omega (arith, low)) at

length-map : {A B : Type 0} (g : A → B) (xs : List A) → length (map g xs) ≡ length xs
length-map g [] = refl
length-map g (x ∷ xs) = ap suc (length-map g xs)

module _ (rules : List Rule) (f : FrameData) (has_end : Bool) (inside : Inside) (is : IsInside rules f.rule inside) where
  abbrev cs : List Candidate
  cs = flattened_candidates rules f.rule

  -- with the candidates as starts and an end
  by-starts : (ms : List ℕ) (end : Option (Option Tree)) → cs ≡ with_end_if inside.end_last (map Start ms) → StandsIn rules f has_end inside.end_last end →
      replaced (patterns_at (patterns_read rules) inside.list.numbers.items) (end_place inside.end_last (length inside.list.numbers.items)) end ≡ patterns_in rules f has_end
  by-starts ms end e h =
      let numbers = inside.list.numbers.items in
      let last = inside.end_last in
      let count : length numbers ≡ length (with_end_if last (map Start ms)) = ap length is.numbers ∙ length-map (number_of (length rules) f.rule) cs ∙ ap length e in
      ap (λ ps. replaced ps (end_place last (length numbers)) end) (ap (patterns_at (patterns_read rules)) is.numbers ∙ all-numbered rules f.rule cs ∙ ap (map (own_pattern rules f.rule)) e)
      ∙ searched rules f has_end last ms (length numbers) end count h
      ∙ sym (ap (map (pattern_of rules f has_end)) e)

  pub patterns-searched : (end : Option (Option Tree)) → StandsIn rules f has_end inside.end_last end →
      replaced (patterns_at (patterns_read rules) inside.list.numbers.items) (end_place inside.end_last (length inside.list.numbers.items)) end ≡ patterns_in rules f has_end
  patterns-searched end h = go (slice_get rules f.rule) refl
    where
      go : (r : Option Rule) → slice_get rules f.rule ≡ r → replaced (patterns_at (patterns_read rules) inside.list.numbers.items) (end_place inside.end_last (length inside.list.numbers.items)) end ≡ patterns_in rules f has_end
      go None at = absurd (missing rules f.rule is.known at)
      go (Some r) at =
          let last : end_last_in (Some r) ≡ inside.end_last = ap end_last_in (sym at) ∙ sym is.end_last in
          by-starts (starts_in cs) end (listed rules f.rule r cs at refl ∙ ap (λ o. with_end_if o (map Start (starts_in cs))) last) h

-- what a scan of these patterns found, or why it was refused
module _ (text : List ℕ) (at : ℕ) (allow_a allow_g : Bool) (rules : List Rule) (cs ds : List Candidate) (ps qs : List (Option Tree)) (same : qs ≡ ps) (before after : ℕ) where
  abbrev cost : List (Option Tree) → ℕ
  cost patterns = scan_cost text at allow_a allow_g patterns

  abbrev Searched : Result Winner FindFault → Type 0
  Searched result = Searches (winner_in rules ds (earliest_winner text at allow_a allow_g ps)) (cost ps) before after result

  pub found-first : (won : Option (ℕ × Caps)) (w : Winner) → cs ≡ ds → won ≡ earliest_winner text at allow_a allow_g qs → w ≡ winner_in rules cs won →
      (after ≤ before) × (before ≤ after + cost qs) → Searched (Ok w)
  found-first won w listed hit is falls = record {
    found = is ∙ ap (λ l. winner_in rules l won) listed ∙ ap (winner_in rules ds) (hit ∙ ap (earliest_winner text at allow_a allow_g) same);
    spends = record { falls = falls.0; most = subst (λ l. before ≤ after + cost l) same falls.1 };
    over = λ is. absurd cc;
  }

  pub refused : (fault : FindFault) (result : Result Winner FindFault) → IsErr result × IsErrAnd result (λ e. e ≡ fault) → (IsErrOf {T = Option (ℕ × Caps)} (Err fault) FindFault.Budget → before < cost qs) →
      (after ≤ before) × (before ≤ after + cost qs) → Searched result
  refused fault (Ok w) h over falls = absurd h.1
  refused fault (Err e) h over falls = record {
    found = tt;
    spends = record { falls = falls.0; most = subst (λ l. before ≤ after + cost l) same falls.1 };
    over = λ is. let spent : fault ≡ FindFault.Budget = sym h.1 ∙ cc in subst (λ l. before < cost l) same (over (ap Err spent));
  }

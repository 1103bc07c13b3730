-- Where no match begins, a pass need not look, and what an answer says of that.
use Rattle.std.proofs.Common.{◌≡◌, ℕ, ◌+◌, ◌-◌, ◌≤◌, Bool, true, List, length, Option, Some, None, slice_get, refl, sym, ◌∙◌, subst, arith}
use Rattle.std.specs.Prelude.{MatchOption, Result, option_map}
use Rattle.tm_onig_class.specs.Tree.{Tree}
use Rattle.tm_onig_search.specs.Outcomes.{Caps}
use Rattle.tm_onig_search.specs.Places.{subject}
use Rattle.tm_onig_search.specs.Find.{hit_at}
use Rattle.tm_onig_vm.specs.declared.fault.FindFault.{FindFault}
use Rattle.std.specs.Option.{option_copied}
use Rattle.tm_onig_class.specs.declared.patterns.Pattern.{Pattern}
use Rattle.tm_onig_scan.specs.declared.asked.Instead.{Instead}
use Rattle.tm_onig_scan.specs.declared.candidates.Candidates.{Candidates}
use Rattle.tm_onig_scan.specs.Asked.{searched_in}
use Rattle.tm_onig_scan.specs.Memo.{listed, until_of}
use Rattle.tm_onig_scan.specs.Pass.{Tries, pass_from}
use Rattle.tm_onig_scan.specs.Steady.{all_steady, NoneStarts}
use Rattle.tm_onig_scan.specs.Winner.{trees_of, start_of, earliest_winner}
use Rattle.tm_onig_scan.specs.WinnerLaws.{IsWinner}
use Rattle.tm_onig_scan.proofs.Earliest.{earliest, start_of-least}
use Rattle.tm_onig_scan.proofs.Elsewhere.{hit_alike, steady_at}
use Rattle.tm_onig_scan.proofs.Tried.{plainly, tries_part, later_part}

module _ (line : List ℕ) (ps : List (Option Tree)) where
  -- nothing lies between a start and itself
  pub none_yet : (from : ℕ) → NoneStarts line ps from from
  none_yet from number t start first a g listed low high = absurd (omega arith)

  pub none_on : (from known until : ℕ) → known ≤ from → NoneStarts line ps known until → NoneStarts line ps from until
  none_on from known until le none number t start first a g listed low high = none number t start first a g listed (omega arith) high

  module _ (from : ℕ) (allow_a allow_g : Bool) where
    -- a pass that begins where a match may begin at the earliest
    pub searches_later : (q : ℕ) (before after : ℕ) (r : Result (Option (ℕ × Caps)) FindFault) → from ≤ q → NoneStarts line ps from q →
        Tries (pass_from (subject line from allow_a allow_g) (length line + 1 - q) q ps) before after r → Tries (plainly line from allow_a allow_g ps) before after r
    searches_later q before after r low none t =
        tries_part _ (plainly line from allow_a allow_g ps) before after r
        (later_part line from allow_a allow_g q ps low (λ j tree start listed above below. none j tree start from allow_a allow_g listed above below)) t

    module _ (steady : all_steady ps ≡ true) where
      elsewhere : (number : ℕ) (t : Tree) (start first : ℕ) (a g : Bool) → slice_get ps number ≡ Some (Some t) → hit_at t line from allow_a allow_g start ≡ None → hit_at t line first a g start ≡ None
      elsewhere number t start first a g listed none = hit_alike line first from a allow_a g allow_g t start (steady_at ps number t steady listed) ∙ none

      abbrev Missed : Type 0
      Missed = (j : ℕ) (tree : Tree) (start : ℕ) → slice_get ps j ≡ Some (Some tree) → from ≤ start → start ≤ length line → hit_at tree line from allow_a allow_g start ≡ None

      -- no match begins before the winner
      pub remembered : (won : Option (ℕ × Caps)) → won ≡ earliest_winner line from allow_a allow_g ps → NoneStarts line ps from (until_of won (length line))
      remembered won is = go won (subst (λ (o : Option (ℕ × Caps)). MatchOption o Missed (IsWinner line from allow_a allow_g ps)) (sym is) (earliest line from allow_a allow_g ps))
        where
          go : (o : Option (ℕ × Caps)) → MatchOption o Missed (IsWinner line from allow_a allow_g ps) → NoneStarts line ps from (until_of o (length line))
          go None miss number t start first a g listed low high = elsewhere number t start first a g listed (miss number t start listed low (omega arith))
          go (Some w) wins number t start first a g listed low high =
              let at : start_of w.1 ≡ wins.least.start = start_of-least line from allow_a allow_g wins.tree w.1 wins.least in
              elsewhere number t start first a g listed (wins.none_earlier number t start listed low (omega arith))

-- what a memo searches for, by its fields
pub sought_is : (programs : List (Option Pattern)) (list : Option Candidates) (instead : Option Instead) →
    listed (trees_of programs) (option_map (λ them. them.numbers.items) list) (option_map (λ it. (it.place, option_copied it.program)) instead) ≡ searched_in (trees_of programs) list instead
sought_is programs None instead = refl
sought_is programs (Some them) None = refl
sought_is programs (Some them) (Some it) = refl

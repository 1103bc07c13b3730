-- One more list in topological order.
use Rattle.std.proofs.Common.{◌≡◌, ℕ, ◌<◌, Bool, true, false, List, [], ◌∷◌, flat_map, slice_get, get_or, length, inl, inr, ap, sym, ◌∙◌, arith}
use Rattle.std.specs.Prelude.{slice_set}
use Rattle.std.proofs.lemmas.Bool.{cases_lt}
use Rattle.std.proofs.lemmas.Bool.Decides.{eqb_tells}
use Rattle.std.proofs.lemmas.List.{get_or-set_same, get_or-set_other}
use Rattle.std.proofs.Math.ListN.{get_or-eq_default}
use Rattle.tm_rules.specs.Candidates.{is_among, flattened}
use Rattle.tm_rules.specs.Readers.{is_only, patterns_of}
use Rattle.tm_rules.specs.inner.Made.{AreKnown, IsTopological, AreMade, AreOrdered}
use Rattle.tm_rules.specs.declared.only_lists.OnlyLists.{OnlyLists}
use Rattle.tm_defs.specs.declared.rules.Rule.{Rule}
use Rattle.tm_rules.proofs.Unopened.{only_within}
use Rattle.tm_rules.proofs.Topological.{among-head, among-apart, flattened-next}

-- no mark is set beyond the rules
pub unmarked : (marks : List Bool) → ((k : ℕ) → k < length marks → get_or marks k false ≡ false) → (n : ℕ) → get_or marks n false ≡ false
unmarked marks clear n = elim (cases_lt n (length marks)) [ inl e ↦ clear n e | inr e ↦ get_or-eq_default marks false e ]

module _ (rules : List Rule) (made : OnlyLists) (n : ℕ) where
  module _ (all : AreOrdered rules made) (only : is_only (slice_get rules n) ≡ true) (open_yet : get_or made.made.items n false ≡ false)
      (known : AreKnown rules made.made.items (patterns_of (slice_get rules n))) where
    next_order : IsTopological rules (n ∷ all.order)
    next_order = (only, sym (all.among n) ∙ open_yet, λ k h own. sym (all.among (get_or (patterns_of (slice_get rules n)) k 0)) ∙ known k h own, all.topological)

    -- it is what its patterns contribute
    pub flattened-known : flattened rules [] n ≡ flat_map (flattened rules []) (patterns_of (slice_get rules n))
    flattened-known = flattened-next rules n all.order next_order

    marked_next : (k : ℕ) → get_or (slice_set made.made.items n true) k false ≡ is_among k (n ∷ all.order)
    marked_next k = elim (eqb_tells k n) [
      | inl e ↦ ap (λ (m : ℕ). get_or (slice_set made.made.items n true) m false) e.1
          ∙ get_or-set_same made.made.items n true false (let within = only_within rules n only in omega (arith, all.lists.marked, within))
          ∙ sym (ap (λ (m : ℕ). is_among m (n ∷ all.order)) e.1 ∙ among-head n all.order)
      | inr e ↦ get_or-set_other made.made.items n k true false e.1 ∙ all.among k ∙ sym (among-apart k n all.order e.1)
    ]

    pub ordered-more : (new : OnlyLists) → AreMade rules new → new.made.items ≡ slice_set made.made.items n true → AreOrdered rules new
    ordered-more new lists marks = record {
      lists = lists;
      order = n ∷ all.order;
      topological = next_order;
      among = λ k. ap (λ (ms : List Bool). get_or ms k false) marks ∙ marked_next k;
    }

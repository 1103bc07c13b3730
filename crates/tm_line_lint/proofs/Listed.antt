-- The list of unreadable patterns grows by those of one rule after the other.
use Rattle.std.proofs.Common.{◌≡◌, ℕ, ◌+◌, ◌++◌, ◌∷◌, List, Some, drop, suc, ap, sym, ◌∙◌, add-one, append_assoc, drop-cons}
use Rattle.std.specs.Prelude.{flat_map, slice_get}
use Rattle.std.proofs.lemmas.Option.{get_or_from_slice_get, slice_get_within}
use Rattle.tm_defs.specs.declared.rules.Rule.{Rule}
use Rattle.tm_line_lint.specs.Unread.{unread_in}
use Rattle.tm_line_lint.specs.declared.Unread.{Unread}

-- what is found, and what the rules from this number on have, is the whole list
abbrev pub AreListedTo : List Rule → ℕ → List Unread → Type 0
AreListedTo rules n found = found ++ flat_map unread_in (drop n rules) ≡ flat_map unread_in rules

pub one-listed : (rules : List Rule) (n : ℕ) (rule : Rule) (found more : List Unread) → slice_get rules n ≡ Some rule → AreListedTo rules n found → more ≡ found ++ unread_in rule → AreListedTo rules (n + 1) more
one-listed rules n rule found more at are e =
    let rest = flat_map unread_in (drop (n + 1) rules) in
    let split : drop n rules ≡ rule ∷ drop (n + 1) rules =
    drop-cons rules n rule (slice_get_within rules n rule at) ∙ ap (λ x. x ∷ drop (suc n) rules) (get_or_from_slice_get rules n rule rule at) ∙ ap (λ k. rule ∷ drop k rules) (sym (add-one n)) in
    ap (λ l. l ++ rest) e ∙ append_assoc found (unread_in rule) rest ∙ ap (λ l. found ++ flat_map unread_in l) (sym split) ∙ are

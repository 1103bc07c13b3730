-- The kit's pairs say which characters fold alike.
use Rattle.std.proofs.Common.{ap₂, ◌≡◌, ℕ, zero, suc, ◌+◌, ◌<◌, ◌≤◌, Bool, true, false, ◌||◌, ◌&&◌, ◌==◌, ◌⊎◌, inl, inr, ⊎_elim, ◌↔◌, List, [], ◌∷◌, ◌++◌, length, take, get_or, refl, sym, ap, subst, ◌∙◌, arith, eqb-true, eq-eqb, Contains, IsTrue, suc-le-suc, zero-lt-suc}
use Rattle.std.specs.List.{list_all}
use Rattle.std.proofs.lemmas.Bool.{and_parts, or_cases, or_left, or_right, both_ways, cases_Bool, cases_lt}
use Rattle.std.proofs.lemmas.Bool.Decides.{nat_tests}
use Rattle.std.proofs.lemmas.List.{take_more, get_or_default}
use Rattle.std.proofs.lemmas.List.Sums.{AllPass-from_list_all}
use Rattle.std.proofs.lemmas.List.Elements.{Contains-get_or}
use Rattle.regex_class.specs.Ranges.{Range, in_range, in_ranges, range_at, KeysRise}
use Rattle.regex_class.proofs.RangesLemmas.{keys_rise_from, KeysRise-from_test, or_assoc, or-false}
use Rattle.ucd_case.specs.FoldOtherRows.{fold_other_rows}
use Rattle.ucd_case.specs.CaseFolding.{simple_fold, fold_pairs}
use Rattle.ucd_case.proofs.FoldPairsLemmas.{IsFoldPairs-fold_pairs}
use Rattle.tm_onig_class.specs.Ranks.{rank_of, chars_of, AreRanks}
use Rattle.tm_onig_class.specs.Members.{has_char, IsChar, is_char}
use Rattle.tm_onig_class.specs.Folding.{HasAlike, LeadsTo, any_alike, any_below, has_alike}
use Rattle.tm_onig_class.proofs.Members.{has_char-ranks, rank_apart, rank_bound}

-- the pairs come by rising first parts
pub KeysRise-fold_pairs : KeysRise fold_pairs
unfolding keys_rise_from fold_pairs fold_other_rows
KeysRise-fold_pairs = KeysRise-from_test 0 fold_pairs refl

-- both parts are characters
abbrev both_chars : ℕ × ℕ → Bool
both_chars p = is_char p.0 && is_char p.1

-- the test says that it is a character
is_char-IsChar : (c : ℕ) → is_char c ≡ true → IsChar c
is_char-IsChar c h = grind (arith, nat_tests)

-- each part of the pairs is a character
all_chars : list_all both_chars fold_pairs ≡ true
unfolding fold_pairs fold_other_rows
all_chars = refl

-- so are both parts of each pair
pub pair_chars : (k : ℕ) (d : ℕ × ℕ) → k < length fold_pairs → IsChar (get_or fold_pairs k d).0 × IsChar (get_or fold_pairs k d).1
pair_chars k d lt =
    let parts = and_parts _ _ (AllPass-from_list_all both_chars fold_pairs all_chars k d lt) in
    (is_char-IsChar _ parts.0, is_char-IsChar _ parts.1)

-- no pairs lead anywhere
pub any_alike-nil : (ranks : List Range) (r : ℕ) → any_alike [] ranks r ≡ false
unfolding any_alike
any_alike-nil ranks r = refl

-- what two lists of pairs lead to
any_alike-append : (xs ys : List (ℕ × ℕ)) (ranks : List Range) (r : ℕ) → any_alike (xs ++ ys) ranks r ≡ (any_alike xs ranks r || any_alike ys ranks r)
unfolding any_alike
any_alike-append [] ys ranks r = refl
any_alike-append (x ∷ xs) ys ranks r =
    ap (λ b. (in_ranges ranks (rank_of x.0) && (rank_of x.1 == r)) || b) (any_alike-append xs ys ranks r)
    ∙ or_assoc (in_ranges ranks (rank_of x.0) && (rank_of x.1 == r)) (any_alike xs ranks r) (any_alike ys ranks r)

-- what one pair more leads to
pub any_alike-more : (ps : List (ℕ × ℕ)) (ranks : List Range) (i r : ℕ) → i < length ps →
    any_alike (take (i + 1) ps) ranks r ≡ (any_alike (take i ps) ranks r || (in_ranges ranks (rank_of (range_at ps i).0) && (rank_of (range_at ps i).1 == r)))
unfolding any_alike
any_alike-more ps ranks i r h =
    ap (λ l. any_alike l ranks r) (take_more ps i (0, 0) h)
    ∙ any_alike-append (take i ps) (range_at ps i ∷ []) ranks r
    ∙ ap (λ b. any_alike (take i ps) ranks r || b) (or-false _)

-- a pair that leads to the character
any_alike-finds : (ps : List (ℕ × ℕ)) (ranks : List Range) (r : ℕ) → any_alike ps ranks r ≡ true →
    (k : ℕ) × (k < length ps) × (in_ranges ranks (rank_of (range_at ps k).0) ≡ true) × (rank_of (range_at ps k).1 ≡ r)
unfolding any_alike
any_alike-finds [] ranks r h = cc
any_alike-finds (p ∷ ps) ranks r h =
    ⊎_elim
    (λ here. let parts = and_parts _ _ here in (zero, zero-lt-suc _, parts.0, eqb-true _ _ parts.1))
    (λ later. let rest = any_alike-finds ps ranks r later in (suc rest.0, suc-le-suc rest.1, rest.2, rest.3))
    (or_cases _ (any_alike ps ranks r) h)

-- a pair that is there leads
any_alike-at : (ps : List (ℕ × ℕ)) (ranks : List Range) (r k : ℕ) (p : ℕ × ℕ) → k < length ps → get_or ps k p ≡ p →
    in_ranges ranks (rank_of p.0) ≡ true → rank_of p.1 ≡ r → any_alike ps ranks r ≡ true
unfolding any_alike
any_alike-at [] ranks r k p lt at m e = absurd (omega arith)
any_alike-at (x ∷ ps) ranks r zero p lt at m e =
    or_left _ _ (subst (λ q. (in_ranges ranks (rank_of q.0) && (rank_of q.1 == r)) ≡ true) (sym at) (rw (m, eq-eqb _ _ e) refl))
any_alike-at (x ∷ ps) ranks r (suc k) p lt at m e = or_right _ _ (any_alike-at ps ranks r k p (omega arith) at m e)

-- what the pairs add is what folds as a member does
pub alike_is : (ranks : List Range) (c : ℕ) → IsChar c →
    IsTrue (in_ranges ranks (rank_of c) || any_alike fold_pairs ranks (rank_of c)) ↔ HasAlike (chars_of ranks) c
alike_is ranks c is = (
  λ h. ⊎_elim
      (λ here. record { member = c; is_char = is; is_member = has_char-ranks ranks c is ∙ here; alike = refl })
      (λ some.
      let found = any_alike-finds fold_pairs ranks (rank_of c) some in
      let chars = pair_chars found.0 (0, 0) found.1 in
      let p = range_at fold_pairs found.0 in
      let ends : p.1 ≡ c = rank_apart _ _ chars.1 is found.3 in
      record {
        member = p.0;
        is_char = chars.0;
        is_member = has_char-ranks ranks p.0 chars.0 ∙ found.2;
        alike = ((IsFoldPairs-fold_pairs p.0 p.1).0 (Contains-get_or fold_pairs found.0 (0, 0) found.1)).1 ∙ ap simple_fold ends;
      })
      (or_cases _ _ h),
  λ h. elim (cases_Bool (h.member == c)) [
    | inl same ↦ or_left _ _ (subst (λ m. in_ranges ranks (rank_of m) ≡ true) (eqb-true _ _ same) (sym (has_char-ranks ranks h.member h.is_char) ∙ h.is_member))
    | inr apart ↦
        let listed = (IsFoldPairs-fold_pairs h.member c).1 ((λ e. both_ways _ apart (eq-eqb _ _ e)), h.alike) in
        or_right _ _ (any_alike-at fold_pairs ranks (rank_of c) listed.0 (h.member, c) listed.1 listed.2 (sym (has_char-ranks ranks h.member h.is_char) ∙ h.is_member) refl)
  ],
)

-- the same by pairs that lead from the character
pub leads_is : (ranks : List Range) (c : ℕ) → IsChar c → (IsTrue (in_ranges ranks (rank_of c)) ⊎ LeadsTo fold_pairs ranks c) ↔ HasAlike (chars_of ranks) c
leads_is ranks c is = (
  λ h. ⊎_elim
      (λ here. record { member = c; is_char = is; is_member = has_char-ranks ranks c is ∙ here; alike = refl })
      (λ leads.
      let k = leads.listed.0 in
      let char = (subst (λ q. IsChar q.1) leads.listed.2 (pair_chars k (c, leads.other) leads.listed.1).1) in
      record {
        member = leads.other;
        is_char = char;
        is_member = has_char-ranks ranks leads.other char ∙ leads.is_member;
        alike = sym ((IsFoldPairs-fold_pairs c leads.other).0 leads.listed).1;
      })
      h,
  λ h. elim (cases_Bool (c == h.member)) [
    | inl same ↦ inl (subst (λ m. in_ranges ranks (rank_of m) ≡ true) (sym (eqb-true _ _ same)) (sym (has_char-ranks ranks h.member h.is_char) ∙ h.is_member))
    | inr apart ↦ inr (record {
      other = h.member;
      listed = (IsFoldPairs-fold_pairs c h.member).1 ((λ e. both_ways _ apart (eq-eqb _ _ e)), sym h.alike);
      is_member = sym (has_char-ranks ranks h.member h.is_char) ∙ h.is_member;
    })
  ],
)

-- where no pair with the code leads to a member, none does
pub no_lead : (pairs : List (ℕ × ℕ)) (ranks : List Range) (code : ℕ) →
    ((k : ℕ) → k < length pairs → (range_at pairs k).0 ≡ code → in_ranges ranks (rank_of (range_at pairs k).1) ≡ false) → LeadsTo pairs ranks code → ⊥
no_lead pairs ranks code none leads =
    let k = leads.listed.0 in
    let at : range_at pairs k ≡ (code, leads.other) = get_or_default pairs k (0, 0) (code, leads.other) leads.listed.1 ∙ leads.listed.2 in
    both_ways _ (none k leads.listed.1 (ap (λ p. p.0) at)) (subst (λ p. in_ranges ranks (rank_of p.1) ≡ true) (sym at) leads.is_member)

-- a pair with the code that leads to a member
pub a_lead : (pairs : List (ℕ × ℕ)) (ranks : List Range) (code k : ℕ) → k < length pairs → (range_at pairs k).0 ≡ code →
    in_ranges ranks (rank_of (range_at pairs k).1) ≡ true → LeadsTo pairs ranks code
a_lead pairs ranks code k lt at member = record {
  other = (range_at pairs k).1;
  listed = subst (λ x. Contains pairs (x, (range_at pairs k).1)) at (Contains-get_or pairs k (0, 0) lt);
  is_member = member;
}

-- what pairs lead to is a rank
pub ranks_alike : (xs : List Range) → AreRanks xs → (r : ℕ) → (in_ranges xs r || any_alike fold_pairs xs r) ≡ true → r ≤ 0x10F7FF
ranks_alike xs x r h = ⊎_elim (x r)
    (λ some. let found = any_alike-finds fold_pairs xs r some in
    let b = rank_bound _ (pair_chars found.0 (0, 0) found.1).1 in omega (arith, found.3))
    (or_cases _ _ h)

-- a range of one number
pub single : (v r : ℕ) → in_range (v, v) r ≡ (v == r)
unfolding in_range
single v r = grind (arith, nat_tests)

-- tests that hold together are one
from_iff : (a b : Bool) → (a ≡ true → b ≡ true) → (b ≡ true → a ≡ true) → a ≡ b
from_iff true b f g = sym (f refl)
from_iff false true f g = g refl
from_iff false false f g = refl

-- a number that passes
any_below-finds : (n : ℕ) (test : ℕ → Bool) → any_below n test ≡ true → (m : ℕ) × (m < n) × (test m ≡ true)
unfolding any_below
any_below-finds zero test h = cc
any_below-finds (suc n) test h = ⊎_elim
    (λ here. (n, omega arith, here))
    (λ below. let found = any_below-finds n test below in (found.0, omega (arith, found.1), found.2))
    (or_cases _ _ h)

-- a number that passes is found
any_below-at : (n : ℕ) (test : ℕ → Bool) (m : ℕ) → m < n → test m ≡ true → any_below n test ≡ true
unfolding any_below
any_below-at zero test m lt h = absurd (omega arith)
any_below-at (suc n) test m lt h = elim (cases_lt m n) [
  | inl below ↦ or_right _ _ (any_below-at n test m below h)
  | inr above ↦ let same : m ≡ n = omega arith in or_left _ _ (subst (λ k. test k ≡ true) same h)
]

-- a character passes the test
IsChar-is_char : (c : ℕ) → IsChar c → is_char c ≡ true
IsChar-is_char c h = grind (arith, nat_tests)

-- a character is below the end of code points
IsChar-below : (c : ℕ) → IsChar c → c < 0x110000
IsChar-below c h = grind arith

-- the test finds a member that folds alike
alike_found : (ranges : List Range) (c : ℕ) → has_alike ranges c ≡ true → HasAlike ranges c
alike_found ranges c h =
    let found = any_below-finds 0x110000 (λ m. is_char m && (has_char ranges m && (simple_fold m == simple_fold c))) h in
    let parts = and_parts (is_char found.0) (has_char ranges found.0 && (simple_fold found.0 == simple_fold c)) found.2 in
    let rest = and_parts (has_char ranges found.0) (simple_fold found.0 == simple_fold c) parts.1 in
    record { member = found.0; is_char = is_char-IsChar found.0 parts.0; is_member = rest.0; alike = eqb-true _ _ rest.1 }

-- a member that folds alike passes the test
alike_has : (ranges : List Range) (c : ℕ) → HasAlike ranges c → has_alike ranges c ≡ true
alike_has ranges c h =
    any_below-at 0x110000 (λ m. is_char m && (has_char ranges m && (simple_fold m == simple_fold c))) h.member (IsChar-below h.member h.is_char)
    (ap₂ ◌&&◌ (IsChar-is_char h.member h.is_char) (ap₂ ◌&&◌ h.is_member (eq-eqb _ _ h.alike)))

-- a test that decides the fact is the definition's
pub decides : (b : Bool) (ranges : List Range) (c : ℕ) → (IsTrue b ↔ HasAlike ranges c) → b ≡ has_alike ranges c
decides b ranges c h = from_iff b (has_alike ranges c) (λ t. alike_has ranges c (h.0 t)) (λ t. h.1 (alike_found ranges c t))

-- Where no match may start, none does.
use Rattle.std.proofs.Common.{◌≡◌, ℕ, zero, suc, ◌+◌, ◌<◌, Bool, true, false, cond, List, length, Option, Some, None, slice_get, ◌==◌, nat_lt, ◌&&◌, ◌||◌, ◌⊎◌, inl, inr, ⊎_elim, refl, sym, ap, subst, ◌∙◌, arith, true≢false, eq-eqb}
use Rattle.std.specs.Prelude.{not}
use Rattle.std.proofs.lemmas.Option.{slice_get_within}
use Rattle.std.proofs.lemmas.Bool.Decides.{nat_tests}
use Rattle.tm_onig_class.specs.declared.listed.Listed.TheVariants as L
use Rattle.tm_onig_class.specs.declared.patterns.Position.{Position}
use Rattle.tm_onig_class.specs.declared.patterns.Position.TheVariants.{LineStart, LineEnd, TextStart, SearchStart, BeforeFinal, TextEnd, Word, NotWord}
use Rattle.tm_onig_class.specs.Listed.{in_listed}
use Rattle.tm_onig_class.specs.Tree.{Tree, Empty, Char, Any, InSet, Cat, Alt, Group, Atomic, Repeat, Look, Back, Holds, Trees, NoTrees, More}
use Rattle.tm_onig_search.specs.Widths.{least_width}
use Rattle.tm_onig_search.specs.Widths.{greatest_width}
use Rattle.tm_onig_search.specs.Outcomes.{Caps, Hit, Outcome, Rest, fail, accept, looked}
use Rattle.tm_onig_search.specs.Places.{Subject, passes, holds, is_word, is_break, before, at_word}
use Rattle.tm_onig_search.specs.Search.{one, close, look_back, at_goal, choose, rounds, search_tree, search_row, search_any}
use Rattle.tm_onig_search.specs.Find.{at_start, blank}
use Rattle.tm_onig_search.specs.Starts.{may_pass, Sits, may_hold, may_start, may_start_row, may_start_any}
use Rattle.tm_onig_search.proofs.Hits.{or_else_hit, choose_hit, cond_hit, then_hit, if_none_hit, fail_hit}

or_left : (a b : Bool) → (a || b) ≡ false → a ≡ false
or_left false b e = refl
or_left true b e = absurd (true≢false e)

or_right : (a b : Bool) → (a || b) ≡ false → b ≡ false
or_right false b e = e
or_right true b e = absurd (true≢false e)

and_off : (a b : Bool) → (a && b) ≡ false → (a ≡ false) ⊎ (b ≡ false)
and_off true b e = inr e
and_off false b e = inl refl

-- a test that the next character may not pass, it does not pass
pub not_passed : (test : ℕ → Bool) (next : Option ℕ) → may_pass false test next ≡ false → passes test next ≡ false
not_passed test None off = refl
not_passed test (Some c) off = go (nat_lt c 128) off
  where
    go : (b : Bool) → cond b (test c) true ≡ false → test c ≡ false
    go true e = e
    go false e = absurd (true≢false e)

-- an answer of no at the end: there is a next character, and it does not pass
passed_over : (test : ℕ → Bool) (next : Option ℕ) → may_pass true test next ≡ false → (c : ℕ) × (next ≡ Some c) × (test c ≡ false)
passed_over test None off = absurd (true≢false off)
passed_over test (Some c) off = go (nat_lt c 128) off
  where
    go : (b : Bool) → cond b (test c) true ≡ false → (d : ℕ) × (Some c ≡ Some d) × (test d ≡ false)
    go true e = (c, refl, e)
    go false e = absurd (true≢false e)

not_off : (b : Bool) → not b ≡ false → b ≡ true
not_off true e = refl
not_off false e = absurd (true≢false e)

or_off : (a b : Bool) → a ≡ false → b ≡ false → (a || b) ≡ false
or_off false b e f = f
or_off true b e f = absurd (true≢false e)

and_off_left : (a b : Bool) → a ≡ false → (a && b) ≡ false
and_off_left false b e = refl
and_off_left true b e = absurd (true≢false e)

and_off_right : (a b : Bool) → b ≡ false → (a && b) ≡ false
and_off_right false b e = refl
and_off_right true b e = e

differs : (a b : ℕ) → a < b → (a == b) ≡ false
differs a b lt = grind (arith, nat_tests)

cond_true : (b : Bool) (x y : Outcome) (h : Hit) → b ≡ true → (cond b x y).hit ≡ Some h → x.hit ≡ Some h
cond_true true x y h on e = e
cond_true false x y h on e = absurd (true≢false (sym on))

-- where a loop begins it makes a round, or leaves where its least count is none
choose_first : (least : ℕ) (greatest : Option ℕ) (greedy : Bool) (round leave : Outcome) (h : Hit) →
    (choose 0 least greatest greedy round leave).hit ≡ Some h → (round.hit ≡ Some h) ⊎ (((least == 0) ≡ true) × (leave.hit ≡ Some h))
choose_first zero greatest greedy round leave h e = ⊎_elim (λ r. inl r) (λ l. inr (refl, l)) (choose_hit 0 zero greatest greedy round leave h e)
choose_first (suc n) greatest greedy round leave h e = inl (cond_true (nat_lt 0 (suc n)) round _ h (grind (arith, nat_tests)) e)

-- the word's edge, by the characters before and after
edge : (line : List ℕ) (pos : ℕ) (w x : Bool) → is_word (before line pos) ≡ w → is_word (slice_get line pos) ≡ x → at_word line pos ≡ cond w (not x) x
edge line pos w x e f = rw (e, f) refl

word_next : (next : Option ℕ) → may_pass true (λ c. not (in_listed L.Word c)) next ≡ false → is_word next ≡ true
word_next next off = let over = passed_over (λ c. not (in_listed L.Word c)) next off in rw over.1 (not_off (in_listed L.Word over.0) over.2)

-- a place that may not be here is not
holds_not : (s : Subject) (behind : Option Bool) (pos : ℕ) → Sits s behind pos → (p : Position) → may_hold behind p (slice_get s.line pos) ≡ false → holds s p pos ≡ false
holds_not s behind pos sits LineEnd off =
    let over = passed_over (λ c. c == 0x0A) (slice_get s.line pos) off in
    let inside : pos < length s.line = slice_get_within s.line pos over.0 over.1 in
    or_off (pos == length s.line) (is_break (slice_get s.line pos)) (differs pos (length s.line) inside) (rw over.1 over.2)
holds_not s behind pos sits BeforeFinal off =
    let over = passed_over (λ c. c == 0x0A) (slice_get s.line pos) off in
    let inside : pos < length s.line = slice_get_within s.line pos over.0 over.1 in
    or_off (pos == length s.line) ((pos + 1 == length s.line) && is_break (slice_get s.line pos)) (differs pos (length s.line) inside)
    (and_off_right (pos + 1 == length s.line) (is_break (slice_get s.line pos)) (rw over.1 over.2))
holds_not s behind pos sits TextEnd off =
    let over = passed_over (λ c. false) (slice_get s.line pos) off in
    let inside : pos < length s.line = slice_get_within s.line pos over.0 over.1 in
    and_off_left (pos == length s.line) (not (is_break (before s.line pos))) (differs pos (length s.line) inside)
holds_not s None pos sits LineStart off = absurd (true≢false off)
holds_not s (Some word) pos sits LineStart off =
    or_off (pos == 0) (is_break (before s.line pos) && nat_lt pos (length s.line)) sits.inside
    (and_off_left (is_break (before s.line pos)) (nat_lt pos (length s.line)) sits.unbroken)
holds_not s None pos sits TextStart off = absurd (true≢false off)
holds_not s (Some word) pos sits TextStart off = and_off_right s.allow_a (pos == 0) sits.inside
holds_not s None pos sits SearchStart off = absurd (true≢false off)
holds_not s (Some word) pos sits SearchStart off = and_off_right s.allow_g (pos == s.first) sits.later
holds_not s None pos sits Word off = absurd (true≢false off)
holds_not s (Some true) pos sits Word off = edge s.line pos true true sits.word_is (word_next (slice_get s.line pos) off)
holds_not s (Some false) pos sits Word off = edge s.line pos false false sits.word_is (not_passed (in_listed L.Word) (slice_get s.line pos) off)
holds_not s None pos sits NotWord off = absurd (true≢false off)
holds_not s (Some true) pos sits NotWord off =
    ap not (edge s.line pos true false sits.word_is (not_passed (in_listed L.Word) (slice_get s.line pos) off))
holds_not s (Some false) pos sits NotWord off = ap not (edge s.line pos false true sits.word_is (word_next (slice_get s.line pos) off))

module _ (s : Subject) (behind : Option Bool) (pos : ℕ) (sits : Sits s behind pos) where
  abbrev next : Option ℕ
  next = slice_get s.line pos

  -- where b is no, a success of k here has P
  abbrev Only : (Hit → Type 0) → Bool → Rest → Type 0
  Only P b k = b ≡ false → (cs : Caps) (h : Hit) → (k pos cs).hit ≡ Some h → P h

  accept_only : (P : Hit → Type 0) → Only P true accept
  accept_only P off = absurd (true≢false off)

  one_only : (P : Hit → Type 0) (test : ℕ → Bool) (k : Rest) → Only P (may_pass false test next) (one s test k)
  one_only P test k off cs h e =
      let misses : passes test next ≡ false = not_passed test next off in
      absurd (fail_hit h (subst (λ b. (cond b (k (pos + 1) cs) fail).hit ≡ Some h) misses e))

  look_only : (P : Hit → Type 0) (negative : Bool) (o : Outcome) (b : Bool) (k : Rest) → Only P b k → b ≡ false →
      (cs : Caps) (h : Hit) → (looked negative o k pos cs).hit ≡ Some h → P h
  look_only P false o b k only off cs h e = let parts = then_hit o (λ at ds. k pos ds) h e in only off parts.0.caps h parts.2
  look_only P true o b k only off cs h e = only off cs h (if_none_hit o.hit (k pos cs) h e)

  mutual
    unfolding search_tree rounds may_start

    pub tree_only : (P : Hit → Type 0) (t : Tree) (b : Bool) (k : Rest) → Only P b k → Only P (may_start behind next t b) (search_tree s t k)
    tree_only P Empty b k only off cs h e = only off cs h e
    tree_only P (Char c fold) b k only off cs h e = one_only P _ k off cs h e
    tree_only P (Any newline) b k only off cs h e = one_only P _ k off cs h e
    tree_only P (InSet set fold) b k only off cs h e = one_only P _ k off cs h e
    tree_only P (Cat ts) b k only off cs h e = row_only P ts b k only off cs h e
    tree_only P (Alt ts) b k only off cs h e = any_only P ts b k only off cs h e
    tree_only P (Group number t) b k only off cs h e =
        tree_only P t b (close number pos k) (λ non ds x got. only non _ x got) off cs h e
    tree_only P (Atomic t) true k only off cs h e =
        let parts = then_hit (search_tree s t accept pos cs) k h e in
        absurd (tree_only (λ y. ⊥) t true accept (accept_only (λ y. ⊥)) off cs parts.0 parts.1)
    tree_only P (Atomic t) false k only off cs h e =
        let parts = then_hit (search_tree s t accept pos cs) k h e in
        let x = parts.0 in
        let here : x.end ≡ pos = tree_only (λ y. y.end ≡ pos) t false accept (λ non ds y got. let same : pos ≡ y.end = cc in sym same) off cs x parts.1 in
        only refl x.caps h (subst (λ at. (k at x.caps).hit ≡ Some h) here parts.2)
    tree_only P (Repeat t least greatest greedy) b k only off cs h e =
        ⊎_elim
        (λ round. tree_only P t b _ (λ non ds x got. only non ds x (cond_true (pos == pos) _ _ x (eq-eqb pos pos refl) got)) (or_left _ _ off) cs h round)
        (λ left. ⊎_elim (λ some. absurd (true≢false (sym left.0 ∙ some))) (λ non. only non cs h left.1) (and_off _ _ (or_right _ _ off)))
        (choose_first least greatest greedy _ _ h e)
    tree_only P (Look t true false) b k only off cs h e =
        let parts = then_hit (search_tree s t accept pos cs) (λ at ds. k pos ds) h e in
        ⊎_elim
        (λ none. absurd (tree_only (λ y. ⊥) t true accept (accept_only (λ y. ⊥)) none cs parts.0 parts.1))
        (λ non. only non parts.0.caps h parts.2)
        (and_off _ _ off)
    tree_only P (Look t true true) b k only off cs h e = only off cs h (if_none_hit (search_tree s t accept pos cs).hit (k pos cs) h e)
    tree_only P (Look t false negative) b k only off cs h e =
        look_only P negative (look_back (λ q. search_tree s t (at_goal pos accept) q cs) (least_width t) (greatest_width t) pos) b k only off cs h e
    tree_only P (Back groups fold) b k only off cs h e = absurd (true≢false off)
    tree_only P (Holds p) b k only off cs h e =
        ⊎_elim
        (λ non. let never : holds s p pos ≡ false = holds_not s behind pos sits p non in
        absurd (fail_hit h (subst (λ v. (cond v (k pos cs) fail).hit ≡ Some h) never e)))
        (λ non. ⊎_elim (only non cs h) (λ f. absurd (fail_hit h f)) (cond_hit (holds s p pos) (k pos cs) fail h e))
        (and_off _ _ off)

    row_only : (P : Hit → Type 0) (ts : Trees) (b : Bool) (k : Rest) → Only P b k → Only P (may_start_row behind next ts b) (search_row s ts k)
    row_only P NoTrees b k only off cs h e = only off cs h e
    row_only P (More t ts) b k only off cs h e = tree_only P t (may_start_row behind next ts b) (search_row s ts k) (row_only P ts b k only) off cs h e

    any_only : (P : Hit → Type 0) (ts : Trees) (b : Bool) (k : Rest) → Only P b k → Only P (may_start_any behind next ts b) (search_any s ts k)
    any_only P NoTrees b k only off cs h e = absurd (fail_hit h e)
    any_only P (More t ts) b k only off cs h e =
        ⊎_elim (tree_only P t b k only (or_left _ _ off) cs h) (any_only P ts b k only (or_right _ _ off) cs h) (or_else_hit (search_tree s t k pos cs) (search_any s ts k pos cs) h e)

  -- a pattern that may not start here does not match here
  pub never_starts : (t : Tree) → may_start behind next t true ≡ false → (at_start s t pos).hit ≡ None
  never_starts t off = go (at_start s t pos).hit (tree_only (λ h. ⊥) t true accept (accept_only (λ h. ⊥)) off (blank t))
    where
      go : (o : Option Hit) → ((h : Hit) → o ≡ Some h → ⊥) → o ≡ None
      go None non = refl
      go (Some h) non = absurd (non h refl)

-- Where the character before is not the one that a pattern looks for first, no match starts.
use Rattle.std.proofs.Common.{◌≡◌, ℕ, ◌-◌, Bool, true, false, cond, not, ◌&&◌, ◌==◌, List, [], Option, Some, None, slice_get, true≢false, refl, sym, ap, ◌∙◌, arith}
use Rattle.std.proofs.lemmas.Bool.Decides.{nat_tests}
use Rattle.tm_onig_class.specs.declared.listed.Listed.TheVariants as L
use Rattle.tm_onig_class.specs.Listed.{in_listed}
use Rattle.tm_onig_class.specs.Tree.{Tree, Empty, Char, Any, InSet, Cat, Alt, Group, Atomic, Repeat, Look, Back, Holds, Trees, NoTrees, More}
use Rattle.tm_onig_search.specs.Outcomes.{Caps, Hit, Outcome, Rest, accept, and_then, then_at}
use Rattle.tm_onig_search.specs.Places.{Subject, passes, matches, before, is_word}
use Rattle.tm_onig_search.specs.Find.{at_start, blank}
use Rattle.tm_onig_search.specs.Widths.{least_width, greatest_width}
use Rattle.tm_onig_search.specs.Search.{close, look_back, at_goal, search_tree, search_row}
use Rattle.tm_onig_search.specs.Starts.{Sits, IsBehind, may_start}
use Rattle.tm_onig_search.proofs.Starts.{never_starts}
use Rattle.tm_onig_vm.specs.declared.singles.Single.TheVariants as S
use Rattle.tm_onig_vm.specs.First.{may_be, may_follow, may_follow_first, may_begin}
use Rattle.tm_onig_vm.proofs.Instructions.{back_one}

-- a test that a character passes says whether the character is a word's
not_so : (b w : Bool) → b ≡ w → cond b w (not w) ≡ false → ⊥
not_so true true e never = true≢false never
not_so true false e never = true≢false e
not_so false true e never = true≢false (sym e)
not_so false false e never = true≢false never

then_none : (o : Outcome) (k : Rest) → o.hit ≡ None → (and_then o k).hit ≡ None
then_none o k none = ap (λ (h : Option Hit). (then_at h o.cost k).hit) none

module _ (s : Subject) (pos : ℕ) (word : Bool) (behind : is_word (before s.line pos) ≡ word) where
  char_misses : (c : ℕ) → may_be word (Char c false) ≡ false → passes (matches false c) (before s.line pos) ≡ false
  char_misses c never = go (before s.line pos) refl
    where
      go : (o : Option ℕ) → before s.line pos ≡ o → passes (matches false c) o ≡ false
      go None got = refl
      go (Some d) got = at (d == c) refl
        where
          at : (b : Bool) → (d == c) ≡ b → b ≡ false
          at false e = refl
          at true e =
              let same : d ≡ c = grind (arith, nat_tests) in
              absurd (not_so (in_listed L.Word c) word (ap (in_listed L.Word) (sym same) ∙ sym (ap is_word got) ∙ behind) never)

  look_misses : (t : Tree) → may_be word t ≡ false → (caps : Caps) →
      (look_back (λ q. search_tree s t (at_goal pos accept) q caps) (least_width t) (greatest_width t) pos).hit ≡ None
  look_misses Empty never caps = absurd (true≢false never)
  look_misses (Char c true) never caps = absurd (true≢false never)
  look_misses (Char c false) never caps =
      let there : Option Hit = Some (record { end = pos; caps = caps }) in
      ap (λ (o : Outcome). o.hit) (back_one s [] (S.Char c false) pos caps) ∙ ap (λ (b : Bool). cond b there None) (char_misses c never)
  look_misses (Any newline) never caps = absurd (true≢false never)
  look_misses (InSet set fold) never caps = absurd (true≢false never)
  look_misses (Cat ts) never caps = absurd (true≢false never)
  look_misses (Alt ts) never caps = absurd (true≢false never)
  look_misses (Group number t) never caps = absurd (true≢false never)
  look_misses (Atomic t) never caps = absurd (true≢false never)
  look_misses (Repeat t least greatest greedy) never caps = absurd (true≢false never)
  look_misses (Look t ahead negative) never caps = absurd (true≢false never)
  look_misses (Back groups fold) never caps = absurd (true≢false never)
  look_misses (Holds place) never caps = absurd (true≢false never)

  mutual
    unfolding search_tree may_follow

    never_follows : (t : Tree) → may_follow word t ≡ false → (k : Rest) (caps : Caps) → (search_tree s t k pos caps).hit ≡ None
    never_follows Empty never k caps = absurd (true≢false never)
    never_follows (Char c fold) never k caps = absurd (true≢false never)
    never_follows (Any newline) never k caps = absurd (true≢false never)
    never_follows (InSet set fold) never k caps = absurd (true≢false never)
    never_follows (Cat ts) never k caps = row_follows ts never k caps
    never_follows (Alt ts) never k caps = absurd (true≢false never)
    never_follows (Group number t) never k caps = never_follows t never (close number pos k) caps
    never_follows (Atomic t) never k caps = then_none (search_tree s t accept pos caps) k (never_follows t never accept caps)
    never_follows (Repeat t least greatest greedy) never k caps = absurd (true≢false never)
    never_follows (Look t true negative) never k caps = absurd (true≢false never)
    never_follows (Look t false true) never k caps = absurd (true≢false never)
    never_follows (Look t false false) never k caps = then_none _ (λ at cs. k pos cs) (look_misses t never caps)
    never_follows (Back groups fold) never k caps = absurd (true≢false never)
    never_follows (Holds place) never k caps = absurd (true≢false never)

    row_follows : (ts : Trees) → may_follow_first word ts ≡ false → (k : Rest) (caps : Caps) → (search_row s ts k pos caps).hit ≡ None
    row_follows NoTrees never k caps = absurd (true≢false never)
    row_follows (More t ts) never k caps = never_follows t never (search_row s ts k) caps

pub never_begins : (s : Subject) (behind : Option Bool) (start : ℕ) → Sits s behind start → (t : Tree) → may_begin behind (slice_get s.line start) t ≡ false → (at_start s t start).hit ≡ None
never_begins s None start sits t never = never_starts s None start sits t never
never_begins s (Some word) start sits t never = go (may_follow word t) refl never
  where
    go : (b : Bool) → may_follow word t ≡ b → (b && may_start (Some word) (slice_get s.line start) t true) ≡ false → (at_start s t start).hit ≡ None
    go true is off = never_starts s (Some word) start sits t off
    go false is off = never_follows s start word sits.word_is t is accept (blank t)

-- A greedy loop over one character makes all its rounds at once.
use Rattle.std.proofs.Common.{◌≡◌, ℕ, zero, suc, ◌+◌, ◌*◌, ◌-◌, ◌<◌, ◌≤◌, min, Bool, true, false, cond, List, [], ◌∷◌, length, drop, Option, Some, None, slice_get, nat_lt, ◌==◌, true≢false, refl, sym, ap, ap₂, ◌∙◌, le-ltb, arith}
use Rattle.std.specs.Prelude.{MatchOption}
use Rattle.tm_onig_class.specs.Tree.{Tree}
use Rattle.std.proofs.lemmas.Option.{slice_get_within}
use Rattle.std.proofs.lemmas.Bool.Decides.{nat_tests}
use Rattle.tm_onig_search.specs.Outcomes.{Caps, Outcome, Rest, tick, fail, spend, or_else}
use Rattle.tm_onig_search.specs.Places.{Subject, passes}
use Rattle.tm_onig_search.specs.Search.{one, is_at, choose, again, loop, search_tree}
use Rattle.tm_onig_search.proofs.Local.{tree_local, loop_step}
use Rattle.tm_onig_search.proofs.Outcomes.{or_else_assoc, or_else-fail_left, or_else-fail_right}
use Rattle.tm_onig_vm.specs.declared.singles.Single.{Single}
use Rattle.tm_onig_vm.specs.declared.singles.Single.TheVariants as S
use Rattle.tm_onig_search.specs.Widths.{least_width, greatest_width}
use Rattle.tm_onig_vm.specs.inner.Single.{is_single, is_span, single_tree, single_has, fits, run_of, most_of}
use Rattle.tm_onig_vm.proofs.Behind.{tried}
use Rattle.tm_onig_vm.proofs.Costs.{or_else-spend, tick-spend}

-- one character more, or none
pub run-next : (test : ℕ → Bool) (n : ℕ) (line : List ℕ) (at : ℕ) →
    run_of test (suc n) (drop at line) ≡ cond (passes test (slice_get line at)) (suc (run_of test n (drop (suc at) line))) 0
unfolding run_of
run-next test n [] zero = refl
run-next test n [] (suc at) = refl
run-next test n (c ∷ cs) zero = refl
run-next test n (c ∷ cs) (suc at) = run-next test n cs at

pub run_none : (test : ℕ → Bool) (n : ℕ) (line : List ℕ) (at : ℕ) → passes test (slice_get line at) ≡ false → run_of test n (drop at line) ≡ 0
unfolding run_of
run_none test zero line at no_more = refl
run_none test (suc n) line at no_more = run-next test n line at ∙ ap (λ (b : Bool). cond b (suc (run_of test n (drop (suc at) line))) 0) no_more

pub run_some : (test : ℕ → Bool) (n : ℕ) (line : List ℕ) (at : ℕ) → passes test (slice_get line at) ≡ true → run_of test (suc n) (drop at line) ≡ suc (run_of test n (drop (suc at) line))
run_some test n line at more = run-next test n line at ∙ ap (λ (b : Bool). cond b (suc (run_of test n (drop (suc at) line))) 0) more

-- a character that passes stands in the line
pub passes_within : (line : List ℕ) (test : ℕ → Bool) (p : ℕ) → passes test (slice_get line p) ≡ true → p + 1 ≤ length line
passes_within line test p = go (slice_get line p) refl
  where
    go : (o : Option ℕ) → slice_get line p ≡ o → passes test o ≡ true → p + 1 ≤ length line
    go None got is_so = absurd (true≢false (sym is_so))
    go (Some c) got is_so = let inside : p < length line = slice_get_within line p c got in omega arith

none_at : (test : ℕ → Bool) (line : List ℕ) (p : ℕ) → length line ≤ p → passes test (slice_get line p) ≡ false
none_at test line p beyond = go (slice_get line p) refl
  where
    go : (o : Option ℕ) → slice_get line p ≡ o → passes test o ≡ false
    go None got = refl
    go (Some c) got = let inside : p < length line = slice_get_within line p c got in absurd (omega arith)

pub run_within : (test : ℕ → Bool) (n : ℕ) (line : List ℕ) (at : ℕ) → at ≤ length line → at + run_of test n (drop at line) ≤ length line
unfolding run_of
run_within test zero line at within = omega arith
run_within test (suc n) line at within = go (run_within test n line (suc at)) (passes test (slice_get line at)) refl
  where
    go : (suc at ≤ length line → suc at + run_of test n (drop (suc at) line) ≤ length line) → (b : Bool) → passes test (slice_get line at) ≡ b → at + run_of test (suc n) (drop at line) ≤ length line
    go on false is = rw (run_none test (suc n) line at is) (omega arith)
    go on true is =
        let inside = passes_within line test at is in
        let rest = on (omega arith) in
        rw (run_some test n line at is) (omega arith)

pub single_least : (x : Single) → least_width (single_tree x) ≡ 1
unfolding least_width
single_least (S.Char c fold) = refl
single_least (S.Any newline) = refl
single_least (S.Member set fold) = refl

pub single_greatest : (x : Single) → greatest_width (single_tree x) ≡ Some 1
unfolding greatest_width
single_greatest (S.Char c fold) = refl
single_greatest (S.Any newline) = refl
single_greatest (S.Member set fold) = refl

pub single_is : (x : Single) → is_single (single_tree x) ≡ true
single_is (S.Char c fold) = refl
single_is (S.Any newline) = refl
single_is (S.Member set fold) = refl

-- a tree of one character is a test of the next one
pub single_searches : (s : Subject) (x : Single) (k : Rest) (pos : ℕ) (caps : Caps) → search_tree s (single_tree x) k pos caps ≡ one s (single_has x) k pos caps
unfolding search_tree
single_searches s (S.Char c fold) k pos caps = refl
single_searches s (S.Any newline) k pos caps = refl
single_searches s (S.Member set fold) k pos caps = refl

-- the lowest position is tried last
tried_last : (attempt : ℕ → Outcome) (p n : ℕ) → or_else (tried attempt (suc p) n) (attempt p) ≡ tried attempt p (suc n)
unfolding tried
tried_last attempt p zero =
    let e : p ≡ p + 0 = omega arith in or_else-fail_left (attempt p) ∙ ap attempt e ∙ sym (or_else-fail_right (attempt (p + 0)))
tried_last attempt p (suc n) =
    let e : suc p + n ≡ p + suc n = omega arith in
    or_else_assoc (attempt (suc p + n)) (tried attempt (suc p) n) (attempt p) ∙ ap (or_else (attempt (suc p + n))) (tried_last attempt p n)
    ∙ ap (λ (q : ℕ). or_else (attempt q) (tried attempt p (suc n))) e

tried_one : (attempt : ℕ → Outcome) (p d : ℕ) → d ≡ 0 → attempt p ≡ tried attempt (p + d) (0 + 1 - d)
unfolding tried
tried_one attempt p d none = let e : p ≡ p + 0 + 0 = omega arith in rw none (ap attempt e ∙ sym (or_else-fail_right (attempt (p + 0 + 0))))

tried_none : (attempt : ℕ → Outcome) (p d : ℕ) → 0 < d → fail ≡ tried attempt (p + d) (0 + 1 - d)
unfolding tried
tried_none attempt p d some = let e : 0 + 1 - d ≡ 0 = omega arith in rw e refl

-- so many rounds may be made yet, after c rounds and at the position p of a line
abbrev pub AreLeft : ℕ → Option ℕ → ℕ → ℕ → ℕ → Type 0
AreLeft long None n c p = long ≤ p + n
AreLeft long (Some most) n c p = c + n ≡ most

module _ (s : Subject) (x : Single) (k : Rest) (least : ℕ) (caps : Caps) where
  abbrev attempt : ℕ → Outcome
  attempt q = k q caps

  abbrev test : ℕ → Bool
  test = single_has x

  abbrev rounds_on : Option ℕ → ℕ → ℕ → Outcome
  rounds_on greatest c p = loop s (search_tree s (single_tree x)) least greatest true k c p caps

  -- what a loop that is to make r rounds more comes to
  abbrev made : Option ℕ → ℕ → ℕ → ℕ → Outcome
  made greatest c p r = spend (1 + 3 * r + cond (is_at (c + r) greatest) 0 1) (tried attempt (p + (least - c)) (r + 1 - (least - c)))

  made_is : (greatest : Option ℕ) (c p r cost : ℕ) (stop : Bool) (rest : Outcome) → is_at (c + r) greatest ≡ stop → cost ≡ 1 + 3 * r + cond stop 0 1 →
      rest ≡ tried attempt (p + (least - c)) (r + 1 - (least - c)) → spend cost rest ≡ made greatest c p r
  made_is greatest c p r cost stop rest is cost_is rest_is = ap₂ spend (cost_is ∙ ap (λ (b : Bool). 1 + 3 * r + cond b 0 1) (sym is)) rest_is

  round : (greatest : Option ℕ) (c p : ℕ) → p ≤ length s.line →
      rounds_on greatest c p
      ≡ choose c least greatest true (tick (cond (passes test (slice_get s.line p)) (again s (search_tree s (single_tree x)) least greatest true k (c + 1) p (p + 1) caps) fail)) (k p caps)
  round greatest c p within =
      loop_step s (search_tree s (single_tree x)) least greatest true (tree_local s (single_tree x)) k c p caps within
      ∙ ap (λ (o : Outcome). choose c least greatest true o (k p caps)) (single_searches s x (again s (search_tree s (single_tree x)) least greatest true k (c + 1) p) p caps)

  same_at : (greatest : Option ℕ) (c : ℕ) (b : Bool) → is_at c greatest ≡ b → is_at (c + 0) greatest ≡ b
  same_at greatest c b is = let e : c + 0 ≡ c = omega arith in ap (λ (n : ℕ). is_at n greatest) e ∙ is

  -- no more rounds may be made
  at_most : (greatest : Option ℕ) (c p : ℕ) → p ≤ length s.line → is_at c greatest ≡ true → least ≤ c → rounds_on greatest c p ≡ made greatest c p 0
  at_most greatest c p within limit enough =
      let below : nat_lt c least ≡ false = le-ltb c least enough in
      let none : least - c ≡ 0 = omega arith in
      round greatest c p within
      ∙ ap₂ (λ (b stop : Bool). let r = tick (cond (passes test (slice_get s.line p)) (again s (search_tree s (single_tree x)) least greatest true k (c + 1) p (p + 1) caps) fail) in
      tick (cond b r (cond stop (k p caps) (or_else r (k p caps))))) below limit
      ∙ tick-spend (k p caps) ∙ made_is greatest c p 0 1 true (k p caps) (same_at greatest c true limit) (omega arith) (tried_one attempt p (least - c) none)

  -- the next character does not pass
  no_more : (greatest : Option ℕ) (c p : ℕ) → p ≤ length s.line → is_at c greatest ≡ false → passes test (slice_get s.line p) ≡ false → rounds_on greatest c p ≡ made greatest c p 0
  no_more greatest c p within limit differs = go (nat_lt c least) refl
    where
      tried_it : rounds_on greatest c p ≡ tick (cond (nat_lt c least) (tick fail) (or_else (tick fail) (k p caps)))
      tried_it =
          round greatest c p within
          ∙ ap₂ (λ (b stop : Bool). let r = tick (cond b (again s (search_tree s (single_tree x)) least greatest true k (c + 1) p (p + 1) caps) fail) in
          tick (cond (nat_lt c least) r (cond stop (k p caps) (or_else r (k p caps))))) differs limit

      go : (b : Bool) → nat_lt c least ≡ b → rounds_on greatest c p ≡ made greatest c p 0
      go true is =
          let low : c < least = grind (arith, nat_tests) in
          let some : 0 < least - c = omega arith in
          tried_it ∙ ap (λ (b : Bool). tick (cond b (tick fail) (or_else (tick fail) (k p caps)))) is
          ∙ made_is greatest c p 0 2 false fail (same_at greatest c false limit) (omega arith) (tried_none attempt p (least - c) some)
      go false is =
          let low : least ≤ c = grind (arith, nat_tests) in
          let none : least - c ≡ 0 = omega arith in
          tried_it ∙ ap (λ (b : Bool). tick (cond b (tick fail) (or_else (tick fail) (k p caps)))) is
          ∙ ap (λ (n : ℕ). let r : Outcome = record { hit = (k p caps).hit; cost = n } in r) (omega arith)
          ∙ made_is greatest c p 0 2 false (k p caps) (same_at greatest c false limit) (omega arith) (tried_one attempt p (least - c) none)

  -- the next character passes, and r more behind it
  one_more : (greatest : Option ℕ) (c p r : ℕ) → p ≤ length s.line → is_at c greatest ≡ false → passes test (slice_get s.line p) ≡ true → rounds_on greatest (c + 1) (p + 1) ≡ made greatest (c + 1) (p + 1) r →
      rounds_on greatest c p ≡ made greatest c p (suc r)
  one_more greatest c p r within limit same rest = go (nat_lt c least) refl
    where
      cost : ℕ
      cost = 1 + 3 * r + cond (is_at (c + 1 + r) greatest) 0 1

      left : Outcome
      left = tried attempt (p + 1 + (least - (c + 1))) (r + 1 - (least - (c + 1)))

      moved : (p + 1 == p) ≡ false
      moved = grind (arith, nat_tests)

      on : tick (cond (passes test (slice_get s.line p)) (again s (search_tree s (single_tree x)) least greatest true k (c + 1) p (p + 1) caps) fail) ≡ spend 2 (spend cost left)
      on =
          ap₂ (λ (b e : Bool). tick (cond b (tick (cond e (k (p + 1) caps) (rounds_on greatest (c + 1) (p + 1)))) fail)) same moved
          ∙ ap (λ (o : Outcome). tick (tick o)) rest
          ∙ ap (λ (n : ℕ). let o : Outcome = record { hit = left.hit; cost = n } in o) (omega arith)

      all : rounds_on greatest c p ≡ tick (cond (nat_lt c least) (spend 2 (spend cost left)) (or_else (spend 2 (spend cost left)) (k p caps)))
      all =
          round greatest c p within
          ∙ ap (λ (o : Outcome). tick (cond (nat_lt c least) o (cond (is_at c greatest) (k p caps) (or_else o (k p caps))))) on
          ∙ ap (λ (b : Bool). tick (cond (nat_lt c least) (spend 2 (spend cost left)) (cond b (k p caps) (or_else (spend 2 (spend cost left)) (k p caps))))) limit

      at_end : is_at (c + suc r) greatest ≡ is_at (c + 1 + r) greatest
      at_end = let e : c + suc r ≡ c + 1 + r = omega arith in ap (λ (n : ℕ). is_at n greatest) e

      paid : (rest2 : Outcome) → tick (spend 2 (spend cost rest2)) ≡ spend (3 + cost) rest2
      paid rest2 = ap (λ (n : ℕ). let o : Outcome = record { hit = rest2.hit; cost = n } in o) (omega arith)

      go : (b : Bool) → nat_lt c least ≡ b → rounds_on greatest c p ≡ made greatest c p (suc r)
      go true is =
          let low : c < least = grind (arith, nat_tests) in
          let at : p + 1 + (least - (c + 1)) ≡ p + (least - c) = omega arith in
          let count : r + 1 - (least - (c + 1)) ≡ suc r + 1 - (least - c) = omega arith in
          all ∙ ap (λ (b : Bool). tick (cond b (spend 2 (spend cost left)) (or_else (spend 2 (spend cost left)) (k p caps)))) is
          ∙ paid left ∙ made_is greatest c p (suc r) (3 + cost) (is_at (c + 1 + r) greatest) left at_end (omega arith) (ap₂ (tried attempt) at count)
      go false is =
          let low : least ≤ c = grind (arith, nat_tests) in
          let at : p + 1 + (least - (c + 1)) ≡ suc p = omega arith in
          let count : r + 1 - (least - (c + 1)) ≡ suc r = omega arith in
          let at2 : p ≡ p + (least - c) = omega arith in
          let count2 : suc (suc r) ≡ suc r + 1 - (least - c) = omega arith in
          all ∙ ap (λ (b : Bool). tick (cond b (spend 2 (spend cost left)) (or_else (spend 2 (spend cost left)) (k p caps)))) is
          ∙ ap tick (or_else-spend 2 (spend cost left) (k p caps) ∙ ap (spend 2) (or_else-spend cost left (k p caps)))
          ∙ paid (or_else left (k p caps))
          ∙ made_is greatest c p (suc r) (3 + cost) (is_at (c + 1 + r) greatest) (or_else left (k p caps)) at_end (omega arith)
          (ap₂ (λ (q n : ℕ). or_else (tried attempt q n) (k p caps)) at count ∙ tried_last attempt p (suc r) ∙ ap₂ (tried attempt) at2 count2)

  not_at : (greatest : Option ℕ) (n c p : ℕ) → AreLeft (length s.line) greatest (suc n) c p → is_at c greatest ≡ false
  not_at None n c p left = refl
  not_at (Some most) n c p left = grind (arith, nat_tests)

  left_on : (greatest : Option ℕ) (n c p : ℕ) → AreLeft (length s.line) greatest (suc n) c p → AreLeft (length s.line) greatest n (c + 1) (p + 1)
  left_on None n c p left = omega arith
  left_on (Some most) n c p left = omega arith

  span_on : (greatest : Option ℕ) → fits least greatest ≡ true → (n c p : ℕ) → AreLeft (length s.line) greatest n c p → p ≤ length s.line →
      rounds_on greatest c p ≡ made greatest c p (run_of test n (drop p s.line))
  unfolding run_of
  span_on None fit zero c p left within = no_more None c p within refl (none_at test s.line p (omega arith))
  span_on (Some most) fit zero c p left within =
      let at : (c == most) ≡ true = grind (arith, nat_tests) in
      let enough : least ≤ most = grind (arith, nat_tests) in
      at_most (Some most) c p within at (omega arith)
  span_on greatest fit (suc n) c p left within =
      go (span_on greatest fit n (c + 1) (p + 1) (left_on greatest n c p left)) (passes test (slice_get s.line p)) refl
    where
      go : (p + 1 ≤ length s.line → rounds_on greatest (c + 1) (p + 1) ≡ made greatest (c + 1) (p + 1) (run_of test n (drop (p + 1) s.line))) → (b : Bool) → passes test (slice_get s.line p) ≡ b → rounds_on greatest c p ≡ made greatest c p (run_of test (suc n) (drop p s.line))
      go on false is =
          no_more greatest c p within (not_at greatest n c p left) is
          ∙ ap (made greatest c p) (sym (run_none test (suc n) s.line p is))
      go on true is =
          let inside : p + 1 ≤ length s.line = passes_within s.line test p is in
          let next : suc p ≡ p + 1 = omega arith in
          one_more greatest c p (run_of test n (drop (p + 1) s.line)) within (not_at greatest n c p left) is (on inside)
          ∙ ap (made greatest c p) (ap (λ (q : ℕ). suc (run_of test n (drop q s.line))) (sym next) ∙ sym (run_some test n s.line p is))

  -- the whole loop
  pub span_is : (greatest : Option ℕ) → fits least greatest ≡ true → (p : ℕ) → p ≤ length s.line → (r : ℕ) → r ≡ run_of test (most_of greatest s.line) (drop p s.line) →
      rounds_on greatest 0 p ≡ spend (1 + 3 * r + cond (is_at r greatest) 0 1) (tried attempt (p + least) (r + 1 - least))
  span_is greatest fit p within r is =
      let none_yet : 0 + r ≡ r = omega arith in
      let all : least - 0 ≡ least = omega arith in
      span_on greatest fit (most_of greatest s.line) 0 p (begins greatest) within ∙ ap (made greatest 0 p) (sym is)
      ∙ ap₂ (λ (m d : ℕ). spend (1 + 3 * r + cond (is_at m greatest) 0 1) (tried attempt (p + d) (r + 1 - d))) none_yet all
    where
      begins : (g : Option ℕ) → AreLeft (length s.line) g (most_of g s.line) 0 p
      begins None = omega arith
      begins (Some most) = omega arith

pub run_begins : (test : ℕ → Bool) (n at : ℕ) (line : List ℕ) → run_of test n (drop at line) ≡ 0 + run_of test (n - 0) (drop (at + 0) line)
run_begins test n at line =
    let all : n ≡ n - 0 = omega arith in
    let here : at ≡ at + 0 = omega arith in
    let none : run_of test (n - 0) (drop (at + 0) line) ≡ 0 + run_of test (n - 0) (drop (at + 0) line) = omega arith in
    ap₂ (λ (m q : ℕ). run_of test m (drop q line)) all here ∙ none

-- i characters passed, and then one that does not
pub run_ends : (test : ℕ → Bool) (n i at all : ℕ) (line : List ℕ) → all ≡ i + run_of test (n - i) (drop (at + i) line) → passes test (slice_get line (at + i)) ≡ false → i ≡ all
run_ends test n i at all line was ends =
    let none : run_of test (n - i) (drop (at + i) line) ≡ 0 = run_none test (n - i) line (at + i) ends in omega arith

-- and then one more
pub run_goes_on : (test : ℕ → Bool) (n i at all : ℕ) (line : List ℕ) → i < n → all ≡ i + run_of test (n - i) (drop (at + i) line) → passes test (slice_get line (at + i)) ≡ true →
    all ≡ i + 1 + run_of test (n - (i + 1)) (drop (at + (i + 1)) line)
run_goes_on test n i at all line low was more =
    let left : n - i ≡ suc (n - (i + 1)) = omega arith in
    let next : suc (at + i) ≡ at + (i + 1) = omega arith in
    let step : run_of test (n - i) (drop (at + i) line) ≡ suc (run_of test (n - (i + 1)) (drop (at + (i + 1)) line)) =
    ap (λ (m : ℕ). run_of test m (drop (at + i) line)) left ∙ run_some test (n - (i + 1)) line (at + i) more ∙ ap (λ (q : ℕ). suc (run_of test (n - (i + 1)) (drop q line))) next in
    omega arith

-- no round is left, or no character
pub run_is_all : (test : ℕ → Bool) (n i at all : ℕ) (line : List ℕ) → all ≡ i + run_of test (n - i) (drop (at + i) line) → min n (length line - at) ≤ i → at ≤ length line → i ≤ n → at + i ≤ length line → i ≡ all
unfolding run_of
run_is_all test n i at all line was high within few inside = go (n - i) refl
  where
    go : (left : ℕ) → n - i ≡ left → i ≡ all
    go zero is =
        let none : run_of test (n - i) (drop (at + i) line) ≡ 0 = ap (λ (m : ℕ). run_of test m (drop (at + i) line)) is in omega arith
    go (suc m) is =
        let beyond : length line ≤ at + i = omega arith in
        let none : run_of test (n - i) (drop (at + i) line) ≡ 0 = run_none test (n - i) line (at + i) (none_at test line (at + i) beyond) in omega arith

-- the body of a loop that is greedy, with such counts
pub span_single : (o : Option Single) (t : Tree) (least : ℕ) (greatest : Option ℕ) (greedy : Bool) → greedy ≡ true → true ≡ fits least greatest → MatchOption o (is_single t ≡ false) (λ x. t ≡ single_tree x) →
    MatchOption o (is_span t least greatest greedy ≡ false) (λ x. (t ≡ single_tree x) × (greedy ≡ true) × (fits least greatest ≡ true))
span_single None t least greatest greedy on fit none = rw (on, ← fit) none
span_single (Some x) t least greatest greedy on fit is = (is, on, sym fit)

-- A success of a tree and what follows: what follows succeeds, not before the start and within the text,
-- so far from the start as the tree's widths say, and with groups that lie within the text.
use Rattle.std.proofs.Common.{◌≡◌, ℕ, zero, suc, ◌+◌, ◌-◌, ◌*◌, ◌<◌, ◌≤◌, max, Bool, true, false, cond, length, Option, Some, None, slice_get, nat_lt, ◌==◌, ◌⊎◌, inl, inr, ⊎_elim, refl, ap, subst, arith}
use Rattle.std.proofs.lemmas.Bool.Decides.{nat_tests}
use Rattle.std.proofs.lemmas.Option.{slice_get_within}
use Rattle.std.proofs.lemmas.Bool.{eqb-true, eqb-false}
use Rattle.std.specs.Prelude.{drop, slice_range, slice_set}
use Rattle.tm_onig_class.specs.Tree.{Tree, Empty, Char, Any, InSet, Cat, Alt, Group, Atomic, Repeat, Look, Back, Holds, Trees, NoTrees, More}
use Rattle.tm_onig_class.specs.Limits.{IsInOrder, AreLimitsInOrder, AreAllInOrder}
use Rattle.tm_onig_search.specs.Widths.{least_width, widths_sum, widths_least, both_widths, width_times, greatest_width, greatest_sum, greatest_of, IsAtMost, HasWidth}
use Rattle.tm_onig_search.specs.Outcomes.{Caps, Hit, Outcome, Rest, tick, fail, accept, looked, prefer}
use Rattle.tm_onig_search.specs.Places.{Subject, passes, begins, holds}
use Rattle.tm_onig_search.specs.Search.{one, close, look_back, at_goal, read_group, last_set, is_at, choose, rounds, loop, search_tree, search_row, search_any}
use Rattle.tm_onig_search.proofs.Reading.{begins_within}
use Rattle.tm_onig_search.specs.Find.{AreWithin}
use Rattle.tm_onig_search.proofs.Hits.{or_else_hit, cond_hit, then_hit, if_none_hit, fail_hit}
use Rattle.tm_onig_search.proofs.Within.{within_set, behind_hit}

-- the end lies at most so far behind the start, if there is a limit
abbrev pub Before : Option ℕ → ℕ → ℕ → Type 0
Before None start end = Unit {0}
Before (Some w) start end = end ≤ start + w

before_here : (limit : Option ℕ) (pos : ℕ) → Before limit pos pos
before_here None pos = tt
before_here (Some w) pos = omega arith

before_sum : (v w : Option ℕ) (a b c : ℕ) → Before v a b → Before w b c → Before (both_widths (λ x y. x + y) v w) a c
before_sum None w a b c near far = tt
before_sum (Some v) None a b c near far = tt
before_sum (Some v) (Some w) a b c near far = omega arith

before_first : (v w : Option ℕ) (a b : ℕ) → Before v a b → Before (both_widths max v w) a b
before_first None w a b near = tt
before_first (Some v) None a b near = tt
before_first (Some v) (Some w) a b near = omega arith

before_second : (v w : Option ℕ) (a b : ℕ) → Before w a b → Before (both_widths max v w) a b
before_second None w a b near = tt
before_second (Some v) None a b near = tt
before_second (Some v) (Some w) a b near = omega arith

-- the rounds that are left
abbrev left : Option ℕ → ℕ → Option ℕ
left None c = None
left (Some g) c = Some (g - c)

-- one round, and then those that are left
before_round : (greatest w : Option ℕ) (n a b d : ℕ) → IsInOrder (n + 1) greatest → Before w a b → Before (width_times (left greatest (n + 1)) w) b d → Before (width_times (left greatest n) w) a d
before_round None None n a b d order near far = tt
before_round None (Some zero) n a b d order near far = omega arith
before_round None (Some (suc w)) n a b d order near far = tt
before_round (Some g) None n a b d order near far = go (g - n) (omega arith)
  where
    go : (m : ℕ) → 0 < m → Before (width_times (Some m) None) a d
    go zero some = absurd (omega arith)
    go (suc m) some = tt
before_round (Some g) (Some w) n a b d order near far =
    let one_more : g - n ≡ suc (g - (n + 1)) = omega arith in
    rw one_more (omega arith)

least_round : (least c width a b d : ℕ) → a + width ≤ b → b + (least - (c + 1)) * width ≤ d → a + (least - c) * width ≤ d
least_round least c width a b d near far = go (least - c) refl
  where
    go : (m : ℕ) → least - c ≡ m → a + m * width ≤ d
    go zero e = omega arith
    go (suc m) e =
        let one_less : least - (c + 1) ≡ m = omega arith in
        let rest : b + m * width ≤ d = rw one_less at far in
        omega arith

-- a loop goes on only below the limit, and is left only with the least count met
choose_cases : (c least : ℕ) (greatest : Option ℕ) (greedy : Bool) (round leave : Outcome) (h : Hit) →
    (choose c least greatest greedy round leave).hit ≡ Some h →
    ((round.hit ≡ Some h) × ((c < least) ⊎ (is_at c greatest ≡ false))) ⊎ ((leave.hit ≡ Some h) × (least ≤ c))
choose_cases c least greatest greedy round leave h = below (nat_lt c least) refl
  where
    by_greed : (b : Bool) → is_at c greatest ≡ false → least ≤ c → (prefer b round leave).hit ≡ Some h →
        ((round.hit ≡ Some h) × ((c < least) ⊎ (is_at c greatest ≡ false))) ⊎ ((leave.hit ≡ Some h) × (least ≤ c))
    by_greed true more met e = ⊎_elim (λ r. inl (r, inr more)) (λ l. inr (l, met)) (or_else_hit round leave h e)
    by_greed false more met e = ⊎_elim (λ l. inr (l, met)) (λ r. inl (r, inr more)) (or_else_hit leave round h e)

    at_limit : (b : Bool) → is_at c greatest ≡ b → least ≤ c → (cond b leave (prefer greedy round leave)).hit ≡ Some h →
        ((round.hit ≡ Some h) × ((c < least) ⊎ (is_at c greatest ≡ false))) ⊎ ((leave.hit ≡ Some h) × (least ≤ c))
    at_limit true is met e = inr (e, met)
    at_limit false is met e = by_greed greedy is met e

    below : (b : Bool) → nat_lt c least ≡ b → (cond b round (cond (is_at c greatest) leave (prefer greedy round leave))).hit ≡ Some h →
        ((round.hit ≡ Some h) × ((c < least) ⊎ (is_at c greatest ≡ false))) ⊎ ((leave.hit ≡ Some h) × (least ≤ c))
    below true is e = inl (e, inl (grind (arith, nat_tests)))
    below false is e = at_limit (is_at c greatest) refl (grind (arith, nat_tests)) e

-- one round more is allowed
one_more : (c least : ℕ) (greatest : Option ℕ) → IsInOrder least greatest → IsInOrder c greatest → (c < least) ⊎ (is_at c greatest ≡ false) → IsInOrder (c + 1) greatest
one_more c least None all now more = tt
one_more c least (Some g) all now (inl low) = omega arith
one_more c least (Some g) all now (inr differs) = let apart : c ≡ g → ⊥ = eqb-false c g differs in omega arith

module _ (s : Subject) (P : Type 0) where
  -- a success of k, not before pos and so far from it; no farther than the limit, if P
  pub record Came (low : ℕ) (high : Option ℕ) (k : Rest) (pos : ℕ) (from : Caps) (h : Hit) : Type 0 where
    pub at : ℕ
    pub caps : Caps
    pub within : at ≤ length s.line
    pub far : pos + low ≤ at
    pub near : P → Before high pos at
    pub kept : AreWithin (length s.line) from → AreWithin (length s.line) caps
    pub hit : (k at caps).hit ≡ Some h

  abbrev pub Spans : ℕ → Option ℕ → (Rest → Rest) → Type 0
  Spans low high m = (k : Rest) (pos : ℕ) (caps : Caps) (h : Hit) → pos ≤ length s.line → (m k pos caps).hit ≡ Some h → Came low high k pos caps h

  here : (high : Option ℕ) (k : Rest) (pos : ℕ) (caps : Caps) (h : Hit) → pos ≤ length s.line → (k pos caps).hit ≡ Some h → Came 0 high k pos caps h
  here high k pos caps h within e = record { at = pos; caps = caps; within = within; far = omega arith; near = λ p. before_here high pos; kept = λ all. all; hit = e }

  one_spans : (test : ℕ → Bool) → Spans 1 (Some 1) (one s test)
  one_spans test k pos caps h within = at_item (slice_get s.line pos) refl
    where
      at_test : (b : Bool) → pos < length s.line → (cond b (k (pos + 1) caps) fail).hit ≡ Some h → Came 1 (Some 1) k pos caps h
      at_test true inside e = record { at = pos + 1; caps = caps; within = omega arith; far = omega arith; near = λ p. omega arith; kept = λ all. all; hit = e }
      at_test false inside e = absurd (fail_hit h e)

      at_item : (o : Option ℕ) → slice_get s.line pos ≡ o → (cond (passes test o) (k (pos + 1) caps) fail).hit ≡ Some h → Came 1 (Some 1) k pos caps h
      at_item None got e = absurd (fail_hit h e)
      at_item (Some c) got e = at_test (test c) (slice_get_within s.line pos c got) e

  -- a loop that has made c rounds
  abbrev pub LoopSpans : ℕ → Option ℕ → ℕ → Option ℕ → ℕ → (Rest → Rest) → Type 0
  LoopSpans width most least greatest c m = Spans ((least - c) * width) (width_times (left greatest c) most) m

  -- one round, where those that follow are known
  round_spans : (body : Rest → Rest) (width : ℕ) (most : Option ℕ) → Spans width most body → (least : ℕ) (greatest : Option ℕ) (c : ℕ) → (P → IsInOrder (c + 1) greatest) →
      (later : Rest → Rest) → LoopSpans width most least greatest (c + 1) later →
      LoopSpans width most least greatest c (λ k pos. body (λ at cs. tick (cond (at == pos) (k at cs) (later k at cs))) pos)
  round_spans body width most spans least greatest c more later go k pos caps h within e =
      let came = spans _ pos caps h within e in by_end came (came.at == pos) refl came.hit
    where
      by_end : (came : Came width most (λ at cs. tick (cond (at == pos) (k at cs) (later k at cs))) pos caps h) (b : Bool) → (came.at == pos) ≡ b →
          (cond b (k came.at came.caps) (later k came.at came.caps)).hit ≡ Some h → Came ((least - c) * width) (width_times (left greatest c) most) k pos caps h
      by_end came true is e2 =
          let same : came.at ≡ pos = eqb-true came.at pos is in
          let far = came.far in
          let none : width ≡ 0 = omega arith in
          record { at = pos; caps = came.caps; within = within; far = rw none (omega arith); near = λ p. before_here (width_times (left greatest c) most) pos; kept = came.kept; hit = rw same at e2 }
      by_end came false is e2 =
          let rest = go k came.at came.caps h came.within e2 in
          record {
            at = rest.at;
            caps = rest.caps;
            within = rest.within;
            far = least_round least c width pos came.at rest.at came.far rest.far;
            near = λ p. before_round greatest most c pos came.at rest.at (more p) (came.near p) (rest.near p);
            kept = λ all. rest.kept (came.kept all);
            hit = rest.hit;
          }

  rounds_spans : (body : Rest → Rest) (width : ℕ) (most : Option ℕ) → Spans width most body →
      (least : ℕ) (greatest : Option ℕ) (greedy : Bool) → (P → IsInOrder least greatest) →
      (n c : ℕ) → (P → IsInOrder c greatest) → LoopSpans width most least greatest c (λ k. rounds s body least greatest greedy k n c)
  unfolding rounds
  rounds_spans body width most spans least greatest greedy order zero c now k pos caps h within e = absurd (fail_hit h e)
  rounds_spans body width most spans least greatest greedy order (suc n) c now k pos caps h within e =
      ⊎_elim
      (λ r. let more : P → IsInOrder (c + 1) greatest = λ p. one_more c least greatest (order p) (now p) r.1 in
      round_spans body width most spans least greatest c more (λ k. rounds s body least greatest greedy k n (c + 1))
      (rounds_spans body width most spans least greatest greedy order n (c + 1) more) k pos caps h within r.0)
      (λ l. leaves l.0 l.1) (choose_cases c least greatest greedy _ (k pos caps) h e)
    where
      leaves : (k pos caps).hit ≡ Some h → least ≤ c → Came ((least - c) * width) (width_times (left greatest c) most) k pos caps h
      leaves got met =
          let none : least - c ≡ 0 = omega arith in
          record { at = pos; caps = caps; within = within; far = rw none (omega arith); near = λ p. before_here (width_times (left greatest c) most) pos; kept = λ all. all; hit = got }

  none_made : (greatest : Option ℕ) → IsInOrder 0 greatest
  none_made None = tt
  none_made (Some g) = omega arith

  left_all : (greatest : Option ℕ) → left greatest 0 ≡ greatest
  left_all None = refl
  left_all (Some g) = ap Some (omega arith)

  repeat_spans : (t : Tree) → Spans (least_width t) (greatest_width t) (search_tree s t) → (least : ℕ) (greatest : Option ℕ) (greedy : Bool) → (P → IsInOrder least greatest) →
      Spans (least * least_width t) (width_times greatest (greatest_width t)) (λ k. loop s (search_tree s t) least greatest greedy k 0)
  repeat_spans t spans least greatest greedy order k pos caps h within e =
      let came = rounds_spans (search_tree s t) (least_width t) (greatest_width t) spans least greatest greedy order (suc (length s.line - pos)) 0 (λ p. none_made greatest) k pos caps h within e in
      let whole : least - 0 ≡ least = omega arith in
      record {
        at = came.at;
        caps = came.caps;
        within = came.within;
        far = subst (λ n. pos + n * least_width t ≤ came.at) whole came.far;
        near = λ p. subst (λ g. Before (width_times g (greatest_width t)) pos came.at) (left_all greatest) (came.near p);
        kept = came.kept;
        hit = came.hit;
      }

  read_spans : (fold : Bool) (g : Option (ℕ × ℕ)) → Spans 0 None (read_group s fold g)
  read_spans fold None k pos caps h within = λ e. absurd (fail_hit h e)
  read_spans fold (Some g) k pos caps h within =
      let text = slice_range s.line g.0 g.1 in go text (begins fold text (drop pos s.line)) refl
    where
      go : (text : _) (b : Bool) → begins fold text (drop pos s.line) ≡ b → (cond b (k (pos + length text) caps) fail).hit ≡ Some h → Came 0 None k pos caps h
      go text true fits e = record { at = pos + length text; caps = caps; within = begins_within s.line pos fold text within fits; far = omega arith; near = λ p. tt; kept = λ all. all; hit = e }
      go text false fits e = absurd (fail_hit h e)

  -- a look whose body alone gave o
  look_spans : (negative : Bool) (o : Outcome) (k : Rest) (pos : ℕ) (caps : Caps) (h : Hit) →
      ((x : Hit) → o.hit ≡ Some x → AreWithin (length s.line) caps → AreWithin (length s.line) x.caps) →
      pos ≤ length s.line → (looked negative o k pos caps).hit ≡ Some h → Came 0 (Some 0) k pos caps h
  look_spans false o k pos caps h inner within e =
      let parts = then_hit o (λ at cs. k pos cs) h e in
      record { at = pos; caps = parts.0.caps; within = within; far = omega arith; near = λ p. before_here (Some 0) pos; kept = inner parts.0 parts.1; hit = parts.2 }
  look_spans true o k pos caps h inner within e = here (Some 0) k pos caps h within (if_none_hit o.hit (k pos caps) h e)

  -- the groups of a success alone
  accept_kept : (low : ℕ) (high : Option ℕ) (pos : ℕ) (caps : Caps) (x : Hit) → Came low high accept pos caps x → AreWithin (length s.line) caps → AreWithin (length s.line) x.caps
  accept_kept low high pos caps x came all =
      let got = came.hit in
      let same : came.caps ≡ x.caps = cc in
      subst (AreWithin (length s.line)) same (came.kept all)

  -- and of one that comes to a position
  at_kept : (low : ℕ) (high : Option ℕ) (to pos : ℕ) (caps : Caps) (x : Hit) → Came low high (at_goal to accept) pos caps x → AreWithin (length s.line) caps → AreWithin (length s.line) x.caps
  at_kept low high to pos caps x came all =
      ⊎_elim (λ got. let same : came.caps ≡ x.caps = cc in subst (AreWithin (length s.line)) same (came.kept all)) (λ none. absurd (fail_hit x none))
      (cond_hit (came.at == to) (accept came.at came.caps) fail x came.hit)

  mutual
    unfolding search_tree least_width greatest_width

    pub tree_spans : (t : Tree) → (P → AreLimitsInOrder t) → Spans (least_width t) (greatest_width t) (search_tree s t)
    tree_spans Empty order k pos caps h within e = here (Some 0) k pos caps h within e
    tree_spans (Char c fold) order k pos caps h within e = one_spans _ k pos caps h within e
    tree_spans (Any newline) order k pos caps h within e = one_spans _ k pos caps h within e
    tree_spans (InSet set fold) order k pos caps h within e = one_spans _ k pos caps h within e
    tree_spans (Cat ts) order k pos caps h within e = row_spans ts order k pos caps h within e
    tree_spans (Alt ts) order k pos caps h within e = any_spans ts order k pos caps h within e
    tree_spans (Group number t) order k pos caps h within e =
        let came = tree_spans t order (close number pos k) pos caps h within e in
        record {
          at = came.at;
          caps = slice_set came.caps number (Some (pos, came.at));
          within = came.within;
          far = came.far;
          near = came.near;
          kept = λ all. let far = came.far in within_set (length s.line) came.caps number pos came.at (omega arith) came.within (came.kept all);
          hit = came.hit;
        }
    tree_spans (Atomic t) order k pos caps h within e =
        let parts = then_hit (search_tree s t accept pos caps) k h e in
        let x = parts.0 in
        let came = tree_spans t order accept pos caps x within parts.1 in
        let got = came.hit in
        let same : came.at ≡ x.end = cc in
        record {
          at = x.end;
          caps = x.caps;
          within = rw same at came.within;
          far = rw same at came.far;
          near = rw same at came.near;
          kept = accept_kept (least_width t) (greatest_width t) pos caps x came;
          hit = parts.2;
        }
    tree_spans (Repeat t least greatest greedy) order k pos caps h within e =
        repeat_spans t (tree_spans t (λ p. (order p).1)) least greatest greedy (λ p. (order p).0) k pos caps h within e
    tree_spans (Look t true negative) order k pos caps h within e =
        look_spans negative (search_tree s t accept pos caps) k pos caps h
        (λ x got. accept_kept (least_width t) (greatest_width t) pos caps x (tree_spans t order accept pos caps x within got)) within e
    tree_spans (Look t false negative) order k pos caps h within e =
        look_spans negative (look_back (λ q. search_tree s t (at_goal pos accept) q caps) (least_width t) (greatest_width t) pos) k pos caps h
        (λ x got. let found = behind_hit (λ q. search_tree s t (at_goal pos accept) q caps) (least_width t) (greatest_width t) pos x got in
        let low = found.1 in
        at_kept (least_width t) (greatest_width t) pos found.0 caps x (tree_spans t order (at_goal pos accept) found.0 caps x (omega arith) found.2)) within e
    tree_spans (Back groups fold) order k pos caps h within e = read_spans fold (last_set caps groups) k pos caps h within e
    tree_spans (Holds p) order k pos caps h within e =
        ⊎_elim (here (Some 0) k pos caps h within) (λ f. absurd (fail_hit h f)) (cond_hit (holds s p pos) (k pos caps) fail h e)

    row_spans : (ts : Trees) → (P → AreAllInOrder ts) → Spans (widths_sum ts) (greatest_sum ts) (search_row s ts)
    row_spans NoTrees order k pos caps h within e = here (Some 0) k pos caps h within e
    row_spans (More t ts) order k pos caps h within e =
        let first = tree_spans t (λ p. (order p).0) (search_row s ts k) pos caps h within e in
        let rest = row_spans ts (λ p. (order p).1) k first.at first.caps h first.within first.hit in
        let far = first.far in
        let farther = rest.far in
        record {
          at = rest.at;
          caps = rest.caps;
          within = rest.within;
          far = omega arith;
          near = λ p. before_sum (greatest_width t) (greatest_sum ts) pos first.at rest.at (first.near p) (rest.near p);
          kept = λ all. rest.kept (first.kept all);
          hit = rest.hit;
        }

    any_spans : (ts : Trees) → (P → AreAllInOrder ts) → Spans (widths_least ts) (greatest_of ts) (search_any s ts)
    any_spans NoTrees order k pos caps h within e = absurd (fail_hit h e)
    any_spans (More t NoTrees) order k pos caps h within e =
        ⊎_elim
        (λ here. let came = tree_spans t (λ p. (order p).0) k pos caps h within here in
        record { at = came.at; caps = came.caps; within = came.within; far = came.far; near = λ p. before_first (greatest_width t) (Some 0) pos came.at (came.near p); kept = came.kept; hit = came.hit })
        (λ none. absurd (fail_hit h none)) (or_else_hit (search_tree s t k pos caps) fail h e)
    any_spans (More t (More u us)) order k pos caps h within e =
        ⊎_elim
        (λ here. let came = tree_spans t (λ p. (order p).0) k pos caps h within here in
        let far = came.far in
        record { at = came.at; caps = came.caps; within = came.within; far = omega arith; near = λ p. before_first (greatest_width t) (greatest_of (More u us)) pos came.at (came.near p); kept = came.kept; hit = came.hit })
        (λ later. let came = any_spans (More u us) (λ p. (order p).1) k pos caps h within later in
        let far = came.far in
        record { at = came.at; caps = came.caps; within = came.within; far = omega arith; near = λ p. before_second (greatest_width t) (greatest_of (More u us)) pos came.at (came.near p); kept = came.kept; hit = came.hit })
        (or_else_hit (search_tree s t k pos caps) (search_any s (More u us) k pos caps) h e)

-- the groups of a match
pub match_kept : (s : Subject) (t : Tree) (pos : ℕ) (caps : Caps) (h : Hit) → pos ≤ length s.line → AreWithin (length s.line) caps →
    (search_tree s t accept pos caps).hit ≡ Some h → AreWithin (length s.line) h.caps
match_kept s t pos caps h within all e =
    accept_kept s ⊥ (least_width t) (greatest_width t) pos caps h (tree_spans s ⊥ t (λ f. absurd f) accept pos caps h within e) all

-- a match from q to pos
pub match_width : (s : Subject) (t : Tree) → AreLimitsInOrder t → (q pos : ℕ) (caps : Caps) (h : Hit) → q ≤ length s.line →
    (search_tree s t (at_goal pos accept) q caps).hit ≡ Some h → (q ≤ pos) × HasWidth t (pos - q)
match_width s t order q pos caps h within e =
    let came = tree_spans s (Unit {0}) t (λ p. order) (at_goal pos accept) q caps h within e in
    ⊎_elim (λ found. found) (λ f. absurd (fail_hit h f)) (by_end came (came.at == pos) refl came.hit)
  where
    at_most : (limit : Option ℕ) → Before limit q pos → IsAtMost limit (pos - q)
    at_most None near = tt
    at_most (Some w) near = omega arith

    by_end : (came : Came s (Unit {0}) (least_width t) (greatest_width t) (at_goal pos accept) q caps h) (b : Bool) → (came.at == pos) ≡ b → (cond b (accept came.at came.caps) fail).hit ≡ Some h →
        ((q ≤ pos) × HasWidth t (pos - q)) ⊎ (fail.hit ≡ Some h)
    by_end came true is got =
        let same : came.at ≡ pos = eqb-true came.at pos is in
        let far : q + least_width t ≤ pos = rw same at came.far in
        let near : Before (greatest_width t) q pos = rw same at (came.near tt) in
        inl (omega arith, record { at_least = omega arith; at_most = at_most (greatest_width t) near })
    by_end came false is got = inr got

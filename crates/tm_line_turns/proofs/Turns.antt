-- Each turn that goes on leaves fewer turns.
use Rattle.std.proofs.Common.{◌≡◌, ℕ, zero, suc, ◌+◌, ◌-◌, ◌*◌, ◌<◌, ◌≤◌, Bool, true, false, cond, not, max, nat_lt, List, [], ◌∷◌, ◌++◌, length, Option, Some, refl, ap, sym, ◌∙◌, arith, eqb-true, eq-eqb}
use Rattle.std.proofs.lemmas.Bool.{eqb-false}
use Rattle.std.specs.Prelude.{◌&&◌, ◌||◌, ◌==◌, ⊤}
use Rattle.std.proofs.Math.Nat.{mul-le-mul_left}
use Rattle.std.proofs.lemmas.Bool.Decides.{nat_tests}
use Rattle.tm_line_turns.specs.declared.found.Match.{Match}
use Rattle.tm_line_turns.specs.declared.found.Winner.{Winner}
use Rattle.tm_line_turns.specs.declared.found.Winner.TheVariants.{Nothing, Ends, Begins, Matches}
use Rattle.tm_line_turns.specs.LineRun.{Open, Place, Part, Outcome, Turn, Next, Stops, GoesOn, Grammar, is_at, near, has, anchor_of, stack_of, joined, advances, onward, most_open, opened, framed, ended, entered, begun, matched, by_winner, asked, turn, after, runs, unused, left, line_run}
use Rattle.tm_line_turns.specs.Laws.{IsWinnerWithin, FindsWithin, IsLineRun}

-- either side of a choice
pub both : {X : Type 0} (P : X → Type 0) (b : Bool) (x y : X) → (b ≡ true → P x) → (b ≡ false → P y) → P (cond b x y)
both P true x y t f = t refl
both P false x y t f = f refl

-- of no rules all are unused
pub unused-none : (r : ℕ) → unused [] r ≡ r
unfolding unused
unused-none zero = refl
unused-none (suc r) = let e = unused-none r in omega arith

-- no more than all
pub unused-max : (rules : List ℕ) (r : ℕ) → unused rules r ≤ r
unfolding unused
unused-max rules zero = omega arith
unused-max rules (suc r) = both (λ n. n + unused rules r ≤ suc r) (has rules r) 0 1 (λ _. omega (arith, unused-max rules r)) (λ _. omega (arith, unused-max rules r))

-- one more uses no less
unused-more : (k : ℕ) (rules : List ℕ) (r : ℕ) → unused (k ∷ rules) r ≤ unused rules r
unfolding unused
unused-more k rules zero = omega arith
unused-more k rules (suc r) = go (k == r) (has rules r) (unused-more k rules r)
  where
    go : (a b : Bool) → unused (k ∷ rules) r ≤ unused rules r → cond (a || b) 0 1 + unused (k ∷ rules) r ≤ cond b 0 1 + unused rules r
    go true true h = omega arith
    go true false h = omega arith
    go false b h = omega arith

-- a new one uses one more
pub unused-less : (k : ℕ) (rules : List ℕ) (r : ℕ) → has rules k ≡ false → k < r → unused (k ∷ rules) r < unused rules r
unfolding unused
unused-less k rules zero fresh lt = absurd (omega arith)
unused-less k rules (suc r) fresh lt = go (k == r) refl (λ below. unused-less k rules r fresh below)
  where
    go : (a : Bool) → (k == r) ≡ a → (k < r → unused (k ∷ rules) r < unused rules r) → cond (a || has rules r) 0 1 + unused (k ∷ rules) r < cond (has rules r) 0 1 + unused rules r
    go true e ih =
        let same : k ≡ r = eqb-true k r e in
        let no_r : has rules r ≡ false = ap (has rules) (sym same) ∙ fresh in
        rw no_r (omega (arith, unused-more k rules r))
    go false e ih =
        let apart : k ≡ r → ⊥ = eqb-false k r e in
        let below : k < r = omega arith in
        let less = ih below in omega arith

-- a step on: the characters pay for a frame and for all rules
pays : (a x y t u f r : ℕ) → a ≡ 2 * r + 2 → x < y → u ≤ t + 1 → f ≤ r → a * x + u + 2 * f < a * y + t
pays a x y t u f r e lt le few = let more : a * suc x ≤ a * y = mul-le-mul_left a lt in omega arith

-- a turn that goes on goes on in the text
abbrev pub IsWithin : ℕ → Next → Type 0
IsWithin end (Stops stack) = ⊤
IsWithin end (GoesOn q) = q.at ≤ end

-- both bound the greater
max-within : (a b n : ℕ) → a ≤ n → b ≤ n → max a b ≤ n
max-within a b n h k = grind (arith, nat_tests)

-- the position never goes back
at-kept : (a b : ℕ) → nat_lt a b ≡ false → max a b ≡ a
at-kept a b e = grind (arith, nat_tests)

-- and is the match's end where it advances
at-moved : (a b : ℕ) → a < b → max a b ≡ b
at-moved a b lt = grind (arith, nat_tests)

module _ (g : Grammar) where
  -- where a turn goes on fewer turns are left
  abbrev pub Falls : Place → Next → Type 0
  Falls p (Stops stack) = ⊤
  Falls p (GoesOn q) = left g q < left g p

  -- the same, at this position
  left-as : (q : Place) (n : ℕ) → q.at ≡ n → left g q ≡ (2 * g.rules + 2) * (g.end - n) + length (stack_of q) + 2 * unused (near n (stack_of q)) g.rules
  unfolding left
  left-as q n e = ap (λ k. (2 * g.rules + 2) * (g.end - k) + length (stack_of q) + 2 * unused (near k (stack_of q)) g.rules) e

  -- a match that advances pays for all
  advanced : (p : Place) (m : Match) (top : Open) (below : List Open) (anchor : Option ℕ) → p.at < m.end → m.end ≤ g.end → length below ≤ length (stack_of p) →
      left g (onward p m top below anchor) < left g p
  unfolding left
  advanced p m top below anchor lt within le =
      let moved = at-moved p.at m.end lt in
      let paid = pays (2 * g.rules + 2) (g.end - m.end) (g.end - p.at) (length (stack_of p)) (length (top ∷ below)) (unused (near m.end (top ∷ below)) g.rules) g.rules refl (omega arith) (omega arith) (unused-max (near m.end (top ∷ below)) g.rules) in
      let same = left-as (onward p m top below anchor) m.end moved in
      omega (arith, same, paid)

  -- where a match goes on
  onward-falls : (p : Place) (m : Match) (top : Open) (below : List Open) (anchor : Option ℕ) → m.end ≤ g.end → length below ≤ length (stack_of p) →
      (advances p m ≡ false → length below + 2 * unused (near p.at (top ∷ below)) g.rules < length p.below + 2 * unused (near p.at (stack_of p)) g.rules) →
      left g (onward p m top below anchor) < left g p
  unfolding left
  onward-falls p m top below anchor within le stays = by_test (advances p m) refl
    where
      by_test : (b : Bool) → advances p m ≡ b → left g (onward p m top below anchor) < left g p
      by_test true so = advanced p m top below anchor (grind (arith, nat_tests)) within le
      by_test false so =
          let less = stays so in
          let same = left-as (onward p m top below anchor) p.at (at-kept p.at m.end so) in
          omega (arith, same, less)

  -- the rule that is left is paid for
  popped-falls : (p : Place) (next : Open) (rest : List Open) → length rest < length p.below → is_at p.top.entry p.at ≡ false →
      length rest + 2 * unused (near p.at (next ∷ rest)) g.rules < length p.below + 2 * unused (near p.at (stack_of p)) g.rules
  popped-falls p next rest less far =
      let none : near p.at (stack_of p) ≡ [] = ap (λ b. cond b (p.top.frame.rule ∷ near p.at p.below) []) far in
      let all : unused (near p.at (stack_of p)) g.rules ≡ g.rules = ap (λ rules. unused rules g.rules) none ∙ unused-none g.rules in
      omega (arith, unused-max (near p.at (next ∷ rest)) g.rules)

  ended-falls : (p : Place) (m : Match) (below : List Open) → below ≡ p.below → m.end ≤ g.end → Falls p (ended g p m below).next
  ended-falls p m [] e within = tt
  ended-falls p m (next ∷ rest) e within = both (λ (t : Turn). Falls p t.next) (not (advances p m) && is_at p.top.entry p.at) _ _ (λ _. tt) (λ free.
      onward-falls p m next rest (anchor_of p.top.entry) within (omega (arith, ap length e)) (λ stays.
      popped-falls p next rest (omega (arith, ap length e)) (ap (λ b. not b && is_at p.top.entry p.at) (sym stays) ∙ free)))

  -- the rule that is opened is paid for
  pushed-falls : (p : Place) (rule : ℕ) (end_text : Option (List ℕ)) (scopes contents : List (List ℕ)) (at_eol : Bool) → rule < g.rules → has (near p.at (stack_of p)) rule ≡ false →
      length (stack_of p) + 2 * unused (near p.at (opened (framed rule end_text scopes contents at_eol) p.at p.anchor ∷ stack_of p)) g.rules < length p.below + 2 * unused (near p.at (stack_of p)) g.rules
  pushed-falls p rule end_text scopes contents at_eol known new =
      let top : Open = opened (framed rule end_text scopes contents at_eol) p.at p.anchor in
      let one : near p.at (top ∷ stack_of p) ≡ rule ∷ near p.at (stack_of p) = ap (λ b. cond b (rule ∷ near p.at (stack_of p)) []) (eq-eqb p.at p.at refl) in
      let fewer : unused (near p.at (top ∷ stack_of p)) g.rules < unused (near p.at (stack_of p)) g.rules = rw one (unused-less rule (near p.at (stack_of p)) g.rules new known) in
      omega arith

  entered-falls : (p : Place) (rule : ℕ) (m : Match) (end_text : Option (List ℕ)) (names content_names : List (List ℕ)) → m.end ≤ g.end → rule < g.rules → Falls p (entered g p rule m end_text names content_names).next
  entered-falls p rule m end_text names content_names within known = both (λ (t : Turn). Falls p t.next) (not (advances p m) && has (near p.at (stack_of p)) rule) _ _ (λ _. tt) (λ free.
      onward-falls p m _ (stack_of p) (Some m.end) within (omega arith) (λ stays.
      pushed-falls p rule end_text (p.top.frame.contents ++ names) ((p.top.frame.contents ++ names) ++ content_names) (m.end == g.end) known (ap (λ b. not b && has (near p.at (stack_of p)) rule) (sym stays) ∙ free)))

  begun-falls : (p : Place) (rule : ℕ) (m : Match) (end_text : Option (List ℕ)) (names content_names : List (List ℕ)) → m.end ≤ g.end → rule < g.rules → Falls p (begun g p rule m end_text names content_names).next
  begun-falls p rule m end_text names content_names within known = both (λ (t : Turn). Falls p t.next) (nat_lt (length (stack_of p)) most_open) _ _ (λ _. entered-falls p rule m end_text names content_names within known) (λ _. tt)

  matched-falls : (p : Place) (rule : ℕ) (m : Match) (names : List (List ℕ)) → m.end ≤ g.end → Falls p (matched g p rule m names).next
  matched-falls p rule m names within = both (λ (t : Turn). Falls p t.next) (advances p m) _ _ (λ so.
      onward-falls p m p.top p.below p.anchor within (omega arith) (λ stays. absurd cc)) (λ _. tt)

  by_winner-falls : (p : Place) (w : Winner) → IsWinnerWithin g.rules g.end w → Falls p (by_winner g p w).next
  by_winner-falls p Nothing h = tt
  by_winner-falls p (Ends m) h = ended-falls p m p.below refl h.end
  by_winner-falls p (Begins rule m) h = begun-falls p rule m (g.end_text rule m) (g.names rule m) (g.content_names rule m) h.0.end h.1
  by_winner-falls p (Matches rule m) h = matched-falls p rule m (g.names rule m) h.end

  ended-within : (p : Place) (m : Match) (below : List Open) → p.at ≤ g.end → m.end ≤ g.end → IsWithin g.end (ended g p m below).next
  ended-within p m [] at within = tt
  ended-within p m (next ∷ rest) at within = both (λ (t : Turn). IsWithin g.end t.next) (not (advances p m) && is_at p.top.entry p.at) _ _ (λ _. tt) (λ _. max-within p.at m.end g.end at within)

  by_winner-within : (p : Place) (w : Winner) → p.at ≤ g.end → IsWinnerWithin g.rules g.end w → IsWithin g.end (by_winner g p w).next
  by_winner-within p Nothing at h = tt
  by_winner-within p (Ends m) at h = ended-within p m p.below at h.end
  by_winner-within p (Begins rule m) at h =
      both (λ (t : Turn). IsWithin g.end t.next) (nat_lt (length (stack_of p)) most_open) _ _ (λ _. both (λ (t : Turn). IsWithin g.end t.next) (not (advances p m) && has (near p.at (stack_of p)) rule) _ _ (λ _. tt) (λ _. max-within p.at m.end g.end at h.0.end)) (λ _. tt)
  by_winner-within p (Matches rule m) at h = both (λ (t : Turn). IsWithin g.end t.next) (advances p m) _ _ (λ _. max-within p.at m.end g.end at h.end) (λ _. tt)

  pub turn-within : FindsWithin g → (p : Place) → p.at ≤ g.end → IsWithin g.end (turn g p).next
  turn-within finds p at = by_winner-within p (asked p g.winner) at (finds _ _ _ _ _)

  pub turn-falls : FindsWithin g → (p : Place) → Falls p (turn g p).next
  turn-falls finds p = by_winner-falls p (asked p g.winner) (finds _ _ _ _ _)

  -- two that agree where fewer turns are left give the same after a turn
  after-same : (go run : Place → Outcome) (p : Place) (part : Part) (n : Next) → Falls p n → ((q : Place) → left g q < left g p → go q ≡ run q) → after go part n ≡ after run part n
  after-same go run p part (Stops stack) h same = refl
  after-same go run p part (GoesOn q) h same =
      let P : Outcome → Outcome = λ o. record { part = joined part o.part; stack = o.stack } in
      ap P (same q h)

  -- whatever satisfies the equation is the run of any number of turns that is large enough
  runs-only : FindsWithin g → (run : Place → Outcome) → ((p : Place) → run p ≡ after run (turn g p).part (turn g p).next) → (n : ℕ) (p : Place) → left g p < n → runs g n p ≡ run p
  unfolding runs
  runs-only finds run eq zero p lt = absurd (omega arith)
  runs-only finds run eq (suc n) p lt =
      after-same (runs g n) run p _ _ (turn-falls finds p) (λ q less. runs-only finds run eq n q (omega arith)) ∙ sym (eq p)

  -- more turns than are left do not matter
  runs-enough : FindsWithin g → (n m : ℕ) (p : Place) → left g p < n → left g p < m → runs g n p ≡ runs g m p
  unfolding runs
  runs-enough finds zero m p lt more = absurd (omega arith)
  runs-enough finds (suc n) zero p lt more = absurd (omega arith)
  runs-enough finds (suc n) (suc m) p lt more =
      after-same (runs g n) (runs g m) p _ _ (turn-falls finds p) (λ q less. runs-enough finds n m q (omega arith) (omega arith))

  pub line_run-turn : FindsWithin g → (p : Place) → line_run g p ≡ after (line_run g) (turn g p).part (turn g p).next
  unfolding runs line_run
  line_run-turn finds p =
      after-same (runs g (left g p)) (line_run g) p _ _ (turn-falls finds p) (λ q less. runs-enough finds (left g p) (suc (left g q)) q less (omega arith))

  pub is_line_run : FindsWithin g → IsLineRun g
  unfolding line_run
  is_line_run finds = record {
    equation = line_run-turn finds;
    only = λ run eq p. sym (runs-only finds run eq (suc (left g p)) p (omega arith));
  }

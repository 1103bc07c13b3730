-- What is kept of a selector's tokens, against the grammar of selectors.
--
-- Tokens that fit, one after the other, can always be completed; and each token of a selector fits.
use Rattle.std.proofs.Common.{◌≡◌, ℕ, zero, suc, ◌+◌, ◌-◌, ◌<◌, ◌≤◌, ◌⊎◌, inl, inr, Bool, true, false, not, ◌&&◌, List, [], ◌∷◌, ◌++◌, length, take, refl, ap, sym, ◌∙◌, subst, arith, if◌then◌else◌, append_assoc, append-nil}
use Rattle.std.specs.Prelude.{replicate, nat_eq, codes}
use Rattle.std.proofs.lemmas.Bool.Decides.{nat_tests}
use Rattle.tm_selector.specs.declared.tokens.Sign.TheVariants.{Left, Right, Minus, Open, Close, Bar, Comma}
use Rattle.tm_selector.specs.declared.tokens.Token.{Token}
use Rattle.tm_selector.specs.declared.tokens.Token.TheVariants.{Word, Mark}
use Rattle.tm_selector.specs.declared.syntax.Behind.{Behind}
use Rattle.tm_selector.specs.declared.syntax.Behind.TheVariants.{Start, Operand, Operator}
use Rattle.tm_selector.specs.Syntax.{ends_operand, behind_of, open_behind, fits, fitting, unless_last, trimmed, groups_behind, closed, kept}
use Rattle.tm_selector.specs.Grammar.{IsOperand, name, minus, group, IsConjunction, one, more, IsGroup, choice, barred, listed, IsAlternative, plain, before, after, IsSelector, last, next, CanBegin, IsLongest}

-- the tokens fit one after the other, from one state to another
AreFit : Behind → ℕ → List Token → Behind → ℕ → Type 0
AreFit b g [] b' g' = (b ≡ b') × (g ≡ g')
AreFit b g (t ∷ ts) b' g' = (fits b g t ≡ true) × AreFit (behind_of g t) (open_behind g t) ts b' g'

fit-append : (xs ys : List Token) (b : Behind) (g : ℕ) (b' : Behind) (g' : ℕ) (b'' : Behind) (g'' : ℕ) → AreFit b g xs b' g' → AreFit b' g' ys b'' g'' → AreFit b g (xs ++ ys) b'' g''
unfolding AreFit
fit-append [] ys b g b' g' b'' g'' f h = subst (λ (n : ℕ). AreFit b n ys b'' g'') (sym f.1) (subst (λ (c : Behind). AreFit c g' ys b'' g'') (sym f.0) h)
fit-append (t ∷ xs) ys b g b' g' b'' g'' f h = (f.0, fit-append xs ys (behind_of g t) (open_behind g t) b' g' b'' g'' f.1 h)

-- inside a group
no-zero : (g : ℕ) → nat_eq (suc g) 0 ≡ false
no-zero g = grind (arith, nat_tests)

close-fits : (g : ℕ) → fits Operand (suc g) (Mark Close) ≡ true
close-fits g = ap not (no-zero g)

bar-fits : (g : ℕ) → fits Operand (suc g) (Mark Bar) ≡ true
bar-fits g = ap not (no-zero g)

comma-inside : (g : ℕ) → behind_of (suc g) (Mark Comma) ≡ Operator
comma-inside g = ap (λ (c : Bool). if c then Start else Operator) (no-zero g)

-- each token of a selector fits
mutual
  unfolding AreFit

  fit-operand : {ts : List Token} → IsOperand ts → (b : Behind) (g : ℕ) → AreFit b g ts Operand g
  fit-operand name b g = (refl, (refl, refl))
  fit-operand (minus o) b g = (refl, fit-operand o Operator g)
  fit-operand (group {xs} h) b g =
      let up : g + 1 ≡ suc g = omega arith in (
        refl,
        subst (λ (n : ℕ). AreFit Operator n (xs ++ Mark Close ∷ []) Operand g) (sym up)
            (fit-append xs (Mark Close ∷ []) Operator (suc g) Operand (suc g) Operand g (fit-group h Operator g) (close-fits g, (refl, omega arith))),
      )

  fit-conjunction : {ts : List Token} → IsConjunction ts → (b : Behind) (g : ℕ) → AreFit b g ts Operand g
  fit-conjunction (one o) b g = fit-operand o b g
  fit-conjunction (more {xs} {ys} o c) b g = fit-append xs ys b g Operand g Operand g (fit-operand o b g) (fit-conjunction c Operand g)

  fit-group : {ts : List Token} → IsGroup ts → (b : Behind) (g : ℕ) → AreFit b (suc g) ts Operand (suc g)
  fit-group (choice c) b g = fit-conjunction c b (suc g)
  fit-group (barred {xs} {ys} c h) b g = fit-append xs (Mark Bar ∷ ys) b (suc g) Operand (suc g) Operand (suc g) (fit-conjunction c b (suc g)) (bar-fits g, fit-group h Operator g)
  fit-group (listed {xs} {ys} c h) b g =
      fit-append xs (Mark Comma ∷ ys) b (suc g) Operand (suc g) Operand (suc g) (fit-conjunction c b (suc g))
      (refl, subst (λ (d : Behind). AreFit d (suc g) ys Operand (suc g)) (sym (comma-inside g)) (fit-group h Operator g))

fit-alternative : {ts : List Token} → IsAlternative ts → AreFit Start 0 ts Operand 0
unfolding AreFit
fit-alternative (plain c) = fit-conjunction c Start 0
fit-alternative (before c) = (refl, fit-conjunction c Operator 0)
fit-alternative (after c) = (refl, fit-conjunction c Operator 0)

fit-selector : {ts : List Token} → IsSelector ts → AreFit Start 0 ts Operand 0
unfolding AreFit
fit-selector (last a) = fit-alternative a
fit-selector (next {xs} {ys} a s) = fit-append xs (Mark Comma ∷ ys) Start 0 Operand 0 Operand 0 (fit-alternative a) (refl, fit-selector s)

-- what fits is kept
reach : (m : ℕ) (ts rest : List Token) (b : Behind) (g : ℕ) (b' : Behind) (g' : ℕ) → AreFit b g (take m ts ++ rest) b' g' → m ≤ length ts → m ≤ fitting b g ts
unfolding AreFit
reach zero ts rest b g b' g' f le = omega arith
reach (suc m) [] rest b g b' g' f le = absurd (omega arith)
reach (suc m) (t ∷ ts) rest b g b' g' f le =
    let k : m ≤ fitting (behind_of g t) (open_behind g t) ts = reach m ts rest (behind_of g t) (open_behind g t) b' g' f.1 (omega arith) in
    subst (λ (c : Bool). suc m ≤ (if c then 1 + fitting (behind_of g t) (open_behind g t) ts else 0)) (sym f.0) (omega (arith, k))

fitting-within : (b : Behind) (g : ℕ) (ts : List Token) → fitting b g ts ≤ length ts
fitting-within b g [] = omega arith
fitting-within b g (t ∷ ts) = go (fits b g t) (fitting-within (behind_of g t) (open_behind g t) ts)
  where
    go : (c : Bool) → fitting (behind_of g t) (open_behind g t) ts ≤ length ts → (if c then 1 + fitting (behind_of g t) (open_behind g t) ts else 0) ≤ suc (length ts)
    go true k = omega (arith, k)
    go false k = omega arith

-- what is kept fits
record Ends (b : Behind) (g : ℕ) (ts : List Token) : Type 0 where
  behind : Behind
  groups : ℕ
  fit : AreFit b g ts behind groups

kept-fit : (b : Behind) (g : ℕ) (ts : List Token) → Ends b g (take (fitting b g ts) ts)
unfolding AreFit
kept-fit b g [] = record { behind = b; groups = g; fit = (refl, refl) }
kept-fit b g (t ∷ ts) = go (fits b g t) refl (kept-fit (behind_of g t) (open_behind g t) ts)
  where
    go : (c : Bool) → fits b g t ≡ c → Ends (behind_of g t) (open_behind g t) (take (fitting (behind_of g t) (open_behind g t) ts) ts) →
        Ends b g (take (if c then 1 + fitting (behind_of g t) (open_behind g t) ts else 0) (t ∷ ts))
    go true e k =
        let up : 1 + fitting (behind_of g t) (open_behind g t) ts ≡ suc (fitting (behind_of g t) (open_behind g t) ts) = omega arith in
        subst (λ (n : ℕ). Ends b g (take n (t ∷ ts))) (sym up) (record { behind = k.behind; groups = k.groups; fit = (e, k.fit) })
    go false e k = record { behind = b; groups = g; fit = (refl, refl) }

-- what may stand where an operand has to come, behind an operand, and at the start of an alternative
mutual
  data IsMore : ℕ → List Token → Type 0 where
    operand : {g : ℕ} {xs ys : List Token} → IsOperand xs → IsTail g ys → IsMore g (xs ++ ys)

  data IsTail : ℕ → List Token → Type 0 where
    end : IsTail zero []
    comma : {ts : List Token} → IsFirst zero ts → IsTail zero (Mark Comma ∷ ts)
    close : {g : ℕ} {ts : List Token} → IsTail g ts → IsTail (suc g) (Mark Close ∷ ts)
    bar : {g : ℕ} {ts : List Token} → IsMore (suc g) ts → IsTail (suc g) (Mark Bar ∷ ts)
    inside : {g : ℕ} {ts : List Token} → IsMore (suc g) ts → IsTail (suc g) (Mark Comma ∷ ts)
    further : {g : ℕ} {ts : List Token} → IsMore g ts → IsTail g ts

  data IsFirst : ℕ → List Token → Type 0 where
    neither : {g : ℕ} {ts : List Token} → IsMore g ts → IsFirst g ts
    left : {g : ℕ} {ts : List Token} → IsMore g ts → IsFirst g (Mark Left ∷ ts)
    right : {g : ℕ} {ts : List Token} → IsMore g ts → IsFirst g (Mark Right ∷ ts)

IsRest : Behind → ℕ → List Token → Type 0
IsRest Start g ts = IsFirst g ts
IsRest Operand g ts = IsTail g ts
IsRest Operator g ts = IsMore g ts

-- a group, and what stands behind its end
record IsGrouped (g : ℕ) (ts : List Token) : Type 0 where
  xs : List Token
  ys : List Token
  is_group : IsGroup xs
  tail : IsTail g ys
  parts : ts ≡ xs ++ Mark Close ∷ ys

operand-group : {xs ys : List Token} → IsOperand xs → IsGroup ys → IsGroup (xs ++ ys)
operand-group o (choice c) = choice (more o c)
operand-group {xs} o (barred {xs = ys} {ys = zs} c h) = subst IsGroup (append_assoc xs ys (Mark Bar ∷ zs)) (barred (more o c) h)
operand-group {xs} o (listed {xs = ys} {ys = zs} c h) = subst IsGroup (append_assoc xs ys (Mark Comma ∷ zs)) (listed (more o c) h)

mutual
  group-more : {n : ℕ} {ts : List Token} → IsMore n ts → (g : ℕ) → n ≡ suc g → IsGrouped g ts
  group-more (operand {xs} {ys} o t) g e = group-tail t xs o g e

  group-tail : {n : ℕ} {ys : List Token} → IsTail n ys → (xs : List Token) → IsOperand xs → (g : ℕ) → n ≡ suc g → IsGrouped g (xs ++ ys)
  group-tail end xs o g e = absurd (omega (arith, e))
  group-tail (comma f) xs o g e = absurd (omega (arith, e))
  group-tail (close {g = n} {ts} t) xs o g e =
      let same : n ≡ g = omega (arith, e) in
      record { xs = xs; ys = ts; is_group = choice (one o); tail = subst (λ (m : ℕ). IsTail m ts) same t; parts = refl }
  group-tail (bar {ts} m) xs o g e =
      let r = group-more m g e in
      record { xs = xs ++ Mark Bar ∷ r.xs; ys = r.ys; is_group = barred (one o) r.is_group; tail = r.tail; parts = ap (λ zs. xs ++ Mark Bar ∷ zs) r.parts ∙ sym (append_assoc xs (Mark Bar ∷ r.xs) (Mark Close ∷ r.ys)) }
  group-tail (inside {ts} m) xs o g e =
      let r = group-more m g e in
      record { xs = xs ++ Mark Comma ∷ r.xs; ys = r.ys; is_group = listed (one o) r.is_group; tail = r.tail; parts = ap (λ zs. xs ++ Mark Comma ∷ zs) r.parts ∙ sym (append_assoc xs (Mark Comma ∷ r.xs) (Mark Close ∷ r.ys)) }
  group-tail (further {ts} m) xs o g e =
      let r = group-more m g e in
      record { xs = xs ++ r.xs; ys = r.ys; is_group = operand-group o r.is_group; tail = r.tail; parts = ap (λ zs. xs ++ zs) r.parts ∙ sym (append_assoc xs r.xs (Mark Close ∷ r.ys)) }

any-rest : (b : Behind) (g : ℕ) (ts : List Token) → IsMore g ts → IsRest b g ts
unfolding IsRest
any-rest Start g ts m = neither m
any-rest Operand g ts m = further m
any-rest Operator g ts m = m

minus-more : {g : ℕ} {ts : List Token} → IsMore g ts → IsMore g (Mark Minus ∷ ts)
minus-more (operand o t) = operand (minus o) t

open-more : (g : ℕ) (ts : List Token) → IsGrouped g ts → IsMore g (Mark Open ∷ ts)
open-more g ts r =
    subst (λ (zs : List Token). IsMore g (Mark Open ∷ zs)) (append_assoc r.xs (Mark Close ∷ []) r.ys ∙ sym r.parts) (operand (group r.is_group) r.tail)

-- a token that fits, before what may stand behind it
rest-step : (b : Behind) (g : ℕ) (t : Token) (ts : List Token) → fits b g t ≡ true → IsRest (behind_of g t) (open_behind g t) ts → IsRest b g (t ∷ ts)
unfolding IsRest
rest-step b g (Word n) ts f r = any-rest b g (Word n ∷ ts) (operand name r)
rest-step b g (Mark Minus) ts f r = any-rest b g (Mark Minus ∷ ts) (minus-more r)
rest-step b g (Mark Open) ts f r = any-rest b g (Mark Open ∷ ts) (open-more g ts (group-more r g (omega arith)))
rest-step Start g (Mark Left) ts f r = left r
rest-step Operand g (Mark Left) ts f r = cc
rest-step Operator g (Mark Left) ts f r = cc
rest-step Start g (Mark Right) ts f r = right r
rest-step Operand g (Mark Right) ts f r = cc
rest-step Operator g (Mark Right) ts f r = cc
rest-step Start g (Mark Close) ts f r = cc
rest-step Operator g (Mark Close) ts f r = cc
rest-step Operand zero (Mark Close) ts f r = cc
rest-step Operand (suc g) (Mark Close) ts f r = let down : suc g - 1 ≡ g = omega arith in close (subst (λ (n : ℕ). IsTail n ts) down r)
rest-step Start g (Mark Bar) ts f r = cc
rest-step Operator g (Mark Bar) ts f r = cc
rest-step Operand zero (Mark Bar) ts f r = cc
rest-step Operand (suc g) (Mark Bar) ts f r = bar r
rest-step Start g (Mark Comma) ts f r = cc
rest-step Operator g (Mark Comma) ts f r = cc
rest-step Operand zero (Mark Comma) ts f r = comma r
rest-step Operand (suc g) (Mark Comma) ts f r = inside (subst (λ (d : Behind). IsRest d (suc g) ts) (comma-inside g) r)

fit-rest : (ts rest : List Token) (b : Behind) (g : ℕ) (b' : Behind) (g' : ℕ) → AreFit b g ts b' g' → IsRest b' g' rest → IsRest b g (ts ++ rest)
unfolding AreFit
fit-rest [] rest b g b' g' f r = subst (λ (n : ℕ). IsRest b n rest) (sym f.1) (subst (λ (c : Behind). IsRest c g' rest) (sym f.0) r)
fit-rest (t ∷ ts) rest b g b' g' f r = rest-step b g t (ts ++ rest) f.0 (fit-rest ts rest (behind_of g t) (open_behind g t) b' g' f.1 r)

-- something may always stand there
closing : ℕ → List Token
closing zero = []
closing (suc g) = Mark Close ∷ closing g

closing-tail : (g : ℕ) → IsTail g (closing g)
unfolding closing
closing-tail zero = end
closing-tail (suc g) = close (closing-tail g)

record HasRest (b : Behind) (g : ℕ) : Type 0 where
  rest : List Token
  is_rest : IsRest b g rest

has-rest : (b : Behind) (g : ℕ) → HasRest b g
has-rest b g = record { rest = Word (codes "a") ∷ closing g; is_rest = any-rest b g (Word (codes "a") ∷ closing g) (operand name (closing-tail g)) }

-- at the start of a selector, outside groups, what may stand is a selector
record IsSplit (ts : List Token) : Type 0 where
  xs : List Token
  ys : List Token
  is_conjunction : IsConjunction xs
  behind : (ys ≡ []) ⊎ ((zs : List Token) × IsSelector zs × (ys ≡ Mark Comma ∷ zs))
  parts : ts ≡ xs ++ ys

split-selector : (side : List Token) → ((xs : List Token) → IsConjunction xs → IsAlternative (side ++ xs)) → (ts : List Token) → IsSplit ts → IsSelector (side ++ ts)
split-selector side alternative ts s = go s.behind
  where
    go : ((s.ys ≡ []) ⊎ ((zs : List Token) × IsSelector zs × (s.ys ≡ Mark Comma ∷ zs))) → IsSelector (side ++ ts)
    go (inl e) =
        let whole : ts ≡ s.xs = s.parts ∙ ap (λ zs. s.xs ++ zs) e ∙ append-nil s.xs in
        subst (λ (zs : List Token). IsSelector (side ++ zs)) (sym whole) (last (alternative s.xs s.is_conjunction))
    go (inr h) =
        let whole : ts ≡ s.xs ++ Mark Comma ∷ h.0 = s.parts ∙ ap (λ zs. s.xs ++ zs) h.2 in
        subst IsSelector (append_assoc side s.xs (Mark Comma ∷ h.0) ∙ sym (ap (λ zs. side ++ zs) whole)) (next (alternative s.xs s.is_conjunction) h.1)

mutual
  split-more : {n : ℕ} {ts : List Token} → IsMore n ts → n ≡ 0 → IsSplit ts
  split-more (operand {xs} {ys} o t) e = split-tail t xs o e

  split-tail : {n : ℕ} {ys : List Token} → IsTail n ys → (xs : List Token) → IsOperand xs → n ≡ 0 → IsSplit (xs ++ ys)
  split-tail end xs o e = record { xs = xs; ys = []; is_conjunction = one o; behind = inl refl; parts = refl }
  split-tail (comma {ts} f) xs o e = record { xs = xs; ys = Mark Comma ∷ ts; is_conjunction = one o; behind = inr (ts, first-selector f refl, refl); parts = refl }
  split-tail (close t) xs o e = absurd (omega (arith, e))
  split-tail (bar m) xs o e = absurd (omega (arith, e))
  split-tail (inside m) xs o e = absurd (omega (arith, e))
  split-tail (further {ts} m) xs o e =
      let s = split-more m e in
      record { xs = xs ++ s.xs; ys = s.ys; is_conjunction = more o s.is_conjunction; behind = s.behind; parts = ap (λ zs. xs ++ zs) s.parts ∙ sym (append_assoc xs s.xs s.ys) }

  first-selector : {n : ℕ} {ts : List Token} → IsFirst n ts → n ≡ 0 → IsSelector ts
  first-selector (neither {ts} m) e = split-selector [] (λ xs c. plain c) ts (split-more m e)
  first-selector (left {ts} m) e = split-selector (Mark Left ∷ []) (λ xs c. before c) ts (split-more m e)
  first-selector (right {ts} m) e = split-selector (Mark Right ∷ []) (λ xs c. after c) ts (split-more m e)

fit-begins : (ts : List Token) → Ends Start 0 ts → CanBegin ts
unfolding IsRest
fit-begins ts k =
    let h = has-rest k.behind k.groups in
    (h.rest, first-selector (fit-rest ts h.rest Start 0 k.behind k.groups k.fit h.is_rest) refl)

pub kept-longest : (tokens : List Token) → IsLongest tokens (fitting Start 0 tokens)
kept-longest tokens = record {
  within = fitting-within Start 0 tokens;
  begins = fit-begins (take (fitting Start 0 tokens) tokens) (kept-fit Start 0 tokens);
  longest = λ m lt le h. absurd (omega (arith, lt, reach m tokens h.0 Start 0 Operand 0 (fit-selector h.1) le));
}

-- tokens that fit and end outside groups, behind an operand
whole-selector : (ts : List Token) → AreFit Start 0 ts Operand 0 → IsSelector ts
unfolding IsRest
whole-selector ts f = subst IsSelector (append-nil ts) (first-selector (fit-rest ts [] Start 0 Operand 0 f end) refl)

behind-end : (t : Token) (g : ℕ) → ends_operand t ≡ true → behind_of g t ≡ Operand
behind-end (Word n) g e = refl
behind-end (Mark Close) g e = refl
behind-end (Mark Left) g e = cc
behind-end (Mark Right) g e = cc
behind-end (Mark Minus) g e = cc
behind-end (Mark Open) g e = cc
behind-end (Mark Bar) g e = cc
behind-end (Mark Comma) g e = cc

-- nothing, or what fits and ends behind an operand
IsTrimmed : Behind → ℕ → List Token → Type 0
IsTrimmed b g ts = (ts ≡ []) ⊎ ((g' : ℕ) × AreFit b g ts Operand g')

trimmed-fit : (ts : List Token) (b : Behind) (g : ℕ) (b' : Behind) (g' : ℕ) → AreFit b g ts b' g' → IsTrimmed b g (trimmed ts)
unfolding AreFit IsTrimmed
trimmed-fit [] b g b' g' f = inl refl
trimmed-fit (t ∷ ts) b g b' g' f = go (trimmed ts) (trimmed-fit ts (behind_of g t) (open_behind g t) b' g' f.1)
  where
    by : (c : Bool) → ends_operand t ≡ c → IsTrimmed b g (if c then t ∷ [] else [])
    by true e = inr (open_behind g t, (f.0, (behind-end t g e, refl)))
    by false e = inl refl

    go : (xs : List Token) → IsTrimmed (behind_of g t) (open_behind g t) xs → IsTrimmed b g (unless_last t xs)
    go [] h = by (ends_operand t) refl
    go (x ∷ xs) (inl e) = cc
    go (x ∷ xs) (inr h) = inr (h.0, (f.0, h.1))

groups-fit : (ts : List Token) (b : Behind) (g : ℕ) (b' : Behind) (g' : ℕ) → AreFit b g ts b' g' → groups_behind g ts ≡ g'
unfolding AreFit
groups-fit [] b g b' g' f = f.1
groups-fit (t ∷ ts) b g b' g' f = groups-fit ts (behind_of g t) (open_behind g t) b' g' f.1

closes-fit : (g : ℕ) → AreFit Operand g (replicate g (Mark Close)) Operand 0
unfolding AreFit
closes-fit zero = (refl, refl)
closes-fit (suc g) = (close-fits g, let down : suc g - 1 ≡ g = omega arith in subst (λ (n : ℕ). AreFit Operand n (replicate g (Mark Close)) Operand 0) (sym down) (closes-fit g))

closed-selector : (ts : List Token) → IsTrimmed Start 0 ts → (closed ts ≡ []) ⊎ IsSelector (closed ts)
unfolding IsTrimmed
closed-selector ts (inl e) = inl (ap closed e)
closed-selector ts (inr h) =
    let count : groups_behind 0 ts ≡ h.0 = groups-fit ts Start 0 Operand h.0 h.1 in
    inr (whole-selector (closed ts) (fit-append ts (replicate (groups_behind 0 ts) (Mark Close)) Start 0 Operand h.0 Operand 0 h.1
    (subst (λ (n : ℕ). AreFit Operand h.0 (replicate n (Mark Close)) Operand 0) (sym count) (closes-fit h.0))))

pub read-selector : (tokens : List Token) → (closed (trimmed (kept tokens)) ≡ []) ⊎ IsSelector (closed (trimmed (kept tokens)))
read-selector tokens =
    let k = kept-fit Start 0 tokens in
    closed-selector (trimmed (kept tokens)) (trimmed-fit (kept tokens) Start 0 k.behind k.groups k.fit)

-- a selector is read as it stands
take-all : (ts : List Token) → take (length ts) ts ≡ ts
take-all [] = refl
take-all (t ∷ ts) = ap (λ xs. t ∷ xs) (take-all ts)

end-behind : (t : Token) (g : ℕ) → behind_of g t ≡ Operand → ends_operand t ≡ true
end-behind (Word n) g e = refl
end-behind (Mark Close) g e = refl
end-behind (Mark Left) g e = cc
end-behind (Mark Right) g e = cc
end-behind (Mark Minus) g e = cc
end-behind (Mark Open) g e = cc
end-behind (Mark Bar) g e = cc
end-behind (Mark Comma) zero e = cc
end-behind (Mark Comma) (suc g) e = let c = comma-inside g in cc

untrimmed : (ts : List Token) (b : Behind) (g g' : ℕ) → AreFit b g ts Operand g' → trimmed ts ≡ ts
unfolding AreFit
untrimmed [] b g g' f = refl
untrimmed (t ∷ []) b g g' f = ap (λ (c : Bool). if c then t ∷ [] else []) (end-behind t g f.1.0)
untrimmed (t ∷ u ∷ ts) b g g' f = ap (unless_last t) (untrimmed (u ∷ ts) (behind_of g t) (open_behind g t) g' f.1)

pub selector-stands : (tokens : List Token) → IsSelector tokens → closed (trimmed (kept tokens)) ≡ tokens
selector-stands tokens s =
    let f : AreFit Start 0 tokens Operand 0 = fit-selector s in
    let all : fitting Start 0 tokens ≡ length tokens =
    omega (arith, fitting-within Start 0 tokens, reach (length tokens) tokens [] Start 0 Operand 0 (subst (λ (ts : List Token). AreFit Start 0 ts Operand 0) (sym (append-nil (take (length tokens) tokens) ∙ take-all tokens)) f) (omega arith)) in
    let whole : kept tokens ≡ tokens = ap (λ n. take n tokens) all ∙ take-all tokens in
    ap (λ ts. closed (trimmed ts)) whole ∙ ap closed (untrimmed tokens Start 0 0 f)
    ∙ ap (λ n. tokens ++ replicate n (Mark Close)) (groups-fit tokens Start 0 Operand 0 f) ∙ append-nil tokens

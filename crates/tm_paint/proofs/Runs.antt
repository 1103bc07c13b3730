-- The runs of marks are the runs of what is painted at each place.
use Rattle.std.proofs.Common.{◌≡◌, ℕ, zero, suc, ◌+◌, ◌-◌, ◌<◌, ◌≤◌, Bool, true, false, cond, nat_lt, List, [], ◌∷◌, ◌++◌, length, drop, get_or, Option, Some, None, refl, ap, sym, ◌∙◌, arith, eq-eqb, inl, inr, ◌⊎◌, add-one, drop-cons, append_assoc}
use Rattle.std.proofs.lemmas.List.{append-nil, drop_all}
use Rattle.std.specs.Prelude.{◌&&◌, max}
use Rattle.std.proofs.lemmas.Bool.Decides.{nat_tests}
use Rattle.tm_defs.specs.declared.tokens.Token.{Token}
use Rattle.tm_paint.specs.declared.painter.Painted.{Painted}
use Rattle.tm_paint.specs.Painted.{Piece, Mark, marks, scopes_at, marked, starts, runs_from, runs_of, meta_at, furthest}
use Rattle.tm_paint.proofs.Pieces.{mark_runs}

same_start : (m at : ℕ) → starts (Some m) at m ≡ []
same_start m at = ap (λ b. cond b [] (record { start = at; meta = m } ∷ [])) (eq-eqb m m refl)

-- metadata that stays the same gives one token at most
runs-same : (f : ℕ → ℕ) (m k : ℕ) (before : Option ℕ) (at n rest : ℕ) → n ≡ k + rest → ((o : ℕ) → at ≤ o → o < at + suc k → f o ≡ m) →
    runs_from f before at (suc n) ≡ starts before at m ++ runs_from f (Some m) (at + suc k) rest
unfolding runs_from
runs-same f m zero before at n rest e same =
    let here : f at ≡ m = same at (omega arith) (omega arith) in
    let size : n ≡ rest = omega arith in
    rw (here, size) refl
runs-same f m (suc k) before at n rest e same =
    let here : f at ≡ m = same at (omega arith) (omega arith) in
    let size : n ≡ suc (k + rest) = omega arith in
    let further = runs-same f m k (Some m) (at + 1) (k + rest) rest refl (λ o low high. same o (omega arith) (omega arith)) in
    let place : (at + 1) + suc k ≡ at + suc (suc k) = omega arith in
    rw (here, size) (ap (λ l. starts before at m ++ l) (further ∙ ap (λ l. l ++ runs_from f (Some m) ((at + 1) + suc k) rest) (same_start m (at + 1)) ∙ ap (λ x. runs_from f (Some m) x rest) place))

-- a piece gives one token at most, and then the runs behind it
runs-piece : (f : ℕ → ℕ) (m : ℕ) (before : Option ℕ) (at end len : ℕ) → at < end → at < len → ((o : ℕ) → at ≤ o → o < end → f o ≡ m) →
    runs_from f before at (len - at) ≡ starts before at m ++ runs_from f (Some m) end (len - end)
unfolding runs_from
runs-piece f m before at end len lt low same = go (nat_lt len end) refl
  where
    go : (b : Bool) → nat_lt len end ≡ b → runs_from f before at (len - at) ≡ starts before at m ++ runs_from f (Some m) end (len - end)
    go true e =
        let beyond : len < end = grind (arith, nat_tests) in
        let none : len - end ≡ 0 = omega arith in
        let size : len - at ≡ suc (len - at - 1) = omega arith in
        rw (size, none) (runs-same f m (len - at - 1) before at (len - at - 1) 0 (omega arith) (λ o from to. same o from (omega arith)))
    go false e =
        let reached : end ≤ len = grind (arith, nat_tests) in
        let size : len - at ≡ suc (len - at - 1) = omega arith in
        let place : at + suc (end - at - 1) ≡ end = omega arith in
        rw size (runs-same f m (end - at - 1) before at (len - at - 1) (len - end) (omega arith) (λ o from to. same o from (omega arith))
        ∙ ap (λ x. starts before at m ++ runs_from f (Some m) x (len - end)) place)

mark_runs-none : (before : Option ℕ) (at len : ℕ) (ps : List Mark) → len ≤ at → mark_runs before at len ps ≡ []
unfolding mark_runs
mark_runs-none before at len [] le = refl
mark_runs-none before at len (p ∷ ps) le = go (nat_lt at p.end) (nat_lt at len) refl (mark_runs-none before at len ps le)
  where
    go : (a b : Bool) → nat_lt at len ≡ b → mark_runs before at len ps ≡ [] → cond (a && b) (starts before at p.meta ++ mark_runs (Some p.meta) p.end len ps) (mark_runs before at len ps) ≡ []
    go true true e ih = absurd (grind (arith, nat_tests))
    go true false e ih = ih
    go false b e ih = ih

later : (p : Mark) (ps : List Mark) (o : ℕ) → p.end ≤ o → meta_at (p ∷ ps) o ≡ meta_at ps o
later p ps o le = let e : nat_lt o p.end ≡ false = grind (arith, nat_tests) in ap (λ b. cond b p.meta (meta_at ps o)) e

within : (p : Mark) (ps : List Mark) (o : ℕ) → o < p.end → meta_at (p ∷ ps) o ≡ p.meta
within p ps o lt = let e : nat_lt o p.end ≡ true = grind (arith, nat_tests) in ap (λ b. cond b p.meta (meta_at ps o)) e

pub mark_runs-runs : (f : ℕ → ℕ) (ps : List Mark) (before : Option ℕ) (at len : ℕ) → ((o : ℕ) → at ≤ o → f o ≡ meta_at ps o) → len ≤ max at (furthest ps) →
    mark_runs before at len ps ≡ runs_from f before at (len - at)
unfolding mark_runs runs_from
mark_runs-runs f [] before at len same reach = let none : len - at ≡ 0 = omega arith in rw none refl
mark_runs-runs f (p ∷ ps) before at len same reach =
    go (nat_lt at p.end) (nat_lt at len) refl refl
    (λ lt. mark_runs-runs f ps (Some p.meta) p.end len (λ o le. same o (omega arith) ∙ later p ps o le) (omega arith))
    (λ le. mark_runs-runs f ps before at len (λ o low. same o low ∙ later p ps o (omega arith)) (omega arith))
  where
    go : (a b : Bool) → nat_lt at p.end ≡ a → nat_lt at len ≡ b →
        (at < p.end → mark_runs (Some p.meta) p.end len ps ≡ runs_from f (Some p.meta) p.end (len - p.end)) →
        (p.end ≤ at → mark_runs before at len ps ≡ runs_from f before at (len - at)) →
        cond (a && b) (starts before at p.meta ++ mark_runs (Some p.meta) p.end len ps) (mark_runs before at len ps) ≡ runs_from f before at (len - at)
    go true true e1 e2 paint skip =
        let lt : at < p.end = grind (arith, nat_tests) in
        let low : at < len = grind (arith, nat_tests) in
        ap (λ l. starts before at p.meta ++ l) (paint lt) ∙ sym (runs-piece f p.meta before at p.end len lt low (λ o from to. same o from ∙ within p ps o to))
    go true false e1 e2 paint skip =
        let le : len ≤ at = grind (arith, nat_tests) in
        let none : len - at ≡ 0 = omega arith in
        mark_runs-none before at len ps le ∙ sym (ap (runs_from f before at) none)
    go false b e1 e2 paint skip = skip (grind (arith, nat_tests))

split-at : (d : Painted) (index : ℕ) (pieces : List Painted) → index < length pieces → marks (drop index pieces) ≡ record { end = (get_or pieces index d).end; meta = (get_or pieces index d).meta } ∷ marks (drop (index + 1) pieces)
split-at d index pieces lt = ap marks (drop-cons pieces index d lt ∙ ap (λ n. get_or pieces index d ∷ drop n pieces) (sym (add-one index)))

-- a piece that is painted, and one that is not
pub mark_runs-paint : (d : Painted) (before : Option ℕ) (at len index : ℕ) (pieces : List Painted) → index < length pieces → at < (get_or pieces index d).end → at < len →
    mark_runs before at len (marks (drop index pieces)) ≡ starts before at (get_or pieces index d).meta ++ mark_runs (Some ((get_or pieces index d).meta)) (get_or pieces index d).end len (marks (drop (index + 1) pieces))
unfolding mark_runs
mark_runs-paint d before at len index pieces lt h k = rw (split-at d index pieces lt) (go (nat_lt at (get_or pieces index d).end) (nat_lt at len) refl refl)
  where
    go : (a b : Bool) → nat_lt at (get_or pieces index d).end ≡ a → nat_lt at len ≡ b →
        cond (a && b) (starts before at (get_or pieces index d).meta ++ mark_runs (Some ((get_or pieces index d).meta)) (get_or pieces index d).end len (marks (drop (index + 1) pieces))) (mark_runs before at len (marks (drop (index + 1) pieces)))
        ≡ starts before at (get_or pieces index d).meta ++ mark_runs (Some ((get_or pieces index d).meta)) (get_or pieces index d).end len (marks (drop (index + 1) pieces))
    go true true e f = refl
    go true false e f = absurd (grind (arith, nat_tests))
    go false b e f = absurd (grind (arith, nat_tests))

pub mark_runs-skip : (d : Painted) (before : Option ℕ) (at len index : ℕ) (pieces : List Painted) → index < length pieces → ((get_or pieces index d).end ≤ at) ⊎ (len ≤ at) →
    mark_runs before at len (marks (drop (index + 1) pieces)) ≡ mark_runs before at len (marks (drop index pieces))
unfolding mark_runs
mark_runs-skip d before at len index pieces lt h = rw (split-at d index pieces lt) (sym (go (nat_lt at (get_or pieces index d).end) (nat_lt at len) refl refl h))
  where
    go : (a b : Bool) → nat_lt at (get_or pieces index d).end ≡ a → nat_lt at len ≡ b → ((get_or pieces index d).end ≤ at) ⊎ (len ≤ at) →
        cond (a && b) (starts before at (get_or pieces index d).meta ++ mark_runs (Some ((get_or pieces index d).meta)) (get_or pieces index d).end len (marks (drop (index + 1) pieces))) (mark_runs before at len (marks (drop (index + 1) pieces))) ≡ mark_runs before at len (marks (drop (index + 1) pieces))
    go true true e f (inl x) = absurd (grind (arith, nat_tests))
    go true true e f (inr x) = absurd (grind (arith, nat_tests))
    go true false e f x = refl
    go false b e f x = refl

pub paint-step : (old new now all : List Token) (rest old_rest : List Token) → new ≡ old ++ now → old_rest ≡ now ++ rest → old ++ old_rest ≡ all → new ++ rest ≡ all
paint-step old new now all rest old_rest e f g = rw e (append_assoc old now rest ∙ ap (λ l. old ++ l) (sym f) ∙ g)

pub all-runs : (tokens : List Token) (pieces : List Painted) (len end_meta index : ℕ) (before : Option ℕ) (at : ℕ) → ¬ (len ≡ 0) → length pieces ≤ index → len ≤ furthest (marks pieces) →
    tokens ++ mark_runs before at len (marks (drop index pieces)) ≡ mark_runs None 0 len (marks pieces) → tokens ≡ runs_of (meta_at (marks pieces)) end_meta len
unfolding mark_runs
all-runs tokens pieces zero end_meta index before at some done reach is = absurd (some refl)
all-runs tokens pieces (suc n) end_meta index before at some done reach is =
    let nothing : drop index pieces ≡ [] = drop_all index pieces done in
    let whole : tokens ≡ mark_runs None 0 (suc n) (marks pieces) = sym (append-nil tokens) ∙ ap (λ l. tokens ++ mark_runs before at (suc n) (marks l)) (sym nothing) ∙ is in
    whole ∙ mark_runs-runs (meta_at (marks pieces)) (marks pieces) None 0 (suc n) (λ o le. refl) (omega arith) ∙ ap (runs_from (meta_at (marks pieces)) None 0) (let same : suc n - 0 ≡ suc n = omega arith in same)

-- the metadata of the scopes at a place
meta-scopes_at : (meta : List (List ℕ) → ℕ) (pieces : List Piece) (o : ℕ) → 0 < furthest (marked meta pieces) → o < furthest (marked meta pieces) → meta_at (marked meta pieces) o ≡ meta (scopes_at pieces o)
meta-scopes_at meta [] o some lt = absurd (omega arith)
meta-scopes_at meta (p ∷ ps) o some lt = go (nat_lt o p.end) refl (λ more. meta-scopes_at meta ps o (omega arith) more)
  where
    go : (b : Bool) → nat_lt o p.end ≡ b → (o < furthest (marked meta ps) → meta_at (marked meta ps) o ≡ meta (scopes_at ps o)) →
        cond b (meta p.scopes) (meta_at (marked meta ps) o) ≡ meta (cond b p.scopes (scopes_at ps o))
    go true e ih = refl
    go false e ih = let behind : p.end ≤ o = grind (arith, nat_tests) in ih (omega arith)

-- runs by metadata that is equal on the line are equal
runs_from-same : (f g : ℕ → ℕ) (before : Option ℕ) (at n : ℕ) → ((o : ℕ) → at ≤ o → o < at + n → f o ≡ g o) → runs_from f before at n ≡ runs_from g before at n
unfolding runs_from
runs_from-same f g before at zero same = refl
runs_from-same f g before at (suc n) same =
    let here : f at ≡ g at = same at (omega arith) (omega arith) in
    let more = runs_from-same f g (Some (g at)) (at + 1) n (λ o low high. same o (omega arith) (omega arith)) in
    ap (λ m. starts before at m ++ runs_from f (Some m) (at + 1) n) here ∙ ap (λ l. starts before at (g at) ++ l) more

-- the runs of marks are those of the scopes at each place, where the line is painted to its end
pub runs-marked : (meta : List (List ℕ) → ℕ) (pieces : List Piece) (end_meta len : ℕ) → len ≤ furthest (marked meta pieces) →
    runs_of (meta_at (marked meta pieces)) end_meta len ≡ runs_of (λ o. meta (scopes_at pieces o)) end_meta len
runs-marked meta pieces end_meta zero reach = refl
runs-marked meta pieces end_meta (suc n) reach =
    runs_from-same (meta_at (marked meta pieces)) (λ o. meta (scopes_at pieces o)) None 0 (suc n) (λ o low high. meta-scopes_at meta pieces o (omega arith) (omega arith))

-- the same of a painter's pieces
pub runs-pieces : (meta : List (List ℕ) → ℕ) (pieces : List Painted) (plain : List Piece) (end_meta len : ℕ) → marks pieces ≡ marked meta plain → len ≤ furthest (marks pieces) →
    runs_of (meta_at (marks pieces)) end_meta len ≡ runs_of (λ o. meta (scopes_at plain o)) end_meta len
runs-pieces meta pieces plain end_meta len same reach =
    let further = ap furthest same in
    ap (λ ms. runs_of (meta_at ms) end_meta len) same ∙ runs-marked meta plain end_meta len (omega (arith, reach, further))

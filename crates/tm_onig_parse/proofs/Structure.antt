-- What is written is read to what it means.
use Rattle.std.proofs.Common.{◌≡◌, ℕ, ◌+◌, ◌≤◌, false, List, [], ◌∷◌, ◌++◌, Option, Some, None, refl, sym, ap, ◌∙◌, subst, arith, append-nil, option_map, le-leb}
use Rattle.tm_onig_atom.specs.declared.options.Options.{Options}
use Rattle.tm_onig_parse.specs.declared.groups.Opener.{Opener}
use Rattle.tm_onig_parse.specs.declared.groups.Opener.TheVariants.{Sets}
use Rattle.tm_onig_parse.specs.declared.quantifiers.Manner.{Manner}
use Rattle.tm_onig_parse.specs.Things.{Opening, Capture, Named, Group, Keep, Look, inside, opener_of, name_of, count, least_of, greatest_of, manner_of, Setting, Closing, Bar, Times, Skipped, Toks}
use Rattle.tm_onig_parse.specs.Grammar.{Body, Simply, Under, Alts, First, Also, Row, Nothing, Then, Noted, Piece, Alone, Inside, Repeated, Behind, end_options, written, written_alts, written_row, written_piece, groups, groups_alts, groups_row, groups_piece}
use Rattle.tm_onig_parse.specs.Meaning.{Built, highest, row_built, alts_built, enclosed, quantified, bodies, rows, parts, piece_built}
use Rattle.tm_onig_parse.specs.inner.Reading.{Open, Close, Repeats, Level, State, added, is_set, settled, change_last, step}
use Rattle.tm_onig_parse.proofs.OneRead.{sym_of}
use Rattle.tm_onig_parse.proofs.Heights.{row_low, alts_low, front_low, back_low, last_low, enclosed_low, quantified_low}

-- The things are read one after another, each under the options that hold there.
abbrev pub Runs : Toks → State → State → Type 0
Runs [] s t = s ≡ t
Runs (k ∷ ks) s t = (next : State) × (s.top.options ≡ k.1) × (step (sym_of k.0 k.1) s ≡ Some next) × Runs ks next t

-- one run behind another
runs_on : (ks ls : Toks) (s t u : State) → Runs ks s t → Runs ls t u → Runs (ks ++ ls) s u
runs_on [] ls s t u e f = subst (λ (v : State). Runs ls v u) (sym e) f
runs_on (k ∷ ks) ls s t u e f = (e.0, e.1, e.2, runs_on ks ls e.0 t u e.3 f)

-- a run to the same state
runs_to : (ks : Toks) (s t u : State) → Runs ks s t → t ≡ u → Runs ks s u
runs_to ks s t u e f = subst (λ (v : State). Runs ks s v) f e

-- two changes in one
map_twice : {A B C : Type 0} (g : B → C) (f : A → B) (o : Option A) → option_map g (option_map f o) ≡ option_map (λ x. g (f x)) o
map_twice g f None = refl
map_twice g f (Some x) = refl

-- the last of a list that ends with it
pub change_last-snoc : (f : Built → Option Built) (ts : List Built) (t : Built) → change_last f (ts ++ t ∷ []) ≡ option_map (λ u. ts ++ u ∷ []) (f t)
unfolding change_last
change_last-snoc f [] t = refl
change_last-snoc f (a ∷ []) t = map_twice (λ us. a ∷ us) (λ u. u ∷ []) (f t)
change_last-snoc f (a ∷ b ∷ ts) t =
    ap (option_map (λ us. a ∷ us)) (change_last-snoc f (b ∷ ts) t) ∙ map_twice (λ us. a ∷ us) (λ u. b ∷ (ts ++ u ∷ [])) (f t)

-- what a level was when it began
pub record Kind : Type 0 where
  pub opener : Opener
  pub number : ℕ
  pub options : Options

-- the same, by its fields
abbrev pub kind : Opener → ℕ → Options → Kind
kind opener number options = record { opener = opener; number = number; options = options }

-- a level of this kind
abbrev pub level : Kind → List Built → List Built → Level
level k done row = record { opener = k.opener; number = k.number; options = k.options; done = done; row = row }

-- a state with this top
abbrev pub at : List Level → Kind → List Built → List Built → ℕ → State
at outer k done row opened = record { outer = outer; top = level k done row; opened = opened }

-- the alternatives before the last
abbrev pub done_of : Alts → ℕ → List Built
done_of (First row) n = []
done_of (Also alts row) n = rows alts [] n

-- the parts of the last
abbrev pub last_of : Alts → ℕ → List Built
last_of (First row) n = parts row n
last_of (Also alts row) n = parts row (n + groups_alts alts)

-- both together are the alternatives
whole_of : (a : Alts) (more : List Built) (n : ℕ) → done_of a n ++ row_built (last_of a n ++ more) ∷ [] ≡ rows a more n
whole_of (First row) more n = refl
whole_of (Also alts row) more n = refl

-- where nothing more follows
whole_none : (a : Alts) (n : ℕ) → done_of a n ++ row_built (last_of a n) ∷ [] ≡ rows a [] n
whole_none a n = rw append-nil at (whole_of a [] n)

-- the alternatives of a body before the last
abbrev pub done_body : Body → ℕ → List Built
done_body (Simply alts) n = done_of alts n
done_body (Under alts letters after body) n = done_of alts n

-- the parts of the last, the rest of the body among them
abbrev pub last_body : Body → ℕ → List Built
last_body (Simply alts) n = last_of alts n
last_body (Under alts letters after body) n = let m = n + groups_alts alts in last_of alts n ++ enclosed Sets m (alts_built (bodies body m)) ∷ []

-- both together are the body
pub whole_body : (b : Body) (n : ℕ) → done_body b n ++ row_built (last_body b n) ∷ [] ≡ bodies b n
whole_body (Simply alts) n = whole_none alts n
whole_body (Under alts letters after body) n = whole_of alts _ n

-- Of alternatives that are low, each part is.
record AreLow (a : Alts) (more : List Built) (n : ℕ) : Type 0 where
  done : highest (done_of a n) ≤ 200
  last : highest (last_of a n) ≤ 200
  rest : highest more ≤ 200

-- alternatives that are low
rows_low : (a : Alts) (more : List Built) (n : ℕ) → highest (rows a more n) ≤ 200 → AreLow a more n
rows_low a more n low =
    let all : highest (done_of a n ++ row_built (last_of a n ++ more) ∷ []) ≤ 200 = rw whole_of low in
    let row = row_low (last_of a n ++ more) (last_low (done_of a n) (row_built (last_of a n ++ more)) all) in
    record { done = front_low (done_of a n) _ all; last = front_low (last_of a n) more row; rest = back_low (last_of a n) more row }

-- the same count
pub same_opened : (outer : List Level) (top : Level) (m n : ℕ) → m ≡ n →
    ◌≡◌ {A = State} (record { outer = outer; top = top; opened = m }) (record { outer = outer; top = top; opened = n })
same_opened outer top m n e = ap (λ k. record { outer = outer; top = top; opened = k }) e

-- an opening
opens : (j : Opener) (name : Option (List ℕ)) (o : Options) (outer : List Level) (k : Kind) (done row : List Built) (n : ℕ) → n + count j ≤ 1000 →
    step (Open j name o) (at outer k done row n) ≡ Some (at (level k done row ∷ outer) (kind j (n + count j) o) [] [] (n + count j))
unfolding step
opens j name o outer k done row n few = rw (le-leb (n + count j) 1000 few) refl

-- a group that options made ends with the group around it
set_ends : (m : ℕ) (o : Options) (b : Body) (n : ℕ) (l : Level) (outer : List Level) → (enclosed Sets m (alts_built (bodies b n))).height ≤ 200 →
    settled (l ∷ outer) (level (kind Sets m o) (done_body b n) (last_body b n)) ≡ settled outer (added l (enclosed Sets m (alts_built (bodies b n))))
unfolding settled
set_ends m o b n l outer low = rw (whole_body, le-leb (enclosed Sets m (alts_built (bodies b n))).height 200 low) refl

-- a `)`
closes : (j : Opener) (m : ℕ) (o : Options) (b : Body) (n p : ℕ) (l : Level) (outer : List Level) (s : State) → is_set j ≡ false → (enclosed j m (alts_built (bodies b n))).height ≤ 200 →
    settled s.outer s.top ≡ settled (l ∷ outer) (level (kind j m o) (done_body b n) (last_body b n)) → s.opened ≡ p →
    step Close s ≡ Some (record { outer = outer; top = added l (enclosed j m (alts_built (bodies b n))); opened = p })
unfolding step settled
closes j m o b n p l outer s isnt low e count = rw (e, isnt, whole_body, le-leb (enclosed j m (alts_built (bodies b n))).height 200 low, count) refl

-- no opening is made by options alone
pub opening_set : (k : Opening) → is_set (opener_of k) ≡ false
opening_set Capture = refl
opening_set (Named quoted name) = refl
opening_set (Group letters o) = refl
opening_set Keep = refl
opening_set (Look ahead negative) = refl

-- a quantifier
goes_on : (least : ℕ) (greatest : Option ℕ) (manner : Manner) (outer : List Level) (k : Kind) (done row : List Built) (b : Built) (n : ℕ) →
    (quantified least greatest manner b).height ≤ 200 →
    step (Repeats least greatest manner) (at outer k done (row ++ b ∷ []) n) ≡ Some (at outer k done (row ++ quantified least greatest manner b ∷ []) n)
unfolding step
goes_on least greatest manner outer k done row b n low = rw (change_last-snoc, le-leb (quantified least greatest manner b).height 200 low) refl

-- A body was read on a fresh level, to a state that settles as the level with the whole body.
pub record BodyRun (b : Body) (outer : List Level) (k : Kind) (n : ℕ) : Type 0 where
  pub to : State
  pub runs : Runs (written b k.options) (at outer k [] [] n) to
  pub options : to.top.options ≡ end_options b k.options
  pub opened : to.opened ≡ n + groups b
  pub settles : settled to.outer to.top ≡ settled outer (level k (done_body b n) (last_body b n))

mutual
  unfolding step

  pub body_run : (b : Body) (outer : List Level) (k : Kind) (n : ℕ) → n + groups b ≤ 1000 → highest (bodies b n) ≤ 200 → BodyRun b outer k n
  body_run (Simply alts) outer k n few low =
      let are = rows_low alts [] n low in
      record {
        to = at outer k (done_of alts n) (last_of alts n) (n + groups_alts alts);
        runs = alts_run alts outer k n few are.done are.last;
        options = refl;
        opened = refl;
        settles = refl;
      }
  body_run (Under alts letters after body) outer k n few low =
      let m = n + groups_alts alts in
      let x = enclosed Sets m (alts_built (bodies body m)) in
      let are = rows_low alts (x ∷ []) n low in
      let high : x.height ≤ 200 = last_low [] x are.rest in
      let l : Level = level k (done_of alts n) (last_of alts n) in
      let b = body_run body (l ∷ outer) (kind Sets m after) m (omega arith) (alts_low (bodies body m) (enclosed_low Sets m (alts_built (bodies body m)) high)) in
      record {
        to = b.to;
        runs = runs_on (written_alts alts k.options) ((Setting letters after, k.options) ∷ written body after) _ _ _ (alts_run alts outer k n (omega arith) are.done are.last)
            (at (l ∷ outer) (kind Sets m after) [] [] m, refl, refl, b.runs);
        options = b.options;
        opened = b.opened ∙ omega arith;
        settles = b.settles ∙ set_ends m after body m l outer high;
      }

  pub alts_run : (a : Alts) (outer : List Level) (k : Kind) (n : ℕ) → n + groups_alts a ≤ 1000 → highest (done_of a n) ≤ 200 → highest (last_of a n) ≤ 200 →
      Runs (written_alts a k.options) (at outer k [] [] n) (at outer k (done_of a n) (last_of a n) (n + groups_alts a))
  alts_run (First row) outer k n few done last = row_run row outer k [] n few last
  alts_run (Also alts row) outer k n few done last =
      let are = rows_low alts [] n done in
      let m = n + groups_alts alts in
      runs_on (written_alts alts k.options) ((Bar, k.options) ∷ written_row row k.options) _ _ _
      (alts_run alts outer k n (omega arith) are.done are.last) (
        _,
        refl,
        (rw whole_none refl),
        runs_to (written_row row k.options) _ _ _ (row_run row outer k (rows alts [] n) m (omega arith) last) (same_opened _ _ _ _ (omega arith)),
      )

  row_run : (r : Row) (outer : List Level) (k : Kind) (done : List Built) (n : ℕ) → n + groups_row r ≤ 1000 → highest (parts r n) ≤ 200 →
      Runs (written_row r k.options) (at outer k done [] n) (at outer k done (parts r n) (n + groups_row r))
  row_run Nothing outer k done n few low = same_opened _ _ _ _ (omega arith)
  row_run (Noted row s) outer k done n few low =
      runs_on (written_row row k.options) ((Skipped s, k.options) ∷ []) _ _ _ (row_run row outer k done n few low) (_, refl, refl, refl)
  row_run (Then row piece) outer k done n few low =
      let m = n + groups_row row in
      runs_on (written_row row k.options) (written_piece piece k.options) _ _ _
      (row_run row outer k done n (omega arith) (front_low (parts row n) (piece_built piece m ∷ []) low))
      (runs_to (written_piece piece k.options) _ _ _
      (piece_run piece outer k done (parts row n) m (omega arith) (last_low (parts row n) (piece_built piece m) low))
      (same_opened _ _ _ _ (omega arith)))

  piece_run : (p : Piece) (outer : List Level) (k : Kind) (done row : List Built) (n : ℕ) → n + groups_piece p ≤ 1000 → (piece_built p n).height ≤ 200 →
      Runs (written_piece p k.options) (at outer k done row n) (at outer k done (row ++ piece_built p n ∷ []) (n + groups_piece p))
  piece_run (Behind piece s) outer k done row n few low =
      runs_on (written_piece piece k.options) ((Skipped s, k.options) ∷ []) _ _ _ (piece_run piece outer k done row n few low) (_, refl, refl, refl)
  piece_run (Alone a) outer k done row n few low = (_, refl, refl, same_opened _ _ _ _ (omega arith))
  piece_run (Inside j body) outer k done row n few low =
      let o = inside j k.options in
      let m = n + count (opener_of j) in
      let l : Level = level k done row in
      let b = body_run body (l ∷ outer) (kind (opener_of j) m o) m (omega arith) (alts_low (bodies body m) (enclosed_low (opener_of j) m (alts_built (bodies body m)) low)) in (
        _,
        refl,
        opens (opener_of j) (name_of j) o outer k done row n (omega arith),
        runs_on (written body o) ((Closing, end_options body o) ∷ []) _ _ _ b.runs
            (_, b.options, closes (opener_of j) m o body m (m + groups body) l outer b.to (opening_set j) low b.settles b.opened, same_opened _ _ _ _ (omega arith)),
      )
  piece_run (Repeated piece amount mark) outer k done row n few low =
      let least = least_of amount in
      let greatest = greatest_of amount in
      let manner = manner_of amount mark in
      runs_on (written_piece piece k.options) ((Times amount mark, k.options) ∷ []) _ _ _
      (piece_run piece outer k done row n few (quantified_low least greatest manner (piece_built piece n) low))
      (_, refl, goes_on least greatest manner outer k done row (piece_built piece n) (n + groups_piece piece) low, refl)

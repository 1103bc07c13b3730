-- To try the patterns of a row does what it does to try them all.
use Rattle.std.proofs.Common.{◌≡◌, ℕ, zero, suc, ◌+◌, ◌<◌, ◌≤◌, Bool, true, false, List, [], ◌∷◌, ◌++◌, length, Some, None, Option, ◌⊎◌, inl, inr, refl, ap, sym, ◌∙◌, subst, arith, take, drop, get_or, nat_lt, cond, length-append}
use Rattle.std.specs.Prelude.{slice_get, slice_set, option_map, ◌==◌}
use Rattle.std.proofs.lemmas.Bool.{lt-ltb, le-ltb, eq-eqb, ne_eqb}
use Rattle.std.proofs.lemmas.Bool.Decides.{nat_tests}
use Rattle.std.proofs.Math.ListN.{drop_of_length-le}
use Rattle.std.proofs.lemmas.List.{append_assoc, append-nil}
use Rattle.std.proofs.lemmas.Option.{slice_get_within}
use Rattle.tm_onig_class.specs.Tree.{Tree}
use Rattle.tm_onig_search.specs.Places.{Subject}
use Rattle.tm_onig_search.specs.Find.{with_whole}
use Rattle.tm_onig_search.specs.Starts.{Sits}
use Rattle.tm_onig_vm.specs.First.{next_class}
use Rattle.tm_onig_scan.specs.declared.candidates.Row.{Row}
use Rattle.tm_onig_scan.specs.Winner.{pattern_at, patterns_at}
use Rattle.tm_onig_scan.specs.Pass.{Pass, no_pass, pass_or, pass_or_at, pass_one, pass_here, pass_row, pass_around}
use Rattle.tm_onig_scan.proofs.Tried.{IsPart, tree_step}
use Rattle.tm_onig_scan.specs.Rows.{NeverStartsIf, IsRow, places_before, places_from, places_without, places_of, row_at, Keeps, AreKeptRows}

pub pattern_of_place : (ps : List (Option Tree)) (ns : List ℕ) (place number : ℕ) → slice_get ns place ≡ Some number → pattern_at (patterns_at ps ns) place ≡ pattern_at ps number
pattern_of_place ps [] place number is = absurd cc
pattern_of_place ps (n ∷ ns) zero number is = let same : n ≡ number = cc in ap (pattern_at ps) same
pattern_of_place ps (n ∷ ns) (suc place) number is = pattern_of_place ps ns place number is

pub no_place : (ps : List (Option Tree)) (ns : List ℕ) (place : ℕ) → slice_get ns place ≡ None → pattern_at (patterns_at ps ns) place ≡ None
no_place ps [] place is = refl
no_place ps (n ∷ ns) zero is = absurd cc
no_place ps (n ∷ ns) (suc place) is = no_place ps ns place is

part_or : (one a b : Pass) → IsPart a b → IsPart (pass_or one a) (pass_or one b)
part_or one a b part = go one.winner
  where
    go : (w : Option _) → IsPart (pass_or_at w one.cost a) (pass_or_at w one.cost b)
    go (Some w) = record { found = refl; spent = omega arith }
    go None = let spent = part.spent in record { found = part.found; spent = omega arith }

pub part_skip : (one a b : Pass) → one.winner ≡ None → IsPart a b → IsPart a (pass_or one b)
part_skip one a b none part = let spent = part.spent in rw none (record { found = part.found; spent = omega arith })

-- nothing, and then a pass
part_none : (a b : Pass) → IsPart a b → IsPart (pass_or no_pass a) b
part_none a b part = let spent = part.spent in record { found = part.found; spent = omega arith }

-- three passes one after another
part_assoc : (a b c d : Pass) → IsPart (pass_or a (pass_or b c)) d → IsPart (pass_or (pass_or a b) c) d
part_assoc a b c d part = go a.winner b.winner part
  where
    go : (v w : Option _) → IsPart (pass_or_at v a.cost (pass_or_at w b.cost c)) d → IsPart (pass_or (pass_or_at v a.cost (record { winner = w; cost = b.cost })) c) d
    go (Some x) w part = part
    go None (Some y) part = part
    go None None part = let spent = part.spent in record { found = part.found; spent = omega arith }

module _ (s : Subject) (behind : Option Bool) (next : Option ℕ) (start : ℕ) (sits : Sits s behind start) (is : slice_get s.line start ≡ next) where
  one_never : (place : ℕ) (p : Option Tree) → NeverStartsIf p behind next → (pass_one s start place p).winner ≡ None
  one_never place None never = refl
  one_never place (Some t) never = ap (option_map (λ hit. (place, with_whole start hit))) (never s start sits is)

  row_part : (all : List (Option Tree)) (place : ℕ) (ps : List (Option Tree)) (row : List ℕ) → ((i : ℕ) → pattern_at all (place + i) ≡ pattern_at ps i) →
      IsRow behind next place ps row → IsPart (pass_row s start all row) (pass_here s start place ps)
  unfolding pass_row pass_here
  row_part all place [] row at same = rw same (record { found = refl; spent = omega arith })
  row_part all place (p ∷ ps) row at (later, on, which) =
      go which (row_part all (place + 1) ps later (λ i. let e : place + suc i ≡ place + 1 + i = omega arith in sym (ap (pattern_at all) e) ∙ at (suc i)) on)
    where
      here : pattern_at all place ≡ p
      here = let e : place + 0 ≡ place = omega arith in sym (ap (pattern_at all) e) ∙ at 0

      go : (row ≡ place ∷ later) ⊎ ((row ≡ later) × NeverStartsIf p behind next) → IsPart (pass_row s start all later) (pass_here s start (place + 1) ps) →
          IsPart (pass_row s start all row) (pass_or (pass_one s start place p) (pass_here s start (place + 1) ps))
      go (inl same) part = rw (same, here) (part_or (pass_one s start place p) (pass_row s start all later) (pass_here s start (place + 1) ps) part)
      go (inr (same, never)) part = rw same (part_skip (pass_one s start place p) (pass_row s start all later) (pass_here s start (place + 1) ps) (one_never place p never) part)

  pub row_passes : (ps : List (Option Tree)) (row : List ℕ) → IsRow behind next 0 ps row → IsPart (pass_row s start ps row) (pass_here s start 0 ps)
  row_passes ps row right = row_part ps 0 ps row (λ i. ap (pattern_at ps) (omega arith)) right

  -- another pattern stands at one of the places
  places_later : (place k : ℕ) (ps : List (Option Tree)) (row : List ℕ) → k < place → IsRow behind next place ps row → (places_before k row ≡ []) × (places_without k (places_from k row) ≡ row)
  places_later place k [] row low at = rw at (refl, refl)
  places_later place k (p ∷ ps) row low (later, on, which) = go which (places_later (place + 1) k ps later (omega arith) on)
    where
      go : (row ≡ place ∷ later) ⊎ ((row ≡ later) × NeverStartsIf p behind next) → (places_before k later ≡ []) × (places_without k (places_from k later) ≡ later) →
          (places_before k row ≡ []) × (places_without k (places_from k row) ≡ row)
      go (inl same) rest =
          let not_less : nat_lt place k ≡ false = le-ltb place k (omega arith) in
          let differs : (place == k) ≡ false = ne_eqb place k (λ same. omega arith) in
          rw (same, not_less, differs) (refl, refl)
      go (inr (same, never)) rest = rw same rest

  around_part : (all : List (Option Tree)) (place i : ℕ) (o : Option Tree) (ps : List (Option Tree)) (row : List ℕ) → ((j : ℕ) → pattern_at all (place + j) ≡ pattern_at ps j) →
      i < length ps → IsRow behind next place ps row → IsPart (pass_around s start all (place + i) o row) (pass_here s start place (slice_set ps i o))
  unfolding pass_row pass_here
  around_part all place i o [] row same low at = absurd (omega arith)
  around_part all place zero o (p ∷ ps) row same low (later, on, which) = go which
    where
      e : place + 0 ≡ place
      e = omega arith

      rest : IsPart (pass_row s start all later) (pass_here s start (place + 1) ps)
      rest = row_part all (place + 1) ps later (λ j. let f : place + suc j ≡ place + 1 + j = omega arith in sym (ap (pattern_at all) f) ∙ same (suc j)) on

      ends : (row2 : List ℕ) → (places_before place row ≡ []) × (places_without place (places_from place row) ≡ later) → IsPart (pass_around s start all place o row) (pass_here s start place (o ∷ ps))
      ends row2 (before, behind_it) = rw (before, behind_it) (part_none _ _ (part_or (pass_one s start place o) (pass_row s start all later) (pass_here s start (place + 1) ps) rest))

      go : (row ≡ place ∷ later) ⊎ ((row ≡ later) × NeverStartsIf p behind next) → IsPart (pass_around s start all (place + 0) o row) (pass_here s start place (o ∷ ps))
      go (inl is) =
          let not_less : nat_lt place place ≡ false = le-ltb place place (omega arith) in
          let equal : (place == place) ≡ true = eq-eqb place place refl in
          rw e (ends row (rw (is, not_less, equal) (refl, refl)))
      go (inr (is, never)) = rw e (ends row (rw is (places_later (place + 1) place ps later (omega arith) on)))
  around_part all place (suc i) o (p ∷ ps) row same low (later, on, which) =
      go which (around_part all (place + 1) i o ps later (λ j. let f : place + suc j ≡ place + 1 + j = omega arith in sym (ap (pattern_at all) f) ∙ same (suc j)) (omega arith) on)
    where
      k : ℕ
      k = place + suc i

      e : place + 1 + i ≡ place + suc i
      e = omega arith

      here : pattern_at all place ≡ p
      here = let f : place + 0 ≡ place = omega arith in sym (ap (pattern_at all) f) ∙ same 0

      go : (row ≡ place ∷ later) ⊎ ((row ≡ later) × NeverStartsIf p behind next) → IsPart (pass_around s start all (place + 1 + i) o later) (pass_here s start (place + 1) (slice_set ps i o)) →
          IsPart (pass_around s start all (place + suc i) o row) (pass_or (pass_one s start place p) (pass_here s start (place + 1) (slice_set ps i o)))
      go (inl is) part =
          let less : nat_lt place (place + suc i) ≡ true = lt-ltb place (place + suc i) (omega arith) in
          let on_part = subst (λ (n : ℕ). IsPart (pass_around s start all n o later) (pass_here s start (place + 1) (slice_set ps i o))) e part in
          rw (is, less, here) (part_assoc (pass_one s start place p) _ _ _ (part_or (pass_one s start place p) _ _ on_part))
      go (inr (is, never)) part =
          let on_part = subst (λ (n : ℕ). IsPart (pass_around s start all n o later) (pass_here s start (place + 1) (slice_set ps i o))) e part in
          rw is (part_skip (pass_one s start place p) _ _ (one_never place p never) on_part)

  pub around_passes : (ps : List (Option Tree)) (i : ℕ) (o : Option Tree) (row : List ℕ) → i < length ps → IsRow behind next 0 ps row → IsPart (pass_around s start ps i o row) (pass_here s start 0 (slice_set ps i o))
  around_passes ps i o row low right =
      let e : 0 + i ≡ i = omega arith in
      subst (λ (n : ℕ). IsPart (pass_around s start ps n o row) (pass_here s start 0 (slice_set ps i o))) e (around_part ps 0 i o ps row (λ j. ap (pattern_at ps) (omega arith)) low right)

-- the places of a row up to this count are before the place
abbrev pub AreBefore : ℕ → ℕ → List ℕ → Type 0
AreBefore place count row = (i : ℕ) → i < count → get_or row i 0 < place

pub before_more : (place count : ℕ) (row : List ℕ) → AreBefore place count row → get_or row count 0 < place → AreBefore place (count + 1) row
before_more place count row were here i low = go (nat_lt i count) refl
  where
    go : (b : Bool) → nat_lt i count ≡ b → get_or row i 0 < place
    go true is = were i (let less : i < count = grind (arith, nat_tests) in less)
    go false is = let same : count ≡ i = grind (arith, nat_tests) in subst (λ n. get_or row n 0 < place) same here

pub before_all : (place count : ℕ) (row : List ℕ) → count ≤ length row → AreBefore place count row → (count < length row → place ≤ get_or row count 0) →
    (take count row ≡ places_before place row) × (drop count row ≡ places_from place row)
before_all place zero [] fits were past = (refl, refl)
before_all place (suc n) [] fits were past = absurd (omega arith)
before_all place zero (p ∷ row) fits were past =
    let not_less : nat_lt p place ≡ false = le-ltb p place (past (omega arith)) in rw not_less (refl, refl)
before_all place (suc n) (p ∷ row) fits were past =
    let less : nat_lt p place ≡ true = lt-ltb p place (were 0 (omega arith)) in
    let on = before_all place n row (omega arith) (λ i low. were (suc i) (omega arith)) (λ low. past (omega arith)) in
    rw less (ap (λ (l : List ℕ). p ∷ l) on.0, on.1)

-- beyond a list nothing is put
pub set_beyond : (ps : List (Option Tree)) (i : ℕ) (o : Option Tree) → length ps ≤ i → slice_set ps i o ≡ ps
set_beyond [] i o past = refl
set_beyond (p ∷ ps) zero o past = absurd (omega arith)
set_beyond (p ∷ ps) (suc i) o past = ap (λ (l : List (Option Tree)). p ∷ l) (set_beyond ps i o (omega arith))

pub length_at : (ps : List (Option Tree)) (ns : List ℕ) → length (patterns_at ps ns) ≡ length ns
length_at ps [] = refl
length_at ps (n ∷ ns) = let on = length_at ps ns in omega arith

-- A row is made from its first place on: `made` are the places before this one.
module _ (behind : Option Bool) (next : Option ℕ) (ps : List (Option Tree)) where
  abbrev pub IsMadeTo : ℕ → List ℕ → Type 0
  IsMadeTo place made = (later : List ℕ) → IsRow behind next place (drop place ps) later → IsRow behind next 0 ps (made ++ later)

  pub made_none : IsMadeTo 0 []
  made_none later right = right

  pub made_takes : (place : ℕ) (made : List ℕ) → place < length ps → IsMadeTo place made → IsMadeTo (place + 1) (made ++ place ∷ [])
  made_takes place made lt was later right =
      let e : place + 1 ≡ suc place = omega arith in
      let rest = subst (λ (k : ℕ). IsRow behind next (place + 1) (drop k ps) later) e right in
      let here : IsRow behind next place (drop place ps) (place ∷ later) = subst (λ qs. IsRow behind next place qs (place ∷ later)) (sym (tree_step ps place lt)) (later, rest, inl refl) in
      subst (λ l. IsRow behind next 0 ps l) (sym (append_assoc made (place ∷ []) later)) (was (place ∷ later) here)

  pub made_skips : (place : ℕ) (made : List ℕ) → place < length ps → NeverStartsIf (pattern_at ps place) behind next → IsMadeTo place made → IsMadeTo (place + 1) made
  made_skips place made lt never was later right =
      let e : place + 1 ≡ suc place = omega arith in
      let rest = subst (λ (k : ℕ). IsRow behind next (place + 1) (drop k ps) later) e right in
      was later (subst (λ qs. IsRow behind next place qs later) (sym (tree_step ps place lt)) (later, rest, inr (refl, never)))

  pub made_all : (place : ℕ) (made : List ℕ) → length ps ≤ place → IsMadeTo place made → IsRow behind next 0 ps made
  made_all place made past was =
      subst (λ l. IsRow behind next 0 ps l) (append-nil made) (was [] (subst (λ qs. IsRow behind next place qs []) (sym (drop_of_length-le ps past)) refl))

next_few : (next : Option ℕ) → next_class next < 130
next_few None = omega arith
next_few (Some c) = go (nat_lt c 128) refl
  where
    go : (low : Bool) → nat_lt c 128 ≡ low → cond low c 128 < 130
    go true is = let less : c < 128 = grind (arith, nat_tests) in omega arith
    go false is = omega arith

get-before : {A : Type 0} (xs : List A) (x : A) (n : ℕ) → n < length xs → slice_get (xs ++ x ∷ []) n ≡ slice_get xs n
get-before [] x n low = absurd (omega arith)
get-before (y ∷ ys) x zero low = refl
get-before (y ∷ ys) x (suc n) low = get-before ys x n (omega arith)

get-last : {A : Type 0} (xs : List A) (x : A) → slice_get (xs ++ x ∷ []) (length xs) ≡ Some x
get-last [] x = refl
get-last (y ∷ ys) x = get-last ys x

pub keeps_same : (rows : List Row) → Keeps rows rows
keeps_same rows = record { longer = omega arith; same = λ number low. refl }

pub keeps_more : (rows : List Row) (row : Row) (new : List Row) → new ≡ rows ++ row ∷ [] → Keeps rows new
keeps_more rows row new is = record {
  longer = let more = length-append rows (row ∷ []) in omega (arith, ap length is, more);
  same = λ number low. ap (λ l. slice_get l number) is ∙ get-before rows row number low;
}

pub keeps_on : (a b c : List Row) → Keeps a b → Keeps b c → Keeps a c
keeps_on a b c first then = record {
  longer = let l = first.longer in let m = then.longer in omega arith;
  same = λ number low. then.same number (let l = first.longer in omega arith) ∙ first.same number low;
}

-- the number that a row has when it is put behind the others
pub number_new : (rows : List Row) (row : Row) (new : List Row) → new ≡ rows ++ row ∷ [] → (length rows < length new) × (places_of (slice_get new (length rows)) ≡ row.places.items)
number_new rows row new is = (
  let more = length-append rows (row ∷ []) in omega (arith, ap length is, more),
  ap (λ l. places_of (slice_get l (length rows))) is ∙ ap places_of (get-last rows row),
)

module _ (ps : List (Option Tree)) (behind : Option Bool) where
  -- the rows of the classes before this one
  pub record AreRowsTo (class : ℕ) (rows : List Row) (made : List ℕ) : Type 0 where
    pub long : length made ≡ class
    pub right : (next : Option ℕ) → next_class next < class → IsRow behind next 0 ps (row_at rows (slice_get made (next_class next)))
    pub inside : (at number : ℕ) → slice_get made at ≡ Some number → number < length rows

  pub rows_none : (rows : List Row) → AreRowsTo 0 rows []
  rows_none rows = record { long = refl; right = λ next low. absurd (omega arith); inside = λ at number is. absurd cc }

  row_at-kept : (old new : List Row) (number : Option ℕ) → ((n : ℕ) → number ≡ Some n → n < length old) → Keeps old new → row_at new number ≡ row_at old number
  row_at-kept old new None low keeps = refl
  row_at-kept old new (Some n) low keeps = ap places_of (keeps.same n (low n refl))

  pub rows_kept : (class : ℕ) (old new : List Row) (made : List ℕ) → Keeps old new → AreRowsTo class old made → AreRowsTo class new made
  rows_kept class old new made keeps was = record {
    long = was.long;
    right = λ next low.
        subst (λ (l : List ℕ). IsRow behind next 0 ps l) (sym (row_at-kept old new (slice_get made (next_class next)) (λ n is. was.inside (next_class next) n is) keeps)) (was.right next low);
    inside = λ at number is. let l = keeps.longer in let m = was.inside at number is in omega arith;
  }

  pub rows_more : (class : ℕ) (rows : List Row) (made new : List ℕ) (number : ℕ) (row : List ℕ) → AreRowsTo class rows made → new ≡ made ++ number ∷ [] → number < length rows →
      places_of (slice_get rows number) ≡ row → ((next : Option ℕ) → next_class next ≡ class → IsRow behind next 0 ps row) → AreRowsTo (class + 1) rows new
  rows_more class rows made new number row was is low at here = record {
    long = let more = length-append made (number ∷ []) in let long = was.long in omega (arith, ap length is, more);
    right = λ next less. right next less (nat_lt (next_class next) class) refl;
    inside = λ k n got. inside k n got (nat_lt k (length made)) refl;
  }
    where
      right : (next : Option ℕ) → next_class next < class + 1 → (b : Bool) → nat_lt (next_class next) class ≡ b → IsRow behind next 0 ps (row_at rows (slice_get new (next_class next)))
      right next less true before =
          let less : next_class next < class = grind (arith, nat_tests) in
          let fits : next_class next < length made = let long = was.long in omega arith in
          let same : slice_get new (next_class next) ≡ slice_get made (next_class next) = ap (λ l. slice_get l (next_class next)) is ∙ get-before made number (next_class next) fits in
          subst (λ o. IsRow behind next 0 ps (row_at rows o)) (sym same) (was.right next less)
      right next less false before =
          let not_less : class ≤ next_class next = grind (arith, nat_tests) in
          let same : next_class next ≡ class = omega arith in
          let last : slice_get new (next_class next) ≡ Some number = ap (λ l. slice_get l (next_class next)) is ∙ ap (slice_get (made ++ number ∷ [])) (same ∙ sym was.long) ∙ get-last made number in
          subst (λ o. IsRow behind next 0 ps (row_at rows o)) (sym last) (subst (λ (l : List ℕ). IsRow behind next 0 ps l) (sym at) (here next same))

      inside : (k n : ℕ) → slice_get new k ≡ Some n → (b : Bool) → nat_lt k (length made) ≡ b → n < length rows
      inside k n got true before =
          let less : k < length made = grind (arith, nat_tests) in
          was.inside k n (sym (get-before made number k less) ∙ sym (ap (λ l. slice_get l k) is) ∙ got)
      inside k n got false before =
          let not_less : length made ≤ k = grind (arith, nat_tests) in
          let fits = slice_get_within new k n got in
          let more = length-append made (number ∷ []) in
          let same : k ≡ length made = omega (arith, ap length is, more, fits, not_less) in
          let got_last : Some n ≡ Some number = sym got ∙ ap (λ l. slice_get l k) is ∙ ap (slice_get (made ++ number ∷ [])) same ∙ get-last made number in
          let e : n ≡ number = cc in omega arith

  pub rows_all : (rows : List Row) (made : List ℕ) → AreRowsTo 130 rows made → AreKeptRows ps behind rows made
  rows_all rows made was = record { right = λ next. was.right next (next_few next); inside = was.inside }

  pub kept_on : (old new : List Row) (made : List ℕ) → Keeps old new → AreKeptRows ps behind old made → AreKeptRows ps behind new made
  kept_on old new made keeps was = record {
    right = λ next.
        subst (λ (l : List ℕ). IsRow behind next 0 ps l) (sym (row_at-kept old new (slice_get made (next_class next)) (λ n is. was.inside (next_class next) n is) keeps)) (was.right next);
    inside = λ at number is. let l = keeps.longer in let m = was.inside at number is in omega arith;
  }

-- a list of no patterns has no rows
pub no_rows : (ps : List (Option Tree)) (behind : Option Bool) (rows : List Row) → length ps ≡ 0 → AreKeptRows ps behind rows []
no_rows [] behind rows none = record { right = λ next. refl; inside = λ class number is. absurd cc }
no_rows (p ∷ ps) behind rows none = absurd (omega arith)

-- What is read was written so: the same stack, of what is written.
use Rattle.std.proofs.Common.{◌≡◌, ℕ, ◌+◌, ◌≤◌, Bool, true, false, List, [], ◌∷◌, ◌++◌, Option, Some, None, refl, sym, ap, ◌∙◌, arith, append_assoc, append-nil, add_assoc, option_map}
use Rattle.std.proofs.lemmas.Option.{cond_some}
use Rattle.std.specs.Prelude.{nat_le, if◌then◌else◌}
use Rattle.std.proofs.lemmas.Bool.{leb-true}
use Rattle.tm_onig_class.specs.Tree.{Tree}
use Rattle.tm_onig_atom.specs.declared.options.Options.{Options}
use Rattle.tm_onig_parse.specs.declared.groups.Opener.{Opener}
use Rattle.tm_onig_parse.specs.declared.groups.Opener.TheVariants.{Groups, Sets}
use Rattle.tm_onig_atom.specs.NoOptions.{no_options}
use Rattle.tm_onig_parse.specs.Things.{Opening, inside, opener_of, count, Amount, Mark, least_of, greatest_of, manner_of, Skip, Tok, Toks, Single, Opens, Setting, Closing, Bar, Times, Skipped}
use Rattle.tm_onig_parse.specs.Grammar.{Body, Simply, Under, Alts, First, Also, Row, Nothing, Then, Noted, Piece, Alone, Inside, Repeated, Behind, end_options, written, written_alts, written_row, written_piece, groups, groups_alts, groups_row, groups_piece}
use Rattle.tm_onig_parse.specs.Meaning.{Built, enclosed, quantified, rows, parts, piece_built, built, meaning}
use Rattle.tm_onig_atom.specs.inner.Reading.{◌>>=◌}
use Rattle.tm_onig_parse.specs.inner.Reading.{Close, Or, Repeats, Level, State, added, level_built, is_set, settled, close_in, within, more_times, change_last, step, finish_in, finish}
use Rattle.tm_onig_atom.proofs.Texts.{bind_ok}
use Rattle.tm_onig_parse.proofs.OneRead.{sym_of}
use Rattle.tm_onig_parse.proofs.Structure.{Kind, kind, level, change_last-snoc, done_body, last_body, whole_body, opening_set, same_opened}

-- Alternatives before the last, if there are, and the last row.
pub record Part : Type 0 where
  pub before : Option Alts
  pub row : Row

-- How a group began: at its opening, or where options were set.
pub data Begin : Type 0 where
  Began : Opening → Begin
  Reaches : List ℕ → Options → Begin

-- the groups around, each with how the group inside it began
pub record Stack : Type 0 where
  pub outer : List (Part × Begin)
  pub top : Part

-- the same, by its fields
abbrev part : Option Alts → Row → Part
part before row = record { before = before; row = row }

-- a stack with this top
abbrev pub stack : List (Part × Begin) → Option Alts → Row → Stack
stack outer before row = record { outer = outer; top = part before row }

-- both as alternatives
abbrev alts_of : Option Alts → Row → Alts
alts_of None row = First row
alts_of (Some alts) row = Also alts row

-- what a group began with
abbrev begin_tok : Begin → Tok
begin_tok (Began k) = Opens k
begin_tok (Reaches letters o) = Setting letters o

-- the options inside
abbrev begin_options : Begin → Options → Options
begin_options (Began k) o = inside k o
begin_options (Reaches letters after) o = after

-- its kind
abbrev begin_opener : Begin → Opener
begin_opener (Began k) = opener_of k
begin_opener (Reaches letters o) = Sets

-- the groups that capture, with it
abbrev begin_count : Begin → ℕ → ℕ
begin_count (Began k) n = n + count (opener_of k)
begin_count (Reaches letters o) n = n

-- the options that hold
abbrev pub options_of : List (Part × Begin) → Options
options_of [] = no_options
options_of (p ∷ outer) = begin_options p.1 (options_of outer)

-- what the alternatives before are written as
abbrev before_written : Option Alts → Options → Toks
before_written None o = []
before_written (Some alts) o = written_alts alts o ++ (Bar, o) ∷ []

-- what a part is written as
abbrev part_written : Part → Options → Toks
part_written p o = before_written p.before o ++ written_row p.row o

-- what the groups around are written as, up to the beginning of the inmost
abbrev outer_written : List (Part × Begin) → Toks
outer_written [] = []
outer_written (p ∷ outer) = outer_written outer ++ (part_written p.0 (options_of outer) ++ (begin_tok p.1, options_of outer) ∷ [])

-- what was written so far
abbrev pub stack_written : Stack → Toks
stack_written s = outer_written s.outer ++ part_written s.top (options_of s.outer)

-- the groups opened before the last row
abbrev base : Option Alts → ℕ → ℕ
base None n = n
base (Some alts) n = n + groups_alts alts

-- the groups opened at the end
abbrev opened_of : Part → ℕ → ℕ
opened_of p n = base p.before n + groups_row p.row

-- how many capturing groups were opened before the top's contents
abbrev pub outer_opened : List (Part × Begin) → ℕ
outer_opened [] = 0
outer_opened (p ∷ outer) = begin_count p.1 (opened_of p.0 (outer_opened outer))

-- what the top was when it began
abbrev pub kind_of : List (Part × Begin) → Kind
kind_of [] = kind Groups 0 no_options
kind_of (p ∷ outer) = kind (begin_opener p.1) (begin_count p.1 (opened_of p.0 (outer_opened outer))) (begin_options p.1 (options_of outer))

-- the same options
pub kind_options : (outer : List (Part × Begin)) → (kind_of outer).options ≡ options_of outer
kind_options [] = refl
kind_options (p ∷ outer) = refl

-- what the alternatives before mean
abbrev before_rows : Option Alts → ℕ → List Built
before_rows None n = []
before_rows (Some alts) n = rows alts [] n

-- a level of the reading
abbrev level_of : List (Part × Begin) → Part → Level
level_of outer p = level (kind_of outer) (before_rows p.before (outer_opened outer)) (parts p.row (base p.before (outer_opened outer)))

-- the levels around
abbrev outer_of : List (Part × Begin) → List Level
outer_of [] = []
outer_of (p ∷ outer) = level_of outer p.0 ∷ outer_of outer

-- the state of the reading
abbrev pub state_of : Stack → State
state_of s = record { outer = outer_of s.outer; top = level_of s.outer s.top; opened = opened_of s.top (outer_opened s.outer) }

-- The step went to the state of a stack, written as before and one thing more.
pub record Went (s : Stack) (k : Tok) (next : State) : Type 0 where
  pub to : Stack
  pub is : next ≡ state_of to
  pub whole : stack_written to ≡ stack_written s ++ (k, options_of s.outer) ∷ []

-- one state in both
pub same_state : (a b : State) → Some a ≡ Some b → a ≡ b
same_state a b e = cc

-- what is made is not nested too deep
pub within_ok : {A : Type 0} (b : Built) (f : Built → Option A) (x : A) → (within b >>= f) ≡ Some x → (b.height ≤ 200) × (f b ≡ Some x)
within_ok b f x e = by_test (nat_le b.height 200) refl e
  where
    by_test : (is : Bool) → nat_le b.height 200 ≡ is → ((if is then Some b else None) >>= f) ≡ Some x → (b.height ≤ 200) × (f b ≡ Some x)
    by_test true is e = (leb-true _ _ is, e)
    by_test false is e = absurd cc

-- the level of a body that is whole
abbrev body_level : List (Part × Begin) → Body → Level
body_level outer body = level (kind_of outer) (done_body body (outer_opened outer)) (last_body body (outer_opened outer))

-- What groups that options made come down to: a group of another kind, or the pattern.
record Settles (outer : List (Part × Begin)) (body : Body) (x : List Level × Level) : Type 0 where
  to : List (Part × Begin)
  whole : Body
  is : x ≡ (outer_of to, body_level to whole)
  spelled : outer_written to ++ written whole (options_of to) ≡ outer_written outer ++ written body (options_of outer)
  options : end_options whole (options_of to) ≡ end_options body (options_of outer)
  opened : outer_opened to + groups whole ≡ outer_opened outer + groups body
  ends : is_set (kind_of to).opener ≡ false

-- one pair in both
same_levels : (x y : List Level × Level) → Some x ≡ Some y → y ≡ x
same_levels x y e = cc

-- the levels behind a group that options made
abbrev behind_set : List (Part × Begin) → Part → Built → Option (List Level × Level)
behind_set outer p b = settled (outer_of outer) (added (level_of outer p) b)

-- such a group
abbrev set_built : List (Part × Begin) → Body → Built
set_built outer body = enclosed Sets (kind_of outer).number (level_built (body_level outer body))

-- a group that options made becomes part of the body around
set_step : (outer : List (Part × Begin)) (before : Option Alts) (row : Row) (letters : List ℕ) (o : Options) (body : Body) (x : List Level × Level) →
    settled (outer_of ((part before row, Reaches letters o) ∷ outer)) (body_level ((part before row, Reaches letters o) ∷ outer) body) ≡ Some x →
    settled (outer_of outer) (body_level outer (Under (alts_of before row) letters o body)) ≡ Some x
unfolding settled
set_step outer None row letters o body x e =
    rw whole_body at (within_ok (set_built ((part None row, Reaches letters o) ∷ outer) body) (behind_set outer (part None row)) x e).1
set_step outer (Some alts) row letters o body x e =
    rw (whole_body, add_assoc (outer_opened outer) (groups_alts alts) (groups_row row)) at (within_ok (set_built ((part (Some alts) row, Reaches letters o) ∷ outer) body) (behind_set outer (part (Some alts) row)) x e).1

-- so what it comes down to is the same
set_back : (outer : List (Part × Begin)) (before : Option Alts) (row : Row) (letters : List ℕ) (o : Options) (body : Body) (x : List Level × Level) →
    Settles outer (Under (alts_of before row) letters o body) x → Settles ((part before row, Reaches letters o) ∷ outer) body x
set_back outer None row letters o body x c = record {
  to = c.to;
  whole = c.whole;
  is = c.is;
  spelled = c.spelled ∙ simp append_assoc;
  options = c.options;
  opened = c.opened ∙ omega arith;
  ends = c.ends;
}
set_back outer (Some alts) row letters o body x c = record {
  to = c.to;
  whole = c.whole;
  is = c.is;
  spelled = c.spelled ∙ simp append_assoc;
  options = c.options;
  opened = c.opened ∙ omega arith;
  ends = c.ends;
}

-- where nothing is to be settled
settles_here : (outer : List (Part × Begin)) (body : Body) (x : List Level × Level) → is_set (kind_of outer).opener ≡ false → x ≡ (outer_of outer, body_level outer body) → Settles outer body x
settles_here outer body x ends is = record { to = outer; whole = body; is = is; spelled = refl; options = refl; opened = refl; ends = ends }

-- What is settled was written so.
settled_back : (outer : List (Part × Begin)) (body : Body) (x : List Level × Level) → settled (outer_of outer) (body_level outer body) ≡ Some x → Settles outer body x
unfolding settled
settled_back [] body x e = settles_here [] body x refl (same_levels _ _ e)
settled_back ((p, Began k) ∷ outer) body x e = settles_here ((p, Began k) ∷ outer) body x (opening_set k) (same_levels _ _ (rw opening_set at e))
settled_back ((p, Reaches letters o) ∷ outer) body x e =
    set_back outer p.before p.row letters o body x (settled_back outer (Under (alts_of p.before p.row) letters o body) x (set_step outer p.before p.row letters o body x e))

-- the level of a part
part_body : (outer : List (Part × Begin)) (before : Option Alts) (row : Row) → level_of outer (part before row) ≡ body_level outer (Simply (alts_of before row))
part_body outer None row = refl
part_body outer (Some alts) row = refl

-- how it is written
part_toks : (before : Option Alts) (row : Row) (o : Options) → written (Simply (alts_of before row)) o ≡ before_written before o ++ written_row row o
part_toks None row o = refl
part_toks (Some alts) row o = simp append_assoc

-- how many groups it opens
part_opened : (before : Option Alts) (row : Row) (n : ℕ) → n + groups (Simply (alts_of before row)) ≡ base before n + groups_row row
part_opened None row n = refl
part_opened (Some alts) row n = omega arith

-- What a stack settles to.
record Whole (outer : List (Part × Begin)) (before : Option Alts) (row : Row) (x : List Level × Level) : Type 0 where
  to : List (Part × Begin)
  body : Body
  is : x ≡ (outer_of to, body_level to body)
  spelled : outer_written to ++ written body (options_of to) ≡ stack_written (stack outer before row)
  options : end_options body (options_of to) ≡ options_of outer
  opened : outer_opened to + groups body ≡ opened_of (part before row) (outer_opened outer)
  ends : is_set (kind_of to).opener ≡ false

-- a stack that is settled
whole_back : (outer : List (Part × Begin)) (before : Option Alts) (row : Row) (x : List Level × Level) → settled (outer_of outer) (level_of outer (part before row)) ≡ Some x → Whole outer before row x
whole_back outer before row x e =
    let c = settled_back outer (Simply (alts_of before row)) x (sym (ap (settled (outer_of outer)) (part_body outer before row)) ∙ e) in
    record {
      to = c.to;
      body = c.whole;
      is = c.is;
      spelled = c.spelled ∙ ap (λ ks. outer_written outer ++ ks) (part_toks before row (options_of outer));
      options = c.options;
      opened = c.opened ∙ part_opened before row (outer_opened outer);
      ends = c.ends;
    }

-- the state behind a group
closed : (outer : List Level) (l top : Level) (opened : ℕ) (next : State) → close_in opened (l ∷ outer, top) ≡ Some next →
    next ≡ record { outer = outer; top = added l (enclosed top.opener top.number (level_built top)); opened = opened }
closed outer l top opened next e =
    let made : State = record { outer = outer; top = added l (enclosed top.opener top.number (level_built top)); opened = opened } in
    sym (same_state made next (within_ok (enclosed top.opener top.number (level_built top)) (λ b. Some (record { outer = outer; top = added l b; opened = opened })) next e).1)

-- the group that was closed
group_closed : (outer : List (Part × Begin)) (before : Option Alts) (row : Row) (to : List (Part × Begin)) (body : Body) (next : State) →
    outer_written to ++ written body (options_of to) ≡ stack_written (stack outer before row) → end_options body (options_of to) ≡ options_of outer →
    outer_opened to + groups body ≡ opened_of (part before row) (outer_opened outer) → is_set (kind_of to).opener ≡ false →
    close_in (opened_of (part before row) (outer_opened outer)) (outer_of to, body_level to body) ≡ Some next → Went (stack outer before row) Closing next
group_closed outer before row [] body next spelled options opened ends e = absurd cc
group_closed outer before row ((p, Reaches letters o) ∷ to) body next spelled options opened ends e = absurd cc
group_closed outer before row ((p, Began k) ∷ to) body next spelled options opened ends e = record {
  to = stack to p.before (Then p.row (Inside k body));
  is = closed (outer_of to) (level_of to p) (body_level ((p, Began k) ∷ to) body) _ next e ∙ (rw whole_body (same_opened _ _ _ _ (omega arith)));
  whole = (rw options (simp append_assoc)) ∙ ap (λ ks. ks ++ (Closing, options_of outer) ∷ []) spelled;
}

-- behind a `)`
close_back : (outer : List (Part × Begin)) (before : Option Alts) (row : Row) (next : State) → step Close (state_of (stack outer before row)) ≡ Some next → Went (stack outer before row) Closing next
unfolding step
close_back outer before row next e =
    let b = bind_ok (settled (outer_of outer) (level_of outer (part before row))) (close_in (opened_of (part before row) (outer_opened outer))) next e in
    let c = whole_back outer before row b.0 b.1 in
    group_closed outer before row c.to c.body next c.spelled c.options c.opened c.ends (ap (close_in (opened_of (part before row) (outer_opened outer))) (sym c.is) ∙ b.2)

-- behind a `|`
bar_back : (outer : List (Part × Begin)) (before : Option Alts) (row : Row) (next : State) → step Or (state_of (stack outer before row)) ≡ Some next → Went (stack outer before row) Bar next
unfolding step
bar_back outer None row next e = record {
  to = stack outer (Some (First row)) Nothing;
  is = sym (same_state _ _ e) ∙ (rw append-nil (same_opened _ _ _ _ (omega arith)));
  whole = simp (append_assoc, append-nil);
}
bar_back outer (Some alts) row next e = record {
  to = stack outer (Some (Also alts row)) Nothing;
  is = sym (same_state _ _ e) ∙ (rw append-nil (same_opened _ _ _ _ (omega arith)));
  whole = simp (append_assoc, append-nil);
}

-- things that mean nothing, one after another
abbrev notes : List Skip → Options → Toks
notes [] o = []
notes (s ∷ ss) o = (Skipped s, o) ∷ notes ss o

-- a piece with these behind it
abbrev behind : Piece → List Skip → Piece
behind piece [] = piece
behind piece (s ∷ ss) = behind (Behind piece s) ss

-- how it is written
behind_written : (ss : List Skip) (piece : Piece) (o : Options) → written_piece (behind piece ss) o ≡ written_piece piece o ++ notes ss o
behind_written [] piece o = sym (append-nil (written_piece piece o))
behind_written (s ∷ ss) piece o = behind_written ss (Behind piece s) o ∙ append_assoc (written_piece piece o) ((Skipped s, o) ∷ []) (notes ss o)

-- it means the same
behind_built : (ss : List Skip) (piece : Piece) (n : ℕ) → piece_built (behind piece ss) n ≡ piece_built piece n
behind_built [] piece n = refl
behind_built (s ∷ ss) piece n = behind_built ss (Behind piece s) n

-- and has as many groups
behind_groups : (ss : List Skip) (piece : Piece) → groups_piece (behind piece ss) ≡ groups_piece piece
behind_groups [] piece = refl
behind_groups (s ∷ ss) piece = behind_groups ss (Behind piece s)

-- The last piece is repeated, behind what means nothing.
record Repeats_last (row : Row) (ss : List Skip) (amount : Amount) (mark : Mark) (o : Options) (r : List Built) (n : ℕ) : Type 0 where
  to : Row
  is : r ≡ parts to n
  whole : written_row to o ≡ written_row row o ++ (notes ss o ++ (Times amount mark, o) ∷ [])
  count : groups_row to ≡ groups_row row

-- one list in both
same_list : (a b : List Built) → Some a ≡ Some b → a ≡ b
same_list a b e = cc

-- the last part was changed
within_last : (b : Built) (ts r : List Built) → option_map (λ u. ts ++ u ∷ []) (within b) ≡ Some r → r ≡ ts ++ b ∷ []
within_last b ts r e = by_test (nat_le b.height 200) e
  where
    by_test : (is : Bool) → option_map (λ u. ts ++ u ∷ []) (if is then Some b else None) ≡ Some r → r ≡ ts ++ b ∷ []
    by_test true e = sym (same_list _ _ e)
    by_test false e = absurd cc

-- the same parts of a quantifier
abbrev last_times : Amount → Mark → Built → Option Built
last_times amount mark = more_times (least_of amount) (greatest_of amount) (manner_of amount mark)

-- the last piece with a quantifier
repeat_back : (row : Row) (ss : List Skip) (amount : Amount) (mark : Mark) (o : Options) (r : List Built) (n : ℕ) →
    change_last (last_times amount mark) (parts row n) ≡ Some r → Repeats_last row ss amount mark o r n
unfolding change_last
repeat_back Nothing ss amount mark o r n e = absurd cc
repeat_back (Then row piece) ss amount mark o r n e = record {
  to = Then row (Repeated (behind piece ss) amount mark);
  is = within_last _ (parts row n) r (rw change_last-snoc at e)
      ∙ ap (λ b. parts row n ++ quantified (least_of amount) (greatest_of amount) (manner_of amount mark) b ∷ []) (sym (behind_built ss piece (n + groups_row row)));
  whole = rw behind_written (simp append_assoc);
  count = ap (λ k. groups_row row + k) (behind_groups ss piece);
}
repeat_back (Noted row s) ss amount mark o r n e =
    let b = repeat_back row (s ∷ ss) amount mark o r n e in
    record {
      to = b.to;
      is = b.is;
      whole = b.whole ∙ sym (append_assoc (written_row row o) ((Skipped s, o) ∷ []) (notes ss o ++ (Times amount mark, o) ∷ []));
      count = b.count;
    }

-- the list that there was
map_ok : (o : Option (List Built)) (f : List Built → State) (next : State) → option_map f o ≡ Some next → (r : List Built) × (o ≡ Some r) × (next ≡ f r)
map_ok None f next e = absurd cc
map_ok (Some r) f next e = (r, refl, sym (same_state _ _ e))

-- the stack with the piece repeated
times_made : (outer : List (Part × Begin)) (before : Option Alts) (row to : Row) (k : Tok) (r : List Built) (next : State) →
    next ≡ record { outer = outer_of outer; top = level (kind_of outer) (before_rows before (outer_opened outer)) r; opened = base before (outer_opened outer) + groups_row row } →
    r ≡ parts to (base before (outer_opened outer)) → written_row to (options_of outer) ≡ written_row row (options_of outer) ++ (k, options_of outer) ∷ [] → groups_row to ≡ groups_row row →
    Went (stack outer before row) k next
times_made outer before row to k r next is made toks count = record {
  to = stack outer before to;
  is = is ∙ (rw (made, count) refl);
  whole = (rw toks (simp append_assoc));
}

-- behind a quantifier
times_back : (outer : List (Part × Begin)) (before : Option Alts) (row : Row) (amount : Amount) (mark : Mark) (next : State) →
    step (Repeats (least_of amount) (greatest_of amount) (manner_of amount mark)) (state_of (stack outer before row)) ≡ Some next → Went (stack outer before row) (Times amount mark) next
unfolding step
times_back outer before row amount mark next e =
    let m = map_ok _ _ next e in
    let r = repeat_back row [] amount mark (options_of outer) m.0 (base before (outer_opened outer)) m.1 in
    times_made outer before row r.to (Times amount mark) m.0 next m.2 r.is r.whole r.count

-- Each step of the reading is one of what is written.
pub step_back : (k : Tok) (s : Stack) (next : State) → step (sym_of k (options_of s.outer)) (state_of s) ≡ Some next → Went s k next
unfolding step
step_back (Single a) s next e = record {
  to = stack s.outer s.top.before (Then s.top.row (Alone a));
  is = sym (same_state _ _ e) ∙ same_opened _ _ _ _ (omega arith);
  whole = simp append_assoc;
}
step_back (Opens k) s next e = record {
  to = stack ((s.top, Began k) ∷ s.outer) None Nothing;
  is = sym ((cond_some _ _ _ e).1) ∙ same_opened _ _ _ _ (omega arith);
  whole = simp (append_assoc, append-nil);
}
step_back (Setting letters o) s next e = record {
  to = stack ((s.top, Reaches letters o) ∷ s.outer) None Nothing;
  is = sym (same_state _ _ e) ∙ same_opened _ _ _ _ (omega arith);
  whole = simp (append_assoc, append-nil);
}
step_back Closing s next e = close_back s.outer s.top.before s.top.row next e
step_back (Skipped s) t next e = record {
  to = stack t.outer t.top.before (Noted t.top.row s);
  is = sym (same_state _ _ e);
  whole = simp append_assoc;
}
step_back Bar s next e = bar_back s.outer s.top.before s.top.row next e
step_back (Times amount mark) s next e = times_back s.outer s.top.before s.top.row amount mark next e

-- What was written ends as a whole.
pub record Ends (s : Stack) (ks : Toks) (tree : Tree) : Type 0 where
  pub body : Body
  pub whole : written body no_options ≡ stack_written s ++ ks
  pub means : tree ≡ meaning body
  pub few : groups body ≤ 1000
  pub shallow : (built body).height ≤ 200

-- one tree in both
same_tree : (a b : Tree) → Some a ≡ Some b → b ≡ a
same_tree a b e = cc

-- the whole, with its limits
ended : (s : Stack) (to : List (Part × Begin)) (body : Body) (tree : Tree) → outer_written to ++ written body (options_of to) ≡ stack_written s → outer_opened to + groups body ≤ 1000 →
    finish_in (outer_of to, body_level to body) ≡ Some tree → Ends s [] tree
ended s (p ∷ to) body tree spelled few e = absurd cc
ended s [] body tree spelled few e =
    let over : (within (built body) >>= λ b. Some b.tree) ≡ Some tree = rw whole_body at e in
    let low = within_ok (built body) (λ b. Some b.tree) tree over in
    record { body = body; whole = spelled ∙ sym (append-nil (stack_written s)); means = same_tree _ _ low.1; few = omega arith; shallow = low.0 }

-- Where the reading ends, what was written is a whole.
pub finish_back : (outer : List (Part × Begin)) (before : Option Alts) (row : Row) (tree : Tree) →
    (state_of (stack outer before row)).opened ≤ 1000 → finish (state_of (stack outer before row)) ≡ Some tree → Ends (stack outer before row) [] tree
finish_back outer before row tree few e =
    let b = bind_ok (settled (outer_of outer) (level_of outer (part before row))) finish_in tree e in
    let c = whole_back outer before row b.0 b.1 in
    ended (stack outer before row) c.to c.body tree c.spelled (omega (arith, c.opened)) (ap finish_in (sym c.is) ∙ b.2)

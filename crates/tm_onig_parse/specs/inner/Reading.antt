-- A second reading: one thing after another, over a stack of open groups.
use Rattle.std.specs.Prelude.{ℕ, zero, suc, ◌+◌, ◌*◌, ◌==◌, ◌&&◌, nat_le, nat_lt, Bool, true, false, List, [], ◌∷◌, ◌++◌, length, Option, Some, None, option_map, if◌then◌else◌}
use Rattle.std.specs.Char.{is_ascii_digit, digit_value}
use Rattle.tm_onig_class.specs.Tree.{Tree, Holds}
use Rattle.tm_onig_atom.specs.declared.options.Options.{Options}
use Rattle.tm_onig_parse.specs.declared.groups.Opener.{Opener}
use Rattle.tm_onig_parse.specs.declared.groups.Opener.TheVariants.{Captures, Groups, Sets, Keeps, Looks}
use Rattle.tm_onig_parse.specs.declared.quantifiers.Manner.{Manner}
use Rattle.tm_onig_parse.specs.declared.quantifiers.Manner.TheVariants.{Greedy, Lazy, Possessive, Optional}
use Rattle.tm_onig_class.specs.declared.patterns.Position.{Position}
use Rattle.tm_onig_atom.specs.inner.ClassReading.{class_at}
use Rattle.tm_onig_atom.specs.NoOptions.{no_options}
use Rattle.tm_onig_atom.specs.inner.Reading as Atom
use Rattle.tm_onig_parse.specs.Characters.{single_tree, place_letter}
use Rattle.tm_onig_atom.specs.Escapes.{begins}
use Rattle.tm_onig_parse.specs.Names.{Names, is_name_char, starts_name, begins_digit, Key, Number, Name, meant_in}
use Rattle.tm_onig_parse.specs.Options.{letter}
use Rattle.tm_onig_parse.specs.Things.{is_blank, begins_reference, back_tree, sign_bounds, begun, count}
use Rattle.tm_onig_parse.specs.Meaning.{Built, nested, leaf, row_built, alts_built, enclosed, quantified}
use Rattle.tm_onig_atom.specs.inner.Reading.{◌>>=◌, rest_of}

-- What is left of one thing once it is read.
pub data Sym : Type 0 where
  Means : Built → Sym
  -- how, the name, and the options inside
  Open : Opener → Option (List ℕ) → Options → Sym
  Switches : Options → Sym
  Close : Sym
  Or : Sym
  Repeats : ℕ → Option ℕ → Manner → Sym
  Skips : Sym

-- one thing, and the text behind it
abbrev pub Found : Type 0
Found = Option (Sym × List ℕ)

-- the text behind its digits, and whether there were some, or had been before
unfoldable pub digits_at : Bool → List ℕ → Bool × List ℕ
digits_at some [] = (some, [])
digits_at some (c ∷ t) = if is_ascii_digit c then digits_at true t else (some, c ∷ t)

-- a brace behind digits
abbrev pub ends_bounds : Bool × List ℕ → Bool
ends_bounds p = p.0 && begins 125 p.1

-- what makes bounds of digits: a brace, or a comma and a brace with digits on one side
abbrev pub after_digits : Bool × List ℕ → Bool
after_digits (some, []) = false
after_digits (some, c ∷ t) = if c == 44 then ends_bounds (digits_at some t) else some && (c == 125)

-- whether bounds stand at the front
unfoldable pub bounds_at : List ℕ → Bool
bounds_at t = after_digits (digits_at false t)

-- a comment, up to its `)`
unfoldable pub comment_at : List ℕ → Found
comment_at [] = None
comment_at (c ∷ t) = if c == 41 then Some (Skips, t) else comment_at t

-- the characters of a name at the front, and the text behind them
unfoldable pub name_at : List ℕ → List ℕ × List ℕ
name_at [] = ([], [])
name_at (c ∷ t) = if is_name_char c then (c ∷ (name_at t).0, (name_at t).1) else ([], c ∷ t)

-- a name that ends before this character, and the text behind that
abbrev pub name_to : ℕ → List ℕ → Option (List ℕ × List ℕ)
name_to d t = let p = name_at t in if starts_name p.0 && begins d p.1 then Some (p.0, rest_of p.1) else None

-- a group with a name
abbrev pub named_at : ℕ → Options → List ℕ → Found
named_at d o t = name_to d t >>= λ p. Some (Open Captures (Some p.0) o, p.1)

-- what stands behind a `(?<`
unfoldable pub behind_at : Options → List ℕ → Found
behind_at o [] = None
behind_at o (c ∷ t) =
    if c == 61 then Some (Open (Looks false false) None o, t)
    else if c == 33 then Some (Open (Looks false true) None o, t)
    else named_at 62 o (c ∷ t)

-- letters of options, up to a `:` or a `)`
unfoldable pub switch_at : Bool → Options → List ℕ → Found
switch_at on o [] = None
switch_at on o (c ∷ t) =
    if c == 58 then Some (Open Groups None o, t)
    else if c == 41 then Some (Switches o, t)
    else letter on o c >>= λ l. switch_at l.0 l.1 t

-- what stands behind a `(?`
unfoldable pub groups_at : Options → List ℕ → Found
groups_at o [] = None
groups_at o (c ∷ t) =
    if c == 62 then Some (Open Keeps None o, t)
    else if c == 61 then Some (Open (Looks true false) None o, t)
    else if c == 33 then Some (Open (Looks true true) None o, t)
    else if c == 60 then behind_at o t
    else if c == 39 then named_at 39 o t
    else if c == 35 then comment_at t
    else switch_at true o (c ∷ t)

-- what stands behind a `(`
unfoldable pub open_at : Options → List ℕ → Found
open_at o [] = Some (Open Captures None o, [])
open_at o (c ∷ t) = if c == 63 then groups_at o t else Some (Open Captures None o, c ∷ t)

-- a quantifier with these bounds, behind its sign or brace, where a `?` sets this manner, and whether a `+`
-- is its mark
unfoldable pub times_at : ℕ → Option ℕ → Manner → Bool → List ℕ → Found
times_at least greatest question plus [] = Some (Repeats least greatest Greedy, [])
times_at least greatest question plus (c ∷ t) =
    if c == 63 then Some (Repeats least greatest question, t)
    else if plus && (c == 43) then Some (Repeats least greatest Possessive, t)
    else Some (Repeats least greatest Greedy, c ∷ t)

-- a number that is not above the limit
abbrev pub limited : ℕ → Option ℕ
limited n = if nat_le n 100000 then Some n else None

-- a number with one digit more
abbrev pub with_digit : Option ℕ → ℕ → Option ℕ
with_digit None digit = None
with_digit (Some n) digit = limited (n * 10 + digit)

-- a number with the digits at the front, and the text behind them
unfoldable pub number_at : Option ℕ → List ℕ → Option ℕ × List ℕ
number_at n [] = (n, [])
number_at n (c ∷ t) = if nat_lt (digit_value c) 10 then number_at (with_digit n (digit_value c)) t else (n, c ∷ t)

-- bounds, whether they are one number, and the text behind them
abbrev pub Interval : Type 0
Interval = Option ((ℕ × Option ℕ) × (Bool × List ℕ))

-- the second number is at least the first
abbrev pub ordered : ℕ → Option ℕ × List ℕ → Interval
ordered n (None, t) = None
ordered n (Some m, t) = if nat_le n m then Some ((n, Some m), (false, rest_of t)) else None

-- what stands behind the comma
abbrev pub second_at : ℕ → List ℕ → Interval
second_at n t = if begins 125 t then Some ((n, None), (false, rest_of t)) else ordered n (number_at (Some 0) t)

-- what stands behind the first number
abbrev pub first_at : Option ℕ × List ℕ → Interval
first_at (None, t) = None
first_at (Some n, t) = if begins 44 t then second_at n (rest_of t) else Some ((n, Some n), (true, rest_of t))

-- the bounds at the front
abbrev pub interval_at : List ℕ → Interval
interval_at t = first_at (number_at (Some 0) t)

-- what a `?` makes of bounds
abbrev pub lazily_exact : Bool → Manner
lazily_exact exact = if exact then Optional else Lazy

-- a quantifier with such bounds
abbrev pub braces_at : Interval → Found
braces_at None = None
braces_at (Some x) = times_at x.0.0 x.0.1 (lazily_exact x.1.0) false x.1.1

-- a leaf, if there is one
abbrev pub means : Option Tree → List ℕ → Found
means None t = None
means (Some tree) t = Some (Means (leaf tree), t)

-- what a reference means, if there is one
abbrev pub refers : Option Names → Options → Key → List ℕ → Found
refers names o key t = means (option_map (back_tree o) (meant_in names key)) t

-- a reference by number
abbrev pub numbered : Option Names → Options → Option ℕ → List ℕ → Found
numbered names o None t = None
numbered names o (Some n) t = refers names o (Number n) t

-- digits behind a backslash
abbrev pub digits_ref : Option Names → Options → List ℕ → Found
digits_ref names o t = let p = number_at (Some 0) t in numbered names o p.0 p.1

-- what stands behind a `\k<` before a digit
abbrev pub number_ref : Option Names → Options → List ℕ → Found
number_ref names o t = let p = number_at (Some 0) t in if begins 62 p.1 then numbered names o p.0 (rest_of p.1) else None

-- a name behind a `\k<` or a `\k'`
abbrev pub name_ref : Option Names → ℕ → Options → List ℕ → Found
name_ref names d o t = name_to d t >>= λ p. refers names o (Name p.0) p.1

-- what stands behind a `\k`
unfoldable pub keyed_at : Option Names → Options → List ℕ → Found
keyed_at names o [] = None
keyed_at names o (c ∷ t) =
    if c == 60 then (if begins_digit t then number_ref names o t else name_ref names 62 o t)
    else if c == 39 then name_ref names 39 o t
    else None

-- a reference behind a backslash
abbrev pub reference_at : Option Names → Options → List ℕ → Found
reference_at names o [] = digits_ref names o []
reference_at names o (c ∷ t) = if c == 107 then keyed_at names o t else digits_ref names o (c ∷ t)

-- an escape, if there is one
abbrev pub means_escape : Option (Tree × List ℕ) → Found
means_escape None = None
means_escape (Some x) = Some (Means (leaf x.0), x.1)

-- a place, or else an escape
abbrev pub place_or : Options → Option Position → ℕ → List ℕ → Found
place_or o (Some place) c t = Some (Means (leaf (Holds place)), t)
place_or o None c t = means_escape (Atom.escape_at o (c ∷ t))

-- what stands behind a backslash
unfoldable pub escape_at : Option Names → Options → List ℕ → Found
escape_at names o [] = None
escape_at names o (c ∷ t) = if begins_reference c then reference_at names o (c ∷ t) else place_or o (place_letter c) c t

-- a class, if there is one
abbrev pub means_class : Option ((Tree × ℕ) × List ℕ) → Found
means_class None = None
means_class (Some x) = Some (Means (nested x.0.0 x.0.1), x.1)

-- the end of the line
unfoldable pub line_end : List ℕ → List ℕ
line_end [] = []
line_end (c ∷ t) = if c == 10 then c ∷ t else line_end t

-- bounds, or a character or sign that stands alone
abbrev pub bounds_or : Options → ℕ → List ℕ → Found
bounds_or o c t = if (c == 123) && bounds_at t then braces_at (interval_at t) else means (single_tree o c) t

-- a quantifier, or what is skipped, or a character
abbrev pub sign_or : Options → Option (ℕ × Option ℕ) → ℕ → List ℕ → Found
sign_or o None c t =
    if o.extended && is_blank c then Some (Skips, t)
    else if o.extended && (c == 35) then Some (Skips, line_end t)
    else bounds_or o c t
sign_or o (Some bounds) c t = times_at bounds.0 bounds.1 Lazy true t

-- the first thing of the text, where the pattern has these groups
unfoldable pub token_at : Option Names → Options → List ℕ → Found
token_at names o [] = None
token_at names o (c ∷ t) =
    if c == 40 then open_at o t
    else if c == 41 then Some (Close, t)
    else if c == 124 then Some (Or, t)
    else if c == 92 then escape_at names o t
    else if c == 91 then means_class (class_at 200 o t)
    else sign_or o (sign_bounds c) c t

-- A group that is open: how it was opened, the number of the last capturing group then, the options
-- that hold in it, the alternatives before the last, and the parts of the last.
pub record Level : Type 0 where
  pub opener : Opener
  pub number : ℕ
  pub options : Options
  pub done : List Built
  pub row : List Built

-- What was read so far.
pub record State : Type 0 where
  -- the groups around, the nearest first
  pub outer : List Level
  pub top : Level
  -- how many groups were opened that capture
  pub opened : ℕ

-- a group that holds nothing yet
abbrev pub fresh : Opener → ℕ → Options → Level
fresh opener number o = record { opener = opener; number = number; options = o; done = []; row = [] }

-- before the first thing
abbrev pub start : State
start = record { outer = []; top = fresh Groups 0 no_options; opened = 0 }

-- the level with another last row
abbrev pub with_row : Level → List Built → Level
with_row l row = record { opener = l.opener; number = l.number; options = l.options; done = l.done; row = row }

-- the level with one more part
abbrev pub added : Level → Built → Level
added level part = with_row level (level.row ++ part ∷ [])

-- the level behind a `|`
abbrev pub next_row : Level → Level
next_row l = record { opener = l.opener; number = l.number; options = l.options; done = l.done ++ row_built l.row ∷ []; row = [] }

-- what the level holds, at its end
abbrev pub level_built : Level → Built
level_built level = alts_built (level.done ++ row_built level.row ∷ [])

-- What is nested too deep is not made.
abbrev pub within : Built → Option Built
within b = if nat_le b.height 200 then Some b else None

-- options that were set made the group
abbrev pub is_set : Opener → Bool
is_set Sets = true
is_set opener = false

-- the groups that options made end with the group around them
unfoldable pub settled : List Level → Level → Option (List Level × Level)
settled [] top = Some ([], top)
settled (l ∷ outer) top =
    if is_set top.opener then (within (enclosed top.opener top.number (level_built top)) >>= λ b. settled outer (added l b))
    else Some (l ∷ outer, top)

-- the state behind a `)`
abbrev pub close_in : ℕ → List Level × Level → Option State
close_in opened ([], top) = None
close_in opened (l ∷ outer, top) =
    within (enclosed top.opener top.number (level_built top)) >>= λ b. Some (record { outer = outer; top = added l b; opened = opened })

-- the list with its last element changed
unfoldable pub change_last : (Built → Option Built) → List Built → Option (List Built)
change_last f [] = None
change_last f (t ∷ []) = option_map (λ u. u ∷ []) (f t)
change_last f (t ∷ u ∷ ts) = option_map (λ us. t ∷ us) (change_last f (u ∷ ts))

-- a repetition, if it is not nested too deep
abbrev pub more_times : ℕ → Option ℕ → Manner → Built → Option Built
more_times least greatest manner b = within (quantified least greatest manner b)

-- the state in a level inside
abbrev pub entered : Opener → ℕ → Options → State → State
entered k opened o s = record { outer = s.top ∷ s.outer; top = fresh k opened o; opened = opened }

-- the state behind an opening, if there are not too many groups
abbrev pub open_in : Opener → Options → State → Option State
open_in k o s = let opened = s.opened + count k in if nat_le opened 1000 then Some (entered k opened o s) else None

-- the state behind one more thing
unfoldable pub step : Sym → State → Option State
step (Means part) s = Some (record { outer = s.outer; top = added s.top part; opened = s.opened })
step (Open k name o) s = open_in k o s
step (Switches o) s = Some (entered Sets s.opened o s)
step Close s = settled s.outer s.top >>= close_in s.opened
step Or s = Some (record { outer = s.outer; top = next_row s.top; opened = s.opened })
step (Repeats least greatest manner) s =
    option_map (λ row. record { outer = s.outer; top = with_row s.top row; opened = s.opened })
    (change_last (more_times least greatest manner) s.top.row)
step Skips s = Some s

-- the tree, where no group is open
abbrev pub finish_in : List Level × Level → Option Tree
finish_in ([], top) = within (level_built top) >>= λ b. Some b.tree
finish_in (level ∷ outer, top) = None

-- the tree at the end of the text
abbrev pub finish : State → Option Tree
finish s = settled s.outer s.top >>= finish_in

-- the tree of the text from a state on, in so many steps at most, where the pattern has these groups
unfoldable pub read : Option Names → ℕ → State → List ℕ → Option Tree
read names zero s [] = finish s
read names zero s (c ∷ t) = None
read names (suc n) s [] = finish s
read names (suc n) s (c ∷ t) = token_at names s.top.options (c ∷ t) >>= λ y. step y.0 s >>= λ next. read names n next y.1

-- the tree of the text from a state on
abbrev pub onward : Option Names → State → List ℕ → Option Tree
onward names s t = read names (length t) s t

-- What is read first: the capturing groups alone, under the options of the group that is open and of
-- those around.
pub record Outline : Type 0 where
  -- the options of the groups around, the nearest first
  pub outer : List Options
  pub top : Options
  pub names : Names

-- before the first thing
abbrev pub outline_start : Outline
outline_start = record { outer = []; top = no_options; names = [] }

-- behind a `)`
abbrev pub outline_close : List Options → Names → Option Outline
outline_close [] names = None
outline_close (o ∷ outer) names = Some (record { outer = outer; top = o; names = names })

-- behind one more thing
abbrev pub outline_step : Sym → Outline → Option Outline
outline_step (Open k name o) s = Some (record { outer = s.top ∷ s.outer; top = o; names = s.names ++ begun k name })
outline_step (Switches o) s = Some (record { outer = s.outer; top = o; names = s.names })
outline_step Close s = outline_close s.outer s.names
outline_step _ s = Some s

-- the groups of the text from there on
unfoldable pub names_read : ℕ → Outline → List ℕ → Option Names
names_read n s [] = Some s.names
names_read zero s (c ∷ t) = None
names_read (suc n) s (c ∷ t) = token_at None s.top (c ∷ t) >>= λ y. outline_step y.0 s >>= λ next. names_read n next y.1

-- the groups of a text
abbrev pub names_onward : Outline → List ℕ → Option Names
names_onward s t = names_read (length t) s t

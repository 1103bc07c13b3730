-- The smallest things that are written, one after another, each under the options that hold where it
-- begins.
use Rattle.std.specs.Prelude.{◌≡◌, ℕ, ◌≤◌, ◌==◌, ◌&&◌, ◌||◌, not, Bool, true, false, List, [], ◌∷◌, ◌++◌, Option, Some, None, option_map, if◌then◌else◌}
use Rattle.std.specs.List.{list_any}
use Rattle.std.specs.Char.{is_ascii_digit}
use Rattle.tm_onig_class.specs.Tree.{Tree, Back}
use Rattle.tm_onig_class.specs.Listed.{in_listed}
use Rattle.tm_onig_class.specs.declared.listed.Listed.TheVariants.{Space}
use Rattle.tm_onig_atom.specs.declared.options.Options.{Options}
use Rattle.tm_onig_parse.specs.declared.groups.Opener.{Opener}
use Rattle.tm_onig_parse.specs.declared.groups.Opener.TheVariants.{Captures, Groups, Sets, Keeps, Looks}
use Rattle.tm_onig_parse.specs.declared.quantifiers.Manner.{Manner}
use Rattle.tm_onig_parse.specs.declared.quantifiers.Manner.TheVariants.{Greedy, Lazy, Possessive, Optional}
use Rattle.tm_onig_class.specs.declared.patterns.Position.{Position}
use Rattle.tm_onig_atom.specs.Classes.{Class, class_text, IsClass, class_height, class_tree}
use Rattle.tm_onig_atom.specs.Escapes.{begins, Escape, escape_head, escape_text, IsEscape, escape_tree}
use Rattle.tm_onig_parse.specs.Characters.{single_tree, place_letter}
use Rattle.tm_onig_parse.specs.Intervals.{Bounds, Exactly, bounds_text, IsBounds, NoBounds, least_in, greatest_in, AreLimited}
use Rattle.tm_onig_parse.specs.Names.{Names, IsName, Reference, reference_text, IsReference, key_of, meant_in}
use Rattle.tm_onig_parse.specs.Options.{switched}

-- White space: where options say so it means nothing, outside classes.
abbrev pub is_blank : ℕ → Bool
is_blank = in_listed Space

-- The character is skipped, with what follows it up to the line's end if it is a `#`.
abbrev pub skips : Options → ℕ → Bool
skips o c = o.extended && (is_blank c || (c == 35))

-- What matches by itself, with the tree that it means: a character or a sign, an escape of a character or
-- a set, a place that has a letter, a class, or a reference.
pub data Atom : Type 0 where
  Plain : ℕ → Tree → Atom
  Escaped : Escape → Tree → Atom
  Placed : ℕ → Position → Atom
  Bracketed : Class → Tree → Atom
  Refers : Reference → Tree → Atom

-- How it is spelled.
abbrev pub atom_text : Atom → List ℕ
atom_text (Plain c tree) = c ∷ []
atom_text (Escaped e tree) = 92 ∷ escape_text e
atom_text (Placed c place) = 92 ∷ c ∷ []
atom_text (Bracketed k tree) = class_text k
atom_text (Refers r tree) = 92 ∷ reference_text r

-- A character that begins a reference behind a backslash.
abbrev pub begins_reference : ℕ → Bool
begins_reference c = (is_ascii_digit c && not (c == 48)) || (c == 107)

-- What a reference to these groups means.
abbrev pub back_tree : Options → List ℕ → Tree
back_tree o groups = Back groups o.fold

-- It is one under these options, before what follows, where the pattern has these groups. A `{` begins
-- no bounds. Behind a backslash a reference and a place come before what is an escape in classes.
abbrev pub IsAtom : Option Names → Atom → Options → List ℕ → Type 0
IsAtom names (Plain c tree) o rest = (single_tree o c ≡ Some tree) × (skips o c ≡ false) × (c ≡ 123 → NoBounds rest)
IsAtom names (Escaped e tree) o rest =
    (begins_reference (escape_head e) ≡ false) × (place_letter (escape_head e) ≡ None) × IsEscape e rest × (escape_tree o e ≡ tree)
IsAtom names (Placed c place) o rest = place_letter c ≡ Some place
IsAtom names (Bracketed k tree) o rest = IsClass k rest × (class_height k ≤ 200) × (class_tree o k ≡ tree)
IsAtom names (Refers r tree) o rest = IsReference r rest × (option_map (back_tree o) (meant_in names (key_of r)) ≡ Some tree)

-- How a group begins: `(` captures, `(?<name>` and `(?'name'` too, `(?im-x:` only groups, under the
-- options that it sets, `(?>` keeps its first success, and the others look ahead or behind for what is
-- there or is not.
pub data Opening : Type 0 where
  Capture : Opening
  Named : Bool → List ℕ → Opening
  Group : List ℕ → Options → Opening
  Keep : Opening
  Look : Bool → Bool → Opening

-- How it is spelled.
abbrev pub opening_text : Opening → List ℕ
opening_text Capture = 40 ∷ []
opening_text (Named true name) = 40 ∷ 63 ∷ 39 ∷ (name ++ 39 ∷ [])
opening_text (Named false name) = 40 ∷ 63 ∷ 60 ∷ (name ++ 62 ∷ [])
opening_text (Group letters o) = 40 ∷ 63 ∷ (letters ++ 58 ∷ [])
opening_text Keep = 40 ∷ 63 ∷ 62 ∷ []
opening_text (Look true false) = 40 ∷ 63 ∷ 61 ∷ []
opening_text (Look true true) = 40 ∷ 63 ∷ 33 ∷ []
opening_text (Look false false) = 40 ∷ 63 ∷ 60 ∷ 61 ∷ []
opening_text (Look false true) = 40 ∷ 63 ∷ 60 ∷ 33 ∷ []

-- It is one under these options, before what follows: a `?` behind `(` would begin another.
abbrev pub IsOpening : Opening → Options → List ℕ → Type 0
IsOpening Capture o rest = begins 63 rest ≡ false
IsOpening (Named quoted name) o rest = IsName name
IsOpening (Group letters inside) o rest = switched true o letters ≡ Some inside
IsOpening _ o rest = Unit {0}

-- The options that hold inside.
abbrev pub inside : Opening → Options → Options
inside (Group letters o) outside = o
inside _ outside = outside

-- What kind of group it begins.
abbrev pub opener_of : Opening → Opener
opener_of Capture = Captures
opener_of (Named quoted name) = Captures
opener_of (Group letters o) = Groups
opener_of Keep = Keeps
opener_of (Look ahead negative) = Looks ahead negative

-- Its name.
abbrev pub name_of : Opening → Option (List ℕ)
name_of (Named quoted name) = Some name
name_of _ = None

-- The capturing groups that a group of this kind and name adds: itself or none.
abbrev pub begun : Opener → Option (List ℕ) → Names
begun Captures name = name ∷ []
begun _ name = []

-- How many they are.
abbrev pub count : Opener → ℕ
count Captures = 1
count Groups = 0
count Sets = 0
count Keeps = 0
count (Looks ahead negative) = 0

-- The bounds of `?`, `*` and `+`.
unfoldable pub sign_bounds : ℕ → Option (ℕ × Option ℕ)
sign_bounds c =
    if c == 63 then Some (0, Some 1)
    else if c == 42 then Some (0, None)
    else if c == 43 then Some (1, None)
    else None

-- How often: a sign with its bounds, or bounds between braces.
pub data Amount : Type 0 where
  Sign : ℕ → ℕ → Option ℕ → Amount
  Braces : Bounds → Amount

-- How it is spelled.
abbrev pub amount_text : Amount → List ℕ
amount_text (Sign sign least greatest) = sign ∷ []
amount_text (Braces b) = 123 ∷ bounds_text b

-- It is one.
abbrev pub IsAmount : Amount → Type 0
IsAmount (Sign sign least greatest) = sign_bounds sign ≡ Some (least, greatest)
IsAmount (Braces b) = IsBounds b × AreLimited b

-- The least number of times.
abbrev pub least_of : Amount → ℕ
least_of (Sign sign least greatest) = least
least_of (Braces b) = least_in b

-- The greatest, if there is one.
abbrev pub greatest_of : Amount → Option ℕ
greatest_of (Sign sign least greatest) = greatest
greatest_of (Braces b) = greatest_in b

-- What stands behind an amount: nothing, a `?` or a `+`.
pub data Mark : Type 0 where
  Bare : Mark
  Question : Mark
  Plus : Mark

-- How it is spelled.
abbrev pub mark_text : Mark → List ℕ
mark_text Bare = []
mark_text Question = 63 ∷ []
mark_text Plus = 43 ∷ []

-- A `+` directly behind it is its mark: behind a sign, and not behind bounds, where it is a quantifier of
-- its own.
abbrev pub takes_plus : Amount → Bool
takes_plus (Sign sign least greatest) = true
takes_plus (Braces b) = false

-- A `?` behind an amount is its mark, and a `+` where the amount takes one.
abbrev pub EndsMark : Bool → Mark → List ℕ → Type 0
EndsMark plus Bare rest = (begins 63 rest ≡ false) × ((plus && begins 43 rest) ≡ false)
EndsMark plus Question rest = Unit {0}
EndsMark plus Plus rest = plus ≡ true

-- What a `?` makes of an amount: of one number it makes no lazy one, but what may be left out.
abbrev pub with_question : Amount → Manner
with_question (Braces (Exactly n)) = Optional
with_question amount = Lazy

-- What a mark makes of it, where a `?` makes this.
abbrev pub marked : Manner → Mark → Manner
marked question Bare = Greedy
marked question Question = question
marked question Plus = Possessive

-- How an amount with its mark repeats.
abbrev pub manner_of : Amount → Mark → Manner
manner_of amount mark = marked (with_question amount) mark

-- What means nothing: a comment up to its `)`, and where options say so white space, and what stands
-- behind a `#` in its line.
pub data Skip : Type 0 where
  Comment : List ℕ → Skip
  Blank : ℕ → Skip
  Remark : List ℕ → Skip

-- How it is spelled.
abbrev pub skip_text : Skip → List ℕ
skip_text (Comment text) = 40 ∷ 63 ∷ 35 ∷ (text ++ 41 ∷ [])
skip_text (Blank c) = c ∷ []
skip_text (Remark text) = 35 ∷ text

-- The line ends here.
abbrev pub ends_line : List ℕ → Bool
ends_line [] = true
ends_line (c ∷ t) = c == 10

-- It is one under these options, before what follows.
abbrev pub IsSkip : Skip → Options → List ℕ → Type 0
IsSkip (Comment text) o rest = list_any (λ c. c == 41) text ≡ false
IsSkip (Blank c) o rest = (o.extended && is_blank c) ≡ true
IsSkip (Remark text) o rest = (o.extended ≡ true) × (list_any (λ c. c == 10) text ≡ false) × (ends_line rest ≡ true)

-- The things. Letters of options alone in brackets set them to the end of the group around.
pub data Tok : Type 0 where
  Single : Atom → Tok
  Opens : Opening → Tok
  Setting : List ℕ → Options → Tok
  Closing : Tok
  Bar : Tok
  Times : Amount → Mark → Tok
  Skipped : Skip → Tok

-- How it is spelled.
abbrev pub text_of : Tok → List ℕ
text_of (Single a) = atom_text a
text_of (Opens k) = opening_text k
text_of (Setting letters o) = 40 ∷ 63 ∷ (letters ++ 41 ∷ [])
text_of Closing = 41 ∷ []
text_of Bar = 124 ∷ []
text_of (Times amount mark) = amount_text amount ++ mark_text mark
text_of (Skipped s) = skip_text s

-- It is one that there is, before what follows, where the pattern has these groups.
abbrev pub IsTok : Option Names → Tok → Options → List ℕ → Type 0
IsTok names (Single a) o rest = IsAtom names a o rest
IsTok names (Opens k) o rest = IsOpening k o rest
IsTok names (Setting letters after) o rest = switched true o letters ≡ Some after
IsTok names (Times amount mark) o rest = IsAmount amount × EndsMark (takes_plus amount) mark rest
IsTok names (Skipped s) o rest = IsSkip s o rest
IsTok names _ o rest = Unit {0}

-- Things in a row, each with the options that hold where it begins.
abbrev pub Toks : Type 0
Toks = List (Tok × Options)

-- What they spell together.
abbrev pub spelling : Toks → List ℕ
spelling [] = []
spelling (k ∷ ks) = text_of k.0 ++ spelling ks

-- Each is one that there is, before what follows it.
abbrev pub AreToks : Option Names → Toks → Type 0
AreToks names [] = Unit {0}
AreToks names (k ∷ ks) = IsTok names k.0 k.1 (spelling ks) × AreToks names ks

-- The groups that a thing begins.
abbrev pub names_begun : Tok → Names
names_begun (Opens k) = begun (opener_of k) (name_of k)
names_begun _ = []

-- The capturing groups among the things, in their order.
abbrev pub names_among : Toks → Names
names_among [] = []
names_among (k ∷ ks) = names_begun k.0 ++ names_among ks

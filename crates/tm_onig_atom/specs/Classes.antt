-- Classes as they are written: a row of items, and of `&&` between them, in `[`, or `[^`, and `]`.
use Rattle.std.specs.Prelude.{◌≡◌, ℕ, ◌+◌, ◌≤◌, ◌==◌, ◌&&◌, ◌||◌, not, nat_le, Bool, true, false, List, [], ◌∷◌, ◌++◌, map, max, Option, Some, if◌then◌else◌}
use Rattle.std.specs.List.{list_any}
use Rattle.ucd_sets.specs.Loose.{value_named}
use Rattle.regex_class.specs.Ranges.{Range as CharRange}
use Rattle.tm_onig_class.specs.declared.listed.Listed.{Listed}
use Rattle.tm_onig_class.specs.declared.listed.Listed.TheVariants.{Word, Digit, Space, Xdigit, Alpha, Alnum, Blank, Cntrl, Lower, Upper, Punct, Graph, Print, Ascii}
use Rattle.tm_onig_class.specs.Members.{has_char, ranges_of}
use Rattle.tm_onig_class.specs.Named.{with_name}
use Rattle.tm_onig_class.specs.Tree.{Tree, InSet}
use Rattle.tm_onig_atom.specs.declared.options.Options.{Options}
use Rattle.tm_onig_atom.specs.declared.meanings.Named.{Named}
use Rattle.tm_onig_atom.specs.declared.meanings.Meant.TheVariants.{Character, Members}
use Rattle.tm_onig_atom.specs.declared.parts.Member.{Member}
use Rattle.tm_onig_atom.specs.declared.parts.Member.TheVariants as M
use Rattle.tm_onig_atom.specs.declared.parts.Part.{Part}
use Rattle.tm_onig_atom.specs.declared.parts.Part.TheVariants.{Adds, Meets, Inner}
use Rattle.tm_onig_atom.specs.Escapes.{begins, named_has, of_listed, Escape, escape_text, IsEscape, meant}
use Rattle.tm_onig_atom.specs.Widening.{widened}

-- A character that stands for itself: neither `[` nor a backslash, and a `]` only directly after the
-- opening.
unfoldable pub is_raw : Bool → ℕ → Bool
is_raw first c = not (c == 91) && (not (c == 92) && (first || not (c == 93)))

-- One character: itself, or escaped, with the character that is meant.
pub data Single : Type 0 where
  Raw : ℕ → Single
  Slash : Escape → ℕ → Single

-- How it is spelled.
abbrev pub single_text : Single → List ℕ
single_text (Raw c) = c ∷ []
single_text (Slash e value) = 92 ∷ escape_text e

-- The character that is meant.
abbrev pub value_of : Single → ℕ
value_of (Raw c) = c
value_of (Slash e value) = value

-- It is one, first in the class or not, before what follows. Two `&` are none: they intersect.
abbrev pub IsSingle : Bool → Single → List ℕ → Type 0
IsSingle first (Raw c) rest = (is_raw first c ≡ true) × (((c == 38) && begins 38 rest) ≡ false)
IsSingle first (Slash e value) rest = IsEscape e rest × (meant e ≡ Character value)

-- No `-` with a further character follows, which would make a range.
abbrev pub NoRange : List ℕ → Type 0
NoRange rest = (b : Single) (more : List ℕ) → IsSingle false b more → rest ≡ 45 ∷ (single_text b ++ more) → ⊥

-- The sets that have names in classes.
abbrev pub class_sets : List Listed
class_sets = Word ∷ Digit ∷ Space ∷ Xdigit ∷ Alpha ∷ Alnum ∷ Blank ∷ Cntrl ∷ Lower ∷ Upper ∷ Punct ∷ Graph ∷ Print ∷ Ascii ∷ []

-- The set with such a name, exactly as it is written.
unfoldable pub class_name : List ℕ → Option Listed
class_name name = value_named (map with_name class_sets) name

-- A name between `[:`, or `[:^`, and `:]`.
abbrev pub posix_text : Bool → List ℕ → List ℕ
posix_text true name = 91 ∷ 58 ∷ 94 ∷ (name ++ 58 ∷ 93 ∷ [])
posix_text false name = 91 ∷ 58 ∷ (name ++ 58 ∷ 93 ∷ [])

-- It is the name of this set.
abbrev pub IsPosix : Bool → List ℕ → Listed → Type 0
IsPosix caret name listed = (list_any (λ c. c == 58) name ≡ false) × (caret ≡ false → begins 94 name ≡ false) × (class_name name ≡ Some listed)

-- No such name is spelled at the front.
abbrev pub NoPosix : List ℕ → Type 0
NoPosix t = (caret : Bool) (name : List ℕ) (listed : Listed) (more : List ℕ) → IsPosix caret name listed → t ≡ posix_text caret name ++ more → ⊥

-- What a class is made of.
mutual
  -- negated or not
  pub data Class : Type 0 where
    Of : Bool → Items → Class

  pub data Items : Type 0 where
    NoItems : Items
    Also : Item → Items → Items

  pub data Item : Type 0 where
    One : Single → Item
    Range : Single → Single → Item
    -- an escape for a set
    Escaped : Escape → Named → Item
    -- a name between `[:` and `:]`, negated or not
    Posix : Bool → List ℕ → Listed → Item
    Nested : Class → Item
    -- `&&`
    And : Item

-- How they are spelled: an item, items with the `]` behind them, and a class behind its `[`.
abbrev mutual
  pub item_text : Item → List ℕ
  item_text (One s) = single_text s
  item_text (Range a b) = single_text a ++ 45 ∷ single_text b
  item_text (Escaped e named) = 92 ∷ escape_text e
  item_text (Posix caret name listed) = posix_text caret name
  item_text (Nested k) = 91 ∷ inside k
  item_text And = 38 ∷ 38 ∷ []

  pub items_text : Items → List ℕ
  items_text NoItems = 93 ∷ []
  items_text (Also i is) = item_text i ++ items_text is

  pub inside : Class → List ℕ
  inside (Of true is) = 94 ∷ items_text is
  inside (Of false is) = items_text is

-- A class with its brackets.
abbrev pub class_text : Class → List ℕ
class_text k = 91 ∷ inside k

-- They are these before what follows; `first` says that no item stands before, and then there is one.
-- A range does not go downwards. A `^` directly behind the `[` would negate the class.
abbrev mutual
  pub IsItem : Bool → Item → List ℕ → Type 0
  IsItem first (One s) rest = IsSingle first s rest × NoRange rest
  IsItem first (Range a b) rest = IsSingle first a (45 ∷ (single_text b ++ rest)) × IsSingle false b rest × (value_of a ≤ value_of b)
  IsItem first (Escaped e named) rest = IsEscape e rest × (meant e ≡ Members named)
  IsItem first (Posix caret name listed) rest = IsPosix caret name listed
  IsItem first (Nested k) rest = IsClass k rest × NoPosix (91 ∷ (inside k ++ rest))
  IsItem first And rest = Unit {0}

  pub AreItems : Bool → Items → List ℕ → Type 0
  AreItems true NoItems rest = ⊥
  AreItems false NoItems rest = Unit {0}
  AreItems first (Also i is) rest = IsItem first i (items_text is ++ rest) × AreItems false is rest

  pub IsClass : Class → List ℕ → Type 0
  IsClass (Of true is) rest = AreItems true is rest
  IsClass (Of false is) rest = (begins 94 (items_text is) ≡ false) × AreItems true is rest

-- How deep classes are nested.
abbrev mutual
  pub class_height : Class → ℕ
  class_height (Of negated is) = 1 + items_height is

  pub items_height : Items → ℕ
  items_height NoItems = 0
  items_height (Also i is) = max (item_height i) (items_height is)

  pub item_height : Item → ℕ
  item_height (Nested k) = class_height k
  item_height (One s) = 0
  item_height (Range a b) = 0
  item_height (Escaped e named) = 0
  item_height (Posix caret name listed) = 0
  item_height And = 0

-- The characters of a member.
abbrev pub member_has : Member → ℕ → Bool
member_has (M.Range a b) c = nat_le a c && nat_le c b
member_has (M.Set named) c = named_has named c

-- What an item adds, under folding or not. A nested class was widened within itself.
abbrev pub part_has : Bool → Part → ℕ → Bool
part_has fold (Adds m) c = widened fold (member_has m) c
part_has fold (Inner ranges height) c = has_char ranges c
part_has fold Meets c = false

-- The part is a `&&`.
abbrev pub is_meets : Part → Bool
is_meets (Adds m) = false
is_meets (Inner ranges height) = false
is_meets Meets = true

-- Some part before the next `&&` has the character.
unfoldable pub side_has : Bool → List Part → ℕ → Bool
side_has fold [] c = false
side_has fold (p ∷ ps) c = if is_meets p then false else part_has fold p c || side_has fold ps c

-- Behind each `&&` some part before the next one has it.
unfoldable pub later_have : Bool → List Part → ℕ → Bool
later_have fold [] c = true
later_have fold (p ∷ ps) c = if is_meets p then side_has fold ps c && later_have fold ps c else later_have fold ps c

-- The characters of a class: those on all sides of its `&&`, or all others where it is negated.
abbrev pub class_has : Bool → Bool → List Part → ℕ → Bool
class_has fold negated ps c =
    let members = side_has fold ps c && later_have fold ps c in
    if negated then not members else members

-- The same as ranges.
abbrev pub class_members : Bool → Bool → List Part → List CharRange
class_members fold negated ps = ranges_of (class_has fold negated ps)

-- The parts that items mean.
abbrev mutual
  pub part_of : Bool → Item → Part
  part_of fold (One s) = Adds (M.Range (value_of s) (value_of s))
  part_of fold (Range a b) = Adds (M.Range (value_of a) (value_of b))
  part_of fold (Escaped e named) = Adds (M.Set named)
  part_of fold (Posix caret name listed) = Adds (M.Set (of_listed listed caret))
  part_of fold (Nested k) = Inner (class_ranges fold k) (class_height k)
  part_of fold And = Meets

  pub parts_of : Bool → Items → List Part
  parts_of fold NoItems = []
  parts_of fold (Also i is) = part_of fold i ∷ parts_of fold is

  pub class_ranges : Bool → Class → List CharRange
  class_ranges fold (Of negated is) = class_members fold negated (parts_of fold is)

-- What a class means.
abbrev pub class_tree : Options → Class → Tree
class_tree o k = InSet (class_ranges o.fold k) false

-- The text behind a `[` begins with the class, and this follows.
pub record BeginsClass (text : List ℕ) (k : Class) (rest : List ℕ) : Type 0 where
  pub whole : text ≡ inside k ++ rest
  pub is : IsClass k rest

-- What a pattern means, and which texts are patterns.
use Rattle.std.specs.Prelude.{◌≡◌, ℕ, ◌+◌, ◌≤◌, Bool, true, false, List, [], ◌∷◌, ◌++◌, map, max, length, Option, Some, if◌then◌else◌}
use Rattle.tm_onig_atom.specs.Classes.{class_height}
use Rattle.tm_onig_class.specs.Tree.{Tree, Empty, Cat, Alt, Group, Atomic, Look, Repeat, Holds, trees}
use Rattle.tm_onig_parse.specs.declared.groups.Opener.{Opener}
use Rattle.tm_onig_parse.specs.declared.groups.Opener.TheVariants.{Captures, Groups, Sets, Keeps, Looks}
use Rattle.tm_onig_parse.specs.declared.quantifiers.Manner.{Manner}
use Rattle.tm_onig_parse.specs.declared.quantifiers.Manner.TheVariants.{Greedy, Lazy, Possessive, Optional}
use Rattle.tm_onig_atom.specs.NoOptions.{no_options}
use Rattle.tm_onig_parse.specs.Names.{Names}
use Rattle.tm_onig_parse.specs.Things.{Atom, Plain, Escaped, Placed, Bracketed, Refers, opener_of, count, least_of, greatest_of, manner_of, spelling, AreToks, names_among}
use Rattle.tm_onig_parse.specs.Grammar.{Body, Simply, Under, Alts, First, Also, Row, Nothing, Then, Noted, Piece, Alone, Inside, Repeated, Behind, written, groups, groups_alts, groups_row}

-- A tree with how deep its text is nested, and whether it is a repetition.
pub record Built : Type 0 where
  pub tree : Tree
  pub height : ℕ
  pub repeated : Bool

-- What is no repetition.
abbrev pub nested : Tree → ℕ → Built
nested tree height = record { tree = tree; height = height; repeated = false }

-- What has no parts.
abbrev pub leaf : Tree → Built
leaf tree = nested tree 0

-- What an atom means. A class may have classes inside.
abbrev pub atom_built : Atom → Built
atom_built (Plain c tree) = leaf tree
atom_built (Escaped e tree) = leaf tree
atom_built (Placed c place) = leaf (Holds place)
atom_built (Bracketed k tree) = nested tree (class_height k)
atom_built (Refers r tree) = leaf tree

-- The tree alone.
abbrev pub tree_in : Built → Tree
tree_in b = b.tree

-- How deep the deepest is nested.
abbrev pub highest : List Built → ℕ
highest [] = 0
highest (b ∷ bs) = max b.height (highest bs)

-- A row of no parts is empty, of one it is that part.
abbrev pub row_built : List Built → Built
row_built [] = leaf Empty
row_built (t ∷ []) = nested t.tree t.height
row_built (t ∷ u ∷ ts) = nested (Cat (trees (map tree_in (t ∷ u ∷ ts)))) (highest (t ∷ u ∷ ts))

-- One alternative is itself.
abbrev pub alts_built : List Built → Built
alts_built [] = leaf Empty
alts_built (t ∷ []) = nested t.tree t.height
alts_built (t ∷ u ∷ ts) = nested (Alt (trees (map tree_in (t ∷ u ∷ ts)))) (highest (t ∷ u ∷ ts))

-- What stands in a group, which has this number if it captures.
abbrev pub enclosed : Opener → ℕ → Built → Built
enclosed Captures n b = nested (Group n b.tree) (b.height + 1)
enclosed Groups n b = nested b.tree (b.height + 1)
enclosed Sets n b = nested b.tree (b.height + 1)
enclosed Keeps n b = nested (Atomic b.tree) (b.height + 1)
enclosed (Looks ahead negative) n b = nested (Look b.tree ahead negative) (b.height + 1)

-- A repetition of what is repeated counts as a group around it.
abbrev pub repeated : ℕ → Option ℕ → Bool → Built → Built
repeated least greatest greedy b = record {
  tree = Repeat b.tree least greatest greedy;
  height = if b.repeated then b.height + 1 else b.height;
  repeated = true;
}

-- A repetition of which the first success alone counts.
abbrev pub kept : Built → Built
kept b = record { tree = Atomic b.tree; height = b.height; repeated = true }

-- Whether one time more is tried first.
abbrev pub is_greedy : Manner → Bool
is_greedy Lazy = false
is_greedy manner = true

-- What the manner makes of a repetition.
abbrev pub around : Manner → Built → Built
around Greedy b = b
around Lazy b = b
around Possessive b = kept b
around Optional b = repeated 0 (Some 1) true b

-- What stands before a quantifier, with it.
abbrev pub quantified : ℕ → Option ℕ → Manner → Built → Built
quantified least greatest manner b = around manner (repeated least greatest (is_greedy manner) b)

-- What each means where n capturing groups were opened before: groups have numbers in the order of
-- their opening. The last row of alternatives goes on with `more`: with the rest of the body, where
-- options were set.
abbrev mutual
  pub bodies : Body → ℕ → List Built
  bodies (Simply alts) n = rows alts [] n
  bodies (Under alts letters after body) n = let m = n + groups_alts alts in rows alts (enclosed Sets m (alts_built (bodies body m)) ∷ []) n

  pub rows : Alts → List Built → ℕ → List Built
  rows (First row) more n = row_built (parts row n ++ more) ∷ []
  rows (Also alts row) more n = rows alts [] n ++ row_built (parts row (n + groups_alts alts) ++ more) ∷ []

  pub parts : Row → ℕ → List Built
  parts Nothing n = []
  parts (Then row piece) n = parts row n ++ piece_built piece (n + groups_row row) ∷ []
  parts (Noted row s) n = parts row n

  pub piece_built : Piece → ℕ → Built
  piece_built (Alone a) n = atom_built a
  piece_built (Inside k body) n = let m = n + count (opener_of k) in enclosed (opener_of k) m (alts_built (bodies body m))
  piece_built (Repeated piece amount mark) n = quantified (least_of amount) (greatest_of amount) (manner_of amount mark) (piece_built piece n)
  piece_built (Behind piece s) n = piece_built piece n

-- What a pattern means.
abbrev pub built : Body → Built
built body = alts_built (bodies body 0)

-- The tree of a pattern.
abbrev pub meaning : Body → Tree
meaning body = (built body).tree

-- Its capturing groups, with their names.
abbrev pub names_in : Body → Names
names_in body = names_among (written body no_options)

-- The text is a pattern, written so. Its limits are part of this.
pub record Spells (text : List ℕ) (body : Body) : Type 0 where
  pub whole : text ≡ spelling (written body no_options)
  pub are : AreToks (Some (names_in body)) (written body no_options)
  pub short : length text ≤ 65536
  pub few_groups : groups body ≤ 1000
  pub shallow : (built body).height ≤ 200

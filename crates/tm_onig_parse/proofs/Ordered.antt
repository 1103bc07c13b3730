-- The limits of each loop of a pattern that is read are in order.
use Rattle.std.proofs.Common.{◌≡◌, ℕ, ◌+◌, Bool, true, false, List, [], ◌∷◌, ◌++◌, map, Option, Some, None, subst, option_map, arith}
use Rattle.std.specs.Prelude.{◌==◌, if◌then◌else◌}
use Rattle.tm_onig_class.specs.Tree.{Tree, trees}
use Rattle.tm_onig_class.specs.Limits.{IsInOrder, AreLimitsInOrder, AreAllInOrder}
use Rattle.tm_onig_atom.specs.declared.options.Options.{Options}
use Rattle.tm_onig_atom.specs.declared.meanings.Meant.{Meant}
use Rattle.tm_onig_atom.specs.declared.meanings.Meant.TheVariants.{Character, Members}
use Rattle.tm_onig_atom.specs.NoOptions.{no_options}
use Rattle.tm_onig_atom.specs.Escapes.{meant as meant_by, meant_tree}
use Rattle.tm_onig_parse.specs.declared.groups.Opener.{Opener}
use Rattle.tm_onig_parse.specs.declared.groups.Opener.TheVariants.{Captures, Groups, Sets, Keeps, Looks}
use Rattle.tm_onig_parse.specs.declared.quantifiers.Manner.{Manner}
use Rattle.tm_onig_parse.specs.declared.quantifiers.Manner.TheVariants.{Greedy, Lazy, Possessive, Optional}
use Rattle.tm_onig_parse.specs.Characters.{is_special, single_tree}
use Rattle.tm_onig_parse.specs.Intervals.{Exactly, Between}
use Rattle.tm_onig_parse.specs.Names.{Names}
use Rattle.tm_onig_parse.specs.Things.{back_tree, Atom, Plain, Escaped, Placed, Bracketed, Refers, IsAtom, inside, opener_of, count, sign_bounds, Amount, Sign, Braces, IsAmount, least_of, greatest_of, manner_of, Tok, IsTok, Toks, Single, Opens, Setting, Closing, Bar, Times, Skipped}
use Rattle.tm_onig_parse.specs.Grammar.{Body, Simply, Under, Alts, First, Also, Row, Nothing, Then, Noted, Piece, Alone, Inside, Repeated, Behind, end_options, written, written_alts, written_row, written_piece, groups_alts, groups_row}
use Rattle.tm_onig_parse.specs.Meaning.{Built, enclosed, quantified, tree_in, row_built, alts_built, atom_built, bodies, rows, parts, piece_built, meaning, names_in, Spells}
use Rattle.tm_onig_parse.proofs.Each.{Each, each_tok, each_split}

-- the same of a tree that there is
abbrev MaybeOrdered : Option Tree → Type 0
MaybeOrdered None = Unit {0}
MaybeOrdered (Some tree) = AreLimitsInOrder tree

either_ordered : (b : Bool) (x y : Option Tree) → MaybeOrdered x → MaybeOrdered y → MaybeOrdered (if b then x else y)
either_ordered true x y p q = p
either_ordered false x y p q = q

-- what stands alone
single_ordered : (o : Options) (c : ℕ) → MaybeOrdered (single_tree o c)
unfolding single_tree
single_ordered o c =
    either_ordered (c == 46) _ (if c == 94 then _ else _) tt (either_ordered (c == 94) _ (if c == 36 then _ else _) tt
    (either_ordered (c == 36) _ (if is_special c then _ else _) tt (either_ordered (is_special c) None _ tt tt)))

-- a reference
back_ordered : (o : Options) (found : Option (List ℕ)) (tree : Tree) → option_map (back_tree o) found ≡ Some tree → AreLimitsInOrder tree
back_ordered o None tree is = absurd cc
back_ordered o (Some groups) tree is = let same : back_tree o groups ≡ tree = cc in subst AreLimitsInOrder same tt

-- what an escape means
meant_ordered : (o : Options) (x : Meant) → AreLimitsInOrder (meant_tree o x)
meant_ordered o (Character c) = tt
meant_ordered o (Members named) = tt

atom_ordered : (names : Option Names) (a : Atom) (o : Options) (rest : List ℕ) → IsAtom names a o rest → AreLimitsInOrder (atom_built a).tree
atom_ordered names (Plain c tree) o rest is = subst MaybeOrdered is.0 (single_ordered o c)
atom_ordered names (Escaped e tree) o rest is = subst AreLimitsInOrder is.3 (meant_ordered o (meant_by e))
atom_ordered names (Placed c place) o rest is = tt
atom_ordered names (Bracketed k tree) o rest is = subst AreLimitsInOrder is.2 tt
atom_ordered names (Refers r tree) o rest is = back_ordered o _ tree is.1

-- the bounds of a sign
abbrev MaybeBounds : Option (ℕ × Option ℕ) → Type 0
MaybeBounds None = Unit {0}
MaybeBounds (Some b) = IsInOrder b.0 b.1

sign_ordered : (c : ℕ) → MaybeBounds (sign_bounds c)
unfolding sign_bounds
sign_ordered c = either (c == 63) (Some (0, Some 1)) _ (omega arith) (either (c == 42) (Some (0, None)) _ tt (either (c == 43) (Some (1, None)) None tt tt))
  where
    either : (b : Bool) (x y : Option (ℕ × Option ℕ)) → MaybeBounds x → MaybeBounds y → MaybeBounds (if b then x else y)
    either true x y p q = p
    either false x y p q = q

amount_ordered : (a : Amount) → IsAmount a → IsInOrder (least_of a) (greatest_of a)
amount_ordered (Sign sign least greatest) is = subst MaybeBounds is (sign_ordered sign)
amount_ordered (Braces (Exactly n)) is = omega arith
amount_ordered (Braces (Between n [])) is = tt
amount_ordered (Braces (Between n (d ∷ m))) is = is.1.0

-- an atom means what is in order, and bounds are in order
abbrev IsOrderly : Tok → Type 0
IsOrderly (Single a) = AreLimitsInOrder (atom_built a).tree
IsOrderly (Times amount mark) = IsInOrder (least_of amount) (greatest_of amount)
IsOrderly _ = Unit {0}

tok_orderly : (names : Option Names) (k : Tok) (o : Options) (rest : List ℕ) → IsTok names k o rest → IsOrderly k
tok_orderly names (Single a) o rest is = atom_ordered names a o rest is
tok_orderly names (Opens k) o rest is = tt
tok_orderly names (Setting letters after) o rest is = tt
tok_orderly names Closing o rest is = tt
tok_orderly names Bar o rest is = tt
tok_orderly names (Times amount mark) o rest is = amount_ordered amount is.0
tok_orderly names (Skipped s) o rest is = tt

abbrev AreOrdered : Toks → Type 0
AreOrdered = Each IsOrderly

-- parts that are in order
abbrev Ordered : List Built → Type 0
Ordered bs = AreAllInOrder (trees (map tree_in bs))

join : (xs ys : List Built) → Ordered xs → Ordered ys → Ordered (xs ++ ys)
join [] ys p q = q
join (x ∷ xs) ys p q = (p.0, join xs ys p.1 q)

row_ordered : (ts : List Built) → Ordered ts → AreLimitsInOrder (row_built ts).tree
row_ordered [] all = tt
row_ordered (t ∷ []) all = all.0
row_ordered (t ∷ u ∷ ts) all = all

alts_ordered : (ts : List Built) → Ordered ts → AreLimitsInOrder (alts_built ts).tree
alts_ordered [] all = tt
alts_ordered (t ∷ []) all = all.0
alts_ordered (t ∷ u ∷ ts) all = all

enclosed_ordered : (k : Opener) (n : ℕ) (b : Built) → AreLimitsInOrder b.tree → AreLimitsInOrder (enclosed k n b).tree
enclosed_ordered Captures n b is = is
enclosed_ordered Groups n b is = is
enclosed_ordered Sets n b is = is
enclosed_ordered Keeps n b is = is
enclosed_ordered (Looks ahead negative) n b is = is

quantified_ordered : (least : ℕ) (greatest : Option ℕ) (manner : Manner) (b : Built) → IsInOrder least greatest → AreLimitsInOrder b.tree → AreLimitsInOrder (quantified least greatest manner b).tree
quantified_ordered least greatest Greedy b order is = (order, is)
quantified_ordered least greatest Lazy b order is = (order, is)
quantified_ordered least greatest Possessive b order is = (order, is)
quantified_ordered least greatest Optional b order is = (omega arith, (order, is))

mutual
  bodies_ordered : (b : Body) (o : Options) (n : ℕ) → AreOrdered (written b o) → Ordered (bodies b n)
  bodies_ordered (Simply alts) o n are = rows_ordered alts [] o n are tt
  bodies_ordered (Under alts letters after body) o n are =
      let each = each_split IsOrderly (written_alts alts o) ((Setting letters after, o) ∷ written body after) are in
      let m = n + groups_alts alts in
      rows_ordered alts (enclosed Sets m (alts_built (bodies body m)) ∷ []) o n each.0
      (alts_ordered (bodies body m) (bodies_ordered body after m each.1.1), tt)

  rows_ordered : (a : Alts) (more : List Built) (o : Options) (n : ℕ) → AreOrdered (written_alts a o) → Ordered more → Ordered (rows a more n)
  rows_ordered (First row) more o n are rest = (row_ordered (parts row n ++ more) (join (parts row n) more (parts_ordered row o n are) rest), tt)
  rows_ordered (Also alts row) more o n are rest =
      let each = each_split IsOrderly (written_alts alts o) ((Bar, o) ∷ written_row row o) are in
      let m = n + groups_alts alts in
      join (rows alts [] n) (row_built (parts row m ++ more) ∷ []) (rows_ordered alts [] o n each.0 tt)
      (row_ordered (parts row m ++ more) (join (parts row m) more (parts_ordered row o m each.1.1) rest), tt)

  parts_ordered : (r : Row) (o : Options) (n : ℕ) → AreOrdered (written_row r o) → Ordered (parts r n)
  parts_ordered Nothing o n are = tt
  parts_ordered (Noted row s) o n are = parts_ordered row o n (each_split IsOrderly (written_row row o) ((Skipped s, o) ∷ []) are).0
  parts_ordered (Then row piece) o n are =
      let each = each_split IsOrderly (written_row row o) (written_piece piece o) are in
      let m = n + groups_row row in
      join (parts row n) (piece_built piece m ∷ []) (parts_ordered row o n each.0) (piece_ordered piece o m each.1, tt)

  piece_ordered : (p : Piece) (o : Options) (n : ℕ) → AreOrdered (written_piece p o) → AreLimitsInOrder (piece_built p n).tree
  piece_ordered (Alone a) o n are = are.0
  piece_ordered (Behind piece s) o n are = piece_ordered piece o n (each_split IsOrderly (written_piece piece o) ((Skipped s, o) ∷ []) are).0
  piece_ordered (Inside k body) o n are =
      let p = inside k o in
      let m = n + count (opener_of k) in
      enclosed_ordered (opener_of k) m (alts_built (bodies body m))
      (alts_ordered (bodies body m) (bodies_ordered body p m (each_split IsOrderly (written body p) ((Closing, end_options body p) ∷ []) are.1).0))
  piece_ordered (Repeated piece amount mark) o n are =
      let each = each_split IsOrderly (written_piece piece o) ((Times amount mark, o) ∷ []) are in
      quantified_ordered (least_of amount) (greatest_of amount) (manner_of amount mark) (piece_built piece n) each.1.0 (piece_ordered piece o n each.0)

-- The limits of each loop of what a text means are in order.
pub spells_ordered : (t : List ℕ) (body : Body) → Spells t body → AreLimitsInOrder (meaning body)
spells_ordered t body s = alts_ordered (bodies body 0) (bodies_ordered body no_options 0 (each_tok IsOrderly (Some (names_in body)) (tok_orderly (Some (names_in body))) (written body no_options) s.are))

-- The groups of a pattern that is read are numbered in the order of their opening.
use Rattle.std.proofs.Common.{◌≡◌, ℕ, zero, suc, ◌+◌, ◌≤◌, Bool, true, false, List, [], ◌∷◌, ◌++◌, map, length, Option, Some, None, refl, sym, ap, ap₂, ◌∙◌, subst, arith, append_assoc, append-nil, add-zero, length-append, option_map, le-leb}
use Rattle.std.specs.Prelude.{nat_le, ◌&&◌, ◌==◌, if◌then◌else◌}
use Rattle.std.specs.List.{list_all}
use Rattle.std.proofs.lemmas.Bool.{and_parts}
use Rattle.std.proofs.lemmas.Option.{cond_some}
use Rattle.tm_onig_parse.specs.declared.groups.Opener.{Opener}
use Rattle.tm_onig_class.specs.Tree.{Tree, Char, Any, Holds, trees}
use Rattle.tm_onig_class.specs.declared.patterns.Position.TheVariants as Place
use Rattle.tm_onig_class.specs.Groups.{group_numbers, numbers_in, references, references_in, counted, IsNumbered}
use Rattle.tm_onig_atom.specs.declared.options.Options.{Options}
use Rattle.tm_onig_parse.specs.declared.groups.Opener.TheVariants.{Captures, Groups, Sets, Keeps, Looks}
use Rattle.tm_onig_parse.specs.declared.quantifiers.Manner.{Manner}
use Rattle.tm_onig_parse.specs.declared.quantifiers.Manner.TheVariants.{Greedy, Lazy, Possessive, Optional}
use Rattle.tm_onig_atom.specs.NoOptions.{no_options}
use Rattle.tm_onig_atom.specs.declared.meanings.Meant.{Meant}
use Rattle.tm_onig_atom.specs.declared.meanings.Meant.TheVariants.{Character, Members}
use Rattle.tm_onig_atom.specs.Classes.{Class, class_tree}
use Rattle.tm_onig_atom.specs.Escapes.{meant as meant_by, meant_tree}
use Rattle.tm_onig_parse.specs.Characters.{is_special, single_tree}
use Rattle.tm_onig_parse.specs.Names.{Names, is_called, called_from, some_in, Key, Number, Name, key_of, meant}
use Rattle.tm_onig_parse.specs.Things.{back_tree, Atom, Plain, Escaped, Placed, Bracketed, Refers, IsAtom, inside, opener_of, name_of, begun, count, least_of, greatest_of, manner_of, Tok, IsTok, Toks, Single, Opens, Setting, Closing, Bar, Times, Skipped, names_begun, names_among}
use Rattle.tm_onig_parse.specs.Grammar.{Body, Simply, Under, Alts, First, Also, Row, Nothing, Then, Noted, Piece, Alone, Inside, Repeated, Behind, end_options, written, written_alts, written_row, written_piece, groups, groups_alts, groups_row, groups_piece}
use Rattle.tm_onig_parse.specs.Meaning.{Built, enclosed, quantified, tree_in, row_built, alts_built, atom_built, bodies, rows, parts, piece_built, meaning, names_in, Spells}
use Rattle.tm_onig_parse.proofs.Each.{Each, each_tok, each_split}

-- A tree without groups and references.
record IsBare (tree : Tree) : Type 0 where
  numbers : group_numbers tree ≡ []
  named : references tree ≡ []

-- the same of a tree that there is
abbrev MaybeBare : Option Tree → Type 0
MaybeBare None = Unit {0}
MaybeBare (Some tree) = IsBare tree

-- a choice of two
either_bare : (b : Bool) (x y : Option Tree) → MaybeBare x → MaybeBare y → MaybeBare (if b then x else y)
either_bare true x y p q = p
either_bare false x y p q = q

-- a tree that is so
bare : (tree : Tree) → group_numbers tree ≡ [] → references tree ≡ [] → MaybeBare (Some tree)
bare tree e f = record { numbers = e; named = f }

-- what stands alone
single_bare : (o : Options) (c : ℕ) → MaybeBare (single_tree o c)
unfolding single_tree group_numbers references
single_bare o c =
    either_bare (c == 46) _ _ (bare (Any o.newline) refl refl) (either_bare (c == 94) _ _ (bare (Holds Place.LineStart) refl refl)
    (either_bare (c == 36) _ _ (bare (Holds Place.LineEnd) refl refl) (either_bare (is_special c) None _ tt (bare (Char c o.fold) refl refl))))

-- The groups that a list names are among the first so many.
abbrev AreKnown : ℕ → List ℕ → Type 0
AreKnown m groups = list_all (λ g. nat_le 1 g && nat_le g m) groups ≡ true

-- both lists
known-append : (m : ℕ) (xs ys : List ℕ) → AreKnown m xs → AreKnown m ys → AreKnown m (xs ++ ys)
known-append m [] ys x y = y
known-append m (g ∷ xs) ys x y =
    let parts = and_parts (nat_le 1 g && nat_le g m) (list_all (λ g. nat_le 1 g && nat_le g m) xs) x in
    rw parts.0 (known-append m xs ys parts.1 y)

-- the groups that have a name are among all
called_known : (names : Names) (n m : ℕ) (name : List ℕ) → 1 ≤ n → n + length names ≤ m + 1 → AreKnown m (called_from n name names)
unfolding called_from
called_known [] n m name low high = refl
called_known (g ∷ gs) n m name low high = by_test (is_called name g) (called_known gs (n + 1) m name (omega arith) (omega arith))
  where
    by_test : (is : Bool) → AreKnown m (called_from (n + 1) name gs) → AreKnown m (if is then n ∷ called_from (n + 1) name gs else called_from (n + 1) name gs)
    by_test false more = more
    by_test true more = rw (le-leb 1 n low, le-leb n m (omega arith)) more

-- some list in both
some_is : (xs groups : List ℕ) → some_in xs ≡ Some groups → xs ≡ groups
some_is [] groups e = absurd cc
some_is (x ∷ xs) groups e = cc

-- what a reference means is among all groups
meant_known : (names : Names) (key : Key) (groups : List ℕ) → meant names key ≡ Some groups → AreKnown (length names) groups
meant_known names (Number n) groups e =
    let c = cond_some _ _ _ e in
    subst (AreKnown (length names)) c.1 (rw c.0 refl)
meant_known names (Name name) groups e =
    subst (AreKnown (length names)) (some_is _ groups e) (called_known names 1 (length names) name (omega arith) (omega arith))

-- A tree without groups, that names such as are there.
record IsLeaf (m : ℕ) (tree : Tree) : Type 0 where
  numbers : group_numbers tree ≡ []
  known : AreKnown m (references tree)

-- a tree that names none
bare_leaf : (m : ℕ) (tree : Tree) → IsBare tree → IsLeaf m tree
bare_leaf m tree b = record { numbers = b.numbers; known = ap (list_all (λ g. nat_le 1 g && nat_le g m)) b.named }

-- a reference
back_leaf : (names : Names) (key : Key) (o : Options) (found : Option (List ℕ)) (tree : Tree) → meant names key ≡ found → option_map (back_tree o) found ≡ Some tree → IsLeaf (length names) tree
unfolding group_numbers references
back_leaf names key o None tree is e = absurd cc
back_leaf names key o (Some groups) tree is e =
    let same : back_tree o groups ≡ tree = cc in
    subst (IsLeaf (length names)) same (record { numbers = refl; known = meant_known names key groups is })

-- what an escape means
meant_leaf : (m : ℕ) (o : Options) (x : Meant) → IsLeaf m (meant_tree o x)
unfolding group_numbers references
meant_leaf m o (Character c) = record { numbers = refl; known = refl }
meant_leaf m o (Members named) = record { numbers = refl; known = refl }

-- what a class means
class_leaf : (m : ℕ) (o : Options) (k : Class) → IsLeaf m (class_tree o k)
unfolding group_numbers references
class_leaf m o k = record { numbers = refl; known = refl }

-- the tree of an atom
atom_leaf : (names : Names) (a : Atom) (o : Options) (rest : List ℕ) → IsAtom (Some names) a o rest → IsLeaf (length names) (atom_built a).tree
unfolding group_numbers references
atom_leaf names (Plain c tree) o rest is = bare_leaf (length names) tree (subst MaybeBare is.0 (single_bare o c))
atom_leaf names (Escaped e tree) o rest is = subst (IsLeaf (length names)) is.3 (meant_leaf (length names) o (meant_by e))
atom_leaf names (Placed c place) o rest is = record { numbers = refl; known = refl }
atom_leaf names (Bracketed k tree) o rest is = subst (IsLeaf (length names)) is.2 (class_leaf (length names) o k)
atom_leaf names (Refers r tree) o rest is = back_leaf names (key_of r) o (meant names (key_of r)) tree refl is.1

-- What an atom among the things means is a leaf.
abbrev MeansLeaf : ℕ → Tok → Type 0
MeansLeaf m (Single a) = IsLeaf m (atom_built a).tree
MeansLeaf m _ = Unit {0}

tok_leaf : (names : Names) (k : Tok) (o : Options) (rest : List ℕ) → IsTok (Some names) k o rest → MeansLeaf (length names) k
tok_leaf names (Single a) o rest is = atom_leaf names a o rest is
tok_leaf names (Opens k) o rest is = tt
tok_leaf names (Setting letters after) o rest is = tt
tok_leaf names Closing o rest is = tt
tok_leaf names Bar o rest is = tt
tok_leaf names (Times amount mark) o rest is = tt
tok_leaf names (Skipped s) o rest is = tt

abbrev AreLeaves : ℕ → Toks → Type 0
AreLeaves m = Each (MeansLeaf m)

-- the numbers of built parts, one after another
abbrev numbers_of : List Built → List ℕ
numbers_of [] = []
numbers_of (b ∷ bs) = group_numbers b.tree ++ numbers_of bs

-- and the groups that they name
abbrev named_by : List Built → List ℕ
named_by [] = []
named_by (b ∷ bs) = references b.tree ++ named_by bs

-- the numbers of two lists
numbers_of-append : (xs ys : List Built) → numbers_of (xs ++ ys) ≡ numbers_of xs ++ numbers_of ys
numbers_of-append [] ys = refl
numbers_of-append (b ∷ xs) ys = ap (λ l. group_numbers b.tree ++ l) (numbers_of-append xs ys) ∙ sym (append_assoc (group_numbers b.tree) (numbers_of xs) (numbers_of ys))

-- what two lists name
named_by-append : (xs ys : List Built) → named_by (xs ++ ys) ≡ named_by xs ++ named_by ys
named_by-append [] ys = refl
named_by-append (b ∷ xs) ys = ap (λ l. references b.tree ++ l) (named_by-append xs ys) ∙ sym (append_assoc (references b.tree) (named_by xs) (named_by ys))

-- the numbers in the trees of a node
numbers_in-trees : (ts : List Built) → numbers_in (trees (map tree_in ts)) ≡ numbers_of ts
unfolding numbers_in
numbers_in-trees [] = refl
numbers_in-trees (t ∷ ts) = ap (λ l. group_numbers t.tree ++ l) (numbers_in-trees ts)

-- what the trees of a node name
references_in-trees : (ts : List Built) → references_in (trees (map tree_in ts)) ≡ named_by ts
unfolding references_in
references_in-trees [] = refl
references_in-trees (t ∷ ts) = ap (λ l. references t.tree ++ l) (references_in-trees ts)

-- a row
row_numbers : (ts : List Built) → group_numbers (row_built ts).tree ≡ numbers_of ts
unfolding group_numbers
row_numbers [] = refl
row_numbers (t ∷ []) = sym (append-nil (group_numbers t.tree))
row_numbers (t ∷ u ∷ ts) = numbers_in-trees (t ∷ u ∷ ts)

-- what a row names
row_named : (ts : List Built) → references (row_built ts).tree ≡ named_by ts
unfolding references
row_named [] = refl
row_named (t ∷ []) = sym (append-nil (references t.tree))
row_named (t ∷ u ∷ ts) = references_in-trees (t ∷ u ∷ ts)

-- alternatives
alts_numbers : (ts : List Built) → group_numbers (alts_built ts).tree ≡ numbers_of ts
unfolding group_numbers
alts_numbers [] = refl
alts_numbers (t ∷ []) = sym (append-nil (group_numbers t.tree))
alts_numbers (t ∷ u ∷ ts) = numbers_in-trees (t ∷ u ∷ ts)

-- what alternatives name
alts_named : (ts : List Built) → references (alts_built ts).tree ≡ named_by ts
unfolding references
alts_named [] = refl
alts_named (t ∷ []) = sym (append-nil (references t.tree))
alts_named (t ∷ u ∷ ts) = references_in-trees (t ∷ u ∷ ts)

-- nothing more in front
zero_add : (b : ℕ) → zero + b ≡ b
zero_add b = omega arith

-- so many numbers, and more behind them
counted-sum : (n a b : ℕ) → counted n (a + b) ≡ counted n a ++ counted (n + a) b
unfolding counted
counted-sum n zero b = rw add-zero (ap (counted n) (zero_add b))
counted-sum n (suc a) b = let e : n + 1 + a ≡ n + suc a = omega arith in
    let f : suc a + b ≡ suc (a + b) = omega arith in
    ap (counted n) f ∙ ap (λ l. (n + 1) ∷ l) (counted-sum (n + 1) a b ∙ ap (λ m. counted (n + 1) a ++ counted m b) e)

-- What stands between two counts: the numbers in order, and names of groups that there are.
record Counts (m : ℕ) (numbers named : List ℕ) (n k : ℕ) : Type 0 where
  in_order : numbers ≡ counted n k
  known : AreKnown m named

-- the same counts
counts_same : (m : ℕ) (x y : List ℕ) (a b k j : ℕ) → a ≡ b → k ≡ j → Counts m x y a k → Counts m x y b j
counts_same m x y a b k j e f c = record { in_order = c.in_order ∙ ap₂ counted e f; known = c.known }

-- one after another
counts_join : (m : ℕ) (x y v w : List ℕ) (n a b : ℕ) → Counts m x v n a → Counts m y w (n + a) b → Counts m (x ++ y) (v ++ w) n (a + b)
counts_join m x y v w n a b c d = record { in_order = ap₂ ◌++◌ c.in_order d.in_order ∙ sym (counted-sum n a b); known = known-append m v w c.known d.known }

-- the same lists
counts_of : (m : ℕ) (x y v w : List ℕ) (n k : ℕ) → y ≡ x → w ≡ v → Counts m x v n k → Counts m y w n k
counts_of m x y v w n k e f c = record { in_order = e ∙ c.in_order; known = subst (AreKnown m) (sym f) c.known }

-- a group that captures
captures_count : (m : ℕ) (x v : List ℕ) (n k : ℕ) → Counts m x v (n + 1) k → Counts m ((n + 1) ∷ x) v n (1 + k)
unfolding counted
captures_count m x v n k c = record { in_order = ap (λ l. (n + 1) ∷ l) c.in_order ∙ sym (counted-sum n 1 k); known = c.known }

-- a row as the only alternative
one_row : (m : ℕ) (ts : List Built) (n k : ℕ) → Counts m (numbers_of ts) (named_by ts) n k → Counts m (numbers_of (row_built ts ∷ [])) (named_by (row_built ts ∷ [])) n k
one_row m ts n k c = counts_of m _ _ _ _ n k (append-nil _ ∙ row_numbers ts) (append-nil _ ∙ row_named ts) c

-- two lists of parts
lists_join : (m : ℕ) (xs ys : List Built) (n a b : ℕ) → Counts m (numbers_of xs) (named_by xs) n a → Counts m (numbers_of ys) (named_by ys) (n + a) b →
    Counts m (numbers_of (xs ++ ys)) (named_by (xs ++ ys)) n (a + b)
lists_join m xs ys n a b c d = counts_of m _ _ _ _ n (a + b) (numbers_of-append xs ys) (named_by-append xs ys) (counts_join m _ _ _ _ n a b c d)

-- a part alone
one_part : (m : ℕ) (b : Built) (n k : ℕ) → Counts m (group_numbers b.tree) (references b.tree) n k → Counts m (numbers_of (b ∷ [])) (named_by (b ∷ [])) n k
one_part m b n k c = counts_of m _ _ _ _ n k (append-nil _) (append-nil _) c

-- a quantifier adds none
quantified_count : (m least : ℕ) (greatest : Option ℕ) (manner : Manner) (b : Built) (n k : ℕ) → Counts m (group_numbers b.tree) (references b.tree) n k →
    Counts m (group_numbers (quantified least greatest manner b).tree) (references (quantified least greatest manner b).tree) n k
unfolding group_numbers references
quantified_count m least greatest Greedy b n k c = c
quantified_count m least greatest Lazy b n k c = c
quantified_count m least greatest Possessive b n k c = c
quantified_count m least greatest Optional b n k c = c

-- a group around what is counted
enclosed_count : (m : ℕ) (k : Opener) (b : Built) (n g : ℕ) → Counts m (group_numbers b.tree) (references b.tree) (n + count k) g →
    Counts m (group_numbers (enclosed k (n + count k) b).tree) (references (enclosed k (n + count k) b).tree) n (count k + g)
unfolding group_numbers references
enclosed_count m Captures b n g c = captures_count m _ _ n g c
enclosed_count m Groups b n g c = counts_same m _ _ (n + 0) n g (0 + g) (omega arith) (omega arith) c
enclosed_count m Sets b n g c = counts_same m _ _ (n + 0) n g (0 + g) (omega arith) (omega arith) c
enclosed_count m Keeps b n g c = counts_same m _ _ (n + 0) n g (0 + g) (omega arith) (omega arith) c
enclosed_count m (Looks ahead negative) b n g c = counts_same m _ _ (n + 0) n g (0 + g) (omega arith) (omega arith) c

-- alternatives that are counted
alts_count : (m : ℕ) (ts : List Built) (n k : ℕ) → Counts m (numbers_of ts) (named_by ts) n k → Counts m (group_numbers (alts_built ts).tree) (references (alts_built ts).tree) n k
alts_count m ts n k c = counts_of m _ _ _ _ n k (alts_numbers ts) (alts_named ts) c

mutual
  unfolding group_numbers references counted

  bodies_count : (names : Names) (b : Body) (o : Options) (n : ℕ) → AreLeaves (length names) (written b o) → Counts (length names) (numbers_of (bodies b n)) (named_by (bodies b n)) n (groups b)
  bodies_count names (Simply alts) o n are =
      counts_same (length names) _ _ n n (groups_alts alts + 0) (groups_alts alts) refl (omega arith)
      (rows_count names alts [] o n 0 are (record { in_order = refl; known = refl }))
  bodies_count names (Under alts letters after body) o n are =
      let each = each_split (MeansLeaf (length names)) (written_alts alts o) ((Setting letters after, o) ∷ written body after) are in
      let m = n + groups_alts alts in
      rows_count names alts (enclosed Sets m (alts_built (bodies body m)) ∷ []) o n (groups body) each.0
      (one_part (length names) (enclosed Sets m (alts_built (bodies body m))) m (groups body) (alts_count (length names) (bodies body m) m (groups body) (bodies_count names body after m each.1.1)))

  rows_count : (names : Names) (a : Alts) (more : List Built) (o : Options) (n k : ℕ) → AreLeaves (length names) (written_alts a o) →
      Counts (length names) (numbers_of more) (named_by more) (n + groups_alts a) k →
      Counts (length names) (numbers_of (rows a more n)) (named_by (rows a more n)) n (groups_alts a + k)
  rows_count names (First row) more o n k are rest =
      one_row (length names) (parts row n ++ more) n (groups_row row + k) (lists_join (length names) (parts row n) more n (groups_row row) k (parts_count names row o n are) rest)
  rows_count names (Also alts row) more o n k are rest =
      let each = each_split (MeansLeaf (length names)) (written_alts alts o) ((Bar, o) ∷ written_row row o) are in
      let m = n + groups_alts alts in
      let all = length names in
      let front = counts_same all _ _ n n (groups_alts alts + 0) (groups_alts alts) refl (omega arith) (rows_count names alts [] o n 0 each.0 (record { in_order = refl; known = refl })) in
      let last = lists_join all (parts row m) more m (groups_row row) k (parts_count names row o m each.1.1) (counts_same all _ _ (n + (groups_alts alts + groups_row row)) (m + groups_row row) k k (omega arith) refl rest) in
      counts_same all _ _ n n (groups_alts alts + (groups_row row + k)) ((groups_alts alts + groups_row row) + k) refl (omega arith)
      (lists_join all (rows alts [] n) (row_built (parts row m ++ more) ∷ []) n (groups_alts alts) (groups_row row + k) front (one_row all (parts row m ++ more) m (groups_row row + k) last))

  parts_count : (names : Names) (r : Row) (o : Options) (n : ℕ) → AreLeaves (length names) (written_row r o) → Counts (length names) (numbers_of (parts r n)) (named_by (parts r n)) n (groups_row r)
  parts_count names Nothing o n are = record { in_order = refl; known = refl }
  parts_count names (Noted row s) o n are = parts_count names row o n (each_split (MeansLeaf (length names)) (written_row row o) ((Skipped s, o) ∷ []) are).0
  parts_count names (Then row piece) o n are =
      let each = each_split (MeansLeaf (length names)) (written_row row o) (written_piece piece o) are in
      let m = n + groups_row row in
      lists_join (length names) (parts row n) (piece_built piece m ∷ []) n (groups_row row) (groups_piece piece) (parts_count names row o n each.0)
      (one_part (length names) (piece_built piece m) m (groups_piece piece) (piece_count names piece o m each.1))

  piece_count : (names : Names) (p : Piece) (o : Options) (n : ℕ) → AreLeaves (length names) (written_piece p o) →
      Counts (length names) (group_numbers (piece_built p n).tree) (references (piece_built p n).tree) n (groups_piece p)
  piece_count names (Alone a) o n are = record { in_order = are.0.numbers; known = are.0.known }
  piece_count names (Behind piece s) o n are = piece_count names piece o n (each_split (MeansLeaf (length names)) (written_piece piece o) ((Skipped s, o) ∷ []) are).0
  piece_count names (Inside k body) o n are =
      let p = inside k o in
      let m = n + count (opener_of k) in
      enclosed_count (length names) (opener_of k) (alts_built (bodies body m)) n (groups body)
      (alts_count (length names) (bodies body m) m (groups body) (bodies_count names body p m (each_split (MeansLeaf (length names)) (written body p) ((Closing, end_options body p) ∷ []) are.1).0))
  piece_count names (Repeated piece amount mark) o n are =
      quantified_count (length names) (least_of amount) (greatest_of amount) (manner_of amount mark) (piece_built piece n) n (groups_piece piece)
      (piece_count names piece o n (each_split (MeansLeaf (length names)) (written_piece piece o) ((Times amount mark, o) ∷ []) are).0)

-- the groups of two rows of things
names_among-append : (ks ls : Toks) → names_among (ks ++ ls) ≡ names_among ks ++ names_among ls
names_among-append [] ls = refl
names_among-append (k ∷ ks) ls = ap (λ n. names_begun k.0 ++ n) (names_among-append ks ls) ∙ sym (append_assoc (names_begun k.0) (names_among ks) (names_among ls))

-- how many they are
length-among : (ks ls : Toks) → length (names_among (ks ++ ls)) ≡ length (names_among ks) + length (names_among ls)
length-among ks ls = ap length (names_among-append ks ls) ∙ length-append (names_among ks) (names_among ls)

-- an opening begins as many groups as it counts
length-begun : (k : Opener) (name : Option (List ℕ)) → length (begun k name) ≡ count k
length-begun Captures name = refl
length-begun Groups name = refl
length-begun Sets name = refl
length-begun Keeps name = refl
length-begun (Looks ahead negative) name = refl

mutual
  length-names : (b : Body) (o : Options) → length (names_among (written b o)) ≡ groups b
  length-names (Simply alts) o = length-alts alts o
  length-names (Under alts letters after body) o =
      length-among (written_alts alts o) ((Setting letters after, o) ∷ written body after) ∙ ap₂ ◌+◌ (length-alts alts o) (length-names body after)

  length-alts : (a : Alts) (o : Options) → length (names_among (written_alts a o)) ≡ groups_alts a
  length-alts (First row) o = length-row row o
  length-alts (Also alts row) o = length-among (written_alts alts o) ((Bar, o) ∷ written_row row o) ∙ ap₂ ◌+◌ (length-alts alts o) (length-row row o)

  length-row : (r : Row) (o : Options) → length (names_among (written_row r o)) ≡ groups_row r
  length-row Nothing o = refl
  length-row (Noted row s) o = length-among (written_row row o) ((Skipped s, o) ∷ []) ∙ ap (λ n. n + 0) (length-row row o) ∙ omega arith
  length-row (Then row piece) o = length-among (written_row row o) (written_piece piece o) ∙ ap₂ ◌+◌ (length-row row o) (length-piece piece o)

  length-piece : (p : Piece) (o : Options) → length (names_among (written_piece p o)) ≡ groups_piece p
  length-piece (Alone a) o = refl
  length-piece (Behind piece s) o = length-among (written_piece piece o) ((Skipped s, o) ∷ []) ∙ ap (λ n. n + 0) (length-piece piece o) ∙ omega arith
  length-piece (Repeated piece amount mark) o = length-among (written_piece piece o) ((Times amount mark, o) ∷ []) ∙ ap (λ n. n + 0) (length-piece piece o) ∙ omega arith
  length-piece (Inside k body) o =
      let p = inside k o in
      length-append (begun (opener_of k) (name_of k)) (names_among (written body p ++ (Closing, end_options body p) ∷ []))
      ∙ ap₂ ◌+◌ (length-begun (opener_of k) (name_of k)) (length-among (written body p) ((Closing, end_options body p) ∷ []) ∙ ap (λ n. n + 0) (length-names body p) ∙ omega arith)

-- so many are counted
length-counted : (n k : ℕ) → length (counted n k) ≡ k
unfolding counted
length-counted n zero = refl
length-counted n (suc k) = ap suc (length-counted (n + 1) k)

-- numbers in order are as many as there are
numbered : (tree : Tree) (k : ℕ) → k ≤ 1000 → Counts k (group_numbers tree) (references tree) 0 k → IsNumbered tree
numbered tree k few c =
    let many : length (group_numbers tree) ≡ k = ap length c.in_order ∙ length-counted 0 k in
    record {
      in_order = c.in_order ∙ ap (counted 0) (sym many);
      few = omega arith;
      known = rw many c.known;
    }

-- The groups of what a text means are numbered.
pub spells_numbered : (t : List ℕ) (body : Body) → Spells t body → IsNumbered (meaning body)
spells_numbered t body s =
    let many = length-names body no_options in
    numbered (meaning body) (groups body) s.few_groups
    (subst (λ m. Counts m (group_numbers (meaning body)) (references (meaning body)) 0 (groups body)) many
    (alts_count (length (names_in body)) (bodies body 0) 0 (groups body) (bodies_count (names_in body) body no_options 0 (each_tok (MeansLeaf (length (names_in body))) (Some (names_in body)) (tok_leaf (names_in body)) (written body no_options) s.are))))

-- Raw rules as plain trees: the texts of a rule's keys, and the rules inside it.
use Rattle.std.specs.Prelude.{ℕ, Bool, List, [], ◌∷◌, Option, Some, None, is_some, map}
use Rattle.tm_grammar.specs.declared.raw.RawRule.{RawRule}
use Rattle.tm_grammar.specs.declared.raw.RawRule.TheOpen.{RawRule-F}
use Rattle.tm_grammar.specs.declared.raw.RawRule.TheFolds.{fold-RawRule}

-- what a rule's keys say, and which of those for inner rules are there
pub record Keys : Type 0 where
  pub path : List ℕ
  pub name : Option (List ℕ)
  pub content_name : Option (List ℕ)
  pub match_text : Option (List ℕ)
  pub begin : Option (List ℕ)
  pub end_text : Option (List ℕ)
  pub while_text : Option (List ℕ)
  pub include : Option (List ℕ)
  pub end_last : Bool
  pub has_begin_captures : Bool
  pub has_end_captures : Bool
  pub has_while_captures : Bool
  pub has_patterns : Bool

-- A rule holds, in this order, its keys, `beginCaptures`, `captures`, `endCaptures`, `patterns`, `repository` and
-- `whileCaptures`: the order of the keys' bytes, in which a file is walked.
mutual
  pub data Tree : Type 0 where
    Node : Keys → Captures → Captures → Captures → Items → Names → Captures → Tree

  -- captures with their groups
  pub data Captures : Type 0 where
    NoCaptures : Captures
    Capture : ℕ → Tree → Captures → Captures

  -- the rules of a list
  pub data Items : Type 0 where
    NoItems : Items
    Item : Tree → Items → Items

  -- the rules of a repository with their names
  pub data Names : Type 0 where
    NoNames : Names
    Named : List ℕ → Tree → Names → Names

abbrev pub keys_of : Tree → Keys
keys_of (Node keys begins all ends listed named whiles) = keys

abbrev pub captures : List (ℕ × Tree) → Captures
captures [] = NoCaptures
captures (c ∷ cs) = Capture c.0 c.1 (captures cs)

abbrev pub captures_if : Option (List (ℕ × Tree)) → Captures
captures_if None = NoCaptures
captures_if (Some cs) = captures cs

abbrev pub items : List Tree → Items
items [] = NoItems
items (t ∷ ts) = Item t (items ts)

abbrev pub items_if : Option (List Tree) → Items
items_if None = NoItems
items_if (Some ts) = items ts

abbrev pub names : List (List ℕ × Tree) → Names
names [] = NoNames
names (t ∷ ts) = Named t.0 t.1 (names ts)

abbrev pub keys_in : {X : Type 0} → RawRule-F X → Keys
keys_in r = record {
  path = r.path;
  name = r.name;
  content_name = r.content_name;
  match_text = r.match_text;
  begin = r.begin;
  end_text = r.end_text;
  while_text = r.while_text;
  include = r.include;
  end_last = r.end_last;
  has_begin_captures = is_some r.begin_captures;
  has_end_captures = is_some r.end_captures;
  has_while_captures = is_some r.while_captures;
  has_patterns = is_some r.patterns;
}

-- one rule, with the tree of each rule inside it in its place
abbrev pub node_tree : RawRule-F Tree → Tree
node_tree r = Node (keys_in r) (captures_if r.begin_captures) (captures_if r.captures) (captures_if r.end_captures) (items_if r.patterns) (names r.repository) (captures_if r.while_captures)

-- the tree of a raw rule
abbrev pub tree_of : RawRule → Tree
tree_of = fold-RawRule Tree node_tree

-- the same of captures, lists and repositories
abbrev pub captures_of : List (ℕ × RawRule) → Captures
captures_of cs = captures (map (λ c. (c.0, tree_of c.1)) cs)

abbrev pub captures_of_if : Option (List (ℕ × RawRule)) → Captures
captures_of_if None = NoCaptures
captures_of_if (Some cs) = captures_of cs

abbrev pub items_of : List RawRule → Items
items_of ts = items (map tree_of ts)

abbrev pub items_of_if : Option (List RawRule) → Items
items_of_if None = NoItems
items_of_if (Some ts) = items_of ts

abbrev pub names_of : List (List ℕ × RawRule) → Names
names_of ts = names (map (λ t. (t.0, tree_of t.1)) ts)

-- A raw rule's tree, by the rule's fields.
use Rattle.std.proofs.Common.{◌≡◌, ℕ, ◌+◌, Option, Some, List, refl, ap, ◌∙◌}
use Rattle.std.specs.Prelude.{None}
use Rattle.tm_grammar.specs.declared.raw.RawRule.{RawRule}
use Rattle.tm_grammar.specs.declared.raw.RawRule.TheOpen.{RawRule-F}
use Rattle.tm_grammar.specs.declared.raw.RawRule.TheViews.{out-RawRule}
use Rattle.tm_grammar.specs.declared.raw.RawRule.TheFolds.{fold_out-RawRule}
use Rattle.tm_grammar.proofs.Mapped.{mapped, has_begins, has_ends, has_whiles, has_patterns}
use Rattle.tm_rules.specs.Tree.{Tree, Node, keys_in, captures_if, items_if, node_tree, tree_of, captures_of_if, items_of_if, names_of}
use Rattle.tm_rules.specs.Sizes.{inside_size, captures_size, items_size, names_size}

abbrev pub node_of : RawRule-F RawRule → Tree
node_of o = Node (keys_in o) (captures_of_if o.begin_captures) (captures_of_if o.captures) (captures_of_if o.end_captures) (items_of_if o.patterns) (names_of o.repository) (captures_of_if o.while_captures)

-- an option of inner rules keeps its case, and what it holds is mapped
module _ (o : RawRule-F RawRule) where
  abbrev inner : RawRule-F RawRule → RawRule-F Tree
  inner = mapped Tree tree_of o

  begins : (x : Option (List (ℕ × RawRule))) → captures_if (inner (record o { begin_captures = x })).begin_captures ≡ captures_of_if x
  begins None = refl
  begins (Some cs) = refl

  all : (x : Option (List (ℕ × RawRule))) → captures_if (inner (record o { captures = x })).captures ≡ captures_of_if x
  all None = refl
  all (Some cs) = refl

  ends : (x : Option (List (ℕ × RawRule))) → captures_if (inner (record o { end_captures = x })).end_captures ≡ captures_of_if x
  ends None = refl
  ends (Some cs) = refl

  whiles : (x : Option (List (ℕ × RawRule))) → captures_if (inner (record o { while_captures = x })).while_captures ≡ captures_of_if x
  whiles None = refl
  whiles (Some cs) = refl

  listed : (x : Option (List RawRule)) → items_if (inner (record o { patterns = x })).patterns ≡ items_of_if x
  listed None = refl
  listed (Some ts) = refl

  keys_mapped : keys_in (inner o) ≡ keys_in o
  keys_mapped = λ i. record (keys_in o) {
    has_begin_captures = has_begins Tree tree_of o o.begin_captures i;
    has_end_captures = has_ends Tree tree_of o o.end_captures i;
    has_while_captures = has_whiles Tree tree_of o o.while_captures i;
    has_patterns = has_patterns Tree tree_of o o.patterns i;
  }

  pub node_mapped : node_tree (inner o) ≡ node_of o
  node_mapped = λ i. Node (keys_mapped i) (begins o.begin_captures i) (all o.captures i) (ends o.end_captures i) (listed o.patterns i) (names_of o.repository) (whiles o.while_captures i)

-- the tree of a raw rule
pub tree_of_out : (r : RawRule) → tree_of r ≡ node_of (out-RawRule r)
tree_of_out r = fold_out-RawRule Tree node_tree r ∙ node_mapped (out-RawRule r)

pub opened : (r : RawRule) → inside_size (tree_of r) ≡ captures_size (captures_of_if (out-RawRule r).begin_captures) + captures_size (captures_of_if (out-RawRule r).captures) + captures_size (captures_of_if (out-RawRule r).end_captures) + items_size (items_of_if (out-RawRule r).patterns) + names_size (names_of (out-RawRule r).repository) + captures_size (captures_of_if (out-RawRule r).while_captures)
opened r = ap inside_size (tree_of_out r)

-- There are as many rules as are counted.
use Rattle.std.proofs.Common.{◌≡◌, ℕ, ◌+◌, Bool, true, false, List, [], ◌∷◌, length, refl, ap₂, ◌∙◌, length-append, arith}
use Rattle.std.specs.Prelude.{if◌then◌else◌}
use Rattle.tm_grammar.specs.File.{GrammarTree}
use Rattle.tm_rules.specs.Includes.{Entries}
use Rattle.tm_rules.specs.Rules.{firsts, inner, rule_at, rules_inside, rules_in_captures, rules_in_items, rules_in_names, grammar_size, grammars_size, grammar_rules, loaded_from, rules_from, own_entries, inside_root, grammars_of, plain_rules}
use Rattle.tm_rules.specs.Sizes.{is_include, has_patterns, inside_size, captures_size, items_size, names_size}
use Rattle.tm_rules.specs.Tree.{Tree, Node, Captures, NoCaptures, Capture, Items, NoItems, Item, Names, NoNames, Named, tree_of, names_of}
use Rattle.tm_rules.specs.declared.grammars.Grammars.{Grammars}
use Rattle.tm_rules.specs.declared.loaded.Loaded.{Loaded}
use Rattle.tm_defs.specs.declared.rules.Rule.{Rule}

own_length : (own : Bool) (r : Rule) → length (if own then r ∷ [] else []) ≡ (if own then 1 else 0)
own_length true r = refl
own_length false r = refl

item_length : (is : Bool) (rs : List Rule) (n : ℕ) → length rs ≡ n → length (if is then [] else rs) ≡ (if is then 0 else n)
item_length true rs n e = refl
item_length false rs n e = e

module _ (loaded : List Loaded) (grammar : Loaded) where
  mutual
    pub length-inside : (scopes : List Entries) (n : ℕ) (t : Tree) → length (rules_inside loaded grammar scopes n t) ≡ inside_size t
    length-inside scopes n (Node k b c e is ns w) =
        let t = Node k b c e is ns w in
        let f = firsts n t in
        let around = inner scopes n t in
        simp length-append (omega (
          arith,
          length-captures around f.begin_captures b,
          length-captures around f.captures c,
          length-captures around f.end_captures e,
          length-items around f.patterns is,
          length-names around f.repository ns,
          length-captures around f.while_captures w,
        ))

    pub length-captures : (scopes : List Entries) (n : ℕ) (cs : Captures) → length (rules_in_captures loaded grammar scopes n cs) ≡ captures_size cs
    length-captures scopes n NoCaptures = refl
    length-captures scopes n (Capture g t cs) =
        let own : ℕ = if has_patterns t then 1 else 0 in
        simp length-append (omega (arith, own_length (has_patterns t) (rule_at loaded grammar scopes (n + own) t), length-inside scopes (n + own) t, length-captures scopes (n + (own + inside_size t)) cs))

    pub length-items : (scopes : List Entries) (n : ℕ) (is : Items) → length (rules_in_items loaded grammar scopes n is) ≡ items_size is
    length-items scopes n NoItems = refl
    length-items scopes n (Item t is) =
        let own : List Rule = rule_at loaded grammar scopes (n + 1) t ∷ rules_inside loaded grammar scopes (n + 1) t in
        let inside : length (rules_inside loaded grammar scopes (n + 1) t) ≡ inside_size t = length-inside scopes (n + 1) t in
        simp length-append (omega (arith, item_length (is_include t) own (1 + inside_size t) (omega (arith, inside)), length-items scopes (n + (if is_include t then 0 else 1 + inside_size t)) is))

    pub length-names : (scopes : List Entries) (n : ℕ) (ns : Names) → length (rules_in_names loaded grammar scopes n ns) ≡ names_size ns
    length-names scopes n NoNames = refl
    length-names scopes n (Named k t ns) =
        simp length-append (omega (arith, length-inside scopes (n + 1) t, length-names scopes (n + (1 + inside_size t)) ns))

  pub length-grammar : (g : GrammarTree) → length (grammar_rules loaded grammar g) ≡ grammar_size g
  length-grammar g =
      let n = inside_root grammar.root g in
      simp length-append (omega (arith, length-names (inner [] n (tree_of g.root)) (grammar.root + 1) (names_of g.injections), length-inside [] n (tree_of g.root)))

-- of all grammars, each at its place
pub length-rules : (loaded : List Loaded) (n : ℕ) (gs : List GrammarTree) → length (rules_from loaded (loaded_from n gs) gs) ≡ grammars_size gs
length-rules loaded n [] = refl
length-rules loaded n (g ∷ gs) =
    let first : Loaded = record { scope = g.scope_name; root = n; repository = own_entries (inside_root n g) (tree_of g.root) } in
    length-append (grammar_rules loaded first g) _ ∙ ap₂ (λ (a b : ℕ). a + b) (length-grammar loaded first g) (length-rules loaded (n + grammar_size g) gs)

-- as many rules as are counted
pub length_plain : (parts : Grammars) → length (plain_rules parts) ≡ grammars_size (grammars_of parts)
length_plain parts = length-rules (loaded_from 0 (grammars_of parts)) 0 (grammars_of parts)

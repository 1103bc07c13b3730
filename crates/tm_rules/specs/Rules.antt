-- The rules of grammars, by number.
use Rattle.std.specs.Prelude.{ℕ, ◌+◌, List, [], ◌∷◌, ◌++◌, map, ◌||◌, Option, Some, None, option_and_then, option_to_list, is_some, if◌then◌else◌}
use Rattle.std.specs.BTreeMap.{insert_entry}
use Rattle.std.specs.Ordering.{nat_cmp}
use Rattle.tm_grammar.specs.File.{GrammarTree}
use Rattle.tm_rules.specs.Tree.{Keys, Tree, Node, keys_of, Captures, NoCaptures, Capture, Items, NoItems, Item, Names, NoNames, Named, tree_of, names_of}
use Rattle.tm_rules.specs.Sizes.{filled, is_include, has_patterns, inside_size, captures_size, items_size, names_size}
use Rattle.tm_rules.specs.Includes.{Entries, entries, included_rule}
use Rattle.tm_rules.specs.declared.loaded.Loaded.{Loaded}
use Rattle.tm_rules.specs.declared.grammars.Grammars.{Grammars}
use Rattle.tm_rules.specs.declared.sizes.FirstNumbers.{FirstNumbers}
use Rattle.tm_defs.specs.declared.rules.Capture.{Capture as RuleCapture}
use Rattle.tm_defs.specs.declared.rules.Rule.{Rule}
use Rattle.tm_defs.specs.declared.rules.Rule.TheVariants as R

-- The number of the first rule in each part of a rule, where all that is inside it is numbered from n on.
abbrev pub firsts : ℕ → Tree → FirstNumbers
firsts n (Node keys begins all ends listed named whiles) =
    let at_all = n + captures_size begins in
    let at_ends = at_all + captures_size all in
    let at_items = at_ends + captures_size ends in
    let at_names = at_items + items_size listed in
    let at_whiles = at_names + names_size named in
    record { begin_captures = n; captures = at_all; end_captures = at_ends; patterns = at_items; repository = at_names; while_captures = at_whiles }

-- the repositories around what is inside a rule: its own extends the outer ones
abbrev pub inner : List Entries → ℕ → Tree → List Entries
inner scopes n (Node keys begins all ends listed named whiles) = scopes ++ entries (firsts n (Node keys begins all ends listed named whiles)).repository named ∷ []

-- a capture's name, and its rule where it has `patterns`
abbrev pub capture_at : ℕ → ℕ → Tree → RuleCapture
capture_at n group t = record { group = group; name = (keys_of t).name; content_name = (keys_of t).content_name; rule = if has_patterns t then Some n else None }

-- Captures by rising group, each with its group. Of two for one group the last counts.
abbrev pub captures_after : List (ℕ × RuleCapture) → ℕ → Captures → List (ℕ × RuleCapture)
captures_after before n NoCaptures = before
captures_after before n (Capture group t rest) = captures_after (insert_entry nat_cmp before group (capture_at n group t)) (n + ((if has_patterns t then 1 else 0) + inside_size t)) rest

abbrev pub captures_from : ℕ → Captures → List RuleCapture
captures_from n cs = map (λ c. c.1) (captures_after [] n cs)

-- what a rule has by its parts
pub record Parts : Type 0 where
  pub captures : List RuleCapture
  pub begin_captures : List RuleCapture
  pub end_captures : List RuleCapture
  pub while_captures : List RuleCapture
  pub patterns : List ℕ

-- The kind of a rule, by its `match`, `begin` and `while`.
abbrev pub rule_by : List ℕ → Keys → Parts → Option (List ℕ) → Option (List ℕ) → Option (List ℕ) → Rule
rule_by scope k p (Some match) begin while = R.Match scope k.path k.name k.content_name match p.captures
rule_by scope k p None None while = R.Only scope k.path k.name k.content_name p.patterns
rule_by scope k p None (Some begin) (Some while) = R.BeginWhile scope k.path k.name k.content_name p.patterns begin while p.begin_captures p.while_captures
rule_by scope k p None (Some begin) None = R.BeginEnd scope k.path k.name k.content_name p.patterns begin (filled k.end_text) k.end_last p.begin_captures p.end_captures

module _ (loaded : List Loaded) (grammar : Loaded) where
  -- what an include names, where it is there
  abbrev pub included : List Entries → Option (List ℕ) → List ℕ
  included scopes include = option_to_list (option_and_then (included_rule loaded grammar scopes) include)

  -- an item of a list is the rule that it names, or itself; an include that names nothing is none
  abbrev pub item_numbers : List Entries → ℕ → Option (List ℕ) → List ℕ
  item_numbers scopes n None = n ∷ []
  item_numbers scopes n (Some text) = included scopes (Some text)

  abbrev pub numbers_from : List Entries → ℕ → Items → List ℕ
  numbers_from scopes n NoItems = []
  numbers_from scopes n (Item t rest) = item_numbers scopes n (filled (keys_of t).include) ++ numbers_from scopes (n + (if is_include t then 0 else 1 + inside_size t)) rest

  -- the one pattern of a rule that has an `include` and neither `match` nor `begin` nor `patterns`
  abbrev pub lone_include : List Entries → Keys → List ℕ
  lone_include scopes k = if is_some (filled k.match_text) || is_some k.begin || k.has_patterns then [] else included scopes (filled k.include)

  -- captures of begin, end and while fall back to `captures`
  abbrev pub parts_of : List Entries → FirstNumbers → Tree → Parts
  parts_of scopes f (Node k begins all ends listed named whiles) = record {
    captures = captures_from f.captures all;
    begin_captures = if k.has_begin_captures then captures_from f.begin_captures begins else captures_from f.captures all;
    end_captures = if k.has_end_captures then captures_from f.end_captures ends else captures_from f.captures all;
    while_captures = if k.has_while_captures then captures_from f.while_captures whiles else captures_from f.captures all;
    patterns = numbers_from scopes f.patterns listed ++ lone_include scopes k;
  }

  -- the rule itself; an empty `match`, `end` or `while` counts as absent
  abbrev pub own_rule : List Entries → FirstNumbers → Tree → Rule
  own_rule scopes f t = rule_by grammar.scope (keys_of t) (parts_of scopes f t) (filled (keys_of t).match_text) (keys_of t).begin (filled (keys_of t).while_text)

  -- the rule whose parts are numbered from n on
  abbrev pub rule_at : List Entries → ℕ → Tree → Rule
  rule_at scopes n t = own_rule (inner scopes n t) (firsts n t) t

  abbrev mutual
    -- The rules inside a rule, numbered from n on: a rule stands before those inside it.
    pub rules_inside : List Entries → ℕ → Tree → List Rule
    rules_inside scopes n (Node keys begins all ends listed named whiles) =
        let t = Node keys begins all ends listed named whiles in
        let f = firsts n t in
        let around = inner scopes n t in
        rules_in_captures around f.begin_captures begins ++ (rules_in_captures around f.captures all ++ (rules_in_captures around f.end_captures ends
        ++ (rules_in_items around f.patterns listed ++ (rules_in_names around f.repository named ++ rules_in_captures around f.while_captures whiles))))

    -- a capture is a rule where it has `patterns`; what is inside another one has numbers too
    pub rules_in_captures : List Entries → ℕ → Captures → List Rule
    rules_in_captures scopes n NoCaptures = []
    rules_in_captures scopes n (Capture group t rest) =
        let own = if has_patterns t then 1 else 0 in
        (if has_patterns t then rule_at scopes (n + own) t ∷ [] else []) ++ (rules_inside scopes (n + own) t ++ rules_in_captures scopes (n + (own + inside_size t)) rest)

    -- nothing inside an include has a number
    pub rules_in_items : List Entries → ℕ → Items → List Rule
    rules_in_items scopes n NoItems = []
    rules_in_items scopes n (Item t rest) =
        (if is_include t then [] else rule_at scopes (n + 1) t ∷ rules_inside scopes (n + 1) t) ++ rules_in_items scopes (n + (if is_include t then 0 else 1 + inside_size t)) rest

    pub rules_in_names : List Entries → ℕ → Names → List Rule
    rules_in_names scopes n NoNames = []
    rules_in_names scopes n (Named name t rest) = rule_at scopes (n + 1) t ∷ (rules_inside scopes (n + 1) t ++ rules_in_names scopes (n + (1 + inside_size t)) rest)

-- A grammar: its root rule, then the rules of its injections, then those inside the root rule.
abbrev pub grammar_size : GrammarTree → ℕ
grammar_size g = 1 + names_size (names_of g.injections) + inside_size (tree_of g.root)

-- the first number inside the root rule, which has the number n
abbrev pub inside_root : ℕ → GrammarTree → ℕ
inside_root n g = n + (1 + names_size (names_of g.injections))

-- the names of a tree's own repository, where what is inside it is numbered from n on
abbrev pub own_entries : ℕ → Tree → Entries
own_entries n (Node keys begins all ends listed named whiles) = entries (firsts n (Node keys begins all ends listed named whiles)).repository named

-- what includes see of a grammar whose root rule has the number n
abbrev pub loaded_from : ℕ → List GrammarTree → List Loaded
loaded_from n [] = []
loaded_from n (g ∷ gs) = record { scope = g.scope_name; root = n; repository = own_entries (inside_root n g) (tree_of g.root) } ∷ loaded_from (n + grammar_size g) gs

-- The names of the root rule's repository stand in its injections too.
abbrev pub grammar_rules : List Loaded → Loaded → GrammarTree → List Rule
grammar_rules loaded grammar g =
    let n = inside_root grammar.root g in
    let t = tree_of g.root in
    rule_at loaded grammar [] n t ∷ (rules_in_names loaded grammar (inner [] n t) (grammar.root + 1) (names_of g.injections) ++ rules_inside loaded grammar [] n t)

abbrev pub rules_from : List Loaded → List Loaded → List GrammarTree → List Rule
rules_from loaded (l ∷ ls) (g ∷ gs) = grammar_rules loaded l g ++ rules_from loaded ls gs
rules_from loaded ls gs = []

-- how many rules grammars have
abbrev pub grammars_size : List GrammarTree → ℕ
grammars_size [] = 0
grammars_size (g ∷ gs) = grammar_size g + grammars_size gs

-- the root grammar first, then the further ones, then the injected ones
abbrev pub grammars_of : Grammars → List GrammarTree
grammars_of parts = parts.root ∷ (parts.more.items ++ parts.injected.items)

-- all rules, each at the place of its number
abbrev pub plain_rules : Grammars → List Rule
plain_rules parts = rules_from (loaded_from 0 (grammars_of parts)) (loaded_from 0 (grammars_of parts)) (grammars_of parts)

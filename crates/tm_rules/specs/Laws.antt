-- What makes the definitions believable: the flattening without its depth, and numbers that are places.
use Rattle.std.specs.Prelude.{◌≡◌, ℕ, List, [], ◌∷◌, length, true, false, flat_map, slice_get}
use Rattle.tm_rules.specs.Candidates.{is_among, flattened}
use Rattle.tm_rules.specs.Readers.{is_only, patterns_of}
use Rattle.tm_rules.specs.Includes.{Entries}
use Rattle.tm_rules.specs.Rules.{rules_inside, rules_in_captures, rules_in_items, rules_in_names}
use Rattle.tm_rules.specs.Sizes.{inside_size, captures_size, items_size, names_size}
use Rattle.tm_rules.specs.Tree.{Tree, Captures, Items, Names}
use Rattle.tm_rules.specs.declared.candidate.Candidate.TheVariants.{Start}
use Rattle.tm_rules.specs.declared.loaded.Loaded.{Loaded}
use Rattle.tm_defs.specs.declared.rules.Rule.{Rule}

-- a match or begin rule contributes its start
abbrev pub StartsContribute : Type 0
StartsContribute = (rules : List Rule) (opened : List ℕ) (n : ℕ) → is_only (slice_get rules n) ≡ false → flattened rules opened n ≡ Start n ∷ []

-- an include-only rule that is being flattened contributes nothing
abbrev pub OpenRulesAreCut : Type 0
OpenRulesAreCut = (rules : List Rule) (opened : List ℕ) (n : ℕ) → is_only (slice_get rules n) ≡ true → is_among n opened ≡ true → flattened rules opened n ≡ []

-- any other include-only rule contributes what its patterns do, in order, while it is being flattened too
abbrev pub OthersAreFlattened : Type 0
OthersAreFlattened = (rules : List Rule) (opened : List ℕ) (n : ℕ) → is_only (slice_get rules n) ≡ true → is_among n opened ≡ false
    → flattened rules opened n ≡ flat_map (flattened rules (n ∷ opened)) (patterns_of (slice_get rules n))

-- So many rules stand before a part as are counted before it: the number of each rule is its place.
pub record AreCounted (loaded : List Loaded) (grammar : Loaded) : Type 0 where
  pub inside : (scopes : List Entries) (n : ℕ) (t : Tree) → length (rules_inside loaded grammar scopes n t) ≡ inside_size t
  pub captures : (scopes : List Entries) (n : ℕ) (cs : Captures) → length (rules_in_captures loaded grammar scopes n cs) ≡ captures_size cs
  pub items : (scopes : List Entries) (n : ℕ) (is : Items) → length (rules_in_items loaded grammar scopes n is) ≡ items_size is
  pub names : (scopes : List Entries) (n : ℕ) (ns : Names) → length (rules_in_names loaded grammar scopes n ns) ≡ names_size ns

abbrev pub NumbersArePlaces : Type 0
NumbersArePlaces = (loaded : List Loaded) (grammar : Loaded) → AreCounted loaded grammar

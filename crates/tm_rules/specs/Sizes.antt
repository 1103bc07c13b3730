-- How many rules get numbers.
use Rattle.std.specs.Prelude.{◌≡◌, ℕ, ◌+◌, ◌<◌, List, [], ◌∷◌, Bool, Option, Some, None, is_some, if◌then◌else◌}
use Rattle.tm_rules.specs.Tree.{Tree, Node, keys_of, Captures, NoCaptures, Capture, Items, NoItems, Item, Names, NoNames, Named}

-- no more rules than this have numbers
abbrev pub rule_limit : ℕ
rule_limit = 65535

-- a text, where it is there and not empty
abbrev pub filled : Option (List ℕ) → Option (List ℕ)
filled None = None
filled (Some []) = None
filled (Some (c ∷ cs)) = Some (c ∷ cs)

-- An item of a list that has an `include` is that include, and no rule, whatever else it has.
abbrev pub is_include : Tree → Bool
is_include t = is_some (filled (keys_of t).include)

-- A capture is a rule where it has `patterns`.
abbrev pub has_patterns : Tree → Bool
has_patterns t = (keys_of t).has_patterns

abbrev mutual
  -- how many rules there are inside a rule, without itself
  pub inside_size : Tree → ℕ
  inside_size (Node keys begins all ends listed named whiles) =
      captures_size begins + captures_size all + captures_size ends + items_size listed + names_size named + captures_size whiles

  pub captures_size : Captures → ℕ
  captures_size NoCaptures = 0
  captures_size (Capture group t rest) = (if has_patterns t then 1 else 0) + inside_size t + captures_size rest

  pub items_size : Items → ℕ
  items_size NoItems = 0
  items_size (Item t rest) = (if is_include t then 0 else 1 + inside_size t) + items_size rest

  pub names_size : Names → ℕ
  names_size NoNames = 0
  names_size (Named name t rest) = 1 + inside_size t + names_size rest

-- the first number behind so many rules that are numbered from this one on, where all rules up to there have numbers
abbrev pub Counts : ℕ → ℕ → Option ℕ → Type 0
Counts size from (Some next) = next ≡ from + size
Counts size from None = rule_limit < from + size

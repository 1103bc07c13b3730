-- What an include names (TextMate 1.x manual, Language Grammars; `$base` and `scope#name` after vscode-textmate).
use Rattle.std.specs.Prelude.{ℕ, ◌+◌, List, [], ◌∷◌, codes, length, take, drop, Bool, ◌||◌, nat_eq, Option, Some, None, option_map, option_and_then, find, position, if◌then◌else◌}
use Rattle.std.specs.BTreeMap.{insert_entry}
use Rattle.std.specs.Cmp.Lexicographic.{slice_cmp}
use Rattle.std.specs.Map.{lookup}
use Rattle.std.specs.Option.{option_or}
use Rattle.std.specs.Ordering.{nat_cmp}
use Rattle.std.specs.Str.{bytes_eq}
use Rattle.tm_rules.specs.Tree.{Names, NoNames, Named}
use Rattle.tm_rules.specs.Sizes.{inside_size}
use Rattle.tm_rules.specs.declared.loaded.Loaded.{Loaded}

-- the names of a repository with the numbers of their rules
abbrev pub Entries : Type 0
Entries = List (List ℕ × ℕ)

-- Names with the numbers of their rules, in the order of the names. Of two with one name the last counts.
abbrev pub entries_after : Entries → ℕ → Names → Entries
entries_after before n NoNames = before
entries_after before n (Named name t rest) = entries_after (insert_entry (slice_cmp nat_cmp) before name n) (n + (1 + inside_size t)) rest

-- the entries of a repository whose first rule has this number
abbrev pub entries : ℕ → Names → Entries
entries n names = entries_after [] n names

-- the rule of a name
abbrev pub named : List ℕ → Entries → Option ℕ
named name es = lookup (bytes_eq name) es

-- The rule of a name in repositories, the outermost first: an inner name hides an outer one.
abbrev pub innermost : List ℕ → List Entries → Option ℕ
innermost name [] = None
innermost name (es ∷ inner) = option_or (innermost name inner) (named name es)

-- the first of the loaded grammars that has this scope
abbrev pub loaded_at : List ℕ → List Loaded → Option Loaded
loaded_at scope loaded = find (λ g. bytes_eq scope g.scope) loaded

abbrev pub is_hash : ℕ → Bool
is_hash c = nat_eq c 35

abbrev pub is_word : List ℕ → Bool
is_word text = bytes_eq text (codes "$self") || bytes_eq text (codes "$base")

module _ (loaded : List Loaded) where
  -- `#name` is of the repositories around it, `scope#name` of that grammar's top repository; `$self` and `$base` are no scopes here
  abbrev pub named_of : List Entries → List ℕ → List ℕ → Option ℕ
  named_of scopes scope name = if nat_eq (length scope) 0 then innermost name scopes
      else (if is_word scope then None else option_and_then (λ g. named name g.repository) (loaded_at scope loaded))

  -- with a `#` at this place it is a scope and a name, and else the scope of a grammar
  abbrev pub by_hash : List Entries → List ℕ → Option ℕ → Option ℕ
  by_hash scopes text None = option_map (λ g. g.root) (loaded_at text loaded)
  by_hash scopes text (Some place) = named_of scopes (take place text) (drop (place + 1) text)

  -- `$self` is the root rule of the grammar in which it is written, `$base` that of the first grammar
  abbrev pub included_rule : Loaded → List Entries → List ℕ → Option ℕ
  included_rule grammar scopes text = if bytes_eq text (codes "$self") then Some grammar.root
      else (if bytes_eq text (codes "$base") then Some 0 else by_hash scopes text (position is_hash text))

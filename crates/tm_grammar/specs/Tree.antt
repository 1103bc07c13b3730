-- The raw tree of a value: its rules with the texts of their keys, each with its path. A value that is not what it ought
-- to be gives nothing.
use Rattle.std.specs.Prelude.{ℕ, ◌+◌, List, [], ◌∷◌, ◌++◌, codes, Bool, false, not, nat_eq, Option, Some, None, option_map, option_and_then, if◌then◌else◌}
use Rattle.std.specs.Str.{chars, bytes_eq}
use Rattle.serde_json.specs.Data.{Num, unsigned, Data, boolean, number, array, object, Items, no_items, item, Members, no_members, member}
use Rattle.serde_json.specs.Find.{get_member, as_str}
use Rattle.tm_grammar.specs.Paths.{key_step, place_step}
use Rattle.tm_grammar.specs.Numbers.{key_number, place_number}
use Rattle.tm_grammar.specs.declared.raw.RawRule.{RawRule}
use Rattle.tm_grammar.specs.declared.raw.RawRule.TheOpen.{RawRule-F}
use Rattle.tm_grammar.specs.declared.raw.RawRule.TheViews.{roll-RawRule}

-- the text at a key, in characters
abbrev pub text_at : List ℕ → Members → Option (List ℕ)
text_at key ms = option_map chars (option_and_then as_str (get_member key ms))

abbrev pub is_zero : Num → Bool
is_zero (unsigned n) = nat_eq n 0
is_zero n = false

-- true, or a number that is not the whole number 0
abbrev pub is_set : Data → Bool
is_set (boolean b) = b
is_set (number n) = not (is_zero n)
is_set d = false

abbrev pub flag_from : Option Data → Bool
flag_from None = false
flag_from (Some d) = is_set d

abbrev pub flag_at : List ℕ → Members → Bool
flag_at key ms = flag_from (get_member key ms)

-- the rule at a path without any key
abbrev pub blank : List ℕ → RawRule-F RawRule
blank path = record {
  path = path;
  name = None;
  content_name = None;
  match_text = None;
  begin = None;
  end_text = None;
  while_text = None;
  include = None;
  captures = None;
  begin_captures = None;
  end_captures = None;
  while_captures = None;
  patterns = None;
  repository = [];
  end_last = false;
}

-- a capture, where it has a number
abbrev pub numbered : Option ℕ → RawRule → List (ℕ × RawRule)
numbered None rule = []
numbered (Some n) rule = (n, rule) ∷ []

abbrev mutual
  pub rule_of : List ℕ → Data → RawRule
  rule_of path (object ms) = roll-RawRule (record {
    path = path;
    name = text_at (codes "name") ms;
    content_name = text_at (codes "contentName") ms;
    match_text = text_at (codes "match") ms;
    begin = text_at (codes "begin") ms;
    end_text = text_at (codes "end") ms;
    while_text = text_at (codes "while") ms;
    include = text_at (codes "include") ms;
    captures = captures_at (codes "captures") path ms;
    begin_captures = captures_at (codes "beginCaptures") path ms;
    end_captures = captures_at (codes "endCaptures") path ms;
    while_captures = captures_at (codes "whileCaptures") path ms;
    patterns = patterns_at (codes "patterns") path ms;
    repository = repository_at (codes "repository") path ms;
    end_last = flag_at (codes "applyEndPatternLast") ms;
  })
  rule_of path d = roll-RawRule (blank path)

  -- of a capture only these keys are read
  pub capture_of : List ℕ → Data → RawRule
  capture_of path (object ms) = roll-RawRule (record (blank path) {
    name = text_at (codes "name") ms;
    content_name = text_at (codes "contentName") ms;
    patterns = patterns_at (codes "patterns") path ms;
    repository = repository_at (codes "repository") path ms;
  })
  capture_of path d = roll-RawRule (blank path)

  -- the rules of a list
  pub patterns_at : List ℕ → List ℕ → Members → Option (List RawRule)
  patterns_at key path no_members = None
  patterns_at key path (member k d ms) = if bytes_eq key k then patterns_of (path ++ key_step key) d else patterns_at key path ms

  pub patterns_of : List ℕ → Data → Option (List RawRule)
  patterns_of path (array ds) = Some (rules_from path 0 ds)
  patterns_of path d = None

  pub rules_from : List ℕ → ℕ → Items → List RawRule
  rules_from path place no_items = []
  rules_from path place (item d ds) = rule_of (path ++ place_step place) d ∷ rules_from path (place + 1) ds

  -- the rules of an object, by name
  pub repository_at : List ℕ → List ℕ → Members → List (List ℕ × RawRule)
  repository_at key path no_members = []
  repository_at key path (member k d ms) = if bytes_eq key k then repository_of (path ++ key_step key) d else repository_at key path ms

  pub repository_of : List ℕ → Data → List (List ℕ × RawRule)
  repository_of path (object ms) = rules_named path ms
  repository_of path d = []

  pub rules_named : List ℕ → Members → List (List ℕ × RawRule)
  rules_named path no_members = []
  rules_named path (member k d ms) = (chars k, rule_of (path ++ key_step k) d) ∷ rules_named path ms

  -- captures, by number
  pub captures_at : List ℕ → List ℕ → Members → Option (List (ℕ × RawRule))
  captures_at key path no_members = None
  captures_at key path (member k d ms) = if bytes_eq key k then captures_of (path ++ key_step key) d else captures_at key path ms

  pub captures_of : List ℕ → Data → Option (List (ℕ × RawRule))
  captures_of path (array ds) = Some (captures_from path 0 ds)
  captures_of path (object ms) = Some (captures_named path ms)
  captures_of path d = None

  pub captures_from : List ℕ → ℕ → Items → List (ℕ × RawRule)
  captures_from path place no_items = []
  captures_from path place (item d ds) = numbered (place_number place) (capture_of (path ++ place_step place) d) ++ captures_from path (place + 1) ds

  pub captures_named : List ℕ → Members → List (ℕ × RawRule)
  captures_named path no_members = []
  captures_named path (member k d ms) = numbered (key_number k) (capture_of (path ++ key_step k) d) ++ captures_named path ms

-- what a key gives, where it is there
abbrev pub repository_from : List ℕ → Option Data → List (List ℕ × RawRule)
repository_from path None = []
repository_from path (Some d) = repository_of path d

-- Which patterns of rules are unreadable.
use Rattle.std.specs.Prelude.{◌≡◌, ℕ, Bool, false, List, [], ◌∷◌, ◌++◌, chars, codes, Option, Some, None, option_map}
use Rattle.std.specs.Option.{is_some}
use Rattle.tm_onig_class.specs.Tree.{Tree}
use Rattle.tm_onig_parse.specs.Parsed.{parsed}
use Rattle.tm_template.specs.Ends.{resolved}
use Rattle.tm_defs.specs.declared.rules.Rule.{Rule}
use Rattle.tm_rules.specs.Readers.{grammar_in, path_in, own_match, own_begin, own_end, own_while, start_text}
use Rattle.tm_line_lint.specs.declared.Reads.{Reads}
use Rattle.tm_line_lint.specs.declared.Unread.{Unread}

-- the pattern of this key of a file, unless its text has a tree
abbrev pub unread_if : List ℕ → List ℕ → Option Tree → List Unread
unread_if grammar path None = record { grammar = grammar; path = path } ∷ []
unread_if grammar path (Some tree) = []

-- the path of a key of a rule, where the key is given by its bytes
abbrev pub key_path : List ℕ → List ℕ → List ℕ
key_path rule key = rule ++ chars key

-- the text of an end or a while, as if every captured text was empty
abbrev pub tried : List ℕ → List ℕ
tried text = resolved text [] []

-- the same where there is a text
abbrev pub unread_at : List ℕ → List ℕ → List ℕ → Option (List ℕ) → List Unread
unread_at grammar rule key None = []
unread_at grammar rule key (Some text) = unread_if grammar (key_path rule key) (parsed text)

-- the unreadable patterns of a rule, in the order begin, end, match, while
abbrev pub unread_in : Rule → List Unread
unread_in rule =
    let at = unread_at (grammar_in rule) (path_in rule) in
    at (codes "/begin") (own_begin (Some rule)) ++ (at (codes "/end") (option_map tried (own_end (Some rule)))
    ++ (at (codes "/match") (own_match (Some rule)) ++ at (codes "/while") (option_map tried (own_while (Some rule)))))

-- a text is there, and is a pattern
abbrev pub is_read : Option (List ℕ) → Bool
is_read None = false
is_read (Some text) = is_some (parsed text)

-- what is known of the patterns of a rule is so
abbrev pub AreKnown : Rule → Reads → Type 0
AreKnown rule reads = (reads.start ≡ is_read (start_text (Some rule))) × (reads.end ≡ is_read (own_end (Some rule)))

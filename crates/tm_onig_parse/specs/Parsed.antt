-- What a text of a pattern means, for the crates that search. That this is what the grammar says is a law,
-- `reading_is_by_the_grammar`.
use Rattle.std.specs.Prelude.{ℕ, nat_le, List, length, Option, Some, None, if◌then◌else◌}
use Rattle.tm_onig_class.specs.Tree.{Tree}
use Rattle.tm_onig_atom.specs.inner.Reading.{◌>>=◌}
use Rattle.tm_onig_parse.specs.inner.Reading.{outline_start, names_onward, onward, start}

-- the tree of a text, if it is a pattern: first its groups are read, since a reference may stand before
-- its group
abbrev pub parsed : List ℕ → Option Tree
parsed t = if nat_le (length t) 65536 then (names_onward outline_start t >>= λ names. onward (Some names) start t) else None

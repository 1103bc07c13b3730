-- Bytes as text.
use Rattle.std.specs.Prelude.{ℕ, List, [], ◌∷◌, drop, nat_eq, Option, Some, None, if◌then◌else◌}
use Rattle.std.specs.List.{starts_with}
use Rattle.std.specs.Str.{is_utf8}

-- the byte order mark of UTF-8 (Unicode, section 23.8)
abbrev pub byte_order_mark : List ℕ
byte_order_mark = 0xef ∷ 0xbb ∷ 0xbf ∷ []

-- the bytes of a file without one byte order mark at their start
abbrev pub without_mark : List ℕ → List ℕ
without_mark bytes = if starts_with nat_eq bytes byte_order_mark then drop 3 bytes else bytes

-- the text of a file, where it is UTF-8
abbrev pub text_of_utf8 : List ℕ → Option (List ℕ)
text_of_utf8 bytes = if is_utf8 bytes then Some bytes else None

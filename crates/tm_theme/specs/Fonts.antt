-- The fonts of rules fit into the metadata word.
use Rattle.std.specs.Prelude.{List, [], ◌∷◌, ⊤}
use Rattle.tm_theme.specs.Style.{IsAtMost}
use Rattle.tm_theme_file.specs.declared.read.WrittenRule.{WrittenRule}

abbrev pub AreFonts : List WrittenRule → Type 0
AreFonts [] = ⊤
AreFonts (r ∷ rules) = IsAtMost 15 r.font × AreFonts rules

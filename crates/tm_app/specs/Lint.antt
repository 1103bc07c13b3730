-- What is printed of the unreadable patterns of settings.
use Rattle.std.specs.Prelude.{ℕ, ◌+◌, List, [], ◌∷◌, ◌++◌, codes, decimal, encode_utf8_all, flat_map}
use Rattle.tm_line.specs.Setting.{Setting}
use Rattle.tm_line_lint.specs.Unread.{unread_in}
use Rattle.tm_line_lint.specs.declared.Unread.{Unread}

-- the number of the setting, the scope of the pattern's grammar, and the path
abbrev pub unread_text : ℕ → Unread → List ℕ
unread_text number unread = decimal number ++ codes " " ++ encode_utf8_all unread.grammar ++ codes " " ++ encode_utf8_all unread.path ++ codes "\n"

abbrev pub unread_texts : ℕ → List Unread → List ℕ
unread_texts number [] = []
unread_texts number (unread ∷ more) = unread_text number unread ++ unread_texts number more

-- the lines of settings, the first of which has this number
abbrev pub lint_from : ℕ → List Setting → List ℕ
lint_from number [] = []
lint_from number (setting ∷ settings) = unread_texts number (flat_map unread_in setting.rules) ++ lint_from (number + 1) settings

abbrev pub lint_text : List Setting → List ℕ
lint_text settings = lint_from 0 settings

-- What single characters mean, and places that have a letter.
use Rattle.std.specs.Prelude.{ℕ, ◌==◌, Bool, Option, Some, None, if◌then◌else◌, codes}
use Rattle.std.specs.List.{list_any}
use Rattle.tm_onig_class.specs.declared.patterns.Position.{Position}
use Rattle.tm_onig_class.specs.declared.patterns.Position.TheVariants as Place
use Rattle.tm_onig_class.specs.Tree.{Tree, Char, Any, Holds}
use Rattle.tm_onig_atom.specs.declared.options.Options.{Options}

-- The characters that do not stand for themselves.
unfoldable pub is_special : ℕ → Bool
is_special c = list_any (λ d. d == c) (codes "()[|?*+\\")

-- What a character means that stands alone.
unfoldable pub single_tree : Options → ℕ → Option Tree
single_tree o c =
    if c == 46 then Some (Any o.newline)
    else if c == 94 then Some (Holds Place.LineStart)
    else if c == 36 then Some (Holds Place.LineEnd)
    else if is_special c then None
    else Some (Char c o.fold)

-- The place that a letter stands for behind a backslash, outside classes.
unfoldable pub place_letter : ℕ → Option Position
place_letter c =
    if c == 98 then Some Place.Word
    else if c == 66 then Some Place.NotWord
    else if c == 65 then Some Place.TextStart
    else if c == 71 then Some Place.SearchStart
    else if c == 90 then Some Place.BeforeFinal
    else if c == 122 then Some Place.TextEnd
    else None

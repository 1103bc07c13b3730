-- Escapes: what is written behind a backslash, and what it stands for, in classes and outside them.
-- Outside, positions and references begin with a backslash too; they are no escapes.
use Rattle.std.specs.Prelude.{◌≡◌, ℕ, ◌<◌, ◌≤◌, ◌==◌, Bool, true, false, not, List, [], ◌∷◌, ◌++◌, length, Option, Some, None, if◌then◌else◌, codes}
use Rattle.std.specs.List.{list_any, list_all}
use Rattle.std.specs.Char.{is_digit}
use Rattle.std.specs.Str.Parse.{digits_value}
use Rattle.tm_onig_class.specs.declared.listed.Listed.{Listed as ListedType}
use Rattle.tm_onig_class.specs.declared.listed.Listed.TheVariants.{Word, Digit, Space, Xdigit}
use Rattle.tm_onig_class.specs.declared.names.Known.{Known}
use Rattle.tm_onig_class.specs.declared.names.Known.TheVariants.{Listed}
use Rattle.tm_onig_class.specs.Members.{IsChar, ranges_of}
use Rattle.tm_onig_class.specs.Named.{known, in_known}
use Rattle.tm_onig_class.specs.Tree.{Tree, Char, InSet}
use Rattle.tm_onig_atom.specs.declared.options.Options.{Options}
use Rattle.tm_onig_atom.specs.declared.meanings.Named.{Named}
use Rattle.tm_onig_atom.specs.declared.meanings.Meant.{Meant}
use Rattle.tm_onig_atom.specs.declared.meanings.Meant.TheVariants.{Character, Members}

-- The text begins with the character.
abbrev pub begins : ℕ → List ℕ → Bool
begins d [] = false
begins d (c ∷ t) = c == d

-- The text begins with a digit.
abbrev pub begins_digit : ℕ → List ℕ → Bool
begins_digit base [] = false
begins_digit base (c ∷ t) = is_digit c base

-- The character is a member of the set.
abbrev pub named_has : Named → ℕ → Bool
named_has n c = if n.negated then not (in_known n.known c) else in_known n.known c

-- A set of the table, or its complement.
abbrev pub of_listed : ListedType → Bool → Named
of_listed listed negated = record { known = Listed listed; negated = negated }

-- The set that a letter stands for.
unfoldable pub set_letter : ℕ → Option Named
set_letter c =
    if c == 119 then Some (of_listed Word false)
    else if c == 100 then Some (of_listed Digit false)
    else if c == 115 then Some (of_listed Space false)
    else if c == 104 then Some (of_listed Xdigit false)
    else if c == 87 then Some (of_listed Word true)
    else if c == 68 then Some (of_listed Digit true)
    else if c == 83 then Some (of_listed Space true)
    else if c == 72 then Some (of_listed Xdigit true)
    else None

-- The digits and letters that stand for no character: digits, the letters of sets, those that begin a
-- longer form, and those with a meaning elsewhere that is not read.
unfoldable pub is_no_char : ℕ → Bool
is_no_char c = list_any (λ d. d == c) (codes "0123456789wdshWDSHxupPgKXRyYNOcCM")

-- The character that a letter or sign stands for: a control character that has a letter, or itself.
unfoldable pub escaped_char : ℕ → Option ℕ
escaped_char c =
    if c == 116 then Some 9
    else if c == 110 then Some 10
    else if c == 118 then Some 11
    else if c == 102 then Some 12
    else if c == 114 then Some 13
    else if c == 97 then Some 7
    else if c == 101 then Some 27
    else if c == 98 then Some 8
    else if is_no_char c then None
    else Some c

-- What is written behind a backslash.
pub data Escape : Type 0 where
  -- a letter or sign, with the character that it stands for
  Sign : ℕ → ℕ → Escape
  -- a letter, with the set that it stands for
  Short : ℕ → Named → Escape
  -- `x` and hexadecimal digits
  Hex : List ℕ → Escape
  -- `x` and hexadecimal digits between braces
  Braced : List ℕ → Escape
  -- `u` and hexadecimal digits
  Unicode : List ℕ → Escape
  -- `0` and octal digits
  Octal : List ℕ → Escape
  -- `p` or `P`, and a name between braces, behind a `^` or not, with the set of that name
  Property : Bool → Bool → List ℕ → Known → Escape

-- The first character.
abbrev pub escape_head : Escape → ℕ
escape_head (Sign c value) = c
escape_head (Short c named) = c
escape_head (Hex ds) = 120
escape_head (Braced ds) = 120
escape_head (Unicode ds) = 117
escape_head (Octal ds) = 48
escape_head (Property true caret name set) = 80
escape_head (Property false caret name set) = 112

-- What follows it.
abbrev pub escape_tail : Escape → List ℕ
escape_tail (Sign c value) = []
escape_tail (Short c named) = []
escape_tail (Hex ds) = ds
escape_tail (Braced ds) = 123 ∷ (ds ++ 125 ∷ [])
escape_tail (Unicode ds) = ds
escape_tail (Octal ds) = ds
escape_tail (Property capital true name set) = 123 ∷ 94 ∷ (name ++ 125 ∷ [])
escape_tail (Property capital false name set) = 123 ∷ (name ++ 125 ∷ [])

-- How it is spelled.
abbrev pub escape_text : Escape → List ℕ
escape_text e = escape_head e ∷ escape_tail e

-- Digits of a base, so many.
abbrev pub AreDigits : ℕ → ℕ → ℕ → List ℕ → Type 0
AreDigits base least most ds = (list_all (λ c. is_digit c base) ds ≡ true) × (least ≤ length ds) × (length ds ≤ most)

-- A further digit would belong to them.
abbrev pub EndsDigits : ℕ → ℕ → List ℕ → List ℕ → Type 0
EndsDigits base most ds rest = length ds < most → begins_digit base rest ≡ false

-- It is one before what follows. A number is that of a character; a name is one that a set has.
abbrev pub IsEscape : Escape → List ℕ → Type 0
IsEscape (Sign c value) rest = escaped_char c ≡ Some value
IsEscape (Short c named) rest = set_letter c ≡ Some named
IsEscape (Hex ds) rest = AreDigits 16 1 2 ds × EndsDigits 16 2 ds rest × IsChar (digits_value 16 ds)
IsEscape (Braced ds) rest = AreDigits 16 1 6 ds × IsChar (digits_value 16 ds)
IsEscape (Unicode ds) rest = AreDigits 16 4 4 ds × IsChar (digits_value 16 ds)
IsEscape (Octal ds) rest = AreDigits 8 0 2 ds × EndsDigits 8 2 ds rest × IsChar (digits_value 8 ds)
IsEscape (Property capital caret name set) rest =
    (list_any (λ c. c == 125) name ≡ false) × (caret ≡ false → begins 94 name ≡ false) × (known name ≡ Some set)

-- What it stands for. `P` and `^` each ask for the complement.
abbrev pub meant : Escape → Meant
meant (Sign c value) = Character value
meant (Short c named) = Members named
meant (Hex ds) = Character (digits_value 16 ds)
meant (Braced ds) = Character (digits_value 16 ds)
meant (Unicode ds) = Character (digits_value 16 ds)
meant (Octal ds) = Character (digits_value 8 ds)
meant (Property capital caret name set) = Members (record { known = set; negated = if caret then not capital else capital })

-- The same as a tree.
abbrev pub meant_tree : Options → Meant → Tree
meant_tree o (Character c) = Char c o.fold
meant_tree o (Members named) = InSet (ranges_of (named_has named)) o.fold

-- What an escape means outside classes.
abbrev pub escape_tree : Options → Escape → Tree
escape_tree o e = meant_tree o (meant e)

-- The text begins with the escape, and this follows.
pub record BeginsEscape (text : List ℕ) (e : Escape) (rest : List ℕ) : Type 0 where
  pub whole : text ≡ escape_text e ++ rest
  pub is : IsEscape e rest

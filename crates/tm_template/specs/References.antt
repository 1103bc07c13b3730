-- References to the groups of a match, in templates of names and in texts of ends.
use Rattle.std.specs.Prelude.{ℕ, zero, suc, ◌-◌, ◌==◌, Bool, true, false, List, [], ◌∷◌, ◌++◌, length, drop, Option, Some, None, if◌then◌else◌, codes, nat_eq, take_while}
use Rattle.std.specs.List.{starts_with}
use Rattle.std.specs.Char.{is_ascii_digit}
use Rattle.tm_template.specs.declared.references.Manner.{Manner}
use Rattle.tm_template.specs.declared.references.Manner.TheVariants.{AsCaptured, Downcase, Upcase}

-- A reference to a group: the decimal digits of its number, and in which case its text is written.
pub record Reference : Type 0 where
  pub digits : List ℕ
  pub manner : Manner

-- The same by its parts.
abbrev pub reference : List ℕ → Manner → Reference
reference digits manner = record { digits = digits; manner = manner }

-- A part of a text: a character that stands for itself, or a reference.
pub data Piece : Type 0 where
  Plain : ℕ → Piece
  Refers : Reference → Piece

-- The digits at the front, as many as there are.
abbrev pub digits_of : List ℕ → List ℕ
digits_of = take_while is_ascii_digit

-- The reference with these digits. There is none without digits.
abbrev pub referring : Manner → List ℕ → Option Reference
referring manner [] = None
referring manner (d ∷ ds) = Some (reference (d ∷ ds) manner)

-- How a case is written behind the digits.
abbrev pub manner_text : Manner → List ℕ
manner_text AsCaptured = []
manner_text Downcase = codes ":/downcase}"
manner_text Upcase = codes ":/upcase}"

-- The case that is written at the front.
unfoldable pub manner_at : List ℕ → Option Manner
manner_at t =
    if starts_with nat_eq t (manner_text Downcase) then Some Downcase
    else if starts_with nat_eq t (manner_text Upcase) then Some Upcase
    else None

-- The reference with these digits, if there is a case.
abbrev pub cased : List ℕ → Option Manner → Option Reference
cased digits None = None
cased digits (Some manner) = referring manner digits

-- The reference between braces, behind the first of them: digits, and a case.
abbrev pub braced_at : List ℕ → Option Reference
braced_at t = cased (digits_of t) (manner_at (drop (length (digits_of t)) t))

-- The reference behind a `$`: digits alone, or between braces.
unfoldable pub dollar_at : List ℕ → Option Reference
dollar_at [] = None
dollar_at (c ∷ t) = if c == 123 then braced_at t else referring AsCaptured (digits_of (c ∷ t))

-- The reference at the front of the text of a template.
unfoldable pub name_reference : List ℕ → Option Reference
name_reference [] = None
name_reference (c ∷ t) = if c == 36 then dollar_at t else None

-- The reference at the front of the text of an end: a backslash and digits.
unfoldable pub end_reference : List ℕ → Option Reference
end_reference [] = None
end_reference (c ∷ t) = if c == 92 then referring AsCaptured (digits_of t) else None

-- How a reference with a case is spelled in a template: `${1:/downcase}`, `${1:/upcase}`.
abbrev pub in_braces : Reference → List ℕ
in_braces r = 36 ∷ 123 ∷ (r.digits ++ manner_text r.manner)

-- The same where there may be no case: `$1`.
abbrev pub spelled_as : Manner → Reference → List ℕ
spelled_as AsCaptured r = 36 ∷ r.digits
spelled_as Downcase r = in_braces r
spelled_as Upcase r = in_braces r

-- How a reference is spelled in a template.
abbrev pub name_spelling : Reference → List ℕ
name_spelling r = spelled_as r.manner r

-- How a reference is spelled in the text of an end: `\1`.
abbrev pub end_spelling : Reference → List ℕ
end_spelling r = 92 ∷ r.digits

-- A form of references: which one stands at the front of a text, how it is spelled, and which cases
-- it can have.
pub record Form : Type 0 where
  pub at : List ℕ → Option Reference
  pub spelling : Reference → List ℕ
  pub has : Manner → Bool

-- The references of templates.
abbrev pub name_form : Form
name_form = record { at = name_reference; spelling = name_spelling; has = λ manner. true }

-- No case is written.
abbrev pub is_as_captured : Manner → Bool
is_as_captured AsCaptured = true
is_as_captured Downcase = false
is_as_captured Upcase = false

-- The references of ends, which have no case.
abbrev pub end_form : Form
end_form = record { at = end_reference; spelling = end_spelling; has = is_as_captured }

-- What a piece is spelled as.
abbrev pub piece_text : Form → Piece → List ℕ
piece_text form (Plain c) = c ∷ []
piece_text form (Refers r) = form.spelling r

-- A reference, or else the character.
abbrev pub piece_or : ℕ → Option Reference → Piece
piece_or c None = Plain c
piece_or c (Some r) = Refers r

-- The pieces of a text, from left to right, behind the first k characters.
unfoldable pub pieces_behind : Form → ℕ → List ℕ → List Piece
pieces_behind form k [] = []
pieces_behind form zero (c ∷ t) =
    let piece = piece_or c (form.at (c ∷ t)) in
    piece ∷ pieces_behind form (length (piece_text form piece) - 1) t
pieces_behind form (suc k) (c ∷ t) = pieces_behind form k t

-- The pieces of a text: at each place a reference where one begins, and else a character.
abbrev pub pieces : Form → List ℕ → List Piece
pieces form text = pieces_behind form 0 text

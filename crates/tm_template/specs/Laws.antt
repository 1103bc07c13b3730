-- Laws about the pieces of a text: how they are found is determined by how they are spelled.
use Rattle.std.specs.Prelude.{◌≡◌, Bool, ◌≢◌, ℕ, true, false, not, List, [], ◌∷◌, ◌++◌, flat_map, filter, All, ⊤}
use Rattle.std.specs.List.{list_all, list_any}
use Rattle.std.specs.Char.{is_ascii_digit}
use Rattle.tm_template.specs.declared.references.Manner.{Manner}
use Rattle.tm_template.specs.declared.references.Manner.TheVariants.{AsCaptured, Downcase, Upcase}
use Rattle.tm_template.specs.References.{Reference, Piece, Plain, Refers, Form, name_form, end_form, piece_text, pieces}
use Rattle.tm_onig_search.specs.Outcomes.{Caps}
use Rattle.tm_template.specs.Ends.{begins_digit, has_reference, resolved}
use Rattle.tm_template.specs.Names.{is_blank, is_filled, words_of, names_of, has_name_reference}

-- One or more digits.
pub record AreDigits (ds : List ℕ) : Type 0 where
  pub all : list_all is_ascii_digit ds ≡ true
  pub some : ds ≢ []

-- A text as it is spelled by its pieces.
abbrev pub spelled : Form → List Piece → List ℕ
spelled form ps = flat_map (piece_text form) ps

-- Digits that nothing closes go on as long as they can.
abbrev pub EndsBefore : Manner → List ℕ → Type 0
EndsBefore AsCaptured rest = begins_digit rest ≡ false
EndsBefore Downcase rest = ⊤
EndsBefore Upcase rest = ⊤

-- It is a reference that stands before this text.
pub record StandsBefore (form : Form) (r : Reference) (rest : List ℕ) : Type 0 where
  pub case : form.has r.manner ≡ true
  pub digits : AreDigits r.digits
  pub ends : EndsBefore r.manner rest

-- No reference is spelled at the front of the text.
abbrev pub BeginsNone : Form → List ℕ → Type 0
BeginsNone form text = (r : Reference) (rest : List ℕ) → AreDigits r.digits → text ≢ form.spelling r ++ rest

-- Each reference is one, and no character is the first of one.
abbrev pub AreRead : Form → List Piece → Type 0
AreRead form [] = ⊤
AreRead form (Plain c ∷ ps) = BeginsNone form (c ∷ spelled form ps) × AreRead form ps
AreRead form (Refers r ∷ ps) = StandsBefore form r (spelled form ps) × AreRead form ps

-- A piece that is a reference.
abbrev pub is_reference : Piece → Bool
is_reference (Plain c) = false
is_reference (Refers r) = true

-- A text refers to a group where one of its pieces does.
abbrev pub IsReferring : List ℕ → Type 0
IsReferring text = has_reference text ≡ list_any is_reference (pieces end_form text)

-- A text that refers to no group stays as it is.
abbrev pub StaysAlone : List ℕ → List ℕ → Caps → Type 0
StaysAlone text line caps = has_reference text ≡ false → resolved text line caps ≡ text

-- A template refers to a group where one of its pieces does.
abbrev pub IsReferringName : List ℕ → Type 0
IsReferringName text = has_name_reference text ≡ list_any is_reference (pieces name_form text)

-- A template that refers to no group gives its own words for every match.
abbrev pub GivesItsWords : List ℕ → List ℕ → Caps → Type 0
GivesItsWords template line caps = has_name_reference template ≡ false → names_of template line caps ≡ words_of template

-- A name: at least one character, and no space.
pub record IsName (name : List ℕ) : Type 0 where
  pub some : is_filled name ≡ true
  pub no_space : list_any is_blank name ≡ false

-- The words are names, and have all characters of the text but the spaces, in order.
pub record AreWords (text : List ℕ) : Type 0 where
  pub names : All IsName (words_of text)
  pub all : flat_map (λ word. word) (words_of text) ≡ filter (λ c. not (is_blank c)) text

-- What the words of any text are: none without characters, a name is one word, and a space parts the
-- words before it from those behind it.
pub record WordsAre : Type 0 where
  pub none : words_of [] ≡ []
  pub one : (name : List ℕ) → IsName name → words_of name ≡ name ∷ []
  pub parted : (before behind : List ℕ) → words_of (before ++ 32 ∷ behind) ≡ words_of before ++ words_of behind

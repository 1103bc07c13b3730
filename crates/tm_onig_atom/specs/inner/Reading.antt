-- A second reading of escapes: their text from left to right.
use Rattle.std.specs.Prelude.{ℕ, ◌+◌, ◌*◌, ◌==◌, ◌&&◌, not, nat_lt, nat_le, Bool, true, false, List, [], ◌∷◌, Option, Some, None, option_map, if◌then◌else◌}
use Rattle.std.specs.Char.{digit_value, is_digit}
use Rattle.tm_onig_class.specs.Members.{is_char}
use Rattle.tm_onig_class.specs.Named.{known}
use Rattle.tm_onig_class.specs.Tree.{Tree}
use Rattle.tm_onig_atom.specs.declared.options.Options.{Options}
use Rattle.tm_onig_atom.specs.declared.meanings.Named.{Named}
use Rattle.tm_onig_atom.specs.declared.meanings.Meant.{Meant}
use Rattle.tm_onig_atom.specs.declared.meanings.Meant.TheVariants.{Character, Members}
use Rattle.tm_onig_atom.specs.Escapes.{begins, set_letter, escaped_char, meant_tree}

-- what follows, where there is a value
infixl 10 ◌>>=◌
abbrev pub ◌>>=◌ : {A B : Type 0} → Option A → (A → Option B) → Option B
None >>= f = None
(Some x) >>= f = f x

-- the text behind one character
abbrev pub rest_of : List ℕ → List ℕ
rest_of [] = []
rest_of (c ∷ t) = t

-- the number that the digits at the front give after this one, as long as they are not too many, how
-- many they are, and the text behind them
unfoldable pub digits_at : ℕ → ℕ → ℕ → ℕ → List ℕ → (ℕ × ℕ) × List ℕ
digits_at base most value count [] = ((value, count), [])
digits_at base most value count (c ∷ t) =
    if nat_lt count most && is_digit c base then digits_at base most (value * base + digit_value c) (count + 1) t else ((value, count), c ∷ t)

-- the character with a number of at least so many digits
abbrev pub numbered : ℕ → ℕ × ℕ → Option ℕ
numbered least n = if nat_le least n.1 && is_char n.0 then Some n.0 else None

-- a character, with the text behind it
abbrev pub with_text : List ℕ → Option ℕ → Option (ℕ × List ℕ)
with_text t None = None
with_text t (Some c) = Some (c, t)

-- the character that digits give, and the text behind them
abbrev pub by_number : ℕ → (ℕ × ℕ) × List ℕ → Option (ℕ × List ℕ)
by_number least x = with_text x.1 (numbered least x.0)

-- the same, where a brace ends the digits
abbrev pub closed_number : (ℕ × ℕ) × List ℕ → Option (ℕ × List ℕ)
closed_number x = if begins 125 x.1 then by_number 1 (x.0, rest_of x.1) else None

-- a number behind `x{`
unfoldable pub braced_at : List ℕ → Option (ℕ × List ℕ)
braced_at t = closed_number (digits_at 16 6 0 0 t)

-- a number behind `x`
unfoldable pub hex_at : List ℕ → Option (ℕ × List ℕ)
hex_at t = if begins 123 t then braced_at (rest_of t) else by_number 1 (digits_at 16 2 0 0 t)

-- the text before the next such character, and the text behind it
unfoldable pub before : ℕ → List ℕ → Option (List ℕ × List ℕ)
before end [] = None
before end (c ∷ t) = if c == end then Some ([], t) else (before end t >>= λ x. Some (c ∷ x.0, x.1))

-- a set by its name, with the text behind it
abbrev pub named_as : Bool → List ℕ × List ℕ → Option (Meant × List ℕ)
named_as negated x = known x.0 >>= λ set. Some (Members (record { known = set; negated = negated }), x.1)

-- a name up to its brace
abbrev pub name_at : Bool → List ℕ → Option (Meant × List ℕ)
name_at negated t = before 125 t >>= named_as negated

-- a name behind its brace
abbrev pub caret_at : Bool → List ℕ → Option (Meant × List ℕ)
caret_at negated t = if begins 94 t then name_at (not negated) (rest_of t) else name_at negated t

-- a name behind `p` or `P`
unfoldable pub property_at : Bool → List ℕ → Option (Meant × List ℕ)
property_at negated t = if begins 123 t then caret_at negated (rest_of t) else None

-- a character that was read
abbrev pub as_char : Option (ℕ × List ℕ) → Option (Meant × List ℕ)
as_char found = option_map (λ x. (Character x.0, x.1)) found

-- what a letter or sign stands for
abbrev pub sign_or : Option Named → Option ℕ → Option Meant
sign_or (Some named) other = Some (Members named)
sign_or None (Some c) = Some (Character c)
sign_or None None = None

-- the same by its character
abbrev pub sign_meant : ℕ → Option Meant
sign_meant c = sign_or (set_letter c) (escaped_char c)

-- what stands behind a backslash
unfoldable pub meant_at : List ℕ → Option (Meant × List ℕ)
meant_at [] = None
meant_at (c ∷ t) =
    if c == 120 then as_char (hex_at t)
    else if c == 117 then as_char (by_number 4 (digits_at 16 4 0 0 t))
    else if c == 48 then as_char (by_number 0 (digits_at 8 2 0 0 t))
    else if c == 112 then property_at false t
    else if c == 80 then property_at true t
    else option_map (λ m. (m, t)) (sign_meant c)

-- the same as a tree
abbrev pub escape_at : Options → List ℕ → Option (Tree × List ℕ)
escape_at o t = option_map (λ x. (meant_tree o x.0, x.1)) (meant_at t)

-- The tokens of a selector's text.
use Rattle.std.specs.Prelude.{ℕ, zero, suc, ◌+◌, ◌==◌, ◌≤◌, ◌&&◌, ◌||◌, ⊤, List, [], ◌∷◌, length, take, drop, Bool, false, if◌then◌else◌, Option, Some, None, nat_eq}
use Rattle.std.specs.Char.{is_ascii_alphanumeric}
use Rattle.tm_selector.specs.declared.tokens.Sign.{Sign}
use Rattle.tm_selector.specs.declared.tokens.Sign.TheVariants.{Left, Right, Minus, Open, Close, Bar, Comma}
use Rattle.tm_selector.specs.declared.tokens.Token.{Token}
use Rattle.tm_selector.specs.declared.tokens.Token.TheVariants.{Word, Mark}

-- an ASCII letter or digit, `_`, `.` or `:`
abbrev pub begins_name : ℕ → Bool
begins_name c = is_ascii_alphanumeric c || (c == 95) || (c == 46) || (c == 58)

-- one of these, or `-`
abbrev pub goes_on : ℕ → Bool
goes_on c = begins_name c || (c == 45)

-- how many spaces the text begins with
abbrev pub spaces : List ℕ → ℕ
spaces [] = 0
spaces (c ∷ text) = if c == 32 then 1 + spaces text else 0

abbrev pub begins_colon : List ℕ → Bool
begins_colon [] = false
begins_colon (c ∷ text) = c == 58

-- the sign at the front of the text
abbrev pub sign_at : List ℕ → Option Sign
sign_at [] = None
sign_at (c ∷ text) =
    if (c == 76) && begins_colon text then Some Left
    else (if (c == 82) && begins_colon text then Some Right
    else (if c == 45 then Some Minus
    else (if c == 40 then Some Open
    else (if c == 41 then Some Close
    else (if c == 124 then Some Bar
    else (if c == 44 then Some Comma
    else None))))))

abbrev pub sign_width : Sign → ℕ
sign_width Left = 2
sign_width Right = 2
sign_width sign = 1

-- how many characters with which a name may go on the text begins with
abbrev pub run_width : List ℕ → ℕ
run_width [] = 0
run_width (c ∷ text) = if goes_on c then 1 + run_width text else 0

-- how many characters the name at the front of the text has: as many as can be
abbrev pub name_width : List ℕ → ℕ
name_width [] = 0
name_width (c ∷ text) = if begins_name c then run_width (c ∷ text) else 0

abbrev pub name_at : List ℕ → Option (Token × ℕ)
name_at text = if nat_eq (name_width text) 0 then None else Some (Word (take (name_width text) text), name_width text)

abbrev pub sign_or_name : Option Sign → List ℕ → Option (Token × ℕ)
sign_or_name (Some sign) text = Some (Mark sign, sign_width sign)
sign_or_name None text = name_at text

-- the token at the front of a text, and how many characters it has: a sign, or else a name
abbrev pub token_at : List ℕ → Option (Token × ℕ)
token_at text = sign_or_name (sign_at text) text

-- the token has no more characters than the text
abbrev pub IsWithin : List ℕ → Option (Token × ℕ) → Type 0
IsWithin text None = ⊤
IsWithin text (Some found) = found.1 ≤ length text

abbrev pub tokens_by : Option (Token × ℕ) → (Token × ℕ → List Token) → List Token
tokens_by None more = []
tokens_by (Some found) more = more found

-- the first n tokens of a text, up to the first character that begins none; spaces stand between tokens
abbrev pub tokens_up_to : ℕ → List ℕ → List Token
tokens_up_to zero text = []
tokens_up_to (suc n) text = tokens_by (token_at (drop (spaces text) text)) (λ found. found.0 ∷ tokens_up_to n (drop found.1 (drop (spaces text) text)))

-- the tokens of a text: no more than it has characters
abbrev pub tokens_of : List ℕ → List Token
tokens_of text = tokens_up_to (length text) text

-- Which tokens of a text a selector keeps.
use Rattle.std.specs.Prelude.{ℕ, ◌+◌, ◌-◌, ◌++◌, List, [], ◌∷◌, take, Bool, true, false, not, ◌&&◌, if◌then◌else◌, replicate, nat_eq}
use Rattle.tm_selector.specs.declared.tokens.Sign.TheVariants.{Left, Right, Open, Close, Bar, Comma}
use Rattle.tm_selector.specs.declared.tokens.Token.{Token}
use Rattle.tm_selector.specs.declared.tokens.Token.TheVariants.{Word, Mark}
use Rattle.tm_selector.specs.declared.syntax.Behind.{Behind}
use Rattle.tm_selector.specs.declared.syntax.Behind.TheVariants.{Start, Operand, Operator}
use Rattle.tm_selector.specs.Tokens.{tokens_of}

-- the token is the end of an operand
abbrev pub ends_operand : Token → Bool
ends_operand (Word name) = true
ends_operand (Mark Close) = true
ends_operand (Mark sign) = false

-- what is behind the token, where this many groups were open before it
abbrev pub behind_of : ℕ → Token → Behind
behind_of groups (Word name) = Operand
behind_of groups (Mark Close) = Operand
behind_of groups (Mark Comma) = if nat_eq groups 0 then Start else Operator
behind_of groups (Mark sign) = Operator

-- how many groups are open behind the token
abbrev pub open_behind : ℕ → Token → ℕ
open_behind groups (Mark Open) = groups + 1
open_behind groups (Mark Close) = groups - 1
open_behind groups token = groups

abbrev pub is_start : Behind → Bool
is_start Start = true
is_start behind = false

abbrev pub is_operand : Behind → Bool
is_operand Operand = true
is_operand behind = false

-- the token may stand here: `L:` and `R:` at the start of an alternative, a comma behind an operand, a bar and the end
-- of a group behind an operand inside a group, all others anywhere
abbrev pub fits : Behind → ℕ → Token → Bool
fits behind groups (Mark Left) = is_start behind
fits behind groups (Mark Right) = is_start behind
fits behind groups (Mark Comma) = is_operand behind
fits behind groups (Mark Bar) = is_operand behind && not (nat_eq groups 0)
fits behind groups (Mark Close) = is_operand behind && not (nat_eq groups 0)
fits behind groups token = true

-- how many of the tokens fit, up to the first that does not
abbrev pub fitting : Behind → ℕ → List Token → ℕ
fitting behind groups [] = 0
fitting behind groups (token ∷ tokens) =
    if fits behind groups token then 1 + fitting (behind_of groups token) (open_behind groups token) tokens else 0

-- the token, but not as the last one where it would wait for an operand
abbrev pub unless_last : Token → List Token → List Token
unless_last token [] = if ends_operand token then token ∷ [] else []
unless_last token (next ∷ tokens) = token ∷ next ∷ tokens

-- the tokens up to the last end of an operand: signs that wait for an operand are dropped
abbrev pub trimmed : List Token → List Token
trimmed [] = []
trimmed (token ∷ tokens) = unless_last token (trimmed tokens)

-- how many groups are open behind the tokens
abbrev pub groups_behind : ℕ → List Token → ℕ
groups_behind groups [] = groups
groups_behind groups (token ∷ tokens) = groups_behind (open_behind groups token) tokens

-- the tokens with their open groups closed
abbrev pub closed : List Token → List Token
closed tokens = tokens ++ replicate (groups_behind 0 tokens) (Mark Close)

-- the tokens that fit
abbrev pub kept : List Token → List Token
kept tokens = take (fitting Start 0 tokens) tokens

-- the tokens of the selector that a text is read as: cut at the first that does not fit, without signs that then wait for
-- an operand, and with its open groups closed
abbrev pub selector_tokens : List ℕ → List Token
selector_tokens text = closed (trimmed (kept (tokens_of text)))

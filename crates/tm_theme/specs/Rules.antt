-- The languages that scopes begin, and where brackets are matched.
use Rattle.std.specs.Prelude.{ℕ, Bool, true, not, ◌&&◌, List, [], ◌∷◌, length, if◌then◌else◌, Option, Some, None, is_some, option_map, nat_lt}
use Rattle.tm_selector.specs.Names.{covers}
use Rattle.tm_selector.specs.Selector.{priority_of}
use Rattle.tm_selector.specs.declared.tokens.Token.{Token}

abbrev pub preferred : List ℕ × ℕ → Option (List ℕ × ℕ) → List ℕ × ℕ
preferred language None = language
preferred language (Some behind) = if nat_lt (length language.0) (length behind.0) then behind else language

-- the language with the longest name that matches the scope, of equal names the first
abbrev pub language_entry : List (List ℕ × ℕ) → List ℕ → Option (List ℕ × ℕ)
language_entry [] scope = None
language_entry (language ∷ more) scope =
    if covers language.0 scope then Some (preferred language (language_entry more scope)) else language_entry more scope

abbrev pub language_of : List (List ℕ × ℕ) → List ℕ → Option ℕ
language_of languages scope = option_map (λ language. language.1) (language_entry languages scope)

-- no selector matches the path
abbrev pub is_balanced : List (List Token) → List (List ℕ) → Bool
is_balanced [] path = true
is_balanced (selector ∷ more) path = not (is_some (priority_of selector path)) && is_balanced more path

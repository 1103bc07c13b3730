-- The language of selectors by its grammar (TextMate 1.x manual, Scope Selectors; the signs of vscode-textmate):
--
--     selector      alternatives, separated by commas
--     alternative   `L:` or `R:` or neither, and a conjunction
--     conjunction   one or more operands
--     operand       a name; `-` and an operand; or a group in parentheses
--     group         conjunctions, separated by bars or commas
use Rattle.std.specs.Prelude.{ℕ, ◌≤◌, ◌<◌, ◌++◌, List, [], ◌∷◌, length, take}
use Rattle.tm_selector.specs.declared.tokens.Sign.TheVariants.{Left, Right, Minus, Open, Close, Bar, Comma}
use Rattle.tm_selector.specs.declared.tokens.Token.{Token}
use Rattle.tm_selector.specs.declared.tokens.Token.TheVariants.{Word, Mark}

mutual
  pub data IsOperand : List Token → Type 0 where
    name : {n : List ℕ} → IsOperand (Word n ∷ [])
    minus : {xs : List Token} → IsOperand xs → IsOperand (Mark Minus ∷ xs)
    group : {xs : List Token} → IsGroup xs → IsOperand (Mark Open ∷ (xs ++ Mark Close ∷ []))

  pub data IsConjunction : List Token → Type 0 where
    one : {xs : List Token} → IsOperand xs → IsConjunction xs
    more : {xs ys : List Token} → IsOperand xs → IsConjunction ys → IsConjunction (xs ++ ys)

  pub data IsGroup : List Token → Type 0 where
    choice : {xs : List Token} → IsConjunction xs → IsGroup xs
    barred : {xs ys : List Token} → IsConjunction xs → IsGroup ys → IsGroup (xs ++ Mark Bar ∷ ys)
    listed : {xs ys : List Token} → IsConjunction xs → IsGroup ys → IsGroup (xs ++ Mark Comma ∷ ys)

pub data IsAlternative : List Token → Type 0 where
  plain : {xs : List Token} → IsConjunction xs → IsAlternative xs
  before : {xs : List Token} → IsConjunction xs → IsAlternative (Mark Left ∷ xs)
  after : {xs : List Token} → IsConjunction xs → IsAlternative (Mark Right ∷ xs)

pub data IsSelector : List Token → Type 0 where
  last : {xs : List Token} → IsAlternative xs → IsSelector xs
  next : {xs ys : List Token} → IsAlternative xs → IsSelector ys → IsSelector (xs ++ Mark Comma ∷ ys)

-- some selector begins with the tokens
abbrev pub CanBegin : List Token → Type 0
CanBegin tokens = (rest : List Token) × IsSelector (tokens ++ rest)

-- the first n of the tokens are the longest beginning with which some selector begins
pub record IsLongest (tokens : List Token) (n : ℕ) : Type 0 where
  pub within : n ≤ length tokens
  pub begins : CanBegin (take n tokens)
  pub longest : (m : ℕ) → n < m → m ≤ length tokens → CanBegin (take m tokens) → ⊥

-- What is kept of tokens, one token more.
use Rattle.std.proofs.Common.{◌≡◌, ℕ, suc, ◌-◌, ◌<◌, true, false, List, [], ◌∷◌, ◌++◌, length, take, get_or, refl, ap, sym, ◌∙◌, arith}
use Rattle.std.proofs.Math.Seq.{take-suc, take-length}
use Rattle.tm_selector.specs.declared.tokens.Token.{Token}
use Rattle.tm_selector.specs.Syntax.{ends_operand, unless_last, trimmed}

pub trimmed-end : (ts : List Token) (t : Token) → ends_operand t ≡ true → trimmed (ts ++ t ∷ []) ≡ ts ++ t ∷ []
trimmed-end [] t e = rw e refl
trimmed-end (u ∷ ts) t e = rw (trimmed-end ts t e) (first ts)
  where
    first : (ts : List Token) → unless_last u (ts ++ t ∷ []) ≡ u ∷ (ts ++ t ∷ [])
    first [] = refl
    first (v ∷ vs) = refl

pub trimmed-waiting : (ts : List Token) (t : Token) → ends_operand t ≡ false → trimmed (ts ++ t ∷ []) ≡ trimmed ts
trimmed-waiting [] t e = rw e refl
trimmed-waiting (u ∷ ts) t e = ap (unless_last u) (trimmed-waiting ts t e)

-- the tokens with their last apart
last-apart : (ts : List Token) (t : Token) → 0 < length ts → ((d : Token) → t ≡ get_or ts (length ts - 1) d) → ts ≡ take (length ts - 1) ts ++ t ∷ []
last-apart ts t some is =
    let n : suc (length ts - 1) ≡ length ts = omega arith in
    let lt : length ts - 1 < length ts = omega arith in
    sym (take-length ts) ∙ ap (λ k. take k ts) (sym n) ∙ take-suc ts (length ts - 1) t lt ∙ ap (λ x. take (length ts - 1) ts ++ x ∷ []) (sym (is t))

pub as_kept : (ts lent : List Token) (t : Token) → lent ≡ ts → 0 < length lent → ((d : Token) → t ≡ get_or lent (length lent - 1) d) → ends_operand t ≡ true → ts ≡ trimmed ts
as_kept ts lent t same some is e =
    sym (sym (ap trimmed same) ∙ ap trimmed (last-apart lent t some is) ∙ trimmed-end (take (length lent - 1) lent) t e ∙ sym (last-apart lent t some is) ∙ same)

pub as_popped : (ts lent rest : List Token) (t : Token) (n : ℕ) → lent ≡ ts → n ≡ length lent → 0 < length lent → ((d : Token) → t ≡ get_or lent (length lent - 1) d) → ends_operand t ≡ false →
    rest ≡ take (n - 1) ts → trimmed rest ≡ trimmed ts
as_popped ts lent rest t n same len some is e popped =
    ap trimmed popped ∙ ap (λ k. trimmed (take (k - 1) ts)) len ∙ ap (λ xs. trimmed (take (length lent - 1) xs)) (sym same) ∙ sym (trimmed-waiting (take (length lent - 1) lent) t e) ∙ sym (ap trimmed (last-apart lent t some is)) ∙ ap trimmed same

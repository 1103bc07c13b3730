-- The tokens of a text, one token more.
use Rattle.std.proofs.Common.{◌≡◌, ℕ, suc, ◌+◌, ◌-◌, ◌<◌, List, [], ◌∷◌, ◌++◌, drop, Option, Some, None, refl, ap, sym, ◌∙◌, arith, append_assoc}
use Rattle.std.proofs.lemmas.List.{drop-drop}
use Rattle.tm_selector.specs.declared.tokens.Token.{Token}
use Rattle.tm_selector.specs.Tokens.{spaces, token_at, tokens_by, tokens_up_to}

-- the tokens of a text by the token behind its spaces
by-token : (n : ℕ) (text front : List ℕ) (found : Option (Token × ℕ)) → drop (spaces text) text ≡ front → token_at front ≡ found →
    tokens_up_to (suc n) text ≡ tokens_by found (λ f. f.0 ∷ tokens_up_to n (drop f.1 front))
by-token n text front found e is =
    ap (λ t. tokens_by (token_at t) (λ f. f.0 ∷ tokens_up_to n (drop f.1 t))) e ∙ ap (λ x. tokens_by x (λ f. f.0 ∷ tokens_up_to n (drop f.1 front))) is

pub no-token : (done all : List Token) (end counter at s : ℕ) (text : List ℕ) → counter < end → s ≡ spaces (drop at text) → token_at (drop (at + s) text) ≡ None →
    done ++ tokens_up_to (end - counter) (drop at text) ≡ all → done ≡ all
no-token done all end counter at s text lt is none known =
    let n : end - counter ≡ suc (end - (counter + 1)) = omega arith in
    let front : drop (spaces (drop at text)) (drop at text) ≡ drop (at + s) text = ap (λ k. drop k (drop at text)) (sym is) ∙ drop-drop s at text in
    let empty : tokens_up_to (end - counter) (drop at text) ≡ [] = ap (λ k. tokens_up_to k (drop at text)) n ∙ by-token (end - (counter + 1)) (drop at text) (drop (at + s) text) None front none in
    sym (simp append-nil) ∙ ap (λ ts. done ++ ts) (sym empty) ∙ known
  where
    append-nil : (xs : List Token) → xs ++ [] ≡ xs
    append-nil [] = refl
    append-nil (x ∷ xs) = ap (λ ys. x ∷ ys) (append-nil xs)

pub one-token : (done all : List Token) (end counter at s w : ℕ) (text : List ℕ) (t : Token) → counter < end → s ≡ spaces (drop at text) → token_at (drop (at + s) text) ≡ Some (t, w) →
    done ++ tokens_up_to (end - counter) (drop at text) ≡ all → (done ++ t ∷ []) ++ tokens_up_to (end - (counter + 1)) (drop (at + s + w) text) ≡ all
one-token done all end counter at s w text t lt is some known =
    let n : end - counter ≡ suc (end - (counter + 1)) = omega arith in
    let front : drop (spaces (drop at text)) (drop at text) ≡ drop (at + s) text = ap (λ k. drop k (drop at text)) (sym is) ∙ drop-drop s at text in
    let more : tokens_up_to (end - counter) (drop at text) ≡ t ∷ tokens_up_to (end - (counter + 1)) (drop w (drop (at + s) text)) =
    ap (λ k. tokens_up_to k (drop at text)) n ∙ by-token (end - (counter + 1)) (drop at text) (drop (at + s) text) (Some (t, w)) front some in
    let behind : drop w (drop (at + s) text) ≡ drop (at + s + w) text = drop-drop w (at + s) text in
    append_assoc done (t ∷ []) (tokens_up_to (end - (counter + 1)) (drop (at + s + w) text)) ∙ ap (λ x. done ++ t ∷ tokens_up_to (end - (counter + 1)) x) (sym behind) ∙ ap (λ ts. done ++ ts) (sym more) ∙ known

-- What holds of each of the things in a row.
use Rattle.std.proofs.Common.{ℕ, List, [], ◌∷◌, ◌++◌, Option}
use Rattle.tm_onig_atom.specs.declared.options.Options.{Options}
use Rattle.tm_onig_parse.specs.Names.{Names}
use Rattle.tm_onig_parse.specs.Things.{Tok, IsTok, Toks, spelling, AreToks}

abbrev pub Each : (Tok → Type 0) → Toks → Type 0
Each P [] = Unit {0}
Each P (k ∷ ks) = P k.0 × Each P ks

-- what follows from being a thing
pub each_tok : (P : Tok → Type 0) (names : Option Names) → ((k : Tok) (o : Options) (rest : List ℕ) → IsTok names k o rest → P k) → (ks : Toks) → AreToks names ks → Each P ks
each_tok P names follows [] are = tt
each_tok P names follows (k ∷ ks) are = (follows k.0 k.1 (spelling ks) are.0, each_tok P names follows ks are.1)

-- of each of two rows
pub each_split : (P : Tok → Type 0) (ks ls : Toks) → Each P (ks ++ ls) → Each P ks × Each P ls
each_split P [] ls are = (tt, are)
each_split P (k ∷ ks) ls are = let rest = each_split P ks ls are.1 in ((are.0, rest.0), rest.1)

-- One thing that was read.
use Rattle.std.proofs.Common.{◌≡◌, ℕ, List, ◌++◌, Option, Some, refl, ◌∙◌, subst}
use Rattle.tm_onig_atom.specs.declared.options.Options.{Options}
use Rattle.tm_onig_parse.specs.Names.{Names}
use Rattle.tm_onig_parse.specs.Things.{inside, opener_of, name_of, least_of, greatest_of, manner_of, Tok, Single, Opens, Setting, Closing, Bar, Times, Skipped, text_of, IsTok}
use Rattle.tm_onig_parse.specs.Meaning.{atom_built}
use Rattle.tm_onig_parse.specs.inner.Reading.{Sym, Means, Open, Switches, Close, Or, Repeats, Skips, Found}

-- what is left of a thing once it is read
abbrev pub sym_of : Tok → Options → Sym
sym_of (Single a) o = Means (atom_built a)
sym_of (Opens k) o = Open (opener_of k) (name_of k) (inside k o)
sym_of (Setting letters after) o = Switches after
sym_of Closing o = Close
sym_of Bar o = Or
sym_of (Times amount mark) o = Repeats (least_of amount) (greatest_of amount) (manner_of amount mark)
sym_of (Skipped s) o = Skips

-- What was read is spelled so.
pub record Reads (names : Option Names) (o : Options) (t : List ℕ) (y : Sym) (rest : List ℕ) : Type 0 where
  pub tok : Tok
  pub whole : t ≡ text_of tok ++ rest
  pub is : IsTok names tok o rest
  pub means : y ≡ sym_of tok o

-- one pair in both
pub same_pair : (p q : Sym × List ℕ) → Some p ≡ Some q → p ≡ q
same_pair p q e = cc

-- the thing that was read, where both pairs are one
pub reads_by : (names : Option Names) (k : Tok) (o : Options) (r : List ℕ) (y : Sym) (rest : List ℕ) → IsTok names k o r → ◌≡◌ {A = Found} (Some (sym_of k o, r)) (Some (y, rest)) →
    Reads names o (text_of k ++ r) y rest
reads_by names k o r y rest is e =
    let p = same_pair (sym_of k o, r) (y, rest) e in
    subst (λ (p : Sym × List ℕ). Reads names o (text_of k ++ r) p.0 p.1) p (record { tok = k; whole = refl; is = is; means = refl })

-- the same thing of an equal text
pub reads_as : (names : Option Names) (o : Options) (t u : List ℕ) (y : Sym) (rest : List ℕ) → t ≡ u → Reads names o u y rest → Reads names o t y rest
reads_as names o t u y rest e r = record { tok = r.tok; whole = e ∙ r.whole; is = r.is; means = r.means }

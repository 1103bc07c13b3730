-- One turn of the loop over the text.
use Rattle.std.proofs.Common.{◌≡◌, ℕ, zero, suc, ◌<◌, ◌≤◌, List, [], ◌∷◌, length, Option, Some, None, refl, sym, ◌∙◌, arith}
use Rattle.tm_onig_class.specs.Tree.{Tree}
use Rattle.tm_onig_atom.specs.inner.Reading.{◌>>=◌}
use Rattle.tm_onig_parse.specs.Names.{Names}
use Rattle.tm_onig_parse.specs.inner.Reading.{Sym, State, token_at, step, finish, read, onward, Outline, outline_step, names_read, names_onward}
use Rattle.tm_onig_parse.specs.inner.Views.{Fails}
use Rattle.tm_onig_parse.specs.declared.ParseFault.{ParseFault}
use Rattle.tm_onig_parse.specs.declared.ParseFault.TheVariants.{Unreadable, OutOfMemory}
use Rattle.tm_onig_parse.proofs.Lexing.{token_shorter}
use Rattle.tm_onig_parse.proofs.Laws.{read_one, bind_same}
use Rattle.tm_onig_parse.proofs.GroupsRead.{names_one}

-- With more steps at hand than characters are left the answer is the same.
read_enough : (names : Option Names) (n m : ℕ) (s : State) (t : List ℕ) → length t ≤ n → length t ≤ m → read names n s t ≡ read names m s t
unfolding read
read_enough names zero zero s [] a b = refl
read_enough names zero (suc m) s [] a b = refl
read_enough names (suc n) zero s [] a b = refl
read_enough names (suc n) (suc m) s [] a b = refl
read_enough names zero m s (c ∷ t) a b = absurd (omega arith)
read_enough names (suc n) zero s (c ∷ t) a b = absurd (omega arith)
read_enough names (suc n) (suc m) s (c ∷ t) a b =
    bind_same (token_at names s.top.options (c ∷ t)) _ _ (λ y is. bind_same (step y.0 s) _ _ (λ next went.
    let shorter = token_shorter names s.top.options (c ∷ t) y.0 y.1 is in
    read_enough names n m next y.1 (omega arith) (omega arith)))

-- one turn
onward_one : (names : Option Names) (s : State) (t : List ℕ) → 0 < length t → onward names s t ≡ (token_at names s.top.options t >>= λ y. step y.0 s >>= λ next. onward names next y.1)
onward_one names s [] some = absurd (omega arith)
onward_one names s (c ∷ t) some =
    read_one names (length t) s (c ∷ t) some
    ∙ bind_same (token_at names s.top.options (c ∷ t)) _ _ (λ y is. bind_same (step y.0 s) _ _ (λ next went.
    let shorter = token_shorter names s.top.options (c ∷ t) y.0 y.1 is in
    read_enough names (length t) (length y.1) next y.1 (omega arith) (omega arith)))

-- where nothing is read there is no tree
pub token_fails : (names : Option Names) (fault : ParseFault) (s : State) (t : List ℕ) (all : Option Tree) → 0 < length t → onward names s t ≡ all → Fails fault (token_at names s.top.options t) → Fails fault all
token_fails names Unreadable s t all some is e = sym is ∙ onward_one names s t some ∙ (rw e refl)
token_fails names OutOfMemory s t all some is e = tt

-- where a step fails there is no tree
pub step_fails : (names : Option Names) (fault : ParseFault) (s : State) (t : List ℕ) (y : Sym) (rest : List ℕ) (all : Option Tree) → 0 < length t → onward names s t ≡ all → token_at names s.top.options t ≡ Some (y, rest) → Fails fault (step y s) → Fails fault all
step_fails names Unreadable s t y rest all some is token e = sym is ∙ onward_one names s t some ∙ (rw (token, e) refl)
step_fails names OutOfMemory s t y rest all some is token e = tt

-- the turn with its thing
pub step_goes : (names : Option Names) (s next : State) (t : List ℕ) (y : Sym) (rest : List ℕ) (all : Option Tree) → 0 < length t → onward names s t ≡ all → token_at names s.top.options t ≡ Some (y, rest) → step y s ≡ Some next → onward names next rest ≡ all
step_goes names s next t y rest all some is token e = sym (onward_one names s t some ∙ (rw (token, e) refl)) ∙ is

-- nothing is left
pub at_end : (names : Option Names) (s : State) (t : List ℕ) → length t ≡ 0 → onward names s t ≡ finish s
unfolding read
at_end names s [] e = refl
at_end names s (c ∷ t) e = absurd (omega arith)

-- With more steps at hand than characters are left the groups are the same.
names_enough : (n m : ℕ) (s : Outline) (t : List ℕ) → length t ≤ n → length t ≤ m → names_read n s t ≡ names_read m s t
unfolding names_read
names_enough n m s [] a b = refl
names_enough zero m s (c ∷ t) a b = absurd (omega arith)
names_enough (suc n) zero s (c ∷ t) a b = absurd (omega arith)
names_enough (suc n) (suc m) s (c ∷ t) a b =
    bind_same (token_at None s.top (c ∷ t)) _ _ (λ y is. bind_same (outline_step y.0 s) _ _ (λ next went.
    let shorter = token_shorter None s.top (c ∷ t) y.0 y.1 is in
    names_enough n m next y.1 (omega arith) (omega arith)))

-- one turn of the first reading
names_onward_one : (s : Outline) (t : List ℕ) → 0 < length t → names_onward s t ≡ (token_at None s.top t >>= λ y. outline_step y.0 s >>= λ next. names_onward next y.1)
names_onward_one s [] some = absurd (omega arith)
names_onward_one s (c ∷ t) some =
    names_one (length t) s (c ∷ t) some
    ∙ bind_same (token_at None s.top (c ∷ t)) _ _ (λ y is. bind_same (outline_step y.0 s) _ _ (λ next went.
    let shorter = token_shorter None s.top (c ∷ t) y.0 y.1 is in
    names_enough (length t) (length y.1) next y.1 (omega arith) (omega arith)))

-- where nothing is read there are no groups
pub names_token_fails : (fault : ParseFault) (s : Outline) (t : List ℕ) (all : Option Names) → 0 < length t → names_onward s t ≡ all → Fails fault (token_at None s.top t) → Fails fault all
names_token_fails Unreadable s t all some is e = sym is ∙ names_onward_one s t some ∙ (rw e refl)
names_token_fails OutOfMemory s t all some is e = tt

-- where a step fails there are none
pub names_step_fails : (fault : ParseFault) (s : Outline) (t : List ℕ) (y : Sym) (rest : List ℕ) (all : Option Names) → 0 < length t → names_onward s t ≡ all → token_at None s.top t ≡ Some (y, rest) →
    Fails fault (outline_step y s) → Fails fault all
names_step_fails Unreadable s t y rest all some is token e = sym is ∙ names_onward_one s t some ∙ (rw (token, e) refl)
names_step_fails OutOfMemory s t y rest all some is token e = tt

-- the turn with its thing
pub names_step_goes : (s next : Outline) (t : List ℕ) (y : Sym) (rest : List ℕ) (all : Option Names) → 0 < length t → names_onward s t ≡ all → token_at None s.top t ≡ Some (y, rest) →
    outline_step y s ≡ Some next → names_onward next rest ≡ all
names_step_goes s next t y rest all some is token e = sym (names_onward_one s t some ∙ (rw (token, e) refl)) ∙ is

-- nothing is left of the first reading
pub names_at_end : (s : Outline) (t : List ℕ) → length t ≡ 0 → names_onward s t ≡ Some s.names
unfolding names_read
names_at_end s [] e = refl
names_at_end s (c ∷ t) e = absurd (omega arith)

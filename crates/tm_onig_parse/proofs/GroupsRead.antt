-- The groups of what is written are read first.
use Rattle.std.proofs.Common.{◌≡◌, ℕ, zero, suc, ◌+◌, ◌<◌, ◌≤◌, Bool, true, false, List, [], ◌∷◌, ◌++◌, length, Option, Some, None, option_map, refl, sym, ap, ap₂, ◌∙◌, arith, length-append, append_assoc, append-nil}
use Rattle.std.specs.Prelude.{if◌then◌else◌}
use Rattle.std.proofs.lemmas.Option.{cond_some}
use Rattle.tm_onig_atom.specs.declared.options.Options.{Options}
use Rattle.tm_onig_parse.specs.declared.groups.Opener.TheVariants.{Sets}
use Rattle.tm_onig_parse.specs.Names.{Names}
use Rattle.tm_onig_parse.specs.Things.{Plain, Escaped, Placed, Bracketed, Refers, back_tree, Opening, opener_of, name_of, inside, begun, count, Tok, Toks, Single, Opens, Setting, Closing, Bar, Times, Skipped, text_of, IsTok, spelling, AreToks, names_begun, names_among}
use Rattle.tm_onig_parse.specs.Meaning.{Built, enclosed}
use Rattle.tm_onig_atom.specs.inner.Reading.{◌>>=◌}
use Rattle.tm_onig_parse.specs.inner.Reading.{Level, State, added, level_built, is_set, settled, close_in, within, entered, step, token_at, Outline, outline_step, outline_close, names_read}
use Rattle.tm_onig_atom.proofs.Texts.{bind_ok}
use Rattle.tm_onig_parse.proofs.OneRead.{sym_of}
use Rattle.tm_onig_parse.proofs.Lexing.{token_again, text_length}
use Rattle.tm_onig_parse.proofs.Structure.{Runs, opening_set}
use Rattle.tm_onig_parse.proofs.Back.{same_state, within_ok}

-- The options of the groups around, to which a `)` goes back.
abbrev restores : List Level → Level → List Options
restores [] top = []
restores (l ∷ outer) top = if is_set top.opener then restores outer l else l.options ∷ restores outer l

-- what the first reading knows of a state, with these groups
abbrev outline : State → Names → Outline
outline s names = record { outer = restores s.outer s.top; top = s.top.options; names = names }

-- only the kind of the top counts
restores_by : (outer : List Level) (t u : Level) → t.opener ≡ u.opener → restores outer t ≡ restores outer u
restores_by [] t u e = refl
restores_by (l ∷ outer) t u e = rw e refl

-- one pair in both
same_levels : (x y : List Level × Level) → Some x ≡ Some y → x ≡ y
same_levels x y e = cc

-- a list and its parts
same_outer : (l m : Level) (outer to : List Level) (t u : Level) → ◌≡◌ {A = List Level × Level} (l ∷ outer, t) (m ∷ to, u) → l.options ∷ restores outer l ≡ m.options ∷ restores to m
same_outer l m outer to t u e = ap (λ (p : List Level × Level). heads p.0) e
  where
    heads : List Level → List Options
    heads [] = []
    heads (l ∷ outer) = l.options ∷ restores outer l

-- what options made goes back to the same
settled_restores : (outer : List Level) (top l : Level) (to : List Level) (u : Level) → settled outer top ≡ Some (l ∷ to, u) → restores outer top ≡ l.options ∷ restores to l
unfolding settled
settled_restores [] top l to u e = let none : [] ≡ l ∷ to = ap (λ (p : List Level × Level). p.0) (same_levels _ _ e) in absurd cc
settled_restores (m ∷ outer) top l to u e = by_test (λ b. settled_restores outer (added m b) l to u) (is_set top.opener) e
  where
    by_test : ((b : Built) → settled outer (added m b) ≡ Some (l ∷ to, u) → restores outer (added m b) ≡ l.options ∷ restores to l) → (is : Bool) →
        (if is then (within (enclosed top.opener top.number (level_built top)) >>= λ b. settled outer (added m b)) else Some (m ∷ outer, top)) ≡ Some (l ∷ to, u) →
        (if is then restores outer m else m.options ∷ restores outer m) ≡ l.options ∷ restores to l
    by_test more true e =
        let b = enclosed top.opener top.number (level_built top) in
        let f = within_ok b (λ b. settled outer (added m b)) (l ∷ to, u) e in
        restores_by outer m (added m b) refl ∙ more b f.1
    by_test more false e = same_outer m l outer to top u (same_levels _ _ e)

-- behind a `)`
outline_closes : (outer : List Level) (top : Level) (opened : ℕ) (x : List Level × Level) (next : State) (names : Names) → settled outer top ≡ Some x → close_in opened x ≡ Some next →
    outline_close (restores outer top) names ≡ Some (outline next names)
outline_closes outer top opened ([], u) next names e f = absurd cc
outline_closes outer top opened (l ∷ to, u) next names e f =
    let made = within_ok (enclosed u.opener u.number (level_built u)) (λ b. Some (record { outer = to; top = added l b; opened = opened })) next f in
    ap (λ o. outline_close o names) (settled_restores outer top l to u e)
    ∙ ap (λ o. Some (record { outer = o; top = l.options; names = names })) (restores_by to l (added l (enclosed u.opener u.number (level_built u))) refl)
    ∙ ap (λ (s : State). Some (outline s names)) (same_state _ _ made.1)

-- the same groups, and no more
outline_names : (s : State) (names : Names) → Some (outline s names) ≡ Some (outline s (names ++ []))
outline_names s names = ap (λ n. Some (outline s n)) (sym (append-nil names))

-- a step that only changes the parts of the top
same_outline : (s next : State) (names : Names) → s.outer ≡ next.outer → s.top.opener ≡ next.top.opener → s.top.options ≡ next.top.options → Some (outline s names) ≡ Some (outline next (names ++ []))
same_outline s next names outer opener options =
    ap₂ (λ o p. Some (record { outer = o; top = p; names = names })) (restores_by s.outer s.top next.top opener ∙ ap (λ o. restores o next.top) outer) options
    ∙ outline_names next names

-- the list that there was
map_ok : (o : Option (List Built)) (f : List Built → State) (next : State) → option_map f o ≡ Some next → (r : List Built) × (f r ≡ next)
map_ok None f next e = absurd cc
map_ok (Some r) f next e = (r, same_state _ _ e)

-- behind an opening
opening_outline : (k : Opening) (o : Options) (s : State) (names : Names) →
    outline_step (sym_of (Opens k) o) (outline s names) ≡ Some (outline (entered (opener_of k) (s.opened + count (opener_of k)) (inside k o) s) (names ++ begun (opener_of k) (name_of k)))
opening_outline k o s names = rw opening_set refl

-- Each step of the reading is one of the first reading.
outline_goes : (k : Tok) (o : Options) (s next : State) (names : Names) → step (sym_of k o) s ≡ Some next → outline_step (sym_of k o) (outline s names) ≡ Some (outline next (names ++ names_begun k))
unfolding step
outline_goes (Single a) o s next names e =
    let at = same_state _ _ e in
    same_outline s next names (ap (λ (x : State). x.outer) at) (ap (λ (x : State). x.top.opener) at) (ap (λ (x : State). x.top.options) at)
outline_goes (Opens k) o s next names e =
    let at = (cond_some _ _ _ e).1 in
    opening_outline k o s names ∙ ap (λ (x : State). Some (outline x (names ++ begun (opener_of k) (name_of k)))) at
outline_goes (Setting letters after) o s next names e =
    let at = same_state _ _ e in
    outline_names (entered Sets s.opened after s) names ∙ ap (λ (x : State). Some (outline x (names ++ []))) at
outline_goes Closing o s next names e =
    let b = bind_ok (settled s.outer s.top) (close_in s.opened) next e in
    outline_closes s.outer s.top s.opened b.0 next names b.1 b.2 ∙ outline_names next names
outline_goes Bar o s next names e =
    let at = same_state _ _ e in
    same_outline s next names (ap (λ (x : State). x.outer) at) (ap (λ (x : State). x.top.opener) at) (ap (λ (x : State). x.top.options) at)
outline_goes (Skipped t) o s next names e =
    let at = same_state _ _ e in
    same_outline s next names (ap (λ (x : State). x.outer) at) (ap (λ (x : State). x.top.opener) at) (ap (λ (x : State). x.top.options) at)
outline_goes (Times amount mark) o s next names e =
    let at = (map_ok _ _ next e).1 in
    same_outline s next names (ap (λ (x : State). x.outer) at) (ap (λ (x : State). x.top.opener) at) (ap (λ (x : State). x.top.options) at)

-- a thing as the first reading takes it: a reference means no groups yet
abbrev unread : Options → Tok → Tok
unread o (Single (Refers r tree)) = Single (Refers r (back_tree o []))
unread o k = k

-- it is spelled the same
unread_text : (o : Options) (k : Tok) → text_of (unread o k) ≡ text_of k
unread_text o (Single (Plain c tree)) = refl
unread_text o (Single (Escaped e tree)) = refl
unread_text o (Single (Placed c place)) = refl
unread_text o (Single (Bracketed k tree)) = refl
unread_text o (Single (Refers r tree)) = refl
unread_text o (Opens k) = refl
unread_text o (Setting letters after) = refl
unread_text o Closing = refl
unread_text o Bar = refl
unread_text o (Times amount mark) = refl
unread_text o (Skipped s) = refl

-- it is one where no groups are known
unread_is : (names : Names) (k : Tok) (o : Options) (rest : List ℕ) → IsTok (Some names) k o rest → IsTok None (unread o k) o rest
unread_is names (Single (Plain c tree)) o rest is = is
unread_is names (Single (Escaped e tree)) o rest is = is
unread_is names (Single (Placed c place)) o rest is = is
unread_is names (Single (Bracketed k tree)) o rest is = is
unread_is names (Single (Refers r tree)) o rest is = (is.0, refl)
unread_is names (Opens k) o rest is = is
unread_is names (Setting letters after) o rest is = is
unread_is names Closing o rest is = tt
unread_is names Bar o rest is = tt
unread_is names (Times amount mark) o rest is = is
unread_is names (Skipped s) o rest is = is

-- and the first reading goes the same way
unread_step : (k : Tok) (o : Options) (s : Outline) → outline_step (sym_of (unread o k) o) s ≡ outline_step (sym_of k o) s
unread_step (Single (Plain c tree)) o s = refl
unread_step (Single (Escaped e tree)) o s = refl
unread_step (Single (Placed c place)) o s = refl
unread_step (Single (Bracketed k tree)) o s = refl
unread_step (Single (Refers r tree)) o s = refl
unread_step (Opens k) o s = refl
unread_step (Setting letters after) o s = refl
unread_step Closing o s = refl
unread_step Bar o s = refl
unread_step (Times amount mark) o s = refl
unread_step (Skipped t) o s = refl

-- one turn
pub names_one : (n : ℕ) (s : Outline) (t : List ℕ) → 0 < length t → names_read (suc n) s t ≡ (token_at None s.top t >>= λ y. outline_step y.0 s >>= λ next. names_read n next y.1)
unfolding names_read
names_one n s [] some = absurd (omega arith)
names_one n s (c ∷ t) some = refl

-- the thing in front, as the first reading takes it
unread_token : (names : Names) (k : Tok) (o p : Options) (rest : List ℕ) → p ≡ o → IsTok (Some names) k o rest → token_at None p (text_of k ++ rest) ≡ Some (sym_of (unread o k) o, rest)
unread_token names k o p rest e is =
    ap (λ (q : Options). token_at None q (text_of k ++ rest)) e
    ∙ ap (λ u. token_at None o (u ++ rest)) (sym (unread_text o k))
    ∙ token_again None (unread o k) o rest (unread_is names k o rest is)

-- The groups of what is written are read first.
pub groups_read : (names : Names) (ks : Toks) (n : ℕ) (s t : State) (seen : Names) → length (spelling ks) ≤ n → AreToks (Some names) ks → Runs ks s t →
    names_read n (outline s seen) (spelling ks) ≡ Some (seen ++ names_among ks)
unfolding names_read
groups_read names [] n s t seen a are runs = ap Some (sym (append-nil seen))
groups_read names (k ∷ ks) zero s t seen a are runs = absurd (omega (arith, text_length k.0, length-append (text_of k.0) (spelling ks)))
groups_read names (k ∷ ks) (suc n) s t seen a are runs =
    let long = length-append (text_of k.0) (spelling ks) in
    let some = text_length k.0 in
    names_one n (outline s seen) (text_of k.0 ++ spelling ks) (omega arith)
    ∙ (rw (unread_token names k.0 k.1 s.top.options (spelling ks) runs.1 are.0, unread_step, outline_goes k.0 k.1 s runs.0 seen runs.2)
    (groups_read names ks n runs.0 t (seen ++ names_begun k.0) (omega arith) are.1 runs.3))
    ∙ ap Some (append_assoc seen (names_begun k.0) (names_among ks))

-- The reading is that of the grammar.
use Rattle.std.proofs.Common.{◌≡◌, ℕ, zero, suc, ◌<◌, ◌≤◌, Bool, true, false, List, [], ◌∷◌, ◌++◌, length, Option, Some, None, Result, Ok, Err, refl, sym, ap, ◌∙◌, subst, arith, length-append, append_assoc, option_map, le-leb}
use Rattle.std.specs.Prelude.{IfOk, nat_le, if◌then◌else◌}
use Rattle.std.proofs.lemmas.Option.{cond_some}
use Rattle.std.proofs.lemmas.Bool.{leb-true}
use Rattle.tm_onig_class.specs.Groups.{IsNumbered}
use Rattle.tm_onig_class.specs.Limits.{AreLimitsInOrder}
use Rattle.tm_onig_class.specs.Tree.{Tree, tree_of}
use Rattle.tm_onig_class.specs.declared.patterns.Pattern.{Pattern}
use Rattle.tm_onig_parse.specs.declared.ParseFault.{ParseFault}
use Rattle.tm_onig_atom.specs.declared.options.Options.{Options}
use Rattle.tm_onig_parse.specs.declared.groups.Opener.TheVariants.{Groups}
use Rattle.tm_onig_atom.specs.NoOptions.{no_options}
use Rattle.tm_onig_parse.specs.Names.{Names}
use Rattle.tm_onig_parse.specs.Things.{Tok, Toks, Single, Opens, Setting, Closing, Bar, Times, Skipped, text_of, IsTok, spelling, AreToks}
use Rattle.tm_onig_parse.specs.Grammar.{Body, Nothing, written, groups}
use Rattle.tm_onig_parse.specs.Meaning.{Built, bodies, built, meaning, names_in, Spells}
use Rattle.tm_onig_atom.specs.inner.Reading.{◌>>=◌}
use Rattle.tm_onig_parse.specs.inner.Reading.{Sym, Level, State, start, token_at, step, settled, close_in, finish, read, onward, outline_start, names_onward}
use Rattle.tm_onig_parse.specs.Parsed.{parsed}
use Rattle.tm_onig_parse.specs.inner.Views.{Gives}
use Rattle.tm_onig_atom.proofs.Texts.{bind_ok}
use Rattle.tm_onig_parse.proofs.OneRead.{sym_of}
use Rattle.tm_onig_parse.proofs.Lexing.{token_again, token_found, text_length}
use Rattle.tm_onig_parse.proofs.Heights.{alts_low}
use Rattle.tm_onig_parse.proofs.Structure.{Runs, kind, body_run, BodyRun, whole_body}
use Rattle.tm_onig_parse.proofs.Back.{Stack, stack, state_of, stack_written, options_of, kind_options, step_back, same_state, Ends, finish_back}
use Rattle.tm_onig_parse.proofs.GroupsRead.{groups_read}
use Rattle.tm_onig_parse.proofs.Ordered.{spells_ordered}
use Rattle.tm_onig_parse.proofs.Numbering.{spells_numbered}

-- what follows is the same
pub bind_same : {A B : Type 0} (o : Option A) (f g : A → Option B) → ((x : A) → o ≡ Some x → f x ≡ g x) → (o >>= f) ≡ (o >>= g)
bind_same None f g h = refl
bind_same (Some x) f g h = h x refl

-- no more groups are opened than may be
map_opened : (o : Option (List Built)) (f : List Built → State) (n : ℕ) → ((r : List Built) → (f r).opened ≡ n) → (next : State) → option_map f o ≡ Some next → next.opened ≡ n
map_opened None f n h next e = absurd cc
map_opened (Some r) f n h next e = ap (λ (s : State). s.opened) (sym (same_state _ _ e)) ∙ h r

-- the count stays
bind_opened : (o : Option Built) (f : Built → State) (n : ℕ) → ((r : Built) → (f r).opened ≡ n) → (next : State) → (o >>= λ b. Some (f b)) ≡ Some next → next.opened ≡ n
bind_opened None f n h next e = absurd cc
bind_opened (Some r) f n h next e = ap (λ (s : State). s.opened) (sym (same_state _ _ e)) ∙ h r

-- a `)` opens none
close_few : (n : ℕ) (x : List Level × Level) (next : State) → close_in n x ≡ Some next → next.opened ≡ n
close_few n ([], top) next e = absurd cc
close_few n (l ∷ outer, top) next e = bind_opened _ _ n (λ r. refl) next e

-- no step goes beyond the limit
step_few : (k : Tok) (o : Options) (s next : State) → s.opened ≤ 1000 → step (sym_of k o) s ≡ Some next → next.opened ≤ 1000
unfolding step
step_few (Single a) o s next few e = let at = ap (λ (s : State). s.opened) (same_state _ _ e) in omega arith
step_few (Opens k) o s next few e =
    let at = ap (λ (s : State). s.opened) ((cond_some _ _ _ e).1) in
    omega (arith, leb-true _ _ ((cond_some _ _ _ e).0))
step_few (Setting letters after) o s next few e = let at = ap (λ (s : State). s.opened) (same_state _ _ e) in omega arith
step_few Closing o s next few e = let b = bind_ok (settled s.outer s.top) (close_in s.opened) next e in omega (arith, close_few s.opened b.0 next b.2)
step_few Bar o s next few e = let at = ap (λ (s : State). s.opened) (same_state _ _ e) in omega arith
step_few (Skipped t) o s next few e = let at = ap (λ (s : State). s.opened) (same_state _ _ e) in omega arith
step_few (Times amount mark) o s next few e = omega (arith, map_opened _ _ s.opened (λ r. refl) next e)

-- one turn
pub read_one : (names : Option Names) (n : ℕ) (s : State) (t : List ℕ) → 0 < length t → read names (suc n) s t ≡ (token_at names s.top.options t >>= λ y. step y.0 s >>= λ next. read names n next y.1)
unfolding read
read_one names n s [] some = absurd (omega arith)
read_one names n s (c ∷ t) some = refl

-- What is written is read to the end of its run.
read_again : (names : Option Names) (ks : Toks) (n : ℕ) (s t : State) → length (spelling ks) ≤ n → AreToks names ks → Runs ks s t → read names n s (spelling ks) ≡ finish t
unfolding read
read_again names [] zero s t a are runs = ap finish runs
read_again names [] (suc n) s t a are runs = ap finish runs
read_again names (k ∷ ks) zero s t a are runs = absurd (omega (arith, text_length k.0, length-append (text_of k.0) (spelling ks)))
read_again names (k ∷ ks) (suc n) s t a are runs =
    let long = length-append (text_of k.0) (spelling ks) in
    let some = text_length k.0 in
    let token = subst (λ (o : Options). token_at names o (text_of k.0 ++ spelling ks) ≡ Some (sym_of k.0 k.1, spelling ks)) (sym runs.1) (token_again names k.0 k.1 (spelling ks) are.0) in
    read_one names n s (text_of k.0 ++ spelling ks) (omega arith)
    ∙ (rw (token, runs.2) (read_again names ks n runs.0 t (omega arith) are.1 runs.3))

-- What is left is spelled by things that end what was written.
record Found (names : Option Names) (s : Stack) (t : List ℕ) (tree : Tree) : Type 0 where
  toks : Toks
  whole : t ≡ spelling toks
  are : AreToks names toks
  ends : Ends s toks tree

-- one thing in front
one_more : (names : Option Names) (s to : Stack) (k : Tok) (t rest : List ℕ) (tree : Tree) → stack_written to ≡ stack_written s ++ (k, options_of s.outer) ∷ [] →
    t ≡ text_of k ++ rest → IsTok names k (options_of s.outer) rest → Found names to rest tree → Found names s t tree
one_more names s to k t rest tree toks whole is more = record {
  toks = (k, options_of s.outer) ∷ more.toks;
  whole = whole ∙ ap (λ u. text_of k ++ u) more.whole;
  are = (subst (IsTok names k (options_of s.outer)) more.whole is, more.are);
  ends = record {
    body = more.ends.body;
    whole = more.ends.whole ∙ (rw toks (append_assoc (stack_written s) ((k, options_of s.outer) ∷ []) more.toks));
    means = more.ends.means;
    few = more.ends.few;
    shallow = more.ends.shallow;
  };
}

-- what was left stands at the stack that the step led to
at_stack : (names : Option Names) (n : ℕ) (next to : State) (rest : List ℕ) (tree : Tree) → next ≡ to → next.opened ≤ 1000 → read names n next rest ≡ Some tree →
    (to.opened ≤ 1000) × (read names n to rest ≡ Some tree)
at_stack names n next to rest tree is few e = (subst (λ (x : State). x.opened ≤ 1000) is few, subst (λ (x : State). read names n x rest ≡ Some tree) is e)

-- What is read to its end was spelled so.
read_found : (names : Option Names) (n : ℕ) (s : Stack) (t : List ℕ) (tree : Tree) → (state_of s).opened ≤ 1000 → read names n (state_of s) t ≡ Some tree → Found names s t tree
unfolding read
read_found names zero s [] tree few e = record { toks = []; whole = refl; are = tt; ends = finish_back s.outer s.top.before s.top.row tree few e }
read_found names zero s (c ∷ t) tree few e = absurd cc
read_found names (suc n) s [] tree few e = record { toks = []; whole = refl; are = tt; ends = finish_back s.outer s.top.before s.top.row tree few e }
read_found names (suc n) s (c ∷ t) tree few e =
    let o = options_of s.outer in
    let b = bind_ok (token_at names (state_of s).top.options (c ∷ t)) (λ y. step y.0 (state_of s) >>= λ next. read names n next y.1) tree e in
    let r = token_found names o (c ∷ t) b.0.0 b.0.1 (subst (λ (o : Options). token_at names o (c ∷ t) ≡ Some b.0) (kind_options s.outer) b.1) in
    let w = bind_ok (step b.0.0 (state_of s)) (λ next. read names n next b.0.1) tree b.2 in
    let steps = subst (λ (y : Sym). step y (state_of s) ≡ Some w.0) r.means w.1 in
    let went = step_back r.tok s w.0 steps in
    let few_next = step_few r.tok o (state_of s) w.0 few steps in
    let left = at_stack names n w.0 (state_of went.to) b.0.1 tree went.is few_next w.2 in
    one_more names s went.to r.tok (c ∷ t) b.0.1 tree went.whole r.whole r.is (read_found names n went.to b.0.1 tree left.0 left.1)

-- nothing written yet
abbrev none : Stack
none = stack [] None Nothing

-- the run over a pattern
pattern_run : (body : Body) → groups body ≤ 1000 → (built body).height ≤ 200 → BodyRun body [] (kind Groups 0 no_options) 0
pattern_run body few low = body_run body [] (kind Groups 0 no_options) 0 (omega arith) (alts_low (bodies body 0) low)

-- The groups that are read first are those of the pattern.
names_as : (names : Names) (body : Body) → AreToks (Some names) (written body no_options) → groups body ≤ 1000 → (built body).height ≤ 200 →
    names_onward outline_start (spelling (written body no_options)) ≡ Some (names_in body)
names_as names body are few low =
    let b = pattern_run body few low in
    groups_read names (written body no_options) (length (spelling (written body no_options))) start b.to [] (omega arith) are b.runs

-- one list in both
same_names : (a b : Names) → Some a ≡ Some b → a ≡ b
same_names a b e = cc

-- What is read with the groups of the text is in the grammar.
with_names : (t : List ℕ) (names : Names) (tree : Tree) → length t ≤ 65536 → names_onward outline_start t ≡ Some names → onward (Some names) start t ≡ Some tree →
    (body : Body) × Spells t body × (tree ≡ meaning body)
with_names t names tree short first e =
    let r = read_found (Some names) (length t) none t tree (omega arith) e in
    let whole : t ≡ spelling (written r.ends.body no_options) = r.whole ∙ ap spelling (sym r.ends.whole) in
    let are = subst (AreToks (Some names)) (sym r.ends.whole) r.are in
    let same = same_names _ _ (sym first ∙ ap (names_onward outline_start) whole ∙ names_as names r.ends.body are r.ends.few r.ends.shallow) in (
      r.ends.body,
      record {
        whole = whole;
        are = subst (λ (n : Names). AreToks (Some n) (written r.ends.body no_options)) same are;
        short = short;
        few_groups = r.ends.few;
        shallow = r.ends.shallow;
      },
      r.ends.means,
    )

-- What is read is in the grammar, with its tree.
pub parsed_found : (t : List ℕ) (tree : Tree) → parsed t ≡ Some tree → (body : Body) × Spells t body × (tree ≡ meaning body)
parsed_found t tree e =
    let c = long_enough (nat_le (length t) 65536) refl e in
    let b = bind_ok (names_onward outline_start t) (λ names. onward (Some names) start t) tree c.1 in
    with_names t b.0 tree c.0 b.1 b.2
  where
    long_enough : (is : Bool) → nat_le (length t) 65536 ≡ is → (if is then (names_onward outline_start t >>= λ names. onward (Some names) start t) else None) ≡ Some tree →
        (length t ≤ 65536) × ((names_onward outline_start t >>= λ names. onward (Some names) start t) ≡ Some tree)
    long_enough true is e = (leb-true _ _ is, e)
    long_enough false is e = absurd cc

-- What is in the grammar is read, to its tree.
pub parsed_only : (t : List ℕ) (body : Body) → Spells t body → parsed t ≡ Some (meaning body)
unfolding settled
parsed_only t body s =
    let b = pattern_run body s.few_groups s.shallow in
    let names = ap (names_onward outline_start) s.whole ∙ names_as (names_in body) body s.are s.few_groups s.shallow in
    let reads = ap (onward (Some (names_in body)) start) s.whole
    ∙ read_again (Some (names_in body)) (written body no_options) (length (spelling (written body no_options))) start b.to (omega arith) s.are b.runs
    ∙ (rw (b.settles, whole_body, le-leb (built body).height 200 s.shallow) refl) in
    rw (le-leb (length t) 65536 s.short, names) reads

-- the same of what the program answers
pub found_in : (t : List ℕ) (r : Result Pattern ParseFault) → Gives tree_of r (parsed t) → IfOk r (λ pattern. (body : Body) × Spells t body × (tree_of pattern ≡ meaning body))
found_in t (Ok pattern) e = parsed_found t (tree_of pattern) e
found_in t (Err fault) e = tt

-- what is read has the limits of its loops in order
pub ordered_in : (t : List ℕ) (r : Result Pattern ParseFault) → Gives tree_of r (parsed t) → IfOk r (λ pattern. AreLimitsInOrder (tree_of pattern))
ordered_in t (Ok pattern) e = let found = parsed_found t (tree_of pattern) e in subst AreLimitsInOrder (sym found.2) (spells_ordered t found.0 found.1)
ordered_in t (Err fault) e = tt

-- what is read has its groups numbered
pub numbered_in : (t : List ℕ) (r : Result Pattern ParseFault) → Gives tree_of r (parsed t) → IfOk r (λ pattern. IsNumbered (tree_of pattern))
numbered_in t (Ok pattern) e = let found = parsed_found t (tree_of pattern) e in subst IsNumbered (sym found.2) (spells_numbered t found.0 found.1)
numbered_in t (Err fault) e = tt

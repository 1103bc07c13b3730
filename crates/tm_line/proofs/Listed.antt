-- The candidates of a rule are starts of rules, with its end behind or before them, if it has one.
use Rattle.std.proofs.Common.{◌≡◌, ℕ, zero, suc, ◌++◌, Bool, true, false, List, [], ◌∷◌, map, flat_map, Some, refl, ap, sym, ◌∙◌, append-nil, subst}
use Rattle.std.specs.Prelude.{slice_get}
use Rattle.std.proofs.lemmas.List.{map-append}
use Rattle.tm_rules.specs.Candidates.{contributed, unopened, flattened, flattened_candidates, start_unless, unless_open, with_end, with_end_if}
use Rattle.tm_rules.specs.Readers.{end_last_in, is_only, patterns_of}
use Rattle.tm_rules.specs.declared.candidate.Candidate.{Candidate}
use Rattle.tm_rules.specs.declared.candidate.Candidate.TheVariants.{Start, End}
use Rattle.tm_defs.specs.declared.rules.Rule.{Rule}
use Rattle.tm_defs.specs.declared.rules.Rule.TheVariants as R

-- the numbers of the rules that candidates start, in their order
abbrev pub starts_in : List Candidate → List ℕ
starts_in [] = []
starts_in (Start n ∷ cs) = n ∷ starts_in cs
starts_in (End ∷ cs) = starts_in cs

-- candidates that are all starts
abbrev pub AreStarts : List Candidate → Type 0
AreStarts cs = cs ≡ map Start (starts_in cs)

starts_in-append : (xs ys : List Candidate) → starts_in (xs ++ ys) ≡ starts_in xs ++ starts_in ys
starts_in-append [] ys = refl
starts_in-append (Start n ∷ xs) ys = ap (λ l. n ∷ l) (starts_in-append xs ys)
starts_in-append (End ∷ xs) ys = starts_in-append xs ys

starts-append : (xs ys : List Candidate) → AreStarts xs → AreStarts ys → AreStarts (xs ++ ys)
starts-append xs ys h k =
    ap (λ l. l ++ ys) h ∙ ap (λ l. map Start (starts_in xs) ++ l) k
    ∙ sym (ap (map Start) (starts_in-append xs ys) ∙ map-append Start (starts_in xs) (starts_in ys))

starts-flat_map : (f : ℕ → List Candidate) → ((n : ℕ) → AreStarts (f n)) → (ns : List ℕ) → AreStarts (flat_map f ns)
starts-flat_map f h [] = refl
starts-flat_map f h (n ∷ ns) = starts-append (f n) (flat_map f ns) (h n) (starts-flat_map f h ns)

starts-start_unless : (b : Bool) (n : ℕ) → AreStarts (start_unless b n)
starts-start_unless true n = refl
starts-start_unless false n = refl

starts-unless_open : (b : Bool) (f : ℕ → List Candidate) (ns : List ℕ) → ((n : ℕ) → AreStarts (f n)) → AreStarts (unless_open b f ns)
starts-unless_open true f ns h = refl
starts-unless_open false f ns h = starts-flat_map f h ns

module _ (rules : List Rule) where
  starts-contributed : (depth : ℕ) (opened : List ℕ) (n : ℕ) → AreStarts (contributed rules depth opened n)
  unfolding contributed
  starts-contributed zero opened n = starts-start_unless (is_only (slice_get rules n)) n
  starts-contributed (suc depth) opened n =
      starts-append (start_unless (is_only (slice_get rules n)) n) _ (starts-start_unless (is_only (slice_get rules n)) n)
      (starts-unless_open _ (contributed rules depth (n ∷ opened)) (patterns_of (slice_get rules n)) (starts-contributed depth (n ∷ opened)))

  starts-flattened : (ns : List ℕ) → AreStarts (flat_map (flattened rules []) ns)
  starts-flattened ns = starts-flat_map (flattened rules []) (starts-contributed (unopened rules []) []) ns

  -- the numbers are the same with an end among the candidates
  starts_in-end : (last : Bool) (cs : List Candidate) → starts_in (with_end last cs) ≡ starts_in cs
  starts_in-end true cs = starts_in-append cs (End ∷ []) ∙ append-nil (starts_in cs)
  starts_in-end false cs = refl

  inside-with_end : (last : Bool) (cs : List Candidate) → AreStarts cs → with_end last cs ≡ with_end last (map Start (starts_in (with_end last cs)))
  inside-with_end last cs h = ap (with_end last) (h ∙ ap (map Start) (sym (starts_in-end last cs)))

  -- the candidates of a rule are its starts with its end
  pub listed : (n : ℕ) (r : Rule) (cs : List Candidate) → slice_get rules n ≡ Some r → cs ≡ flattened_candidates rules n → cs ≡ with_end_if (end_last_in (Some r)) (map Start (starts_in cs))
  listed n (R.Match grammar path name content_name match_text captures) cs at e = is_in (e ∙ rw at refl)
    where
      is_in : cs ≡ [] → AreStarts cs
      is_in f = rw f refl
  listed n (R.BeginEnd grammar path name content_name patterns begin end_text end_last begin_captures end_captures) cs at e =
      is_in (e ∙ rw at refl)
    where
      is_in : cs ≡ with_end end_last (flat_map (flattened rules []) patterns) → cs ≡ with_end end_last (map Start (starts_in cs))
      is_in f = f ∙ inside-with_end end_last (flat_map (flattened rules []) patterns) (starts-flattened patterns) ∙ ap (λ l. with_end end_last (map Start (starts_in l))) (sym f)
  listed n (R.BeginWhile grammar path name content_name patterns begin while_text begin_captures while_captures) cs at e =
      subst AreStarts (sym (e ∙ rw at refl)) (starts-flattened patterns)
  listed n (R.Only grammar path name content_name patterns) cs at e =
      subst AreStarts (sym (e ∙ rw at refl)) (starts-contributed (unopened rules []) [] n)

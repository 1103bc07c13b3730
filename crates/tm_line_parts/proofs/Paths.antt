-- A list with names added, one after another.
use Rattle.std.proofs.Common.{◌≡◌, ℕ, ◌+◌, ◌<◌, ◌++◌, List, [], ◌∷◌, length, take, drop, get_or, Some, ap, sym, ◌∙◌, subst, append_assoc}
use Rattle.std.specs.Prelude.{slice_get}
use Rattle.std.proofs.lemmas.List.{append-nil, get_or_default, take_more, take-append-drop}
use Rattle.tm_defs.specs.declared.frames.ScopeList.{ScopeList}
use Rattle.tm_defs.specs.declared.tables.TableFault.{TableFault}
use Rattle.tm_defs.specs.Tables.{Tables, TableEntries, GrowsWithin, IsFullForSome, more_made, path_at}
use Rattle.tm_defs.proofs.Chains.{full-first, full-then, grows-left, grows-then, path_at-is}
use Rattle.tm_line_turns.specs.LineRun.{name_made, names_made}

more_made-assoc : (a b c : TableEntries) → more_made (more_made a b) c ≡ more_made a (more_made b c)
more_made-assoc a b c =
    ap (λ l. record { texts = l; paths = (a.paths ++ b.paths) ++ c.paths; states = (a.states ++ b.states) ++ c.states }) (append_assoc a.texts b.texts c.texts)
    ∙ ap (λ l. record { texts = a.texts ++ (b.texts ++ c.texts); paths = l; states = (a.states ++ b.states) ++ c.states }) (append_assoc a.paths b.paths c.paths)
    ∙ ap (λ l. record { texts = a.texts ++ (b.texts ++ c.texts); paths = a.paths ++ (b.paths ++ c.paths); states = l }) (append_assoc a.states b.states c.states)

-- what two lists of names make is what the first makes, and the second behind it
pub names_made-append : (path names more : List (List ℕ)) → names_made path (names ++ more) ≡ more_made (names_made path names) (names_made (path ++ names) more)
names_made-append path [] more = ap (λ p. names_made p more) (sym (append-nil path))
names_made-append path (name ∷ names) more =
    ap (more_made (name_made path name)) (names_made-append (path ++ name ∷ []) names more ∙ ap (λ p. more_made (names_made (path ++ name ∷ []) names) (names_made p more)) (append_assoc path (name ∷ []) names))
    ∙ sym (more_made-assoc (name_made path name) (names_made (path ++ name ∷ []) names) (names_made (path ++ name ∷ names) more))

-- an item of a list that is lent, as one of the list
pub item-of : (names lent : List (List ℕ)) (i : ℕ) (name : List ℕ) → lent ≡ names → i < length lent → name ≡ get_or lent i name → (i < length names) × (name ≡ get_or names i [])
item-of names lent i name same lt is =
    let P : List (List ℕ) → Type 0 = λ l. i < length l in
    let within = subst P same lt in
    (within, is ∙ ap (λ l. get_or l i name) same ∙ get_or_default names i name [] within)

module _ (t u : Tables) (path : List (List ℕ)) (names : List (List ℕ)) (i : ℕ) (lt : i < length names) (longer : ScopeList)
    (listed : slice_get u.paths longer.0 ≡ Some (path ++ take i names)) (grown : GrowsWithin (names_made path (take i names)) t u) where
  abbrev name : List ℕ
  name = get_or names i []

  -- so far, and one more
  abbrev so_far : List (List ℕ)
  so_far = take i names

  one-more : take (i + 1) names ≡ so_far ++ name ∷ []
  one-more = take_more names i [] lt

  made-more : names_made path (take (i + 1) names) ≡ more_made (names_made path so_far) (names_made (path_at u longer) (name ∷ []))
  made-more =
      ap (names_made path) one-more ∙ names_made-append path so_far (name ∷ [])
      ∙ ap (λ p. more_made (names_made path so_far) (names_made p (name ∷ []))) (sym (path_at-is u longer (path ++ so_far) listed))

  -- all names make these, and what is behind them
  all-made : names_made path names ≡ more_made (names_made path (take (i + 1) names)) (names_made (path ++ take (i + 1) names) (drop (i + 1) names))
  all-made = ap (names_made path) (sym (take-append-drop (i + 1) names)) ∙ names_made-append path (take (i + 1) names) (drop (i + 1) names)

  pub listed-more : (v : Tables) (next : ScopeList) → slice_get v.paths next.0 ≡ Some (path_at u longer ++ name ∷ []) → slice_get v.paths next.0 ≡ Some (path ++ take (i + 1) names)
  listed-more v next at =
      at ∙ ap (λ p. Some (p ++ name ∷ [])) (path_at-is u longer (path ++ so_far) listed) ∙ ap Some (append_assoc path so_far (name ∷ []))
      ∙ ap (λ l. Some (path ++ l)) (sym one-more)

  pub grows-more : (v : Tables) → GrowsWithin (names_made (path_at u longer) (name ∷ [])) u v → GrowsWithin (names_made path (take (i + 1) names)) t v
  grows-more v h =
      let P : TableEntries → Type 0 = λ made. GrowsWithin made t v in
      subst P (sym made-more) (grows-then _ _ t u v grown h)

  pub grows-all : (v : Tables) → GrowsWithin (names_made (path_at u longer) (name ∷ [])) u v → GrowsWithin (names_made path names) t v
  grows-all v h =
      let P : TableEntries → Type 0 = λ made. GrowsWithin made t v in
      subst P (sym all-made) (grows-left _ _ t v (grows-more v h))

  pub full-all : (v : Tables) (cause : TableFault) → IsFullForSome (names_made (path_at u longer) (name ∷ [])) v cause → IsFullForSome (names_made path names) v cause
  full-all v cause h =
      let P : TableEntries → Type 0 = λ made. IsFullForSome made v cause in
      subst P (sym all-made) (full-first (names_made path (take (i + 1) names)) (names_made (path ++ take (i + 1) names) (drop (i + 1) names)) v cause
      (subst P (sym made-more) (full-then (names_made path so_far) (names_made (path_at u longer) (name ∷ [])) v cause h)))

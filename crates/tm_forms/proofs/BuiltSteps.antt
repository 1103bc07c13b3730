-- The steps that a script is read as are built.
use Rattle.std.proofs.Common.{◌≡◌, ℕ, ◌+◌, Bool, true, false, cond, List, [], ◌∷◌, Option, Some, None, refl, ap, sym, subst}
use Rattle.std.specs.Prelude.{option_map, option_and_then, codes}
use Rattle.std.specs.List.{list_all}
use Rattle.std.specs.Str.{bytes_eq}
use Rattle.std.proofs.lemmas.Bool.{and_from}
use Rattle.serde_json.specs.Data.{Data}
use Rattle.serde_json.specs.Read.{read}
use Rattle.serde_json.specs.Find.{get, as_str}
use Rattle.tm_defs.specs.declared.changes.Change.{Change}
use Rattle.tm_defs.specs.declared.events.Step.TheVariants.{Edit, Line, Settle}
use Rattle.tm_forms.specs.declared.script.ScriptStep.{ScriptStep}
use Rattle.tm_forms.specs.declared.script.ScriptStep.TheVariants.{Core, Show}
use Rattle.tm_forms.specs.declared.script.Scripted.{Scripted}
use Rattle.tm_forms.specs.Edits.{change_of}
use Rattle.tm_forms.specs.Script.{show_of, step_named, step_of, step_in, is_blank, steps_from, is_built_step, is_built}

-- none, or a step that is built
abbrev IsBuiltIn : Option ScriptStep → Type 0
IsBuiltIn o = (s : ScriptStep) → o ≡ Some s → is_built_step s ≡ true

none-built : IsBuiltIn None
none-built s e = absurd cc

either-built : (b : Bool) (x y : Option ScriptStep) → IsBuiltIn x → IsBuiltIn y → IsBuiltIn (cond b x y)
either-built true x y h k = h
either-built false x y h k = k

edit-built : (o : Option Change) → IsBuiltIn (option_map (λ change. Core (Edit change)) o)
edit-built None = none-built
edit-built (Some change) = λ s e. let same : Core (Edit change) ≡ s = cc in ap is_built_step (sym same)

line-built : IsBuiltIn (Some (Core Line))
line-built s e = let same : Core Line ≡ s = cc in ap is_built_step (sym same)

settle-built : IsBuiltIn (Some (Core Settle))
settle-built s e = let same : Core Settle ≡ s = cc in ap is_built_step (sym same)

show-built : IsBuiltIn (Some Show)
show-built s e = let same : Show ≡ s = cc in ap is_built_step (sym same)

named-built : (d : Data) (word : List ℕ) → IsBuiltIn (step_named d word)
named-built d word =
    either-built (bytes_eq word (codes "edit")) (option_map (λ change. Core (Edit change)) (change_of d)) _ (edit-built (change_of d))
    (either-built (bytes_eq word (codes "line")) (Some (Core Line)) _ line-built
    (either-built (bytes_eq word (codes "settle")) (Some (Core Settle)) _ settle-built
    (either-built (bytes_eq word (codes "show")) (show_of d) None (either-built _ None (Some Show) none-built show-built) none-built)))

then-built : {X : Type 0} (f : X → Option ScriptStep) (o : Option X) → ((x : X) → IsBuiltIn (f x)) → IsBuiltIn (option_and_then f o)
then-built f None h = none-built
then-built f (Some x) h = h x

step-built : (line : List ℕ) → IsBuiltIn (step_in line)
step-built line = then-built step_of (read line) (λ d. then-built (step_named d) (option_and_then as_str (get (codes "step") d)) (named-built d))

abbrev AllBuiltIn : Option (List Scripted) → Type 0
AllBuiltIn o = (xs : List Scripted) → o ≡ Some xs → list_all is_built xs ≡ true

first-built : (n : ℕ) (step : ScriptStep) (rest : Option (List Scripted)) → is_built_step step ≡ true → AllBuiltIn rest → AllBuiltIn (option_map (λ steps. record { line = n; step = step } ∷ steps) rest)
first-built n step None h k xs e = absurd cc
first-built n step (Some steps) h k xs e =
    let x : Scripted = record { line = n; step = step } in
    let same : x ∷ steps ≡ xs = cc in
    let P : List Scripted → Type 0 = λ l. list_all is_built l ≡ true in
    subst P same (and_from (is_built x) (list_all is_built steps) h (k steps refl))

line-steps : (n : ℕ) (o : Option ScriptStep) (rest : Option (List Scripted)) → IsBuiltIn o → AllBuiltIn rest → AllBuiltIn (option_and_then (λ step. option_map (λ steps. record { line = n; step = step } ∷ steps) rest) o)
line-steps n None rest h k = λ xs e. absurd cc
line-steps n (Some step) rest h k = first-built n step rest (h step refl) k

both-built : (b : Bool) (x y : Option (List Scripted)) → AllBuiltIn x → AllBuiltIn y → AllBuiltIn (cond b x y)
both-built true x y h k = h
both-built false x y h k = k

no-steps : AllBuiltIn (Some [])
no-steps xs e = let none : List Scripted = [] in let same : none ≡ xs = cc in let P : List Scripted → Type 0 = λ l. list_all is_built l ≡ true in subst P same refl

pub steps-built : (n : ℕ) (lines : List (List ℕ)) → AllBuiltIn (steps_from n lines)
steps-built n [] = no-steps
steps-built n (line ∷ lines) =
    both-built (list_all is_blank line) (steps_from (n + 1) lines) _ (steps-built (n + 1) lines)
    (line-steps n (step_in line) (steps_from (n + 1) lines) (step-built line) (steps-built (n + 1) lines))

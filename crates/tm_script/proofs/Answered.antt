-- The answer of a script, by that of its lines.
use Rattle.std.proofs.Common.{◌≡◌, ◌≤◌, ◌<◌, ◌^◌, ◌==◌, ℕ, true, false, List, [], ◌∷◌, length, map, Ok, Err, refl, ap, sym, ◌∙◌, arith}
use Rattle.std.specs.Prelude.{Result, IsErr, IsErrAnd, IfErr}
use Rattle.std.specs.Borrow.{Bor}
use Rattle.std.specs.List.{list_any}
use Rattle.std.proofs.lemmas.List.Splits.{length-slice_split}
use Rattle.std.proofs.lemmas.List.Sums.{count_by-le-length}
use Rattle.std.proofs.lemmas.List.{length-map}
use Rattle.tm_script.specs.declared.script.ScriptFault.{ScriptFault}
use Rattle.tm_script.specs.declared.script.ScriptFault.TheVariants.{BadStep, TooManySteps, NotYet, OutOfMemory}
use Rattle.tm_script.specs.declared.steps.Scripted.{Scripted}
use Rattle.tm_script.specs.declared.words.Said.{Said}
use Rattle.tm_script.specs.Script.{lines_in, step_limit, steps_of, script_in, without_worker, is_to_come, IsRefusalOf}
use Rattle.tm_script.specs.Steps.{said_in}
use Rattle.tm_script.proofs.Reading.{read_on, read-on}

-- no step is read yet
pub begins : (steps : List Scripted) (lines : List Said) → steps ≡ [] → (read_on 0 steps lines ≡ steps_of lines) × (length steps ≤ step_limit)
begins steps lines e =
    let few : length {A = Scripted} [] ≤ step_limit = omega arith in
    rw e (read-on 0 [] lines few, few)

still-refused : (answer : Result (List Scripted) ScriptFault) (fault : ScriptFault) → IsRefusalOf answer fault → IsRefusalOf (without_worker answer) fault
still-refused answer (BadStep line) h = ap without_worker h
still-refused answer TooManySteps h = ap without_worker h
still-refused answer NotYet h = ap without_worker h
still-refused answer OutOfMemory h = tt

passed-on : {T : Type 0} (P : ScriptFault → Type 0) (r : Result T ScriptFault) (fault : ScriptFault) → IsErr r × IsErrAnd r (λ e. e ≡ fault) → P fault → IfErr r P
passed-on P (Ok x) fault h p = tt
passed-on P (Err e) fault h p = rw h.1 p

map-said : (lines : List (Bor (List ℕ))) → map (λ (line : Bor (List ℕ)). said_in line.now) lines ≡ map said_in (map (λ (line : Bor (List ℕ)). line.now) lines)
map-said [] = refl
map-said (line ∷ lines) = ap (λ rest. said_in line.now ∷ rest) (map-said lines)

module _ (bytes : List ℕ) (lines : List (Bor (List ℕ))) (split : map (λ (line : Bor (List ℕ)). line.now) lines ≡ lines_in bytes) where
  -- there is at most one line more than there are bytes
  pub few-lines : length bytes ≤ 2 ^ 30 → length lines < 2 ^ 32
  few-lines few =
      let a : length (map (λ (line : Bor (List ℕ)). line.now) lines) ≡ length lines = length-map lines (λ (line : Bor (List ℕ)). line.now) in
      let b = ap length split in
      let c = length-slice_split (λ byte. byte == 10) bytes in
      let d = count_by-le-length (λ byte. byte == 10) bytes in
      omega (arith, a, b, c, d, few)

  abbrev read : Result (List Scripted) ScriptFault
  read = steps_of (map (λ (line : Bor (List ℕ)). said_in line.now) lines)

  script-read : script_in bytes ≡ without_worker read
  script-read = ap (λ said. without_worker (steps_of said)) (sym (map-said lines ∙ ap (map said_in) split))

  pub script-ok : (steps : List Scripted) → read ≡ Ok steps → list_any is_to_come steps ≡ false → script_in bytes ≡ Ok steps
  script-ok steps e built = script-read ∙ ap without_worker e ∙ rw built refl

  pub script-to_come : (steps : List Scripted) → read ≡ Ok steps → list_any is_to_come steps ≡ true → script_in bytes ≡ Err NotYet
  script-to_come steps e built = script-read ∙ ap without_worker e ∙ rw built refl

  pub script-refused : {T : Type 0} (r : Result T ScriptFault) (fault : ScriptFault) → IsErr r × IsErrAnd r (λ e. e ≡ fault) → IsRefusalOf read fault → IfErr r (IsRefusalOf (script_in bytes))
  script-refused r fault passed refused = rw script-read (passed-on (IsRefusalOf (without_worker read)) r fault passed (still-refused read fault refused))

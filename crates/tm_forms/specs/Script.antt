-- The script file, in the form that is built: a step in each line, as a JSON object.
use Rattle.std.specs.Prelude.{ℕ, ◌+◌, ◌==◌, List, [], ◌∷◌, length, Option, Some, None, option_and_then, option_map, codes, if◌then◌else◌, nat_eq, nat_le, ◌||◌, Bool, true, false}
use Rattle.std.specs.List.{list_all, slice_split}
use Rattle.std.specs.Str.{bytes_eq}
use Rattle.serde_json.specs.Data.{Data}
use Rattle.serde_json.specs.Read.{read}
use Rattle.serde_json.specs.Find.{get, as_str}
use Rattle.tm_defs.specs.declared.events.Step.TheVariants.{Edit, Line, Settle}
use Rattle.tm_forms.specs.declared.script.ScriptStep.{ScriptStep}
use Rattle.tm_forms.specs.declared.script.ScriptStep.TheVariants.{Core, SettleQuietly, Show}
use Rattle.tm_forms.specs.declared.script.Scripted.{Scripted}
use Rattle.tm_forms.specs.Edits.{change_of}
use Rattle.tm_forms.specs.Text.{greatest_length}
use Rattle.tm_forms.specs.Json.{has_key}
use Rattle.tm_forms.specs.Utf8.{without_mark, text_of_utf8}

-- a `show` of a part of the text is not of the form yet
abbrev pub show_of : Data → Option ScriptStep
show_of d = if has_key (codes "from") d || has_key (codes "to") d then None else Some Show

-- the step of a word; other keys than those of its step are passed over
abbrev pub step_named : Data → List ℕ → Option ScriptStep
step_named d word = if bytes_eq word (codes "edit") then option_map (λ change. Core (Edit change)) (change_of d)
    else (if bytes_eq word (codes "line") then Some (Core Line)
    else (if bytes_eq word (codes "settle") then Some (Core Settle)
    else (if bytes_eq word (codes "show") then show_of d else None)))

abbrev pub step_of : Data → Option ScriptStep
step_of d = option_and_then (step_named d) (option_and_then as_str (get (codes "step") d))

abbrev pub step_in : List ℕ → Option ScriptStep
step_in line = option_and_then step_of (read line)

-- the steps that are built
abbrev pub is_built_step : ScriptStep → Bool
is_built_step (Core (Edit change)) = true
is_built_step (Core Line) = true
is_built_step (Core Settle) = true
is_built_step (Core _) = false
is_built_step SettleQuietly = true
is_built_step Show = true

abbrev pub is_built : Scripted → Bool
is_built x = is_built_step x.step

-- the steps of a scan
abbrev pub scan_steps : List Scripted
scan_steps = record { line = 0; step = SettleQuietly } ∷ record { line = 1; step = Show } ∷ []

-- a space, a tab or a carriage return
abbrev pub is_blank : ℕ → Bool
is_blank c = nat_eq c 32 || nat_eq c 9 || nat_eq c 13

-- the steps of the lines, of which the first has number n; a line of blanks alone has none
abbrev pub steps_from : ℕ → List (List ℕ) → Option (List Scripted)
steps_from n [] = Some []
steps_from n (line ∷ lines) = if list_all is_blank line then steps_from (n + 1) lines
    else option_and_then (λ step. option_map (λ steps. record { line = n; step = step } ∷ steps) (steps_from (n + 1) lines)) (step_in line)

-- only a line feed ends a line; behind the last one stands a line too
abbrev pub lines_in : List ℕ → List (List ℕ)
lines_in text = slice_split (λ c. c == 10) text

abbrev pub script_in : List ℕ → Option (List Scripted)
script_in bytes = if nat_le (length bytes) greatest_length
    then option_and_then (λ text. steps_from 0 (lines_in text)) (text_of_utf8 (without_mark bytes))
    else None

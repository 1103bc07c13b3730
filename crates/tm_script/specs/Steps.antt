-- What a line of a script says: a JSON object whose key `step` has one of ten words.
use Rattle.std.specs.Prelude.{ℕ, ◌+◌, ◌||◌, Bool, List, Option, Some, None, option_map, option_and_then, if◌then◌else◌, nat_eq, codes}
use Rattle.std.specs.List.{list_all}
use Rattle.std.specs.Option.{option_zip}
use Rattle.std.specs.Str.{bytes_eq}
use Rattle.serde_json.specs.Data.{Data}
use Rattle.serde_json.specs.Find.{get, as_str}
use Rattle.tm_defs.specs.declared.changes.Change.{Change}
use Rattle.tm_defs.specs.declared.events.Step.TheVariants.{Edit, Line, Force, Settle, Setting, Drain, Work, Post, Accept}
use Rattle.tm_script.specs.declared.steps.ScriptStep.{ScriptStep}
use Rattle.tm_script.specs.declared.steps.ScriptStep.TheVariants.{Core, Show}
use Rattle.tm_script.specs.declared.words.Said.{Said}
use Rattle.tm_script.specs.declared.words.Said.TheVariants.{Nothing, Step, Wrong}
use Rattle.tm_script.specs.Values.{json_in, whole_number, number_of, number_at, item_count, text_of}

-- a line and a column
abbrev pub place_at : ℕ → Data → Option (ℕ × ℕ)
place_at i d = option_zip (number_at i d) (number_at (i + 1) d)

-- `{"step": "edit", "at": [LINE, COLUMN, LINE, COLUMN], "text": TEXT}`
abbrev pub change_at : Data → Data → Option Change
change_at d places = if nat_eq (item_count places) 4
    then option_and_then (λ first. option_and_then (λ last. option_map (λ text.
    record { from_line = first.0; from_col = first.1; to_line = last.0; to_col = last.1; text = text })
    (text_of (codes "text") d)) (place_at 2 places)) (place_at 0 places)
    else None

abbrev pub change_of : Data → Option Change
change_of d = option_and_then (change_at d) (get (codes "at") d)

-- `{"step": "show"}` or `{"step": "show", "from": LINE, "to": LINE}`
abbrev pub shown : Option Data → Option Data → Option (Option (ℕ × ℕ))
shown None None = Some None
shown (Some first) (Some last) = option_map Some (option_zip (whole_number first) (whole_number last))
shown None (Some last) = None
shown (Some first) None = None

abbrev pub range_of : Data → Option (Option (ℕ × ℕ))
range_of d = shown (get (codes "from") d) (get (codes "to") d)

-- `{"step": WORD}`
abbrev pub word_alone : List ℕ → Option ScriptStep
word_alone word = if bytes_eq word (codes "line") then Some (Core Line)
    else (if bytes_eq word (codes "settle") then Some (Core Settle)
    else (if bytes_eq word (codes "drain") then Some (Core Drain)
    else (if bytes_eq word (codes "work") then Some (Core Work)
    else (if bytes_eq word (codes "post") then Some (Core Post)
    else (if bytes_eq word (codes "accept") then Some (Core Accept)
    else None)))))

-- `{"step": "setting", "number": N}` and `{"step": "force", "line": LINE}` too; keys that no step of the word has are
-- passed over
abbrev pub step_named : Data → List ℕ → Option ScriptStep
step_named d word = if bytes_eq word (codes "edit") then option_map (λ change. Core (Edit change)) (change_of d)
    else (if bytes_eq word (codes "setting") then option_map (λ n. Core (Setting n)) (number_of (codes "number") d)
    else (if bytes_eq word (codes "force") then option_map (λ line. Core (Force line)) (number_of (codes "line") d)
    else (if bytes_eq word (codes "show") then option_map Show (range_of d)
    else word_alone word)))

-- the step of a value: an object with a word, since no other value has keys
abbrev pub step_of : Data → Option ScriptStep
step_of d = option_and_then (step_named d) (option_and_then as_str (get (codes "step") d))

abbrev pub step_in : List ℕ → Option ScriptStep
step_in line = option_and_then step_of (json_in line)

-- a space, a tab or a carriage return
abbrev pub is_blank : ℕ → Bool
is_blank byte = nat_eq byte 32 || nat_eq byte 9 || nat_eq byte 13

abbrev pub is_blank_line : List ℕ → Bool
is_blank_line line = list_all is_blank line

abbrev pub step_or_wrong : Option ScriptStep → Said
step_or_wrong (Some step) = Step step
step_or_wrong None = Wrong

-- what a line says
abbrev pub said_in : List ℕ → Said
said_in line = if is_blank_line line then Nothing else step_or_wrong (step_in line)

-- What is answered of a file, as plain data or as why it is refused.
use Rattle.std.specs.Prelude.{ℕ, List, Bool, Option, Some, None, Result, Ok, Err, if◌then◌else◌}
use Rattle.serde_json.specs.Data.{Data}
use Rattle.tm_forms.specs.declared.form.Refusal.{Refusal}
use Rattle.tm_forms.specs.declared.form.Refusal.TheVariants.{NotJson, BadShape, NotYet}

-- the answer with what is read in other terms
abbrev pub ok_map : {T U E : Type 0} → (T → U) → Result T E → Result U E
ok_map f (Ok x) = Ok (f x)
ok_map f (Err e) = Err e

-- the answer of a file that ought to be JSON, by that of its value
abbrev pub json_answer : {T : Type 0} → (Data → Result T Refusal) → Option Data → Result T Refusal
json_answer answer None = Err NotJson
json_answer answer (Some d) = answer d

-- the answer of a value: by the path of the first wrong one in it, else by whether its form is still to come
abbrev pub value_answer : {T : Type 0} → Option (List ℕ) → Bool → T → Result T Refusal
value_answer (Some path) later plain = Err (BadShape path)
value_answer None later plain = if later then Err NotYet else Ok plain

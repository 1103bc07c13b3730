-- What is answered of a grammar file.
use Rattle.std.specs.Prelude.{◌≡◌, ℕ, List, Option, Some, None, Result, Ok, Err, ⊤}
use Rattle.serde_json.specs.Data.{Data}
use Rattle.tm_grammar.specs.File.{GrammarTree, grammar_of, value_in}
use Rattle.tm_grammar.specs.Wrong.{wrong_in}
use Rattle.tm_grammar.specs.declared.fault.JsonFault.{JsonFault}
use Rattle.tm_grammar.specs.declared.fault.JsonFault.TheVariants.{NotJson, BadShape, OutOfMemory}

-- the file has a value with nothing wrong in it, and this is its tree
abbrev pub IsTreeOf : GrammarTree → List ℕ → Type 0
IsTreeOf tree bytes = (d : Data) × (value_in bytes ≡ Some d) × (wrong_in d ≡ None) × (tree ≡ grammar_of d)

-- the file has a value, and this is the path of the first wrong one in it
abbrev pub IsFirstWrongOf : List ℕ → List ℕ → Type 0
IsFirstWrongOf path bytes = (d : Data) × (value_in bytes ≡ Some d) × (wrong_in d ≡ Some path)

-- why a file has no tree; want of memory has no cause in it
abbrev pub IsCauseIn : List ℕ → JsonFault → Type 0
IsCauseIn bytes NotJson = value_in bytes ≡ None
IsCauseIn bytes (BadShape path) = IsFirstWrongOf path bytes
IsCauseIn bytes OutOfMemory = ⊤

-- the answer by the first wrong path, where there is one
abbrev pub answer_by : Data → Option (List ℕ) → Result GrammarTree JsonFault
answer_by d (Some path) = Err (BadShape path)
answer_by d None = Ok (grammar_of d)

abbrev pub answer_from : Data → Result GrammarTree JsonFault
answer_from d = answer_by d (wrong_in d)

-- the answer where memory suffices
abbrev pub answer_of : Option Data → Result GrammarTree JsonFault
answer_of None = Err NotJson
answer_of (Some d) = answer_from d

-- What the values of a grammar file ought to be, by where they stand (TextMate 1.x manual, Language Grammars; the keys
-- are those of vscode-textmate).
use Rattle.std.specs.Prelude.{ℕ, List, [], ◌∷◌, codes, Bool, true, false, is_some, if◌then◌else◌}
use Rattle.std.specs.List.{list_any}
use Rattle.std.specs.Str.{bytes_eq}
use Rattle.serde_json.specs.Data.{Data, boolean, number, string, array, object}
use Rattle.tm_grammar.specs.Numbers.{key_number, place_number}
use Rattle.tm_grammar.specs.declared.shapes.Shape.{Shape}
use Rattle.tm_grammar.specs.declared.shapes.Shape.TheVariants.{Ignored, Text, Flag, Grammar, Rule, Capture, Captures, Patterns, Repository}

-- whether a value is of the kind that fits; what it holds is looked at apart
abbrev pub fits : Shape → Data → Bool
fits Ignored d = true
fits Text (string s) = true
fits Flag (boolean b) = true
fits Flag (number n) = true
fits Captures (array ds) = true
fits Captures (object ms) = true
fits Patterns (array ds) = true
fits Repository (object ms) = true
fits Grammar (object ms) = true
fits Rule (object ms) = true
fits Capture (object ms) = true
fits shape d = false

abbrev pub is_one_of : List ℕ → List (List ℕ) → Bool
is_one_of key keys = list_any (bytes_eq key) keys

-- the keys of a grammar
abbrev pub grammar_key : List ℕ → Shape
grammar_key key = if is_one_of key (codes "scopeName" ∷ codes "injectionSelector" ∷ []) then Text
    else (if is_one_of key (codes "patterns" ∷ []) then Patterns
    else (if is_one_of key (codes "repository" ∷ codes "injections" ∷ []) then Repository else Ignored))

-- the keys of a capture
abbrev pub capture_key : List ℕ → Shape
capture_key key = if is_one_of key (codes "name" ∷ codes "contentName" ∷ []) then Text
    else (if is_one_of key (codes "patterns" ∷ []) then Patterns
    else (if is_one_of key (codes "repository" ∷ []) then Repository else Ignored))

-- the keys of a rule
abbrev pub rule_key : List ℕ → Shape
rule_key key = if is_one_of key (codes "match" ∷ codes "begin" ∷ codes "end" ∷ codes "while" ∷ codes "include" ∷ []) then Text
    else (if is_one_of key (codes "captures" ∷ codes "beginCaptures" ∷ codes "endCaptures" ∷ codes "whileCaptures" ∷ []) then Captures
    else (if is_one_of key (codes "applyEndPatternLast" ∷ []) then Flag else capture_key key))

-- what the member of a key ought to be
abbrev pub member_shape : Shape → List ℕ → Shape
member_shape Grammar key = grammar_key key
member_shape Rule key = rule_key key
member_shape Capture key = capture_key key
member_shape Captures key = if is_some (key_number key) then Capture else Ignored
member_shape Repository key = Rule
member_shape shape key = Ignored

-- what the item at a place ought to be
abbrev pub item_shape : Shape → ℕ → Shape
item_shape Patterns place = Rule
item_shape Captures place = if is_some (place_number place) then Capture else Ignored
item_shape shape place = Ignored

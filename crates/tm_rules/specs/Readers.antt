-- What a rule says, whatever its kind. What a kind of rule has not is none, and where there is no rule there is nothing.
use Rattle.std.specs.Prelude.{ℕ, List, [], Bool, true, false, Option, Some, None}
use Rattle.tm_defs.specs.declared.rules.Capture.{Capture}
use Rattle.tm_defs.specs.declared.rules.Rule.{Rule}
use Rattle.tm_defs.specs.declared.rules.Rule.TheVariants as R

-- the scope of its grammar
abbrev pub grammar_in : Rule → List ℕ
grammar_in (R.Match grammar path name content_name match_text captures) = grammar
grammar_in (R.BeginEnd grammar path name content_name patterns begin end_text end_last begin_captures end_captures) = grammar
grammar_in (R.BeginWhile grammar path name content_name patterns begin while_text begin_captures while_captures) = grammar
grammar_in (R.Only grammar path name content_name patterns) = grammar

-- the JSON Pointer of the rule in its grammar's file
abbrev pub path_in : Rule → List ℕ
path_in (R.Match grammar path name content_name match_text captures) = path
path_in (R.BeginEnd grammar path name content_name patterns begin end_text end_last begin_captures end_captures) = path
path_in (R.BeginWhile grammar path name content_name patterns begin while_text begin_captures while_captures) = path
path_in (R.Only grammar path name content_name patterns) = path

-- an include-only rule
abbrev pub is_only : Option Rule → Bool
is_only (Some (R.Only grammar path name content_name patterns)) = true
is_only rule = false

-- the name of a rule that matches or begins, and that of what is inside it
abbrev pub name_in : Option Rule → Option (List ℕ)
name_in (Some (R.Match grammar path name content_name match_text captures)) = name
name_in (Some (R.BeginEnd grammar path name content_name patterns begin end_text end_last begin_captures end_captures)) = name
name_in (Some (R.BeginWhile grammar path name content_name patterns begin while_text begin_captures while_captures)) = name
name_in rule = None

abbrev pub content_name_in : Option Rule → Option (List ℕ)
content_name_in (Some (R.BeginEnd grammar path name content_name patterns begin end_text end_last begin_captures end_captures)) = content_name
content_name_in (Some (R.BeginWhile grammar path name content_name patterns begin while_text begin_captures while_captures)) = content_name
content_name_in rule = None

-- the rules that it lists
abbrev pub patterns_of : Option Rule → List ℕ
patterns_of (Some (R.Only grammar path name content_name patterns)) = patterns
patterns_of (Some (R.BeginEnd grammar path name content_name patterns begin end_text end_last begin_captures end_captures)) = patterns
patterns_of (Some (R.BeginWhile grammar path name content_name patterns begin while_text begin_captures while_captures)) = patterns
patterns_of rule = []

-- the texts of its patterns, as they stand in the grammar
abbrev pub own_match : Option Rule → Option (List ℕ)
own_match (Some (R.Match grammar path name content_name match_text captures)) = Some match_text
own_match rule = None

abbrev pub own_begin : Option Rule → Option (List ℕ)
own_begin (Some (R.BeginEnd grammar path name content_name patterns begin end_text end_last begin_captures end_captures)) = Some begin
own_begin (Some (R.BeginWhile grammar path name content_name patterns begin while_text begin_captures while_captures)) = Some begin
own_begin rule = None

abbrev pub own_end : Option Rule → Option (List ℕ)
own_end (Some (R.BeginEnd grammar path name content_name patterns begin end_text end_last begin_captures end_captures)) = end_text
own_end rule = None

abbrev pub own_while : Option Rule → Option (List ℕ)
own_while (Some (R.BeginWhile grammar path name content_name patterns begin while_text begin_captures while_captures)) = Some while_text
own_while rule = None

-- the text of the pattern that starts it; a list of rules has none
abbrev pub start_text : Option Rule → Option (List ℕ)
start_text (Some (R.Match grammar path name content_name match_text captures)) = Some match_text
start_text (Some (R.BeginEnd grammar path name content_name patterns begin end_text end_last begin_captures end_captures)) = Some begin
start_text (Some (R.BeginWhile grammar path name content_name patterns begin while_text begin_captures while_captures)) = Some begin
start_text rule = None

-- whether the end of a begin/end rule is tried last
abbrev pub end_last_in : Option Rule → Option Bool
end_last_in (Some (R.BeginEnd grammar path name content_name patterns begin end_text end_last begin_captures end_captures)) = Some end_last
end_last_in rule = None

-- what is done with the groups of its patterns
abbrev pub captures_at_match : Option Rule → List Capture
captures_at_match (Some (R.Match grammar path name content_name match_text captures)) = captures
captures_at_match rule = []

abbrev pub captures_at_begin : Option Rule → List Capture
captures_at_begin (Some (R.BeginEnd grammar path name content_name patterns begin end_text end_last begin_captures end_captures)) = begin_captures
captures_at_begin (Some (R.BeginWhile grammar path name content_name patterns begin while_text begin_captures while_captures)) = begin_captures
captures_at_begin rule = []

abbrev pub captures_at_end : Option Rule → List Capture
captures_at_end (Some (R.BeginEnd grammar path name content_name patterns begin end_text end_last begin_captures end_captures)) = end_captures
captures_at_end rule = []

abbrev pub captures_at_while : Option Rule → List Capture
captures_at_while (Some (R.BeginWhile grammar path name content_name patterns begin while_text begin_captures while_captures)) = while_captures
captures_at_while rule = []

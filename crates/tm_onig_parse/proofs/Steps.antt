-- Steps of the program are steps of the reading.
use Rattle.std.proofs.Common.{◌≡◌, List, [], ◌∷◌, ◌++◌, map, length, Option, Some, None, Result, Ok, Err, refl, ap, option_map, arith}
use Rattle.std.proofs.lemmas.List.{map-append}
use Rattle.tm_onig_parse.specs.Meaning.{Built}
use Rattle.tm_onig_parse.specs.declared.part.Part.{Part}
use Rattle.tm_onig_parse.specs.inner.Reading.{State, Level, change_last}
use Rattle.tm_onig_parse.specs.inner.Views.{Fails, Steps, built_of}
use Rattle.tm_onig_parse.specs.declared.ParseFault.{ParseFault}
use Rattle.tm_onig_parse.specs.declared.ParseFault.TheVariants.{Unreadable, OutOfMemory}
use Rattle.tm_onig_parse.proofs.Structure.{change_last-snoc}

-- a step on a part of the state is one on the state
pub steps_over : {X Y : Type 0} (f : X → Y) (r : Result Unit ParseFault) (x : X) (o : Option X) → Steps r x o → Steps r (f x) (option_map f o)
steps_over f (Ok done) x o e = ap (option_map f) e
steps_over f (Err Unreadable) x o e = ap (option_map f) e
steps_over f (Err OutOfMemory) x o e = tt

-- the state with another top
abbrev pub with_top : State → Level → State
with_top s top = record { outer = s.outer; top = top; opened = s.opened }

-- the state with another last row
abbrev pub with_top_row : State → List Built → State
with_top_row s row = record { outer = s.outer; top = record { opener = s.top.opener; number = s.top.number; options = s.top.options; done = s.top.done; row = row }; opened = s.opened }

-- nothing before the quantifier
pub no_last : (f : Built → Option Built) (parts : List Part) → length parts ≡ 0 → change_last f (map built_of parts) ≡ None
unfolding change_last
no_last f [] e = refl
no_last f (p ∷ ps) e = absurd (omega arith)

-- the last part is what is changed
last_is : (f : Built → Option Built) (olds news : List Part) (part : Part) → olds ≡ news ++ part ∷ [] →
    change_last f (map built_of olds) ≡ option_map (λ u. map built_of news ++ u ∷ []) (f (built_of part))
last_is f olds news part is = rw (is, map-append, change_last-snoc) refl

-- the last part was changed
pub last_changed : (f : Built → Option Built) (olds news : List Part) (part whole : Part) → olds ≡ news ++ part ∷ [] → f (built_of part) ≡ Some (built_of whole) →
    change_last f (map built_of olds) ≡ Some (map built_of news ++ built_of whole ∷ [])
last_changed f olds news part whole is made = rw (last_is f olds news part is, made) refl

-- the last part could not be
pub last_fails : (fault : ParseFault) (f : Built → Option Built) (olds news : List Part) (part : Part) → olds ≡ news ++ part ∷ [] → Fails fault (f (built_of part)) →
    Fails fault (change_last f (map built_of olds))
last_fails Unreadable f olds news part is e = rw (last_is f olds news part is, e) refl
last_fails OutOfMemory f olds news part is e = tt

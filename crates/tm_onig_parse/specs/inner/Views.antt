-- What the program's values stand for.
use Rattle.std.specs.Prelude.{◌≡◌, ℕ, List, map, reverse, Option, Some, None, option_map, Vec, Result, Ok, Err}
use Rattle.std.specs.declared.alloc.Global.{Global}
use Rattle.tm_onig_class.specs.Tree.{tree_of}
use Rattle.tm_onig_atom.specs.declared.fault.AtomFault.{AtomFault}
use Rattle.tm_onig_atom.specs.declared.fault.AtomFault.TheVariants as A
use Rattle.tm_onig_parse.specs.Meaning.{Built}
use Rattle.tm_onig_parse.specs.inner.Reading.{Sym, Means, Open, Switches, Close, Or, Repeats, Skips, Level, State, Outline}
use Rattle.tm_onig_parse.specs.declared.ParseFault.{ParseFault}
use Rattle.tm_onig_parse.specs.declared.ParseFault.TheVariants.{Unreadable, OutOfMemory}
use Rattle.tm_onig_parse.specs.declared.tokens.Token.{Token}
use Rattle.tm_onig_parse.specs.declared.tokens.Token.TheVariants as T
use Rattle.tm_onig_parse.specs.declared.part.Part.{Part}
use Rattle.tm_onig_parse.specs.declared.groups.Frame.{Frame}
use Rattle.tm_onig_parse.specs.declared.reader.Reader.{Reader}
use Rattle.tm_onig_parse.specs.declared.names.GroupNames.{GroupNames}
use Rattle.tm_onig_parse.specs.declared.names.GroupNames.TheVariants as N
use Rattle.tm_onig_parse.specs.declared.outlines.Outlines.{Outlines}
use Rattle.tm_onig_parse.specs.Names.{Names}

-- It fails as reading fails, unless memory ran out.
abbrev pub Fails : {Y : Type 0} → ParseFault → Option Y → Type 0
Fails Unreadable read = read ≡ None
Fails OutOfMemory read = Unit {0}

-- It is what reading gives, unless memory ran out.
abbrev pub Gives : {X Y : Type 0} → (X → Y) → Result X ParseFault → Option Y → Type 0
Gives view (Ok x) read = read ≡ Some (view x)
Gives view (Err fault) read = Fails fault read

-- A step went as the reading goes, unless memory ran out.
abbrev pub Steps : {X : Type 0} → Result Unit ParseFault → X → Option X → Type 0
Steps (Ok done) new read = read ≡ Some new
Steps (Err fault) new read = Fails fault read

-- The same fault.
abbrev pub FaultOf : AtomFault → ParseFault → Type 0
FaultOf A.Unreadable fault = fault ≡ Unreadable
FaultOf A.OutOfMemory fault = fault ≡ OutOfMemory

-- what a part stands for
abbrev pub built_of : Part → Built
built_of p = record { tree = tree_of p.pattern; height = p.height; repeated = p.repeated }

-- a group's name, if it has one
abbrev pub name_of_chars : Option (Vec ℕ Global) → Option (List ℕ)
name_of_chars = option_map (λ v. v.items)

-- the groups, where they are known
abbrev pub names_known : GroupNames → Option Names
names_known N.Unread = None
names_known (N.Read names) = Some (map name_of_chars names.items)

-- what a token stands for
abbrev pub sym_of_token : Token → Sym
sym_of_token (T.Means part) = Means (built_of part)
sym_of_token (T.Open opener name options) = Open opener (name_of_chars name) options
sym_of_token (T.Switches options) = Switches options
sym_of_token T.Close = Close
sym_of_token T.Or = Or
sym_of_token (T.Repeats least greatest manner) = Repeats least greatest manner
sym_of_token T.Skips = Skips

-- what a frame stands for
abbrev pub level_of_frame : Frame → Level
level_of_frame f = record { opener = f.opener; number = f.number; options = f.options; done = map built_of f.done.items; row = map built_of f.row.items }

-- what the frames stand for, of which the nearest is the last
abbrev pub levels_of : List Frame → List Level
levels_of frames = reverse (map level_of_frame frames)

-- what a reader stands for
abbrev pub state_of_reader : Reader → State
state_of_reader r = record { outer = levels_of r.outer.items; top = level_of_frame r.top; opened = r.opened }

-- what is known of a text's groups so far
abbrev pub outline_of : Outlines → Outline
outline_of r = record { outer = reverse r.outer.items; top = r.top; names = map name_of_chars r.names.items }

-- What a selector says, by its tokens, and the paths of scopes that it matches.
--
-- Its tokens are read from the last one to the first, so that a group is whole where it begins and a `-` stands before
-- what it turns.
use Rattle.std.specs.Prelude.{ℕ, ℤ, pos, negsuc, Bool, true, false, not, ◌&&◌, ◌||◌, List, [], ◌∷◌, Option, Some, None, option_map}
use Rattle.tm_selector.specs.declared.tokens.Sign.TheVariants.{Left, Right, Minus, Open, Close, Bar, Comma}
use Rattle.tm_selector.specs.declared.tokens.Token.{Token}
use Rattle.tm_selector.specs.declared.tokens.Token.TheVariants.{Word, Mark}
use Rattle.tm_selector.specs.declared.walk.Side.{Side}
use Rattle.tm_selector.specs.declared.walk.Side.TheVariants.{Before, Plain, After}
use Rattle.tm_selector.specs.Names.{is_path_of}

mutual
  -- a path of names, what must not match, or a group of which one must match
  pub data Operand : Type 0 where
    path : List (List ℕ) → Operand
    turned : Operand → Operand
    group : Choices → Operand

  -- operands that must all match
  pub data Operands : Type 0 where
    no_operands : Operands
    operand : Operand → Operands → Operands

  pub data Choices : Type 0 where
    no_choices : Choices
    choice : Operands → Choices → Choices

-- the operands with the side that they ask for
pub record Alternative : Type 0 where
  pub side : Side
  pub operands : Operands

-- a group that is read: the operands of the present choice, and the choices behind it
pub record Level : Type 0 where
  pub now : Operands
  pub later : Choices

abbrev pub fresh : Level
fresh = record { now = no_operands; later = no_choices }

-- what is read of a selector: the innermost open group, those around it, the side, and the alternatives behind
pub record Reading : Type 0 where
  pub level : Level
  pub outer : List Level
  pub side : Side
  pub done : List Alternative

-- one more name before the operands: of the path that they begin with, or a path of its own
abbrev pub with_name : List ℕ → Operands → Operands
with_name name (operand (path names) more) = operand (path (name ∷ names)) more
with_name name operands = operand (path (name ∷ [])) operands

-- a `-` before the operands
abbrev pub with_minus : Operands → Operands
with_minus no_operands = operand (turned (path [])) no_operands
with_minus (operand first more) = operand (turned first) more

abbrev pub all_of : Level → Choices
all_of level = choice level.now level.later

-- a level with the group that a level is before its operands
abbrev pub with_group : Level → Level → Level
with_group inner level = record level { now = operand (group (all_of inner)) level.now }

-- one more choice before those of a level
abbrev pub with_choice : Level → Level
with_choice level = record { now = no_operands; later = all_of level }

abbrev pub put_name : List ℕ → Reading → Reading
put_name name r = record r { level = record r.level { now = with_name name r.level.now } }

abbrev pub put_minus : Reading → Reading
put_minus r = record r { level = record r.level { now = with_minus r.level.now } }

abbrev pub put_close : Reading → Reading
put_close r = record r { level = fresh; outer = r.level ∷ r.outer }

abbrev pub opened : Level → List Level → Reading → Reading
opened inner [] r = record r { level = with_group inner fresh; outer = [] }
opened inner (level ∷ outer) r = record r { level = with_group inner level; outer = outer }

abbrev pub put_open : Reading → Reading
put_open r = opened r.level r.outer r

abbrev pub bar_inside : List Level → Reading → Reading
bar_inside [] r = r
bar_inside (level ∷ outer) r = record r { level = with_choice r.level }

abbrev pub put_bar : Reading → Reading
put_bar r = bar_inside r.outer r

-- the alternatives with the one that is read
abbrev pub alternatives_by : List Level → Reading → List Alternative
alternatives_by [] r = record { side = r.side; operands = r.level.now } ∷ r.done
alternatives_by (level ∷ outer) r = r.done

abbrev pub alternatives : Reading → List Alternative
alternatives r = alternatives_by r.outer r

abbrev pub comma_inside : List Level → Reading → Reading
comma_inside [] r = record { level = fresh; outer = []; side = Plain; done = alternatives r }
comma_inside (level ∷ outer) r = record r { level = with_choice r.level }

abbrev pub put_comma : Reading → Reading
put_comma r = comma_inside r.outer r

-- one more token before what is read
abbrev pub put : Token → Reading → Reading
put (Word name) r = put_name name r
put (Mark Left) r = record r { side = Before }
put (Mark Right) r = record r { side = After }
put (Mark Minus) r = put_minus r
put (Mark Open) r = put_open r
put (Mark Close) r = put_close r
put (Mark Bar) r = put_bar r
put (Mark Comma) r = put_comma r

abbrev pub nothing_read : Reading
nothing_read = record { level = fresh; outer = []; side = Plain; done = [] }

abbrev pub reading : List Token → Reading
reading [] = nothing_read
reading (token ∷ tokens) = put token (reading tokens)

-- the alternatives of a selector
abbrev pub alternatives_of : List Token → List Alternative
alternatives_of [] = []
alternatives_of (token ∷ tokens) = alternatives (reading (token ∷ tokens))

abbrev mutual
  pub operand_matches : Operand → List (List ℕ) → Bool
  operand_matches (path names) scopes = is_path_of names scopes
  operand_matches (turned first) scopes = not (operand_matches first scopes)
  operand_matches (group choices) scopes = some_match choices scopes

  pub all_match : Operands → List (List ℕ) → Bool
  all_match no_operands scopes = true
  all_match (operand first more) scopes = operand_matches first scopes && all_match more scopes

  pub some_match : Choices → List (List ℕ) → Bool
  some_match no_choices scopes = false
  some_match (choice operands more) scopes = all_match operands scopes || some_match more scopes

-- the lesser of a side and perhaps another: `L:` is before none, and none is before `R:`
abbrev pub lesser : Side → Option Side → Side
lesser side None = side
lesser Before other = Before
lesser Plain (Some Before) = Before
lesser Plain other = Plain
lesser After (Some other) = other

abbrev pub least_with : Bool → Side → Option Side → Option Side
least_with true side other = Some (lesser side other)
least_with false side other = other

-- the least side among the alternatives that match
abbrev pub least_side : List Alternative → List (List ℕ) → Option Side
least_side [] scopes = None
least_side (alternative ∷ more) scopes = least_with (all_match alternative.operands scopes) alternative.side (least_side more scopes)

abbrev pub priority : Side → ℤ
priority Before = negsuc 0
priority Plain = pos 0
priority After = pos 1

-- the least priority among the alternatives that match the path of scopes; none where none matches
abbrev pub priority_of : List Token → List (List ℕ) → Option ℤ
priority_of tokens scopes = option_map priority (least_side (alternatives_of tokens) scopes)

-- The walk over a selector's tokens, from the last to the first: a mirror of the code, for its proof.
use Rattle.std.specs.Prelude.{ℕ, zero, suc, ◌+◌, ◌-◌, ◌<◌, ⊤, Bool, true, false, not, List, [], ◌∷◌, length, Option, None, is_some, option_and_then}
use Rattle.tm_selector.specs.declared.tokens.Sign.TheVariants.{Left, Right, Minus, Open, Close, Bar, Comma}
use Rattle.tm_selector.specs.declared.tokens.Token.{Token}
use Rattle.tm_selector.specs.declared.tokens.Token.TheVariants.{Word, Mark}
use Rattle.tm_selector.specs.declared.walk.Side.{Side}
use Rattle.tm_selector.specs.declared.walk.Side.TheVariants.{Before, Plain, After}
use Rattle.tm_selector.specs.declared.walk.Pending.{Pending}
use Rattle.tm_selector.specs.declared.walk.Pending.TheVariants.{Known, Path}
use Rattle.tm_selector.specs.declared.walk.Mode.{Mode}
use Rattle.tm_selector.specs.declared.walk.Mode.TheVariants.{Live, Failed, Passed}
use Rattle.tm_selector.specs.declared.walk.Walk.{Walk}
use Rattle.tm_selector.specs.Names.{place_above}
use Rattle.tm_selector.specs.Selector.{least_with}

abbrev pub pending_matches : Pending → Bool
pending_matches (Known matches) = matches
pending_matches (Path place) = is_some place

-- the mode behind one more name
abbrev pub named : List (List ℕ) → List ℕ → Mode → Mode
named scopes name (Live (Path place)) = Live (Path (option_and_then (place_above name scopes) place))
named scopes name (Live (Known true)) = Live (Path (place_above name scopes (length scopes)))
named scopes name (Live (Known false)) = Failed 0
named scopes name mode = mode

abbrev pub turned_mode : Mode → Mode
turned_mode (Live pending) = Live (Known (not (pending_matches pending)))
turned_mode mode = mode

abbrev pub into_group : Bool → Mode
into_group true = Live (Known true)
into_group false = Failed 1

abbrev pub closed_mode : Mode → Mode
closed_mode (Live pending) = into_group (pending_matches pending)
closed_mode (Failed between) = Failed (between + 1)
closed_mode (Passed between) = Passed (between + 1)

abbrev pub opened_mode : Mode → Mode
opened_mode (Live pending) = Live (Known (pending_matches pending))
opened_mode (Failed zero) = Live (Known false)
opened_mode (Failed (suc between)) = Failed between
opened_mode (Passed zero) = Live (Known true)
opened_mode (Passed (suc between)) = Passed between

abbrev pub next_choice : Bool → Mode
next_choice true = Passed 0
next_choice false = Live (Known true)

abbrev pub barred_mode : Mode → Mode
barred_mode (Live pending) = next_choice (pending_matches pending)
barred_mode (Failed zero) = Live (Known true)
barred_mode mode = mode

-- whether what is read as an alternative matches
abbrev pub mode_matches : Mode → Bool
mode_matches (Live pending) = pending_matches pending
mode_matches mode = false

-- the least side with that of the alternative that is read, where no group is open
abbrev pub least_by : ℕ → Walk → Option Side
least_by zero w = least_with (mode_matches w.mode) w.side w.least
least_by (suc n) w = w.least

abbrev pub ended : Walk → Option Side
ended w = least_by w.depth w

abbrev pub barred : ℕ → Walk → Walk
barred zero w = w
barred (suc n) w = record w { mode = barred_mode w.mode }

abbrev pub parted : ℕ → Walk → Walk
parted zero w = record { depth = 0; mode = Live (Known true); side = Plain; least = ended w }
parted (suc n) w = record w { mode = barred_mode w.mode }

-- the walk behind one more token
abbrev pub walked_on : List (List ℕ) → Token → Walk → Walk
walked_on scopes (Word name) w = record w { mode = named scopes name w.mode }
walked_on scopes (Mark Left) w = record w { side = Before }
walked_on scopes (Mark Right) w = record w { side = After }
walked_on scopes (Mark Minus) w = record w { mode = turned_mode w.mode }
walked_on scopes (Mark Open) w = record w { depth = w.depth - 1; mode = opened_mode w.mode }
walked_on scopes (Mark Close) w = record w { depth = w.depth + 1; mode = closed_mode w.mode }
walked_on scopes (Mark Bar) w = barred w.depth w
walked_on scopes (Mark Comma) w = parted w.depth w

abbrev pub at_rest : Walk
at_rest = record { depth = 0; mode = Live (Known true); side = Plain; least = None }

abbrev pub walked : List (List ℕ) → List Token → Walk
walked scopes [] = at_rest
walked scopes (token ∷ tokens) = walked_on scopes token (walked scopes tokens)

-- fewer groups than n stand between
abbrev pub IsBelow : ℕ → Mode → Type 0
IsBelow n (Live pending) = ⊤
IsBelow n (Failed between) = between < n
IsBelow n (Passed between) = between < n

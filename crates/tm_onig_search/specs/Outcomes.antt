-- What a search gives: its first success, if there is one, and what it costs.
use Rattle.std.specs.Prelude.{ℕ, suc, ◌+◌, Bool, true, false, List, Option, Some, None, if◌then◌else◌}

-- start and end of each group that is set, by number
abbrev pub Caps : Type 0
Caps = List (Option (ℕ × ℕ))

-- where a search succeeds
pub record Hit : Type 0 where
  pub end : ℕ
  pub caps : Caps

-- the first success, if there is one, and how many cases were entered
pub record Outcome : Type 0 where
  pub hit : Option Hit
  pub cost : ℕ

-- what follows: how the search goes on from a position with these captures
abbrev pub Rest : Type 0
Rest = ℕ → Caps → Outcome

-- no success, at no cost
abbrev pub fail : Outcome
fail = record { hit = None; cost = 0 }

-- a success here: no goal is left
abbrev pub accept : Rest
accept pos caps = record { hit = Some (record { end = pos; caps = caps }); cost = 1 }

-- n cases were entered before
abbrev pub spend : ℕ → Outcome → Outcome
spend n o = record { hit = o.hit; cost = n + o.cost }

-- one case is entered
abbrev pub tick : Outcome → Outcome
tick o = record { hit = o.hit; cost = suc o.cost }

abbrev pub or_else_at : Option Hit → ℕ → Outcome → Outcome
or_else_at (Some h) n b = record { hit = Some h; cost = n }
or_else_at None n b = spend n b

-- the first search, and if it fails the second
abbrev pub or_else : Outcome → Outcome → Outcome
or_else a b = or_else_at a.hit a.cost b

abbrev pub then_at : Option Hit → ℕ → Rest → Outcome
then_at None n k = record { hit = None; cost = n }
then_at (Some h) n k = spend n (k h.end h.caps)

-- a search alone, and then the rest from its success; it is not entered again
abbrev pub and_then : Outcome → Rest → Outcome
and_then o k = then_at o.hit o.cost k

abbrev pub if_none : Option Hit → Outcome → Outcome
if_none None b = b
if_none (Some h) b = fail

-- the rest, where a search alone failed
abbrev pub unless : Outcome → Outcome → Outcome
unless o b = spend o.cost (if_none o.hit b)

-- A look whose body alone gave o. Positive: the rest from here with the body's captures. Negative:
-- the rest with the captures of before.
abbrev pub looked : Bool → Outcome → Rest → Rest
looked false o k pos caps = and_then o (λ at cs. k pos cs)
looked true o k pos caps = unless o (k pos caps)

abbrev pub prefer : Bool → Outcome → Outcome → Outcome
prefer greedy round leave = if greedy then or_else round leave else or_else leave round

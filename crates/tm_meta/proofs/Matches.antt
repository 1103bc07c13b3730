-- Facts on what an `Option` has, one from the other.
use Rattle.std.specs.Prelude.{Option, Some, None, MatchOption}

pub match-map : {X : Type 0} {P P' : Type 0} {Q Q' : X → Type 0} (o : Option X) → (P → P') → ((x : X) → Q x → Q' x) → MatchOption o P Q → MatchOption o P' Q'
match-map None f g h = f h
match-map (Some x) f g h = g x h

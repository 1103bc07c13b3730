-- What numbered states stand for.
use Rattle.std.specs.Prelude.{◌≡◌, ◌≤◌, List, [], ◌∷◌}
use Rattle.std.specs.List.{AllByRecursion}
use Rattle.tm_defs.specs.declared.frames.FrameData.{FrameData}
use Rattle.tm_defs.specs.Tables.{Tables, NoneTwice, frame_at, IsFrameOf}
use Rattle.tm_scope.specs.Links.{resolved, LeadBack}
use Rattle.tm_scope.specs.Numbered.{NumberedValues, taken}
use Rattle.tm_state.specs.declared.states.FrameLink.{FrameLink}

-- the states, of which the opening one has number 0
abbrev pub states_of : Tables → List FrameLink → List (List FrameData)
states_of t links = resolved (λ link. frame_at t link.frame) (λ link. link.rest.0) ([] ∷ []) links

-- texts and scope lists with these states
abbrev pub tables_of : Tables → List FrameLink → Tables
tables_of t links = record t { states = states_of t links }

-- the numbers in the links are in range, and no state has two numbers
pub record AreStates (t : Tables) (links : NumberedValues FrameLink) : Type 0 where
  pub first : links.first ≡ 1
  pub back : LeadBack (λ link. link.rest.0) 1 links.values
  pub frames : AllByRecursion (λ link. IsFrameOf t link.frame) links.values
  pub once : NoneTwice (states_of t links.values)
  pub within : taken links ≤ t.limit

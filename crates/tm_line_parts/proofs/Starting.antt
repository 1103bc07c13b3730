-- The place at which a line starts.
use Rattle.std.proofs.Common.{◌≡◌, ◌++◌, List, [], map, reverse, ap, ◌∙◌}
use Rattle.std.proofs.lemmas.Option.{get_or_from_slice_get}
use Rattle.tm_defs.specs.Tables.{Tables, IsNumbering, path_at, state_at}
use Rattle.tm_line_turns.specs.LineRun.{earlier}
use Rattle.tm_line_parts.specs.Stacks.{opens}
use Rattle.tm_line_parts.specs.declared.stack.OpenFrame.{OpenFrame}

-- what a place of the root has
pub empty-is : (t : Tables) → IsNumbering t → path_at t (record { 0 = 0 }) ≡ []
empty-is t h = get_or_from_slice_get t.paths 0 [] [] h.empty_path

pub opening-is : (t : Tables) → IsNumbering t → state_at t (record { 0 = 0 }) ≡ []
opening-is t h = get_or_from_slice_get t.states 0 [] [] h.opening

-- nothing is below the root
pub opening-below : (u : Tables) (below : List OpenFrame) → IsNumbering u → below ≡ [] → opens u below ++ map earlier (reverse (state_at u (record { 0 = 0 }))) ≡ []
opening-below u below h e = ap (λ b. opens u b ++ map earlier (reverse (state_at u (record { 0 = 0 })))) e ∙ ap (λ s. map earlier (reverse s)) (opening-is u h)

-- The open rules of a line, by number.
use Rattle.std.specs.Prelude.{◌≡◌, ◌<◌, List, [], ◌∷◌, ◌++◌, length, map, reverse, false}
use Rattle.std.specs.List.{AllByRecursion}
use Rattle.tm_defs.specs.Tables.{Tables, IsFrameOf, frame_at, state_at}
use Rattle.tm_defs.specs.declared.frames.Frame.{Frame}
use Rattle.tm_defs.specs.declared.frames.FrameData.{FrameData}
use Rattle.tm_line_turns.specs.Line.{resumed, start_anchor}
use Rattle.tm_line_turns.specs.LineRun.{Open, Place, earlier}
use Rattle.tm_line_parts.specs.declared.stack.OpenFrame.{OpenFrame}
use Rattle.tm_line_parts.specs.declared.stack.Stack.{Stack}
use Rattle.tm_line_parts.specs.declared.stack.Way.{Way}

abbrev pub open_at : Tables → OpenFrame → Open
open_at t o = record { frame = frame_at t o.frame; entry = o.entry }

-- the innermost is the last in the vector, and the first in the list
abbrev pub opens : Tables → List OpenFrame → List Open
opens t frames = map (open_at t) (reverse frames)

abbrev pub below_at : Tables → Stack → List Open
below_at t s = opens t s.below.items ++ map earlier (reverse (state_at t s.base))

abbrev pub stack_at : Tables → Stack → List Open
stack_at t s = open_at t s.top ∷ below_at t s

abbrev pub place_at : Tables → Way → Place
place_at t w = record { top = open_at t w.stack.top; below = below_at t w.stack; at = w.at; anchor = w.anchor; first = w.first }

abbrev pub AreFrames : Tables → List OpenFrame → Type 0
AreFrames t frames = AllByRecursion (λ o. IsFrameOf t o.frame) frames

-- its numbers are in range, and `deep` counts the frames of the base
pub record IsStack (t : Tables) (s : Stack) : Type 0 where
  pub top : IsFrameOf t s.top.frame
  pub below : AreFrames t s.below.items
  pub base : s.base.0 < length t.states
  pub deep : s.deep ≡ length (state_at t s.base)

-- the way stands there, over such a stack
pub record Stands (t : Tables) (p : Place) (w : Way) : Type 0 where
  pub stack : IsStack t w.stack
  pub place : place_at t w ≡ p

-- frames alone, the innermost first in the vector, and the last in the list
abbrev pub frames_at : Tables → List Frame → List FrameData
frames_at t frames = map (frame_at t) (reverse frames)

abbrev pub AreNumbers : Tables → List Frame → Type 0
AreNumbers t frames = AllByRecursion (IsFrameOf t) frames

-- the start of a line in a frame of an earlier line, over the frames below it
abbrev pub resumed_over : FrameData → List FrameData → Place
resumed_over frame below = resumed (frame ∷ reverse below) (start_anchor (frame ∷ [])) false

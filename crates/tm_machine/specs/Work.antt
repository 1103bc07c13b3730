-- How many lines a change of a settled text gives to do.
use Rattle.std.specs.Prelude.{ℕ, suc, ◌+◌, List, [], ◌∷◌, drop, if◌then◌else◌}
use Rattle.tm_defs.specs.declared.changes.Change.{Change}
use Rattle.tm_defs.specs.declared.changes.LineEffect.{LineEffect}
use Rattle.tm_defs.specs.declared.frames.FrameData.{FrameData}
use Rattle.tm_machine.specs.Changes.{effect_of, new_lines}
use Rattle.tm_machine.specs.Scratch.{Tokenizing, state_from, state_from_scratch}
use Rattle.tm_machine.specs.States.{same_state}

-- the number of these lines before which the states differ, where the first of them begins in a and in b
abbrev pub differing : Tokenizing → (a b : List FrameData) → List (List ℕ) → ℕ
differing k a b [] = 0
differing k a b (line ∷ lines) =
    let rest : ℕ = differing k (k.tokenized a line).end (k.tokenized b line).end lines in
    if same_state a b then rest else suc rest

-- the new lines, and the later lines before which the state from scratch is another one in the new text
abbrev pub work : Tokenizing → List (List ℕ) → Change → ℕ
work k lines c =
    let e : LineEffect = effect_of lines c in
    let s : List FrameData = state_from_scratch k lines e.first in
    e.new + differing k (state_from k s (drop e.first lines) e.old) (state_from k s (new_lines lines c) e.new) (drop e.old (drop e.first lines))

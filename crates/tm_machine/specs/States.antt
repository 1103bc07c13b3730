-- Whether two states are equal: they are where all frames agree in all five parts.
use Rattle.std.specs.Prelude.{ℕ, Bool, true, false, ◌&&◌, not, nat_eq, List, [], ◌∷◌, Option, Some, None}
use Rattle.tm_defs.specs.declared.frames.FrameData.{FrameData}

abbrev pub same_list : {X : Type 0} → (X → X → Bool) → List X → List X → Bool
same_list same [] [] = true
same_list same [] (y ∷ ys) = false
same_list same (x ∷ xs) [] = false
same_list same (x ∷ xs) (y ∷ ys) = same x y && same_list same xs ys

abbrev pub same_option : {X : Type 0} → (X → X → Bool) → Option X → Option X → Bool
same_option same None None = true
same_option same None (Some y) = false
same_option same (Some x) None = false
same_option same (Some x) (Some y) = same x y

abbrev pub same_flag : Bool → Bool → Bool
same_flag true b = b
same_flag false b = not b

abbrev pub same_text : List ℕ → List ℕ → Bool
same_text a b = same_list nat_eq a b

abbrev pub same_path : List (List ℕ) → List (List ℕ) → Bool
same_path a b = same_list same_text a b

abbrev pub same_frame : FrameData → FrameData → Bool
same_frame f g = nat_eq f.rule g.rule && (same_option same_text f.end g.end && (same_path f.names g.names && (same_path f.contents g.contents && same_flag f.at_eol g.at_eol)))

abbrev pub same_state : List FrameData → List FrameData → Bool
same_state a b = same_list same_frame a b

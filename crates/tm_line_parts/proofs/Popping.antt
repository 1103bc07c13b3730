-- The open rules without the innermost.
use Rattle.std.proofs.Common.{◌≡◌, List, [], ◌∷◌, true, false, refl, subst}
use Rattle.tm_line_turns.specs.LineRun.{Open, popped, popped_contents, some_open}

pub popped-some : (top : Open) (below : List Open) → some_open below ≡ true → popped top below ≡ below
popped-some top [] some = absurd cc
popped-some top (x ∷ xs) some = refl

pub popped-none : (top : Open) (below : List Open) → some_open below ≡ false → popped top below ≡ top ∷ below
popped-none top [] none = refl
popped-none top (x ∷ xs) none = absurd cc

pub contents-none : (top : Open) (below : List Open) → some_open below ≡ false → popped_contents top below ≡ top.frame.contents
contents-none top [] none = refl
contents-none top (x ∷ xs) none = absurd cc

pub contents-some : (top o : Open) (os below : List Open) → o ∷ os ≡ below → popped_contents top below ≡ o.frame.contents
contents-some top o os below e = let P : List Open → Type 0 = λ l. popped_contents top l ≡ o.frame.contents in subst P e refl

-- what a stack gives by its innermost rule and the others
abbrev pub of_stack : {X : Type 0} → (Open → List Open → X) → X → List Open → X
of_stack f d [] = d
of_stack f d (x ∷ xs) = f x xs

abbrev pub rest_of : List Open → List Open
rest_of [] = []
rest_of (x ∷ xs) = xs

-- Whether a rule is open around the innermost, and which are near.
use Rattle.std.proofs.Common.{◌≡◌, ℕ, ◌<◌, ◌++◌, List, [], ◌∷◌, length, map, reverse, Some, Bool, true, false, not, nat_eq, cond, eqb-true, refl, ap, sym, ◌∙◌, get_or, arith}
use Rattle.std.specs.Prelude.{slice_get, ◌||◌, ◌==◌}
use Rattle.std.proofs.lemmas.List.{reverse-append}
use Rattle.std.proofs.lemmas.Option.{slice_get-get_or, get_or_from_slice_get}
use Rattle.std.proofs.lemmas.Bool.{eqb-false}
use Rattle.tm_defs.specs.declared.frames.FrameData.{FrameData}
use Rattle.tm_defs.specs.declared.frames.StateId.{StateId}
use Rattle.tm_defs.specs.Tables.{Tables, IsNumbering, state_at}
use Rattle.tm_line_turns.specs.LineRun.{Open, earlier, is_at, near, has, some_open}
use Rattle.tm_line_parts.specs.declared.stack.OpenFrame.{OpenFrame}
use Rattle.tm_line_parts.specs.declared.stack.Stack.{Stack}
use Rattle.tm_line_parts.specs.Stacks.{open_at, opens, below_at, stack_at}
use Rattle.tm_line_parts.proofs.StacksGrown.{map-push}

some-push : (xs : List Open) (x : Open) (ys : List Open) → some_open ((xs ++ x ∷ []) ++ ys) ≡ true
some-push [] x ys = refl
some-push (y ∷ zs) x ys = refl

some-end : (xs : List Open) (x : Open) → some_open (xs ++ x ∷ []) ≡ true
some-end [] x = refl
some-end (y ∷ zs) x = refl

opens-first : (t : Tables) (o : OpenFrame) (os : List OpenFrame) → opens t (o ∷ os) ≡ opens t os ++ open_at t o ∷ []
opens-first t o os = ap (map (open_at t)) (reverse-append (o ∷ []) os) ∙ map-push (open_at t) (reverse os) o

pub above-some : (t : Tables) (os : List OpenFrame) (rest : List Open) → 0 < length os → true ≡ some_open (opens t os ++ rest)
above-some t [] rest lt = absurd (omega arith)
above-some t (o ∷ os) rest lt = sym (ap (λ l. some_open (l ++ rest)) (opens-first t o os) ∙ some-push (opens t os) (open_at t o) rest)

stands : (t : Tables) (id : StateId) (stack : List FrameData) → id.0 < length t.states → state_at t id ≡ stack → slice_get t.states id.0 ≡ Some stack
stands t id stack lt e = slice_get-get_or t.states id.0 [] lt ∙ ap Some e

pub base-some : (t : Tables) (id : StateId) → IsNumbering t → id.0 < length t.states → not (nat_eq id.0 0) ≡ some_open (map earlier (reverse (state_at t id)))
base-some t id h lt = go (nat_eq id.0 0) refl (state_at t id) refl
  where
    go : (b : Bool) → nat_eq id.0 0 ≡ b → (s : List FrameData) → state_at t id ≡ s → not b ≡ some_open (map earlier (reverse s))
    go true e s is =
        let zero_is : id.0 ≡ 0 = eqb-true id.0 0 e in
        let nothing : s ≡ [] = sym is ∙ ap (λ n. get_or t.states n []) zero_is ∙ get_or_from_slice_get t.states 0 [] [] h.opening in
        sym (ap (λ l. some_open (map earlier (reverse l))) nothing)
    go false e [] is = absurd (eqb-false id.0 0 e (h.states_once id.0 0 [] (stands t id [] lt is) h.opening))
    go false e (x ∷ xs) is = sym (ap (λ l. some_open (map earlier l)) (reverse-append (x ∷ []) xs) ∙ ap some_open (map-push earlier (reverse xs) x) ∙ some-end (map earlier (reverse xs)) (earlier x))

none-above : (t : Tables) (os : List OpenFrame) (rest : List Open) → (0 < length os → ⊥) → opens t os ++ rest ≡ rest
none-above t [] rest h = refl
none-above t (o ∷ os) rest h = absurd (h (omega arith))

pub below-some : (t : Tables) (s : Stack) → IsNumbering t → s.base.0 < length t.states → (0 < length s.below.items → ⊥) → not (nat_eq s.base.0 0) ≡ some_open (below_at t s)
below-some t s h lt none = base-some t s.base h lt ∙ sym (ap some_open (none-above t s.below.items (map earlier (reverse (state_at t s.base))) none))

-- rules of earlier lines are not near
near-earlier : (at : ℕ) (fs : List FrameData) → near at (map earlier fs) ≡ []
near-earlier at [] = refl
near-earlier at (f ∷ fs) = refl

near-above : (at : ℕ) (xs : List Open) (fs : List FrameData) → near at (xs ++ map earlier fs) ≡ near at xs
near-above at [] fs = near-earlier at fs
near-above at (x ∷ xs) fs = ap (λ l. cond (is_at x.entry at) (x.frame.rule ∷ l) []) (near-above at xs fs)

pub near-below : (t : Tables) (s : Stack) (at rule : ℕ) → has (near at (below_at t s)) rule ≡ has (near at (opens t s.below.items)) rule
near-below t s at rule = ap (λ l. has l rule) (near-above at (opens t s.below.items) (reverse (state_at t s.base)))

-- the innermost rule was opened here, and is another
pub near-stack : (t : Tables) (s : Stack) (at rule : ℕ) (b : Bool) → is_at s.top.entry at ≡ true → (s.top.frame.rule ≡ rule → ⊥) → b ≡ has (near at (opens t s.below.items)) rule → b ≡ has (near at (stack_at t s)) rule
near-stack t s at rule b opened other is =
    is ∙ sym (near-below t s at rule) ∙ ap (λ x. x || has (near at (below_at t s)) rule) (sym (differs (s.top.frame.rule) rule other))
    ∙ sym (ap (λ x. has (cond x (s.top.frame.rule ∷ near at (below_at t s)) []) rule) opened)
  where
    differs : (a b : ℕ) → (a ≡ b → ⊥) → (a == b) ≡ false
    differs a b h = go (a == b) refl
      where
        go : (x : Bool) → (a == b) ≡ x → (a == b) ≡ false
        go true e = absurd (h (eqb-true a b e))
        go false e = e

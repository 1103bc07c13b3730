-- A state behind another way to say it.
use Rattle.std.proofs.Common.{◌≡◌, ◌++◌, ◌∙◌, ℕ, ◌-◌, ◌≤◌, List, [], ◌∷◌, length, take, get_or, ap, sym, refl, subst, arith, length-append}
use Rattle.std.proofs.lemmas.Option.{get_or_from_slice_get}
use Rattle.tm_defs.specs.declared.frames.FrameData.{FrameData}
use Rattle.tm_defs.specs.declared.frames.StateId.{StateId}
use Rattle.tm_defs.specs.declared.frames.Delta.{Delta}
use Rattle.tm_defs.specs.Tables.{Tables, IsNumbering, state_at}
use Rattle.tm_state.specs.Deltas.{applied}

-- frames on the opening state
pub on-opening : (t : Tables) → IsNumbering t → (items state : List FrameData) → items ≡ state → (P : List FrameData → Type 0) → P (get_or t.states 0 [] ++ items) → P state
on-opening t num items state same P h = subst P (ap (λ s. s ++ items) (get_or_from_slice_get t.states 0 [] [] num.opening) ∙ same) h

-- frames on what is left of a state
pub on-rest : (state rest items : List FrameData) (delta : Delta) → rest ≡ take (length state - delta.pops) state → items ≡ delta.pushed → (P : List FrameData → Type 0) → P (rest ++ items) → P (applied state delta)
on-rest state rest items delta left same P h = subst P (ap (λ r. r ++ items) left ∙ ap (λ p. take (length state - delta.pops) state ++ p) same) h

take-front : {X : Type 0} (xs ys : List X) → take (length xs) (xs ++ ys) ≡ xs
take-front [] ys = refl
take-front (x ∷ xs) ys = ap (λ l. x ∷ l) (take-front xs ys)

-- what is left where so many are dropped
pub left-take : {X : Type 0} (state rest dropped : List X) (n : ℕ) → state ≡ rest ++ dropped → length dropped ≡ n → rest ≡ take (length state - n) state
left-take state rest dropped n is count =
    let long : length state - n ≡ length rest = omega (arith, ap length is, length-append rest dropped) in
    sym (ap (λ k. take k state) long ∙ ap (λ s. take (length rest) s) is ∙ take-front rest dropped)

pub left-count : {X : Type 0} (state rest dropped : List X) (n : ℕ) → state ≡ rest ++ dropped → length dropped ≡ n → n ≤ length state
left-count state rest dropped n is count = omega (arith, ap length is, length-append rest dropped)

-- nothing is left
pub left-none : (t : Tables) → IsNumbering t → (id : StateId) (state dropped : List FrameData) (n : ℕ) → id.0 ≡ 0 → state ≡ state_at t id ++ dropped → length dropped ≡ n → n ≡ length state
left-none t num id state dropped n none is count =
    let empty : state_at t id ≡ [] = ap (λ k. get_or t.states k []) none ∙ get_or_from_slice_get t.states 0 [] [] num.opening in
    omega (arith, ap length is, length-append (state_at t id) dropped, ap length empty)

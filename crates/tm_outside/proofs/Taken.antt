-- Bytes that a sink takes, one piece after another.
use Rattle.std.proofs.Common.{◌≡◌, ℕ, ◌+◌, ◌++◌, List, [], Some, None, Option, ap, ◌∙◌, append_assoc, subst, sym, take, drop, length, arith, ◌-◌, ◌≤◌, length-drop, take-append-drop}
use Rattle.std.proofs.Math.Seq.{take-add}
use Rattle.std.proofs.lemmas.List.{take_all, append-nil}
use Rattle.tm_outside.specs.Causes.{Takes, TakesFront}

pub takes-trans : (a b c : Option (List ℕ)) (x y : List ℕ) → Takes a b x → Takes b c y → Takes a c (x ++ y)
takes-trans (Some a) (Some b) (Some c) x y h k = k ∙ ap (λ l. l ++ y) h ∙ append_assoc a x y
takes-trans (Some a) (Some b) None x y h k = k
takes-trans (Some a) None c x y h k = absurd h
takes-trans None (Some b) c x y h k = absurd h
takes-trans None None (Some c) x y h k = k
takes-trans None None None x y h k = tt

pub takes-as : (a b : Option (List ℕ)) (x y : List ℕ) → x ≡ y → Takes a b x → Takes a b y
takes-as a b x y e h = let P : List ℕ → Type 0 = λ l. Takes a b l in subst P e h

rest_is : (bytes : List ℕ) (at : ℕ) → take (length bytes - at) (drop at bytes) ≡ drop at bytes
rest_is bytes at = take_all (length bytes - at) (drop at bytes) (omega (arith, length-drop at bytes))

-- the bytes before the place, and then some of the rest
pub next_took : (a b c : Option (List ℕ)) (bytes : List ℕ) (at count : ℕ) → Takes a b (take at bytes) → Takes b c (take count (take (length bytes - at) (drop at bytes))) → Takes a c (take (at + count) bytes)
next_took a b c bytes at count h k =
    takes-as a c _ _ (ap (λ r. take at bytes ++ take count r) (rest_is bytes at) ∙ sym (take-add at count bytes)) (takes-trans a b c (take at bytes) (take count (take (length bytes - at) (drop at bytes))) h k)

pub next_within : (bytes : List ℕ) (at count : ℕ) → at ≤ length bytes → count ≤ length (take (length bytes - at) (drop at bytes)) → at + count ≤ length bytes
next_within bytes at count h k = omega (arith, ap length (rest_is bytes at), length-drop at bytes)

-- the rest of the bytes follows a front of them
pub front-took : (a b c : Option (List ℕ)) (bytes : List ℕ) (at : ℕ) → Takes a b (take at bytes) → Takes b c [] → TakesFront a c bytes
front-took a b c bytes at h k =
    (take at bytes, drop at bytes, sym (take-append-drop at bytes), takes-as a c _ _ (append-nil (take at bytes)) (takes-trans a b c (take at bytes) [] h k))

-- One turn of the loop over a class's items.
use Rattle.std.proofs.Common.{◌≡◌, ℕ, zero, suc, ◌+◌, ◌-◌, ◌<◌, ◌≤◌, Bool, true, false, not, ◌&&◌, List, [], ◌∷◌, ◌++◌, length, Option, Some, None, refl, sym, ap, ◌∙◌, arith, length-append, append_assoc, append-nil, cond}
use Rattle.std.specs.Prelude.{◌==◌}
use Rattle.tm_onig_atom.specs.declared.fault.AtomFault.{AtomFault}
use Rattle.tm_onig_atom.specs.declared.fault.AtomFault.TheVariants.{Unreadable, OutOfMemory}
use Rattle.tm_onig_atom.specs.declared.parts.Part.{Part}
use Rattle.regex_class.specs.Ranges.{Range as CharRange}
use Rattle.tm_onig_atom.specs.Classes.{class_members}
use Rattle.tm_onig_atom.specs.Escapes.{begins}
use Rattle.tm_onig_atom.specs.inner.Reading.{◌>>=◌, rest_of}
use Rattle.tm_onig_atom.specs.inner.ClassReading.{Reader, front_at, part_at, closes_at, parts_at, parts_on, with_front, body_of, items_of, signed_at, highest, body_at}
use Rattle.tm_onig_atom.specs.inner.Views.{Fails}
use Rattle.tm_onig_atom.proofs.ClassItems.{PartsRead, BodyRead, item_long, part_found, body_found}
use Rattle.tm_onig_atom.proofs.ClassExact.{body_low, parts_low}

-- each class within takes a character, and so does each part
abbrev AreShorter : Reader → Type 0
AreShorter inner = (first : Bool) (t : List ℕ) (p : Part) (rest : List ℕ) → part_at inner first t ≡ Some (p, rest) → length rest < length t

-- a part takes a character
pub part_shorter : (depth : ℕ) (fold : Bool) → AreShorter (body_at depth fold)
part_shorter depth fold first t p rest e =
    let r = part_found fold (body_at depth fold) (body_found depth fold) first t p rest e in
    omega (arith, item_long r.item, simp length-append at (ap length r.whole))

-- what follows is the same
bind_same : {A B : Type 0} (o : Option A) (f g : A → Option B) → ((x : A) → o ≡ Some x → f x ≡ g x) → (o >>= f) ≡ (o >>= g)
bind_same None f g h = refl
bind_same (Some x) f g h = h x refl

-- the other side is the same
same_cond : {A : Type 0} (b : Bool) (x y z : A) → y ≡ z → cond b x y ≡ cond b x z
same_cond b x y z e = ap (cond b x) e

-- a part and then what follows
abbrev one : Reader → (List ℕ → PartsRead) → Bool → List ℕ → PartsRead
one inner more first t = part_at inner first t >>= λ p. more p.1 >>= λ x. Some (p.0 ∷ x.0, x.1)

-- with more steps at hand than characters are left the answer is the same
parts_enough : (inner : Reader) → AreShorter inner → (n m : ℕ) (first : Bool) (t : List ℕ) → length t ≤ n → length t ≤ m → parts_at inner n first t ≡ parts_at inner m first t
unfolding parts_at
parts_enough inner shorter zero zero first t a b = refl
parts_enough inner shorter zero (suc m) first [] a b = refl
parts_enough inner shorter (suc n) zero first [] a b = refl
parts_enough inner shorter (suc n) (suc m) first [] a b = refl
parts_enough inner shorter zero (suc m) first (c ∷ t) a b = absurd (omega arith)
parts_enough inner shorter (suc n) zero first (c ∷ t) a b = absurd (omega arith)
parts_enough inner shorter (suc n) (suc m) first (c ∷ t) a b =
    same_cond ((c == 93) && not first) _ _ _ (bind_same (part_at inner first (c ∷ t)) _ _ (λ p is.
    let less = shorter first (c ∷ t) p.0 p.1 is in
    ap (λ (o : PartsRead). o >>= λ x. Some (p.0 ∷ x.0, x.1)) (parts_enough inner shorter n m false p.1 (omega arith) (omega arith))))

-- where nothing is left nothing is read
parts_none : (inner : Reader) (first : Bool) → parts_on inner first [] ≡ None
unfolding parts_at
parts_none inner first = refl

-- nor is a part
part_none : (inner : Reader) (first : Bool) → part_at inner first [] ≡ None
unfolding front_at
part_none inner first = refl

-- one turn, where the class goes on
parts_go : (inner : Reader) → AreShorter inner → (first : Bool) (t : List ℕ) → closes_at first t ≡ false → parts_on inner first t ≡ one inner (parts_on inner false) first t
unfolding parts_at
parts_go inner shorter first [] open_here = sym (ap (λ (o : Option (Part × List ℕ)). o >>= λ p. parts_on inner false p.1 >>= λ x. Some (p.0 ∷ x.0, x.1)) (part_none inner first))
parts_go inner shorter first (c ∷ t) open_here =
    (rw open_here refl)
    ∙ bind_same (part_at inner first (c ∷ t)) _ _ (λ p is.
    let less = shorter first (c ∷ t) p.0 p.1 is in
    ap (λ (o : PartsRead). o >>= λ x. Some (p.0 ∷ x.0, x.1)) (parts_enough inner shorter (length t) (length p.1) false p.1 (omega arith) (omega arith)))

-- where there is no part there is no class
part_fails : (inner : Reader) → AreShorter inner → (front : List Part) (first : Bool) (t : List ℕ) (all : PartsRead) → closes_at first t ≡ false →
    with_front front (parts_on inner first t) ≡ all → part_at inner first t ≡ None → all ≡ None
part_fails inner shorter front first t all open_here is e = sym is ∙ (rw (parts_go inner shorter first t open_here, e) refl)

-- The same for each fault.
pub part_faults : (depth : ℕ) (fold : Bool) (fault : AtomFault) (front : List Part) (first : Bool) (t : List ℕ) (all : PartsRead) → closes_at first t ≡ false →
    with_front front (parts_on (body_at depth fold) first t) ≡ all → Fails fault (part_at (body_at depth fold) first t) → Fails fault all
part_faults depth fold Unreadable front first t all open_here is e = part_fails (body_at depth fold) (part_shorter depth fold) front first t all open_here is e
part_faults depth fold OutOfMemory front first t all open_here is e = tt

-- one part more in front
front_one : (front : List Part) (p : Part) (o : PartsRead) → with_front front (o >>= λ x. Some (p ∷ x.0, x.1)) ≡ with_front (front ++ p ∷ []) o
front_one front p None = refl
front_one front p (Some x) = ap (λ xs. Some (xs, x.1)) (sym (append_assoc front (p ∷ []) x.0))

-- The turn with its part.
pub part_goes : (depth : ℕ) (fold : Bool) (front news : List Part) (first : Bool) (t : List ℕ) (all : PartsRead) (p : Part) (rest : List ℕ) → closes_at first t ≡ false →
    with_front front (parts_on (body_at depth fold) first t) ≡ all → part_at (body_at depth fold) first t ≡ Some (p, rest) → news ≡ front ++ p ∷ [] →
    with_front news (parts_on (body_at depth fold) false rest) ≡ all
part_goes depth fold front news first t all p rest open_here is e grown =
    rw grown (sym (front_one front p (parts_on (body_at depth fold) false rest))) ∙ (rw (parts_go (body_at depth fold) (part_shorter depth fold) first t open_here, e) at is)

-- The turn at the `]`.
pub class_ends : (inner : Reader) (front : List Part) (first : Bool) (t : List ℕ) (all : PartsRead) → closes_at first t ≡ true → with_front front (parts_on inner first t) ≡ all → all ≡ Some (front, rest_of t)
unfolding parts_at
class_ends inner front first [] all ends is = absurd cc
class_ends inner front first (c ∷ t) all ends is = sym is ∙ (rw (ends, append-nil) refl)

-- before the first part
pub parts_start : (news : List Part) (o : PartsRead) → news ≡ [] → with_front news o ≡ o
parts_start news None e = refl
parts_start news (Some x) e = ap (λ xs. Some (xs ++ x.0, x.1)) e

-- a class that may be open
pub body_open : (depth : ℕ) (fold : Bool) (t : List ℕ) → 0 < depth → ◌≡◌ {A = BodyRead} (body_at depth fold t) (signed_at (body_at (depth - 1) fold) fold (begins 94 t) (items_of t))
unfolding body_at
body_open zero fold t some = absurd (omega arith)
body_open (suc d) fold t some = let e : suc d - 1 ≡ d = omega arith in rw e refl

-- no class may be open
pub body_none : (fold : Bool) (t : List ℕ) → body_at 0 fold t ≡ None
unfolding body_at
body_none fold t = refl

-- how deep the parts are nested
pub low_parts : (depth : ℕ) (fold : Bool) (t : List ℕ) (ps : List Part) (rest : List ℕ) → parts_on (body_at depth fold) true t ≡ Some (ps, rest) → highest ps ≤ depth
low_parts depth fold t ps rest e = parts_low depth (body_at depth fold) (body_low depth fold) (length t) true t ps rest e

-- where the parts are none the class is none
pub body_faults : (depth : ℕ) (fold negated : Bool) (fault : AtomFault) (t items : List ℕ) → 0 < depth → negated ≡ begins 94 t → items ≡ items_of t →
    Fails fault (parts_on (body_at (depth - 1) fold) true items) → Fails fault (body_at depth fold t)
body_faults depth fold negated Unreadable t items some is at e =
    body_open depth fold t some ∙ ap (λ (o : PartsRead). o >>= body_of fold (begins 94 t)) (ap (parts_on (body_at (depth - 1) fold) true) (sym at) ∙ e)
body_faults depth fold negated OutOfMemory t items some is at e = tt

-- a class of parts that were read
pub body_goes : (depth : ℕ) (fold negated : Bool) (t items : List ℕ) (ps : List Part) (rest : List ℕ) (ranges : List CharRange) (height : ℕ) → 0 < depth →
    negated ≡ begins 94 t → items ≡ items_of t → parts_on (body_at (depth - 1) fold) true items ≡ Some (ps, rest) →
    ranges ≡ class_members fold negated ps → height ≡ highest ps → ◌≡◌ {A = BodyRead} (body_at depth fold t) (Some ((ranges, height + 1), rest))
body_goes depth fold negated t items ps rest ranges height some is at e same high =
    let sum : 1 + highest ps ≡ height + 1 = omega (arith, high) in
    body_open depth fold t some
    ∙ ap (λ (o : PartsRead). o >>= body_of fold (begins 94 t)) (ap (parts_on (body_at (depth - 1) fold) true) (sym at) ∙ e)
    ∙ ap (λ n. Some ((class_members fold n ps, 1 + highest ps), rest)) (sym is)
    ∙ ap (λ (rs : List CharRange). Some ((rs, 1 + highest ps), rest)) (sym same)
    ∙ ap (λ (h : ℕ). Some ((ranges, h), rest)) sum

-- the height fits
pub height_fits : (depth height : ℕ) (fold : Bool) (items : List ℕ) (ps : List Part) (rest : List ℕ) → 0 < depth → parts_on (body_at (depth - 1) fold) true items ≡ Some (ps, rest) → height ≡ highest ps → height + 1 ≤ depth
height_fits depth height fold items ps rest some e high = let low = low_parts (depth - 1) fold items ps rest e in omega (arith, some, low, high)

-- what is not 0
pub some_depth : (n : ℕ) → (n ≡ 0 → ⊥) → 0 < n
some_depth zero h = absurd (h refl)
some_depth (suc n) h = omega arith

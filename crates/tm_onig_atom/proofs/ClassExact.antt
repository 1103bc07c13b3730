-- A class is read exactly as it is spelled, and is nested no deeper than allowed.
use Rattle.std.proofs.Common.{◌≡◌, ℕ, zero, suc, ◌+◌, ◌≤◌, Bool, true, false, not, ◌&&◌, List, [], ◌∷◌, ◌++◌, length, Option, Some, option_map, sym, ap, ◌∙◌, subst, inl, inr, arith}
use Rattle.std.specs.Prelude.{◌==◌}
use Rattle.regex_class.specs.Ranges.{Range as CharRange}
use Rattle.tm_onig_class.specs.Tree.{Tree, InSet, IsOne}
use Rattle.tm_onig_atom.specs.declared.options.Options.{Options}
use Rattle.tm_onig_atom.specs.declared.parts.Part.{Part}
use Rattle.tm_onig_atom.specs.declared.parts.Part.TheVariants.{Adds, Meets, Inner}
use Rattle.tm_onig_atom.specs.declared.parts.Front.{Front}
use Rattle.tm_onig_atom.specs.declared.parts.Front.TheVariants as F
use Rattle.tm_onig_atom.specs.Escapes.{begins}
use Rattle.tm_onig_atom.specs.inner.Reading.{◌>>=◌}
use Rattle.tm_onig_atom.specs.Classes.{Class, inside, IsClass, class_height, class_members, class_tree}
use Rattle.tm_onig_atom.specs.inner.ClassReading.{front_at, Body, Reader, inner_part, part_from, part_at, parts_at, parts_on, part_height, highest, body_of, items_of, signed_at, body_at, class_at}
use Rattle.tm_onig_atom.proofs.Texts.{chosen, bind_ok, map_ok, some_same}
use Rattle.tm_onig_atom.proofs.ClassItems.{body_again, body_found}

-- no class within is nested deeper
abbrev AreLow : ℕ → Reader → Type 0
AreLow depth inner = (t : List ℕ) (x : Body) (rest : List ℕ) → inner t ≡ Some (x, rest) → x.1 ≤ depth

-- the part and those behind it
highest_more : (p : Part) (ps : List Part) (d : ℕ) → part_height p ≤ d → highest ps ≤ d → highest (p ∷ ps) ≤ d
highest_more p ps d a b = omega (arith, a, b)

-- a part's height
part_low : (depth : ℕ) (inner : Reader) → AreLow depth inner → (f : Front) (r : List ℕ) (p : Part) (rest : List ℕ) → part_from inner (f, r) ≡ Some (p, rest) → part_height p ≤ depth
part_low depth inner low (F.Adds m) r p rest e = let s : Adds m ≡ p = ap (λ (x : Part × List ℕ). x.0) (some_same (Adds m, r) (p, rest) e) in subst (λ q. part_height q ≤ depth) s (omega arith)
part_low depth inner low F.Meets r p rest e = let s : Meets ≡ p = ap (λ (x : Part × List ℕ). x.0) (some_same (Meets, r) (p, rest) e) in subst (λ q. part_height q ≤ depth) s (omega arith)
part_low depth inner low F.Opens r p rest e =
    let b = bind_ok (inner r) inner_part (p, rest) e in
    let s : Inner b.0.0.0 b.0.0.1 ≡ p = ap (λ (x : Part × List ℕ). x.0) (some_same (Inner b.0.0.0 b.0.0.1, b.0.1) (p, rest) b.2) in
    subst (λ q. part_height q ≤ depth) s (low r b.0.0 b.0.1 b.1)

-- how deep all parts are nested
pub parts_low : (depth : ℕ) (inner : Reader) → AreLow depth inner → (n : ℕ) (first : Bool) (t : List ℕ) (ps : List Part) (rest : List ℕ) → parts_at inner n first t ≡ Some (ps, rest) → highest ps ≤ depth
unfolding parts_at
parts_low depth inner low zero first t ps rest e = absurd cc
parts_low depth inner low (suc n) first [] ps rest e = absurd cc
parts_low depth inner low (suc n) first (c ∷ t) ps rest e = elim (chosen ((c == 93) && not first) _ _ _ e) [
  | inl h ↦ let s : ◌≡◌ {A = List Part} [] ps = ap (λ (x : List Part × List ℕ). x.0) (some_same ([], t) (ps, rest) h.1) in subst (λ qs. highest qs ≤ depth) s (omega arith)
  | inr h ↦
      let b = bind_ok (part_at inner first (c ∷ t)) (λ p. parts_at inner n false p.1 >>= λ more. Some (p.0 ∷ more.0, more.1)) (ps, rest) h.1 in
      let m = bind_ok (parts_at inner n false b.0.1) (λ more. Some (b.0.0 ∷ more.0, more.1)) (ps, rest) b.2 in
      let f = bind_ok (front_at first (c ∷ t)) (part_from inner) b.0 b.1 in
      let s : ◌≡◌ {A = List Part} (b.0.0 ∷ m.0.0) ps = ap (λ (x : List Part × List ℕ). x.0) (some_same (b.0.0 ∷ m.0.0, m.0.1) (ps, rest) m.2) in
      subst (λ qs. highest qs ≤ depth) s
      (highest_more b.0.0 m.0.0 depth (part_low depth inner low f.0.0 f.0.1 b.0.0 b.0.1 f.2) (parts_low depth inner low n false b.0.1 m.0.0 m.0.1 m.1))
]

-- a class and its parts
signed_low : (depth : ℕ) (inner : Reader) → AreLow depth inner → (fold negated : Bool) (t : List ℕ) (x : Body) (rest : List ℕ) → signed_at inner fold negated t ≡ Some (x, rest) → x.1 ≤ suc depth
signed_low depth inner low fold negated t x rest e =
    let b = bind_ok (parts_on inner true t) (body_of fold negated) (x, rest) e in
    let h = parts_low depth inner low (length t) true t b.0.0 b.0.1 b.1 in
    let s : 1 + highest b.0.0 ≡ x.1 = ap (λ (y : Body × List ℕ). y.0.1) (some_same ((class_members fold negated b.0.0, 1 + highest b.0.0), b.0.1) (x, rest) b.2) in
    omega (arith, h, s)

-- No class is nested deeper than is allowed.
pub body_low : (depth : ℕ) (fold : Bool) → AreLow depth (body_at depth fold)
unfolding body_at
body_low zero fold t x rest e = absurd cc
body_low (suc depth) fold t x rest e = signed_low depth (body_at depth fold) (body_low depth fold) fold (begins 94 t) (items_of t) x rest e

-- A class that is written is read.
pub class_again : (k : Class) (depth : ℕ) (o : Options) (rest : List ℕ) → IsClass k rest → class_height k ≤ depth →
    ◌≡◌ {A = Option ((Tree × ℕ) × List ℕ)} (class_at depth o (inside k ++ rest)) (Some ((class_tree o k, class_height k), rest))
class_again k depth o rest is low = ap (option_map (λ (x : Body × List ℕ). ((InSet x.0.0 false, x.0.1), x.1))) (body_again k depth o.fold rest is low)

-- The class that was read, as a tree.
pub record FoundClass (depth : ℕ) (o : Options) (t : List ℕ) (tree : Tree) (height : ℕ) (rest : List ℕ) : Type 0 where
  pub class : Class
  pub whole : t ≡ inside class ++ rest
  pub is : IsClass class rest
  pub means : tree ≡ class_tree o class
  pub high : height ≡ class_height class
  pub low : class_height class ≤ depth

-- A class that is read is written.
pub class_found : (depth : ℕ) (o : Options) (t : List ℕ) (tree : Tree) (height : ℕ) (rest : List ℕ) → class_at depth o t ≡ Some ((tree, height), rest) → FoundClass depth o t tree height rest
class_found depth o t tree height rest e =
    let m = map_ok (λ (x : Body × List ℕ). ((InSet x.0.0 false, x.0.1), x.1)) (body_at depth o.fold t) ((tree, height), rest) e in
    let r = body_found depth o.fold t m.0.0 m.0.1 m.1 in
    let bound = body_low depth o.fold t m.0.0 m.0.1 m.1 in
    let after = ap (λ (p : (Tree × ℕ) × List ℕ). p.1) m.2 in
    record {
      class = r.class;
      whole = r.whole ∙ ap (λ u. inside r.class ++ u) after;
      is = subst (IsClass r.class) after r.is;
      means = sym (ap (λ (p : (Tree × ℕ) × List ℕ). p.0.0) m.2) ∙ ap (λ (rs : List CharRange). InSet rs false) r.ranges;
      high = sym (ap (λ (p : (Tree × ℕ) × List ℕ). p.0.1) m.2) ∙ r.height;
      low = subst (λ h. h ≤ depth) r.height bound;
    }

-- A class takes one character.
pub class_one : (o : Options) (k : Class) → IsOne (class_tree o k)
class_one o k = tt

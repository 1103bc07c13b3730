-- The items of a class, and classes within, are read exactly as they are spelled.
use Rattle.std.proofs.Common.{◌≡◌, ℕ, zero, suc, ◌+◌, ◌<◌, ◌≤◌, Bool, true, false, not, ◌&&◌, List, [], ◌∷◌, ◌++◌, length, max, Option, Some, refl, sym, ap, ap₂, ◌∙◌, subst, inl, inr, arith, length-append, append_assoc}
use Rattle.std.specs.Prelude.{◌==◌}
use Rattle.std.proofs.lemmas.Bool.{cases_Bool, eqb-true, and_left, and_right, and_parts}
use Rattle.regex_class.specs.Ranges.{Range as CharRange}
use Rattle.tm_onig_atom.specs.declared.parts.Part.{Part}
use Rattle.tm_onig_atom.specs.declared.parts.Part.TheVariants.{Adds, Meets, Inner}
use Rattle.tm_onig_atom.specs.declared.parts.Front.{Front}
use Rattle.tm_onig_atom.specs.declared.parts.Front.TheVariants as F
use Rattle.tm_onig_atom.specs.Escapes.{begins}
use Rattle.tm_onig_atom.specs.inner.Reading.{◌>>=◌}
use Rattle.tm_onig_atom.specs.Classes.{Single, Raw, Slash, single_text, IsSingle, NoPosix, Class, Of, Items, NoItems, Also, Item, One, Range, Escaped, Posix, Nested, And, item_text, items_text, inside, IsItem, AreItems, IsClass, class_height, items_height, item_height, class_members, part_of, parts_of, class_ranges}
use Rattle.tm_onig_atom.specs.inner.ClassReading.{front_at, Body, Reader, inner_part, part_from, part_at, closes_at, parts_at, parts_on, part_height, highest, body_of, signed_at, body_at}
use Rattle.tm_onig_atom.proofs.Texts.{chosen, bind_ok}
use Rattle.tm_onig_atom.proofs.Front.{raw_close, front_of, behind, front_again, ReadsItem, ReadsFront, front_found}

-- the front of a text that is not empty
begins-append : (d : ℕ) (xs ys : List ℕ) → 0 < length xs → begins d (xs ++ ys) ≡ begins d xs
begins-append d [] ys h = absurd (omega arith)
begins-append d (x ∷ xs) ys h = refl

-- an item is not empty
pub item_long : (i : Item) → 0 < length (item_text i)
item_long (One (Raw c)) = omega arith
item_long (One (Slash e v)) = omega arith
item_long (Range (Raw c) b) = omega arith
item_long (Range (Slash e v) b) = omega arith
item_long (Escaped e named) = omega arith
item_long (Posix true name listed) = omega arith
item_long (Posix false name listed) = omega arith
item_long (Nested k) = omega arith
item_long And = omega arith

-- the items with their `]` are not empty
items_long : (is : Items) → 0 < length (items_text is)
items_long NoItems = omega arith
items_long (Also i is) = omega (arith, length-append (item_text i) (items_text is), item_long i)

-- what begins with another character does not end the class
no_close : (d : ℕ) (first : Bool) (t : List ℕ) → (d == 93) ≡ false → closes_at first (d ∷ t) ≡ false
no_close d first t e = rw e refl

-- a character is not the `]` that ends the class
single_open : (s : Single) (first : Bool) (rest u : List ℕ) → IsSingle first s u → closes_at first (single_text s ++ rest) ≡ false
single_open (Raw d) true rest u is = and_right (d == 93) false refl
single_open (Raw d) false rest u is = and_left (d == 93) true (raw_close d is.0)
single_open (Slash e v) first rest u is = refl

-- an item does not begin with the `]` that ends the class
item_open : (i : Item) (first : Bool) (rest : List ℕ) → IsItem first i rest → closes_at first (item_text i ++ rest) ≡ false
item_open (One s) first rest is = single_open s first rest rest is.0
item_open (Range a b) first rest is =
    ap (closes_at first) (append_assoc (single_text a) (45 ∷ single_text b) rest) ∙ single_open a first (45 ∷ (single_text b ++ rest)) (45 ∷ (single_text b ++ rest)) is.0
item_open (Escaped e named) first rest is = refl
item_open (Posix true name listed) first rest is = refl
item_open (Posix false name listed) first rest is = refl
item_open (Nested k) first rest is = refl
item_open And first rest is = refl

-- the item in front
are_parts : (first : Bool) (i : Item) (is : Items) (rest : List ℕ) → AreItems first (Also i is) rest → IsItem first i (items_text is ++ rest) × AreItems false is rest
are_parts true i is rest a = a
are_parts false i is rest a = a

-- one item in front
are_more : (first : Bool) (i : Item) (is : Items) (rest : List ℕ) → IsItem first i (items_text is ++ rest) → AreItems false is rest → AreItems first (Also i is) rest
are_more true i is rest a b = (a, b)
are_more false i is rest a b = (a, b)

-- no item, where one came before
are_none : (first : Bool) (rest : List ℕ) → not first ≡ true → AreItems first NoItems rest
are_none true rest e = absurd cc
are_none false rest e = tt

-- what is read of the parts
abbrev pub PartsRead : Type 0
PartsRead = Option (List Part × List ℕ)

-- where the class goes on it does so by a part
parts_one : (inner : Reader) (n : ℕ) (first : Bool) (t : List ℕ) → 0 < length t → closes_at first t ≡ false →
    ◌≡◌ {A = PartsRead} (parts_at inner (suc n) first t) (part_at inner first t >>= λ p. parts_at inner n false p.1 >>= λ more. Some (p.0 ∷ more.0, more.1))
unfolding parts_at
parts_one inner n first [] some open_here = absurd (omega arith)
parts_one inner n first (c ∷ t) some open_here = rw open_here refl

-- an item that is written is read, where its class, if it is one, is
item_read : (inner : Reader) (fold first : Bool) (i : Item) (rest : List ℕ) → IsItem first i rest → ◌≡◌ {A = Option (Part × List ℕ)} (part_from inner (front_of i, behind i rest)) (Some (part_of fold i, rest)) →
    ◌≡◌ {A = Option (Part × List ℕ)} (part_at inner first (item_text i ++ rest)) (Some (part_of fold i, rest))
item_read inner fold first i rest is e = ap (λ (o : Option (Front × List ℕ)). o >>= part_from inner) (front_again first i rest is) ∙ e

-- the steps that one part and those behind it take
parts_read : (inner : Reader) (fold : Bool) (n : ℕ) (first : Bool) (i : Item) (is : Items) (rest : List ℕ) → IsItem first i (items_text is ++ rest) →
    ◌≡◌ {A = Option (Part × List ℕ)} (part_at inner first (item_text i ++ (items_text is ++ rest))) (Some (part_of fold i, items_text is ++ rest)) →
    ◌≡◌ {A = PartsRead} (parts_at inner n false (items_text is ++ rest)) (Some (parts_of fold is, rest)) →
    ◌≡◌ {A = PartsRead} (parts_at inner (suc n) first ((item_text i ++ items_text is) ++ rest)) (Some (part_of fold i ∷ parts_of fold is, rest))
parts_read inner fold n first i is rest item one more =
    let some = item_long i in
    rw (
      append_assoc (item_text i) (items_text is) rest,
      parts_one inner n first (item_text i ++ (items_text is ++ rest)) (omega (arith, some, length-append (item_text i) (items_text is ++ rest))) (item_open i first (items_text is ++ rest) item),
      one,
      more,
    ) refl

-- how deep an item's part is nested
item_part_height : (fold : Bool) (i : Item) → part_height (part_of fold i) ≡ item_height i
item_part_height fold (One s) = refl
item_part_height fold (Range a b) = refl
item_part_height fold (Escaped e named) = refl
item_part_height fold (Posix caret name listed) = refl
item_part_height fold (Nested k) = refl
item_part_height fold And = refl

-- how deep the parts of items are nested
parts_height : (fold : Bool) (is : Items) → highest (parts_of fold is) ≡ items_height is
parts_height fold NoItems = refl
parts_height fold (Also i is) = ap₂ max (item_part_height fold i) (parts_height fold is)

-- what is read of a class
abbrev pub BodyRead : Type 0
BodyRead = Option (Body × List ℕ)

-- the parts of a class make its ranges
body_made : (inner : Reader) (fold negated : Bool) (is : Items) (rest : List ℕ) → ◌≡◌ {A = PartsRead} (parts_on inner true (items_text is ++ rest)) (Some (parts_of fold is, rest)) →
    ◌≡◌ {A = BodyRead} (signed_at inner fold negated (items_text is ++ rest)) (Some ((class_ranges fold (Of negated is), class_height (Of negated is)), rest))
body_made inner fold negated is rest e =
    ap (λ (o : PartsRead). o >>= body_of fold negated) e
    ∙ ap (λ (h : ℕ). Some ((class_ranges fold (Of negated is), 1 + h), rest)) (parts_height fold is)

-- the text of a class that is not negated
plain_body : (depth : ℕ) (fold : Bool) (t : List ℕ) → begins 94 t ≡ false → ◌≡◌ {A = BodyRead} (body_at (suc depth) fold t) (signed_at (body_at depth fold) fold false t)
unfolding body_at
plain_body depth fold t e = rw e refl

-- a class, where its items are read
class_read : (depth : ℕ) (fold negated : Bool) (is : Items) (rest : List ℕ) → IsClass (Of negated is) rest →
    (AreItems true is rest → ◌≡◌ {A = PartsRead} (parts_on (body_at depth fold) true (items_text is ++ rest)) (Some (parts_of fold is, rest))) →
    ◌≡◌ {A = BodyRead} (body_at (suc depth) fold (inside (Of negated is) ++ rest)) (Some ((class_ranges fold (Of negated is), class_height (Of negated is)), rest))
unfolding body_at
class_read depth fold true is rest are e = body_made (body_at depth fold) fold true is rest (e are)
class_read depth fold false is rest are e =
    plain_body depth fold (items_text is ++ rest) (begins-append 94 (items_text is) rest (items_long is) ∙ are.0)
    ∙ body_made (body_at depth fold) fold false is rest (e are.1)

-- the heights of two
max_parts : (a b d : ℕ) → max a b ≤ d → (a ≤ d) × (b ≤ d)
max_parts a b d h = (omega (arith, h), omega (arith, h))

-- Classes and items that are written are read.
mutual
  unfolding parts_at

  pub body_again : (k : Class) (depth : ℕ) (fold : Bool) (rest : List ℕ) → IsClass k rest → class_height k ≤ depth →
      ◌≡◌ {A = BodyRead} (body_at depth fold (inside k ++ rest)) (Some ((class_ranges fold k, class_height k), rest))
  body_again (Of negated is) zero fold rest are low = absurd (omega (arith, low))
  body_again (Of negated is) (suc depth) fold rest are low =
      class_read depth fold negated is rest are (λ items. items_again is (length (items_text is ++ rest)) depth fold true rest (omega (arith, length-append (items_text is) rest)) items (omega (arith, low)))

  items_again : (is : Items) (n depth : ℕ) (fold first : Bool) (rest : List ℕ) → length (items_text is) ≤ n → AreItems first is rest → items_height is ≤ depth →
      ◌≡◌ {A = PartsRead} (parts_at (body_at depth fold) n first (items_text is ++ rest)) (Some (parts_of fold is, rest))
  items_again NoItems zero depth fold first rest long are low = absurd (omega arith)
  items_again NoItems (suc n) depth fold true rest long are low = absurd are
  items_again NoItems (suc n) depth fold false rest long are low = refl
  items_again (Also i is) zero depth fold first rest long are low = absurd (omega (arith, item_long i, length-append (item_text i) (items_text is)))
  items_again (Also i is) (suc n) depth fold first rest long are low =
      let parts = are_parts first i is rest are in
      let heights = max_parts (item_height i) (items_height is) depth low in
      let some = item_long i in
      let whole = length-append (item_text i) (items_text is) in
      parts_read (body_at depth fold) fold n first i is rest parts.0
      (item_read (body_at depth fold) fold first i (items_text is ++ rest) parts.0 (item_again i depth fold first (items_text is ++ rest) parts.0 heights.0))
      (items_again is n depth fold false rest (omega (arith, long, some, whole)) parts.1 heights.1)

  item_again : (i : Item) (depth : ℕ) (fold first : Bool) (rest : List ℕ) → IsItem first i rest → item_height i ≤ depth →
      ◌≡◌ {A = Option (Part × List ℕ)} (part_from (body_at depth fold) (front_of i, behind i rest)) (Some (part_of fold i, rest))
  item_again (One s) depth fold first rest is low = refl
  item_again (Range a b) depth fold first rest is low = refl
  item_again (Escaped e named) depth fold first rest is low = refl
  item_again (Posix caret name listed) depth fold first rest is low = refl
  item_again (Nested k) depth fold first rest is low = ap (λ (o : BodyRead). o >>= inner_part) (body_again k depth fold rest is.0 low)
  item_again And depth fold first rest is low = refl

-- The class that was read.
pub record ReadsClass (fold : Bool) (t : List ℕ) (x : Body) (rest : List ℕ) : Type 0 where
  pub class : Class
  pub whole : t ≡ inside class ++ rest
  pub is : IsClass class rest
  pub ranges : x.0 ≡ class_ranges fold class
  pub height : x.1 ≡ class_height class

-- each class within is written as it is read
abbrev AreFound : Bool → Reader → Type 0
AreFound fold inner = (t : List ℕ) (x : Body) (rest : List ℕ) → inner t ≡ Some (x, rest) → ReadsClass fold t x rest

-- the same part in both
part_by : (fold first : Bool) (t : List ℕ) (p : Part) (r : List ℕ) (q : Part) (rest : List ℕ) → ReadsItem fold first t p r → ◌≡◌ {A = Option (Part × List ℕ)} (Some (p, r)) (Some (q, rest)) → ReadsItem fold first t q rest
part_by fold first t p r q rest reads e =
    let s : ◌≡◌ {A = Part × List ℕ} (p, r) (q, rest) = cc in
    subst (λ (s : Part × List ℕ). ReadsItem fold first t s.0 s.1) s reads

-- two parts with the same ranges and height
same_inner : (a b : List CharRange) (m n : ℕ) → a ≡ b → m ≡ n → Inner a m ≡ Inner b n
same_inner a b m n e f = cc

-- what was read at the front, as a part
part_made : (fold : Bool) (inner : Reader) → AreFound fold inner → (first : Bool) (t : List ℕ) (f : Front) (r : List ℕ) → ReadsFront fold first t f r →
    (p : Part) (rest : List ℕ) → part_from inner (f, r) ≡ Some (p, rest) → ReadsItem fold first t p rest
part_made fold inner found first t (F.Adds m) r reads p rest e = part_by fold first t (Adds m) r p rest reads e
part_made fold inner found first t F.Meets r reads p rest e = part_by fold first t Meets r p rest reads e
part_made fold inner found first t F.Opens r reads p rest e =
    let b = bind_ok (inner r) inner_part (p, rest) e in
    let k = found r b.0.0 b.0.1 b.1 in
    part_by fold first t (Inner b.0.0.0 b.0.0.1) b.0.1 p rest
    (record {
      item = Nested k.class;
      whole = reads.0 ∙ ap (λ u. 91 ∷ u) k.whole;
      is = (k.is, subst (λ u. NoPosix (91 ∷ u)) k.whole reads.1);
      means = same_inner _ _ _ _ k.ranges k.height;
    })
    b.2

-- a part that is read is written
pub part_found : (fold : Bool) (inner : Reader) → AreFound fold inner → (first : Bool) (t : List ℕ) (p : Part) (rest : List ℕ) → part_at inner first t ≡ Some (p, rest) → ReadsItem fold first t p rest
part_found fold inner found first t p rest e =
    let b = bind_ok (front_at first t) (part_from inner) (p, rest) e in
    part_made fold inner found first t b.0.0 b.0.1 (front_found fold first t b.0.0 b.0.1 b.1) p rest b.2

-- The items that were read.
pub record ReadsItems (fold first : Bool) (t : List ℕ) (ps : List Part) (rest : List ℕ) : Type 0 where
  pub items : Items
  pub whole : t ≡ items_text items ++ rest
  pub are : AreItems first items rest
  pub means : ps ≡ parts_of fold items

-- the same front and rest
same_cons : (a b : Part) (xs ys : List Part) → a ≡ b → xs ≡ ys → a ∷ xs ≡ b ∷ ys
same_cons a b xs ys e f = cc

-- the text of an item and of those behind it
items_joined : (i : Item) (is : Items) (t u rest : List ℕ) → t ≡ item_text i ++ u → u ≡ items_text is ++ rest → t ≡ items_text (Also i is) ++ rest
items_joined i is t u rest whole more = whole ∙ ap (λ v. item_text i ++ v) more ∙ sym (append_assoc (item_text i) (items_text is) rest)

-- one item in front of those that are written
more_found : (fold first : Bool) (t u rest : List ℕ) (p : Part) (ps : List Part) → ReadsItem fold first t p u → ReadsItems fold false u ps rest → ReadsItems fold first t (p ∷ ps) rest
more_found fold first t u rest p ps i more = record {
  items = Also i.item more.items;
  whole = items_joined i.item more.items t u rest i.whole more.whole;
  are = are_more first i.item more.items rest (subst (IsItem first i.item) more.whole i.is) more.are;
  means = same_cons _ _ _ _ i.means more.means;
}

-- items that are read are written
items_found : (fold : Bool) (inner : Reader) → AreFound fold inner → (n : ℕ) (first : Bool) (t : List ℕ) (ps : List Part) (rest : List ℕ) → parts_at inner n first t ≡ Some (ps, rest) → ReadsItems fold first t ps rest
unfolding parts_at
items_found fold inner found zero first t ps rest e = absurd cc
items_found fold inner found (suc n) first [] ps rest e = absurd cc
items_found fold inner found (suc n) first (c ∷ t) ps rest e = elim (chosen ((c == 93) && not first) _ _ _ e) [
  | inl h ↦
      let closes = and_parts (c == 93) (not first) h.0 in
      let p : ◌≡◌ {A = List Part × List ℕ} ([], t) (ps, rest) = cc in
      rw (eqb-true c 93 closes.0) (subst (λ (p : List Part × List ℕ). ReadsItems fold first (93 ∷ t) p.0 p.1) p (record { items = NoItems; whole = refl; are = are_none first t closes.1; means = refl }))
  | inr h ↦
      let b = bind_ok (part_at inner first (c ∷ t)) (λ p. parts_at inner n false p.1 >>= λ more. Some (p.0 ∷ more.0, more.1)) (ps, rest) h.1 in
      let m = bind_ok (parts_at inner n false b.0.1) (λ more. Some (b.0.0 ∷ more.0, more.1)) (ps, rest) b.2 in
      let i = part_found fold inner found first (c ∷ t) b.0.0 b.0.1 b.1 in
      let p : ◌≡◌ {A = List Part × List ℕ} (b.0.0 ∷ m.0.0, m.0.1) (ps, rest) = cc in
      let more = items_found fold inner found n false b.0.1 m.0.0 m.0.1 m.1 in
      subst (λ (p : List Part × List ℕ). ReadsItems fold first (c ∷ t) p.0 p.1) p (more_found fold first (c ∷ t) b.0.1 m.0.1 b.0.0 m.0.0 i more)
]

-- the ranges and the height, where both are one
body_by : (fold : Bool) (t : List ℕ) (x : Body) (r : List ℕ) (y : Body) (rest : List ℕ) → ReadsClass fold t x r → ◌≡◌ {A = BodyRead} (Some (x, r)) (Some (y, rest)) → ReadsClass fold t y rest
body_by fold t x r y rest reads e =
    let p : ◌≡◌ {A = Body × List ℕ} (x, r) (y, rest) = cc in
    subst (λ (p : Body × List ℕ). ReadsClass fold t p.0 p.1) p reads

-- a negated class
negated_found : (fold : Bool) (inner : Reader) → AreFound fold inner → (t : List ℕ) (x : Body) (rest : List ℕ) → signed_at inner fold true t ≡ Some (x, rest) → ReadsClass fold (94 ∷ t) x rest
negated_found fold inner found t x rest e =
    let b = bind_ok (parts_on inner true t) (body_of fold true) (x, rest) e in
    let r = items_found fold inner found (length t) true t b.0.0 b.0.1 b.1 in
    body_by fold (94 ∷ t) (class_members fold true b.0.0, 1 + highest b.0.0) b.0.1 x rest
    (record {
      class = Of true r.items;
      whole = ap (λ u. 94 ∷ u) r.whole;
      is = r.are;
      ranges = ap (class_members fold true) r.means;
      height = ap (λ ps. 1 + highest ps) r.means ∙ ap (λ h. 1 + h) (parts_height fold r.items);
    })
    b.2

-- the front of the items
items_front : (t rest : List ℕ) (is : Items) → begins 94 t ≡ false → t ≡ items_text is ++ rest → begins 94 (items_text is) ≡ false
items_front t rest is bare e = sym (begins-append 94 (items_text is) rest (items_long is)) ∙ sym (ap (begins 94) e) ∙ bare

-- a class that is not negated
plain_found : (fold : Bool) (inner : Reader) → AreFound fold inner → (t : List ℕ) (x : Body) (rest : List ℕ) → begins 94 t ≡ false → signed_at inner fold false t ≡ Some (x, rest) → ReadsClass fold t x rest
plain_found fold inner found t x rest bare e =
    let b = bind_ok (parts_on inner true t) (body_of fold false) (x, rest) e in
    let r = items_found fold inner found (length t) true t b.0.0 b.0.1 b.1 in
    body_by fold t (class_members fold false b.0.0, 1 + highest b.0.0) b.0.1 x rest
    (record {
      class = Of false r.items;
      whole = r.whole;
      is = (items_front t b.0.1 r.items bare r.whole, r.are);
      ranges = ap (class_members fold false) r.means;
      height = ap (λ ps. 1 + highest ps) r.means ∙ ap (λ h. 1 + h) (parts_height fold r.items);
    })
    b.2

-- Classes that are read are written.
pub body_found : (depth : ℕ) (fold : Bool) → AreFound fold (body_at depth fold)
unfolding body_at
body_found zero fold t x rest e = absurd cc
body_found (suc depth) fold [] x rest e = plain_found fold (body_at depth fold) (body_found depth fold) [] x rest refl e
body_found (suc depth) fold (c ∷ t) x rest e = elim (cases_Bool (c == 94)) [
  | inl h ↦ let at = eqb-true c 94 h in rw at (negated_found fold (body_at depth fold) (body_found depth fold) t x rest (rw h at e))
  | inr h ↦ plain_found fold (body_at depth fold) (body_found depth fold) (c ∷ t) x rest h (rw h at e)
]

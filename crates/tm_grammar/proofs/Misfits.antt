-- The first misfit of the walk is the first wrong path.
use Rattle.std.proofs.Common.{◌≡◌, ℕ, ◌+◌, List, [], ◌∷◌, ◌++◌, map, Bool, true, false, IsTrue, Option, Some, None, refl, sym, ap, ◌∙◌, if◌then◌else◌, ◌&&◌}
use Rattle.std.specs.Option.{option_or}
use Rattle.std.specs.List.{list_all}
use Rattle.serde_json.specs.Data.{Data, null, boolean, number, string, array, object, Items, no_items, item, Members, no_members, member}
use Rattle.tm_grammar.specs.Paths.{key_step, place_step}
use Rattle.tm_grammar.specs.Shapes.{fits, member_shape, item_shape}
use Rattle.tm_grammar.specs.Wrong.{is_ignored, first_wrong, wrong_item, wrong_member, below, self_or_inside}
use Rattle.tm_grammar.specs.Walk.{Visit, is_fitting, behind, itself_and, visits, item_visits, member_visits, IsFirstMisfit, IsFirst, AllFit}
use Rattle.tm_grammar.specs.declared.shapes.Shape.{Shape}

-- the path of the first visit that does not fit
abbrev misfit : List Visit → Option (List ℕ)
misfit [] = None
misfit (v ∷ vs) = if is_fitting v then misfit vs else Some v.path

if-or : (t : Bool) (p : List ℕ) (o q : Option (List ℕ)) → (if t then option_or o q else Some p) ≡ option_or (if t then o else Some p) q
if-or true p o q = refl
if-or false p o q = refl

misfit-append : (vs ws : List Visit) → misfit (vs ++ ws) ≡ option_or (misfit vs) (misfit ws)
misfit-append [] ws = refl
misfit-append (v ∷ vs) ws = ap (λ o. if is_fitting v then o else Some v.path) (misfit-append vs ws) ∙ if-or (is_fitting v) v.path (misfit vs) (misfit ws)

if-below : (t : Bool) (step p : List ℕ) (o : Option (List ℕ)) → (if t then below step o else Some (step ++ p)) ≡ below step (if t then o else Some p)
if-below true step p o = refl
if-below false step p o = refl

misfit-behind : (step : List ℕ) (vs : List Visit) → misfit (map (behind step) vs) ≡ below step (misfit vs)
misfit-behind step [] = refl
misfit-behind step (v ∷ vs) = ap (λ o. if is_fitting v then o else Some (step ++ v.path)) (misfit-behind step vs) ∙ if-below (is_fitting v) step v.path (misfit vs)

misfit-itself : (t : Bool) (shape : Shape) (d : Data) (inside : List Visit) →
    (if t then None else (if fits shape d then misfit inside else Some [])) ≡ misfit (if t then [] else record { path = []; shape = shape; value = d } ∷ inside)
misfit-itself true shape d inside = refl
misfit-itself false shape d inside = refl

itself : (shape : Shape) (d : Data) (wrong : Option (List ℕ)) (inside : List Visit) → wrong ≡ misfit inside → self_or_inside shape (fits shape d) wrong ≡ misfit (itself_and shape d inside)
itself shape d wrong inside is = ap (self_or_inside shape (fits shape d)) is ∙ misfit-itself (is_ignored shape) shape d inside

part : (step : List ℕ) (wrong rest : Option (List ℕ)) (vs ws : List Visit) → wrong ≡ misfit vs → rest ≡ misfit ws → option_or (below step wrong) rest ≡ misfit (map (behind step) vs ++ ws)
part step wrong rest vs ws is more = rw (is, more) (sym (misfit-append (map (behind step) vs) ws ∙ ap (λ o. option_or o (misfit ws)) (misfit-behind step vs)))

mutual
  wrong-misfit : (shape : Shape) (d : Data) → first_wrong shape d ≡ misfit (visits shape d)
  wrong-misfit shape (array ds) = itself shape (array ds) (wrong_item shape 0 ds) (item_visits shape 0 ds) (items-misfit shape 0 ds)
  wrong-misfit shape (object ms) = itself shape (object ms) (wrong_member shape ms) (member_visits shape ms) (members-misfit shape ms)
  wrong-misfit shape null = itself shape null None [] refl
  wrong-misfit shape (boolean b) = itself shape (boolean b) None [] refl
  wrong-misfit shape (number n) = itself shape (number n) None [] refl
  wrong-misfit shape (string s) = itself shape (string s) None [] refl

  items-misfit : (shape : Shape) (place : ℕ) (ds : Items) → wrong_item shape place ds ≡ misfit (item_visits shape place ds)
  items-misfit shape place no_items = refl
  items-misfit shape place (item d ds) = part (place_step place) (first_wrong (item_shape shape place) d) (wrong_item shape (place + 1) ds)
      (visits (item_shape shape place) d) (item_visits shape (place + 1) ds) (wrong-misfit (item_shape shape place) d) (items-misfit shape (place + 1) ds)

  members-misfit : (shape : Shape) (ms : Members) → wrong_member shape ms ≡ misfit (member_visits shape ms)
  members-misfit shape no_members = refl
  members-misfit shape (member key d ms) = part (key_step key) (first_wrong (member_shape shape key) d) (wrong_member shape ms)
      (visits (member_shape shape key) d) (member_visits shape ms) (wrong-misfit (member_shape shape key) d) (members-misfit shape ms)

first-at : (path : List ℕ) (t : Bool) (v : Visit) (vs : List Visit) → (misfit vs ≡ Some path → IsFirstMisfit path vs) → is_fitting v ≡ t →
    (if t then misfit vs else Some v.path) ≡ Some path → IsFirstMisfit path (v ∷ vs)
first-at path true v vs later fit is =
    let (before, visit, after, all, good, bad, named) = later is in
    (v ∷ before, visit, after, ap (λ ws. v ∷ ws) all, rw fit good, bad, named)
first-at path false v vs later fit is = ([], v, vs, refl, refl, fit, cc)

misfit-first : (path : List ℕ) (vs : List Visit) → misfit vs ≡ Some path → IsFirstMisfit path vs
misfit-first path [] is = cc
misfit-first path (v ∷ vs) is = first-at path (is_fitting v) v vs (misfit-first path vs) refl is

fit-at : (t : Bool) (v : Visit) (vs : List Visit) → (misfit vs ≡ None → IsTrue (list_all is_fitting vs)) → (if t then misfit vs else Some v.path) ≡ None → IsTrue (t && list_all is_fitting vs)
fit-at true v vs later is = later is
fit-at false v vs later is = cc

misfit-none : (vs : List Visit) → misfit vs ≡ None → IsTrue (list_all is_fitting vs)
misfit-none [] is = refl
misfit-none (v ∷ vs) is = fit-at (is_fitting v) v vs (misfit-none vs) is

pub first-misfit : IsFirst
first-misfit shape d path is = misfit-first path (visits shape d) (sym (wrong-misfit shape d) ∙ is)

pub all-fit : AllFit
all-fit shape d is = misfit-none (visits shape d) (sym (wrong-misfit shape d) ∙ is)

-- What is posted by line number and by birth.
use Rattle.std.proofs.Common.{◌≡◌, ℕ, suc, ◌+◌, ◌&&◌, Bool, true, false, List, [], ◌∷◌, ◌++◌, length, Option, Some, None, refl, ap, ◌∙◌, arith}
use Rattle.std.specs.Prelude.{slice_get}
use Rattle.std.specs.List.{AllZip}
use Rattle.tm_defs.specs.declared.frames.FrameData.{FrameData}
use Rattle.tm_defs.specs.declared.tokens.Token.{Token}
use Rattle.tm_machine.specs.declared.entries.Entry.{Entry}
use Rattle.tm_machine.specs.Births.{Birth}
use Rattle.tm_machine.specs.Machine.{Item, Side, fresh_items, item_if, items_of}
use Rattle.tm_machine.specs.Turns.{opening}
use Rattle.tm_rebase.specs.Batches.{Placed}
use Rattle.tm_worker.specs.Posted.{fresh_placed, placed_if}

module _ (births : List Birth) where
  abbrev IsSame : Placed (List FrameData) → Item → Type 0
  IsSame placed item = (placed.made ≡ item.made) × (slice_get births placed.place ≡ Some item.birth)

  same-if : (b : Bool) (i : ℕ) (birth : Birth) (line : List ℕ) (before : Option (List FrameData)) (tokens : Option (List Token)) (end : Option (List FrameData)) → slice_get births i ≡ Some birth →
      AllZip IsSame (placed_if b i line before tokens end) (item_if b birth line before tokens end)
  same-if true i birth line (Some s) (Some t) (Some z) h = ((refl, h), tt)
  same-if true i birth line (Some s) (Some t) None h = tt
  same-if true i birth line (Some s) None end h = tt
  same-if true i birth line None tokens end h = tt
  same-if false i birth line before tokens end h = tt

  same-append : (xs us : List (Placed (List FrameData))) (ys vs : List Item) → AllZip IsSame xs ys → AllZip IsSame us vs → AllZip IsSame (xs ++ us) (ys ++ vs)
  same-append [] us [] vs h k = k
  same-append [] us (y ∷ ys) vs h k = absurd h
  same-append (x ∷ xs) us [] vs h k = absurd h
  same-append (x ∷ xs) us (y ∷ ys) vs h k = (h.0, same-append xs us ys vs h.1 k)

  same-from : (i : ℕ) (before : Option (List FrameData)) (bs : List Birth) (lines : List (List ℕ)) (es : List (Entry (List FrameData))) (fs : List Bool) → ((j : ℕ) → slice_get births (i + j) ≡ slice_get bs j) → length bs ≡ length lines →
      AllZip IsSame (fresh_placed i before lines es fs) (fresh_items before bs lines es fs)
  same-from i before [] [] es fs h l = tt
  same-from i before [] (line ∷ lines) es fs h l = absurd (omega (arith, l))
  same-from i before (b ∷ bs) [] es fs h l = absurd (omega (arith, l))
  same-from i before (b ∷ bs) (line ∷ lines) [] fs h l = tt
  same-from i before (b ∷ bs) (line ∷ lines) (e ∷ es) [] h l = tt
  same-from i before (b ∷ bs) (line ∷ lines) (e ∷ es) (f ∷ fs) h l =
      let here : i ≡ i + 0 = omega arith in
      same-append (placed_if (f && e.good) i line before e.tokens e.end) (fresh_placed (suc i) e.end lines es fs) (item_if (f && e.good) b line before e.tokens e.end) (fresh_items e.end bs lines es fs)
      (same-if (f && e.good) i b line before e.tokens e.end (ap (slice_get births) here ∙ h 0))
      (same-from (suc i) e.end bs lines es fs (λ j. let next : suc i + j ≡ i + suc j = omega arith in ap (slice_get births) next ∙ h (suc j)) (omega (arith, l)))

pub posts-same : (s : Side) (fresh : List Bool) → length s.text.births ≡ length s.text.lines → AllZip (IsSame s.text.births) (fresh_placed 0 opening s.text.lines s.entries fresh) (items_of s fresh)
posts-same s fresh l = same-from s.text.births 0 opening s.text.births s.text.lines s.entries fresh (λ j. let same : 0 + j ≡ j = omega arith in ap (slice_get s.text.births) same) l

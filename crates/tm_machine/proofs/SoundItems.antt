-- Items of batches are sound where they are made, stay so in every change, and keep entries right where they are used.
use Rattle.std.proofs.Common.{◌≡◌, ℕ, suc, ◌≤◌, Bool, true, false, List, [], ◌∷◌, Option, Some, None, refl, sym, ap, ◌∙◌, subst, subst₂, arith}
use Rattle.std.specs.Prelude.{◌&&◌, slice_get, option_and_then}
use Rattle.std.specs.List.{AllByRecursion}
use Rattle.std.proofs.lemmas.Bool.{and_parts}
use Rattle.tm_defs.specs.declared.changes.Change.{Change}
use Rattle.tm_defs.specs.declared.frames.FrameData.{FrameData}
use Rattle.tm_machine.specs.declared.entries.Entry.{Entry}
use Rattle.tm_machine.specs.Accepts.{good_at}
use Rattle.tm_machine.specs.Births.{Birth, is_birth, place_of, AllDiffer, NoLaterThan}
use Rattle.tm_machine.specs.Changes.{BornText, IsBorn, moved, effect_of, changed}
use Rattle.tm_machine.specs.Documents.{Rules}
use Rattle.tm_machine.specs.Entries.{put, is_end, end_at, start_at, IsRight, AreRight}
use Rattle.tm_machine.specs.Machine.{Side, Order, ChangeOrder, SettingOrder, Item, item_if, fresh_items, items_of, entries_at, all_used}
use Rattle.tm_machine.specs.Places.{IsIn}
use Rattle.tm_machine.specs.Scratch.{Tokenizing}
use Rattle.tm_machine.specs.Sound.{IsSoundSide, IsSoundItem, CanObey, text_obeyed}
use Rattle.tm_machine.specs.Turns.{opening}
use Rattle.tm_machine.proofs.BirthPlaces.{is_birth-true, is_birth-self}
use Rattle.tm_machine.proofs.BornTexts.{IsBorn-changed, place-changed, line-changed}
use Rattle.tm_machine.proofs.EntrySteps.{AreRight-put, AreRight-guess}
use Rattle.tm_machine.proofs.ReachedTables.{every-as, every-append}
use Rattle.tm_machine.proofs.SameStates.{is_end-true}

and_then_at : (f : ℕ → Option ℕ) (o : Option ℕ) (j : ℕ) → option_and_then f o ≡ Some j → (i : ℕ) × (o ≡ Some i) × (f i ≡ Some j)
and_then_at f None j h = absurd (cc)
and_then_at f (Some i) j h = (i, refl, h)

-- a change keeps an item sound
pub item-changed : (k : Tokenizing) (t : BornText) (c : Change) (x : Item) → IsBorn t → IsIn t.lines c → IsSoundItem k t x → IsSoundItem k (changed t c) x
item-changed k t c x b i h = record {
  tokens = h.tokens;
  end = h.end;
  version = let v = h.version in omega arith;
  line = λ j p.
      let a = and_then_at (moved (effect_of t.lines c)) (place_of t.births x.birth) j (sym (place-changed t c x.birth b i h.version) ∙ p) in
      line-changed t c a.0 j i a.2 ∙ h.line a.0 a.1;
}

-- and so do orders
pub item-obeyed : (r : Rules) (k : Tokenizing) (t : BornText) (os : List Order) (x : Item) → IsBorn t → CanObey r t os → IsSoundItem k t x → IsSoundItem k (text_obeyed t os) x
item-obeyed r k t [] x b c h = h
item-obeyed r k t (ChangeOrder version d ∷ os) x b c h = item-obeyed r k (changed t d) os x (IsBorn-changed t d b c.0) c.3 (item-changed k t d x b c.0 h)
item-obeyed r k t (SettingOrder number ∷ os) x b c h = item-obeyed r k t os x b c.1 h

module _ (k : Tokenizing) (budget : ℕ) (t : BornText) where
  -- a sound item keeps the entries right
  item-used : (es : List (Entry (List FrameData))) (x : Item) (o : Option ℕ) → place_of t.births x.birth ≡ o → IsSoundItem k t x → AreRight k budget opening t.lines es → AreRight k budget opening t.lines (entries_at es x o)
  item-used es x None p s h = h
  item-used es x (Some i) p s h = go (good_at es i) refl (is_end (start_at opening es i) x.start) refl
    where
      go : (g : Bool) → good_at es i ≡ g → (e : Bool) → is_end (start_at opening es i) x.start ≡ e → AreRight k budget opening t.lines (entries_at es x (Some i))
      go true g e q = rw g h
      go false g true q =
          rw (g, q) (
          let P : List _ → List FrameData → Type 0 = λ tokens end. AreRight k budget opening t.lines (put es i tokens end (is_end (end_at es i) end)) in
          subst₂ P (sym s.tokens) (sym s.end)
          (AreRight-put k budget opening t.lines es i x.start x.line (is_end (end_at es i) (k.tokenized x.start x.line).end) h (is_end-true (start_at opening es i) x.start q) (s.line i p) (λ e. is_end-true (end_at es i) (k.tokenized x.start x.line).end e))
          )
      go false g false q = rw (g, q) (AreRight-guess k budget opening t.lines es i x.tokens x.end (is_end (end_at es i) x.end) h g (λ e. is_end-true (end_at es i) x.end e))

  pub items-used : (es : List (Entry (List FrameData))) (xs : List Item) → AllByRecursion (IsSoundItem k t) xs → AreRight k budget opening t.lines es → AreRight k budget opening t.lines (all_used t.births es xs)
  items-used es [] s h = h
  items-used es (x ∷ xs) s h = items-used (entries_at es x (place_of t.births x.birth)) xs s.1 (item-used es x (place_of t.births x.birth) refl s.0 h)

-- an item for one of these lines
record IsMadeOf (k : Tokenizing) (v : ℕ) (bs : List Birth) (lines : List (List ℕ)) (x : Item) : Type 0 where
  tokens : x.tokens ≡ (k.tokenized x.start x.line).tokens
  end : x.end ≡ (k.tokenized x.start x.line).end
  version : x.birth.version ≤ v
  place : (i : ℕ) × (place_of bs x.birth ≡ Some i) × (slice_get lines i ≡ Some x.line)

module _ (k : Tokenizing) (budget v : ℕ) where
  -- one line further in front
  made-behind : (b : Birth) (bs : List Birth) (line : List ℕ) (lines : List (List ℕ)) (x : Item) → place_of bs b ≡ None → IsMadeOf k v bs lines x → IsMadeOf k v (b ∷ bs) (line ∷ lines) x
  made-behind b bs line lines x d h = record { tokens = h.tokens; end = h.end; version = h.version; place = go (is_birth b x.birth) refl }
    where
      go : (t : Bool) → is_birth b x.birth ≡ t → (i : ℕ) × (place_of (b ∷ bs) x.birth ≡ Some i) × (slice_get (line ∷ lines) i ≡ Some x.line)
      go true e =
          let same : b ≡ x.birth = is_birth-true b x.birth e in
          let gone = subst (λ y. place_of bs y ≡ None) same d in
          let there = h.place.1 in
          absurd (cc)
      go false e = (suc h.place.0, rw (e, h.place.1), h.place.2)

  -- the item of one entry
  made-here : (before : Option (List FrameData)) (b : Birth) (bs : List Birth) (line : List ℕ) (lines : List (List ℕ)) (e : Entry (List FrameData)) (f : Bool) → b.version ≤ v → IsRight k budget before line e → (f ≡ true → e.good ≡ true) →
      AllByRecursion (IsMadeOf k v (b ∷ bs) (line ∷ lines)) (item_if f b line before e.tokens e.end)
  made-here before b bs line lines e false w h g = tt
  made-here before b bs line lines e true w h g =
      let d = h.good (g refl) in
      rw (d.1, d.2.tokens, d.2.end) (record { tokens = refl; end = refl; version = w; place = (0, rw (is_birth-self b), refl) }, tt)

  made-fresh : (before : Option (List FrameData)) (bs : List Birth) (lines : List (List ℕ)) (es : List (Entry (List FrameData))) (fs : List Bool) → AllDiffer bs → NoLaterThan v bs → AreRight k budget before lines es →
      AllByRecursion (IsMadeOf k v bs lines) (fresh_items before bs lines es fs)
  made-fresh before [] lines es fs d w h = tt
  made-fresh before (b ∷ bs) [] es fs d w h = tt
  made-fresh before (b ∷ bs) (line ∷ lines) [] fs d w h = tt
  made-fresh before (b ∷ bs) (line ∷ lines) (e ∷ es) [] d w h = tt
  made-fresh before (b ∷ bs) (line ∷ lines) (e ∷ es) (f ∷ fs) d w h =
      every-append (IsMadeOf k v (b ∷ bs) (line ∷ lines)) (item_if (f && e.good) b line before e.tokens e.end) (fresh_items e.end bs lines es fs)
      (made-here before b bs line lines e (f && e.good) w.0 h.0 (λ t. (and_parts f e.good t).1))
      (every-as (IsMadeOf k v bs lines) (IsMadeOf k v (b ∷ bs) (line ∷ lines)) (λ x. made-behind b bs line lines x d.0) (fresh_items e.end bs lines es fs) (made-fresh e.end bs lines es fs d.1 w.1 h.1))

-- an item is sound in the text that it was made from
made-sound : (k : Tokenizing) (t : BornText) (x : Item) → IsMadeOf k t.version t.births t.lines x → IsSoundItem k t x
made-sound k t x h = record {
  tokens = h.tokens;
  end = h.end;
  version = h.version;
  line = λ i p. let q = h.place.1 in let same : i ≡ h.place.0 = cc in ap (slice_get t.lines) same ∙ h.place.2;
}

-- the fresh and good lines of a sound side are sound items, also in the text that orders make of it
pub fresh-sound : (r : Rules) (s : Side) (fs : List Bool) (os : List Order) → IsSoundSide r s → CanObey r s.text os → AllByRecursion (IsSoundItem (r.setting s.epoch) (text_obeyed s.text os)) (items_of s fs)
fresh-sound r s fs os h c =
    let k = r.setting s.epoch in
    every-as (IsMadeOf k s.text.version s.text.births s.text.lines) (IsSoundItem k (text_obeyed s.text os)) (λ x m. item-obeyed r k s.text os x h.born c (made-sound k s.text x m))
    (items_of s fs)
    (made-fresh k r.budget s.text.version opening s.text.births s.text.lines s.entries fs h.born.differ h.born.no_later h.right)

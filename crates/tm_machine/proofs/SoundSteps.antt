-- Each step keeps the machine sound.
use Rattle.std.proofs.Common.{◌≡◌, ℕ, suc, ◌<◌, ◌-◌, Bool, List, [], ◌∷◌, ◌++◌, refl, sym, ap, ◌∙◌, subst, subst₂, inl, inr}
use Rattle.std.specs.List.{AllByRecursion}
use Rattle.tm_defs.specs.declared.changes.Change.{Change}
use Rattle.tm_defs.specs.declared.events.Step.{Step}
use Rattle.tm_defs.specs.declared.events.Step.TheVariants as step
use Rattle.tm_defs.specs.declared.frames.FrameData.{FrameData}
use Rattle.tm_machine.specs.declared.entries.Entry.{Entry}
use Rattle.tm_machine.specs.Changes.{BornText, changed}
use Rattle.tm_machine.specs.Documents.{Rules, Document, Refusal, Answer, Edited, Set, Lined, Forced, Nothing, Drained, Worked, Posted, Used, OtherEpoch, Refused, CanEdit, HasRightEntries, DocumentSteps, edited, reset, with_entries}
use Rattle.tm_machine.specs.Entries.{AreRight}
use Rattle.tm_machine.specs.Machine.{Side, Order, ChangeOrder, SettingOrder, Batch, Machine, ForeSteps, Steps, Runs, IsAccurate, machine_of, seen, with_births, text_after, obeyed, items_of, all_used}
use Rattle.tm_machine.specs.Sound.{IsSound, IsSoundSide, IsSoundBatch, IsSoundItem, CanObey, text_obeyed, epoch_obeyed}
use Rattle.tm_machine.specs.Turns.{opening}
use Rattle.tm_machine.proofs.BornTexts.{IsBorn-opened, IsBorn-changed}
use Rattle.tm_machine.proofs.EntrySteps.{AreAccurate-right}
use Rattle.tm_machine.proofs.ReachedTables.{every-as, every-append}
use Rattle.tm_machine.proofs.RightRuns.{right-new, right-edited, right-reset, right-step}
use Rattle.tm_machine.proofs.SoundItems.{item-changed, items-used, fresh-sound}

side-new : (r : Rules) (lines : List (List ℕ)) → IsSoundSide r (machine_of lines).fore
side-new r lines = record { born = IsBorn-opened lines; right = right-new r lines }

pub sound-new : (r : Rules) (lines : List (List ℕ)) → IsSound r (machine_of lines)
sound-new r lines = record { fore = side-new r lines; back = side-new r lines; orders = tt; text = refl; epoch = refl; batches = tt }

-- births follow the text of the document
pub text-follows : (r : Rules) (s : Side) (x : Step) (a : Answer) (d : Document) → DocumentSteps r (seen s) x a d → seen (with_births (text_after s.text x a) d) ≡ d
text-follows r s (step.Edit c) (Edited version) d h = ap (λ z. seen (with_births (changed s.text c) z)) h.2 ∙ sym h.2
text-follows r s (step.Edit c) (Refused why) d h = ap (λ z. seen (with_births s.text z)) h.1 ∙ sym h.1
text-follows r s (step.Setting number) Set d h = ap (λ z. seen (with_births s.text z)) h.1 ∙ sym h.1
text-follows r s (step.Setting number) (Refused why) d h = ap (λ z. seen (with_births s.text z)) h.1 ∙ sym h.1
text-follows r s step.Line (Lined turn) d h = ap (λ z. seen (with_births s.text z)) h.2 ∙ sym h.2
text-follows r s step.Line (Refused why) d h = ap (λ z. seen (with_births s.text z)) h.1 ∙ sym h.1
text-follows r s (step.Force line) (Forced done blocked) d h = let e = h.1.2 in ap (λ z. seen (with_births s.text z)) e ∙ sym e
text-follows r s (step.Force line) (Refused why) d (inl h) = ap (λ z. seen (with_births s.text z)) h.2 ∙ sym h.2
text-follows r s (step.Force line) (Refused why) d (inr h) = let e = h.1.1.3 in ap (λ z. seen (with_births s.text z)) e ∙ sym e
text-follows r s step.Settle (Forced done blocked) d h = ap (λ z. seen (with_births s.text z)) h.2 ∙ sym h.2
text-follows r s step.Settle (Refused why) d h = let e = h.1.3 in ap (λ z. seen (with_births s.text z)) e ∙ sym e
text-follows r s _ _ d h = absurd h

-- one more order
can-more : (r : Rules) (t : BornText) (os : List Order) (o : Order) → CanObey r t os → CanObey r (text_obeyed t os) (o ∷ []) → CanObey r t (os ++ o ∷ [])
can-more r t [] o h g = g
can-more r t (ChangeOrder version c ∷ os) o h g = (h.0, h.1, h.2, can-more r (changed t c) os o h.3 g)
can-more r t (SettingOrder number ∷ os) o h g = (h.0, can-more r t os o h.1 g)

pub text-more : (t : BornText) (os : List Order) (o : Order) → text_obeyed t (os ++ o ∷ []) ≡ text_obeyed (text_obeyed t os) (o ∷ [])
text-more t [] o = refl
text-more t (ChangeOrder version c ∷ os) o = text-more (changed t c) os o
text-more t (SettingOrder number ∷ os) o = text-more t os o

pub epoch-more : (epoch : ℕ) (os : List Order) (o : Order) → epoch_obeyed epoch (os ++ o ∷ []) ≡ epoch_obeyed (epoch_obeyed epoch os) (o ∷ [])
epoch-more epoch [] o = refl
epoch-more epoch (ChangeOrder version c ∷ os) o = epoch-more epoch os o
epoch-more epoch (SettingOrder number ∷ os) o = epoch-more number os o

module _ (r : Rules) (m : Machine) (h : IsSound r m) where
  edit-sound : (c : Change) → CanEdit (seen m.fore) c → IsSound r (record m { fore = with_births (changed m.fore.text c) (edited (seen m.fore) c); orders = m.orders ++ ChangeOrder (suc m.fore.text.version) c ∷ [] })
  edit-sound c can =
      let o = ChangeOrder (suc m.fore.text.version) c in
      record {
        fore = record { born = IsBorn-changed m.fore.text c h.fore.born can.within; right = right-edited r (seen m.fore) c can.within h.fore.right };
        back = h.back;
        orders = can-more r m.back.text m.orders o h.orders (rw h.text (can.within, can.fits, refl, tt));
        text = text-more m.back.text m.orders o ∙ ap (λ t. changed t c) h.text;
        epoch = epoch-more m.back.epoch m.orders o ∙ h.epoch;
        batches = every-as (IsSoundBatch r m.fore.text) (IsSoundBatch r (changed m.fore.text c))
            (λ b. every-as (IsSoundItem (r.setting b.epoch) m.fore.text) (IsSoundItem (r.setting b.epoch) (changed m.fore.text c)) (λ x. item-changed (r.setting b.epoch) m.fore.text c x h.fore.born can.within) b.items) m.batches h.batches;
      }

  setting-sound : (number : ℕ) → number < r.settings → IsSound r (record m { fore = with_births m.fore.text (reset (seen m.fore) number); orders = m.orders ++ SettingOrder number ∷ [] })
  setting-sound number known =
      let o = SettingOrder number in
      record {
        fore = record { born = h.fore.born; right = right-reset r (seen m.fore) number };
        back = h.back;
        orders = can-more r m.back.text m.orders o h.orders (known, tt);
        text = text-more m.back.text m.orders o ∙ h.text;
        epoch = epoch-more m.back.epoch m.orders o;
        batches = h.batches;
      }

  -- the foreground's entries alone change
  fore-sound : (es : List (Entry (List FrameData))) → AreRight (r.setting m.fore.epoch) r.budget opening m.fore.text.lines es → IsSound r (record m { fore = record (m.fore) { entries = es } })
  fore-sound es g = record { fore = record { born = h.fore.born; right = g }; back = h.back; orders = h.orders; text = h.text; epoch = h.epoch; batches = h.batches }

  -- one of the steps that leave text and setting
  stays-sound : (s : Step) (a : Answer) (d : Document) (es : List (Entry (List FrameData))) → DocumentSteps r (seen m.fore) s a d → d ≡ with_entries (seen m.fore) es → IsSound r (record m { fore = with_births m.fore.text d })
  stays-sound s a d es x e =
      let P : Document → Type 0 = λ z. IsSound r (record m { fore = with_births m.fore.text z }) in
      subst P (sym e) (fore-sound es (subst (HasRightEntries r) e (right-step r (seen m.fore) s a d h.fore.right x)))

  drain-sound : (o : Order) (os : List Order) (fs : List Bool) → m.orders ≡ o ∷ os → IsSound r (record m { back = obeyed m.back o; fresh = fs; orders = os })
  drain-sound (ChangeOrder version c) os fs e =
      let can = subst (CanObey r m.back.text) e h.orders in
      record {
        fore = h.fore;
        back = record { born = IsBorn-changed m.back.text c h.back.born can.0; right = right-edited r (seen m.back) c can.0 h.back.right };
        orders = can.3;
        text = subst (λ x. text_obeyed m.back.text x ≡ m.fore.text) e h.text;
        epoch = subst (λ x. epoch_obeyed m.back.epoch x ≡ m.fore.epoch) e h.epoch;
        batches = h.batches;
      }
  drain-sound (SettingOrder number) os fs e = record {
    fore = h.fore;
    back = record { born = h.back.born; right = right-reset r (seen m.back) number };
    orders = (subst (CanObey r m.back.text) e h.orders).1;
    text = subst (λ x. text_obeyed m.back.text x ≡ m.fore.text) e h.text;
    epoch = subst (λ x. epoch_obeyed m.back.epoch x ≡ m.fore.epoch) e h.epoch;
    batches = h.batches;
  }

  -- the worker's entries alone change
  work-sound : (d : Document) (fs : List Bool) (es : List (Entry (List FrameData))) → d ≡ with_entries (seen m.back) es → HasRightEntries r d → IsSound r (record m { back = with_births m.back.text d; fresh = fs })
  work-sound d fs es e g =
      let P : Document → Type 0 = λ z. IsSound r (record m { back = with_births m.back.text z; fresh = fs }) in
      subst P (sym e) (record { fore = h.fore; back = record { born = h.back.born; right = subst (HasRightEntries r) e g }; orders = h.orders; text = h.text; epoch = h.epoch; batches = h.batches })

  post-sound : (fs : List Bool) → IsSound r (record m { fresh = fs; batches = m.batches ++ record { epoch = m.back.epoch; version = m.back.text.version; items = items_of m.back m.fresh } ∷ [] })
  post-sound fs =
      let b : Batch = record { epoch = m.back.epoch; version = m.back.text.version; items = items_of m.back m.fresh } in
      record {
        fore = h.fore;
        back = h.back;
        orders = h.orders;
        text = h.text;
        epoch = h.epoch;
        batches = every-append (IsSoundBatch r m.fore.text) m.batches (b ∷ []) h.batches
            (subst (λ t. AllByRecursion (IsSoundItem (r.setting m.back.epoch) t) (items_of m.back m.fresh)) h.text (fresh-sound r m.back m.fresh m.orders h.back h.orders), tt);
      }

  taken-sound : (b : Batch) (bs : List Batch) (es : List (Entry (List FrameData))) → m.batches ≡ b ∷ bs → AreRight (r.setting m.fore.epoch) r.budget opening m.fore.text.lines es → IsSound r (record m { fore = record (m.fore) { entries = es }; batches = bs })
  taken-sound b bs es e g = record {
    fore = record { born = h.fore.born; right = g };
    back = h.back;
    orders = h.orders;
    text = h.text;
    epoch = h.epoch;
    batches = (subst (AllByRecursion (IsSoundBatch r m.fore.text)) e h.batches).1;
  }

  used-sound : (b : Batch) (bs : List Batch) → m.batches ≡ b ∷ bs → b.epoch ≡ m.fore.epoch → IsSound r (record m { fore = record (m.fore) { entries = all_used m.fore.text.births m.fore.entries b.items }; batches = bs })
  used-sound b bs e same =
      taken-sound b bs (all_used m.fore.text.births m.fore.entries b.items) e
      (items-used (r.setting m.fore.epoch) r.budget m.fore.text m.fore.entries b.items
      (subst (λ n. AllByRecursion (IsSoundItem (r.setting n) m.fore.text) b.items) same (subst (AllByRecursion (IsSoundBatch r m.fore.text)) e h.batches).0) h.fore.right)

module _ (r : Rules) (m : Machine) (h : IsSound r m) where
  force-refused : (line : ℕ) (why : Refusal) (d : Document) → DocumentSteps r (seen m.fore) (step.Force line) (Refused why) d → IsSound r (record m { fore = with_births m.fore.text d })
  force-refused line why d (inl y) = stays-sound r m h (step.Force line) (Refused why) d m.fore.entries (inl y) y.2
  force-refused line why d (inr y) = let run = y.1.1 in stays-sound r m h (step.Force line) (Refused why) d run.1 (inr y) run.3

  fore-step-sound : (s : Step) (a : Answer) (n : Machine) → ForeSteps r m s a n → IsSound r n
  fore-step-sound (step.Edit c) (Edited version) n x =
      let P : Document → ℕ → Type 0 = λ d v. IsSound r (record m { fore = with_births (changed m.fore.text c) d; orders = m.orders ++ ChangeOrder v c ∷ [] }) in
      subst (IsSound r) (sym x.2) (subst₂ P (sym x.1.2) (sym x.1.1) (edit-sound r m h c x.1.0))
  fore-step-sound (step.Edit c) (Refused why) n x = subst (IsSound r) (sym x.2) (stays-sound r m h (step.Edit c) (Refused why) x.0 m.fore.entries x.1 x.1.1)
  fore-step-sound (step.Setting number) Set n x =
      let P : Document → Type 0 = λ d. IsSound r (record m { fore = with_births m.fore.text d; orders = m.orders ++ SettingOrder number ∷ [] }) in
      subst (IsSound r) (sym x.2) (subst P (sym x.1.1) (setting-sound r m h number x.1.0))
  fore-step-sound (step.Setting number) (Refused why) n x = subst (IsSound r) (sym x.2) (stays-sound r m h (step.Setting number) (Refused why) x.0 m.fore.entries x.1 x.1.1)
  fore-step-sound step.Line (Lined turn) n x = subst (IsSound r) (sym x.2) (stays-sound r m h step.Line (Lined turn) x.0 x.1.0 x.1 x.1.2)
  fore-step-sound step.Line (Refused why) n x = subst (IsSound r) (sym x.2) (stays-sound r m h step.Line (Refused why) x.0 m.fore.entries x.1 x.1.1)
  fore-step-sound (step.Force line) (Forced done blocked) n x = let run = x.1.1 in subst (IsSound r) (sym x.2) (stays-sound r m h (step.Force line) (Forced done blocked) x.0 run.0 x.1 run.2)
  fore-step-sound (step.Force line) (Refused why) n x = subst (IsSound r) (sym x.2) (force-refused line why x.0 x.1)
  fore-step-sound step.Settle (Forced done blocked) n x = subst (IsSound r) (sym x.2) (stays-sound r m h step.Settle (Forced done blocked) x.0 x.1.0 x.1 x.1.2)
  fore-step-sound step.Settle (Refused why) n x = let run = x.1.1 in subst (IsSound r) (sym x.2) (stays-sound r m h step.Settle (Refused why) x.0 run.1 x.1 run.3)
  fore-step-sound _ _ n x = absurd x.1

-- each step keeps the machine sound
pub step-sound : (r : Rules) (m : Machine) (s : Step) (a : Answer) (n : Machine) → IsSound r m → Steps r m s a n → IsSound r n
step-sound r m (step.Edit c) a n h x = fore-step-sound r m h (step.Edit c) a n x
step-sound r m (step.Setting number) a n h x = fore-step-sound r m h (step.Setting number) a n x
step-sound r m step.Line a n h x = fore-step-sound r m h step.Line a n x
step-sound r m (step.Force line) a n h x = fore-step-sound r m h (step.Force line) a n x
step-sound r m step.Settle a n h x = fore-step-sound r m h step.Settle a n x
step-sound r m step.Drain Nothing n h x = subst (IsSound r) (sym x.1) h
step-sound r m step.Drain Drained n h x = subst (IsSound r) (sym x.3) (drain-sound r m h x.0 x.1 _ x.2)
step-sound r m step.Drain (Refused why) n h x = subst (IsSound r) (sym x.1) h
step-sound r m step.Work (Worked turn) n h x = subst (IsSound r) (sym x.2) (work-sound r m h x.0 _ x.1.0 x.1.2 (right-step r (seen m.back) step.Line (Lined turn) x.0 h.back.right x.1))
step-sound r m step.Work (Refused why) n h x = subst (IsSound r) (sym x.1) h
step-sound r m step.Post Nothing n h x = subst (IsSound r) (sym x.1) h
step-sound r m step.Post (Posted count) n h x = subst (IsSound r) (sym x.2) (post-sound r m h _)
step-sound r m step.Post (Refused why) n h x = subst (IsSound r) (sym x.1) h
step-sound r m step.Accept Nothing n h x = subst (IsSound r) (sym x.1) h
step-sound r m step.Accept (OtherEpoch batch model) n h x = subst (IsSound r) (sym x.6) (taken-sound r m h x.0 x.1 m.fore.entries x.2 h.fore.right)
step-sound r m step.Accept (Used counts) n h x = subst (IsSound r) (sym x.5) (used-sound r m h x.0 x.1 x.2 x.3)
step-sound r m step.Accept (Refused why) n h x = subst (IsSound r) (sym x.1) h
step-sound r m _ _ n h x = absurd x

-- and so does a run
pub run-sound : (r : Rules) (m : Machine) (xs : List (Step × Answer)) (n : Machine) → IsSound r m → Runs r m xs n → IsSound r n
run-sound r m [] n h x = subst (IsSound r) (sym x) h
run-sound r m (y ∷ xs) n h x = run-sound r x.0 xs n (step-sound r m y.0 y.1 x.0 h x.1) x.2

pub accurate-sound : (r : Rules) (m : Machine) → IsSound r m → IsAccurate r m
accurate-sound r m h = AreAccurate-right (r.setting m.fore.epoch) r.budget m.fore.text.lines m.fore.entries h.fore.right

pub every-run-sound : (r : Rules) (lines : List (List ℕ)) (xs : List (Step × Answer)) (m : Machine) → Runs r (machine_of lines) xs m → IsSound r m
every-run-sound r lines xs m x = run-sound r (machine_of lines) xs m (sound-new r lines) x

pub every-run-accurate : (r : Rules) (lines : List (List ℕ)) (xs : List (Step × Answer)) (m : Machine) → Runs r (machine_of lines) xs m → IsAccurate r m
every-run-accurate r lines xs m x = accurate-sound r m (every-run-sound r lines xs m x)

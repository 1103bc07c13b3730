-- Each step keeps what the machine keeps within what stood.
use Rattle.std.proofs.Common.{◌≡◌, ℕ, Bool, true, false, List, [], ◌∷◌, ◌++◌, length, refl, sym, ap, ◌∙◌, subst, inl, inr}
use Rattle.std.specs.Prelude.{Contains, if◌then◌else◌, slice_get, Some}
use Rattle.std.specs.List.{AllByRecursion}
use Rattle.tm_defs.specs.declared.events.Step.{Step}
use Rattle.tm_defs.specs.declared.events.Step.TheVariants as step
use Rattle.tm_defs.specs.declared.frames.FrameData.{FrameData}
use Rattle.tm_machine.specs.declared.entries.Entry.{Entry}
use Rattle.tm_machine.specs.Changes.{BornText, changed, effect_of}
use Rattle.tm_machine.specs.Documents.{Rules, Document, Answer, Edited, Set, Lined, Forced, Nothing, Drained, Worked, Posted, Used, OtherEpoch, Refused, DocumentSteps, with_entries}
use Rattle.tm_machine.specs.Machine.{Side, Order, ChangeOrder, SettingOrder, Batch, Machine, ForeSteps, Steps, Runs, machine_of, seen, with_births, text_after, orders_after, obeyed, items_of, all_used}
use Rattle.tm_machine.specs.Past.{is_done, done_steps, stands_of_run, ReachesEnd, HasEnds, HasItemsWithin, way, IsWithinPast}
use Rattle.tm_machine.specs.Reach.{Stand, stand_in, stand_after, stands_of}
use Rattle.tm_machine.specs.Scratch.{line_from_scratch}
use Rattle.tm_machine.specs.Sound.{IsSound, text_obeyed, epoch_obeyed}
use Rattle.tm_machine.specs.Turns.{opening}
use Rattle.tm_machine.proofs.KnownEnds.{some_inj}
use Rattle.tm_machine.proofs.ReachedTables.{every-append, stands-first, stands-later}
use Rattle.tm_machine.proofs.SoundSteps.{sound-new, step-sound}
use Rattle.tm_machine.proofs.StoredEnds.{ends-replaced, ends-blank, ends-used, fresh-within, step-ends}

abbrev stand_of : BornText → ℕ → Stand
stand_of t epoch = record { lines = t.lines; epoch = epoch }

-- one more order on the way
way-more : (Q : Stand → Type 0) (t : BornText) (epoch : ℕ) (os : List Order) (o : Order) → AllByRecursion Q (way t epoch os) → Q (stand_of (text_obeyed (text_obeyed t os) (o ∷ [])) (epoch_obeyed (epoch_obeyed epoch os) (o ∷ []))) → AllByRecursion Q (way t epoch (os ++ o ∷ []))
way-more Q t epoch [] (ChangeOrder version c) h q = (h.0, (q, tt))
way-more Q t epoch [] (SettingOrder number) h q = (h.0, (q, tt))
way-more Q t epoch (ChangeOrder version c ∷ os) o h q = (h.0, way-more Q (changed t c) epoch os o h.1 q)
way-more Q t epoch (SettingOrder number ∷ os) o h q = (h.0, way-more Q t number os o h.1 q)

way-first : (Q : Stand → Type 0) (t : BornText) (epoch : ℕ) (os : List Order) → AllByRecursion Q (way t epoch os) → Q (stand_of t epoch)
way-first Q t epoch [] h = h.0
way-first Q t epoch (ChangeOrder version c ∷ os) h = h.0
way-first Q t epoch (SettingOrder number ∷ os) h = h.0

-- what stands behind a step
abbrev stand_behind : Stand → Step → Answer → Stand
stand_behind s x a = if is_done a then stand_after s x else s

fore-stand : (r : Rules) (s : Side) (x : Step) (a : Answer) (d : Document) → DocumentSteps r (seen s) x a d → stand_of (text_after s.text x a) d.epoch ≡ stand_behind (stand_of s.text s.epoch) x a
fore-stand r s (step.Edit c) (Edited version) d h = ap (λ (z : Document). stand_of (changed s.text c) z.epoch) h.2
fore-stand r s (step.Edit c) (Refused why) d h = ap (λ (z : Document). stand_of s.text z.epoch) h.1
fore-stand r s (step.Setting number) Set d h = ap (λ (z : Document). stand_of s.text z.epoch) h.1
fore-stand r s (step.Setting number) (Refused why) d h = ap (λ (z : Document). stand_of s.text z.epoch) h.1
fore-stand r s step.Line (Lined turn) d h = ap (λ (z : Document). stand_of s.text z.epoch) h.2
fore-stand r s step.Line (Refused why) d h = ap (λ (z : Document). stand_of s.text z.epoch) h.1
fore-stand r s (step.Force line) (Forced done blocked) d h = let e = h.1.2 in ap (λ (z : Document). stand_of s.text z.epoch) e
fore-stand r s (step.Force line) (Refused why) d (inl h) = ap (λ (z : Document). stand_of s.text z.epoch) h.2
fore-stand r s (step.Force line) (Refused why) d (inr h) = let e = h.1.1.3 in ap (λ (z : Document). stand_of s.text z.epoch) e
fore-stand r s step.Settle (Forced done blocked) d h = ap (λ (z : Document). stand_of s.text z.epoch) h.2
fore-stand r s step.Settle (Refused why) d h = let e = h.1.3 in ap (λ (z : Document). stand_of s.text z.epoch) e
fore-stand r s _ _ d h = absurd h

fore-behind : (r : Rules) (m : Machine) (x : Step) (a : Answer) (n : Machine) → ForeSteps r m x a n → stand_in n ≡ stand_behind (stand_in m) x a
fore-behind r m x a n h = ap stand_in h.2 ∙ fore-stand r m.fore x a h.0 h.1

step-behind : (r : Rules) (m : Machine) (x : Step) (a : Answer) (n : Machine) → Steps r m x a n → stand_in n ≡ stand_behind (stand_in m) x a
step-behind r m (step.Edit c) a n h = fore-behind r m (step.Edit c) a n h
step-behind r m (step.Setting number) a n h = fore-behind r m (step.Setting number) a n h
step-behind r m step.Line a n h = fore-behind r m step.Line a n h
step-behind r m (step.Force line) a n h = fore-behind r m (step.Force line) a n h
step-behind r m step.Settle a n h = fore-behind r m step.Settle a n h
step-behind r m step.Drain Nothing n h = ap stand_in h.1
step-behind r m step.Drain Drained n h = ap stand_in h.3
step-behind r m step.Drain (Refused why) n h = ap stand_in h.1
step-behind r m step.Work (Worked turn) n h = ap stand_in h.2
step-behind r m step.Work (Refused why) n h = ap stand_in h.1
step-behind r m step.Post Nothing n h = ap stand_in h.1
step-behind r m step.Post (Posted count) n h = ap stand_in h.2
step-behind r m step.Post (Refused why) n h = ap stand_in h.1
step-behind r m step.Accept Nothing n h = ap stand_in h.1
step-behind r m step.Accept (OtherEpoch batch model) n h = ap stand_in h.6
step-behind r m step.Accept (Used counts) n h = ap stand_in h.5
step-behind r m step.Accept (Refused why) n h = ap stand_in h.1
step-behind r m _ _ n h = absurd h

module _ (r : Rules) (stands : List Stand) where
  abbrev P : List FrameData → Type 0
  P = ReachesEnd r stands

  abbrev Within : Machine → Type 0
  Within n = IsWithinPast r stands n

  module _ (m : Machine) (sound : IsSound r m) (h : IsWithinPast r stands m) where
    fore-closed : (i : ℕ) (line : List ℕ) → slice_get m.fore.text.lines i ≡ Some line → P (line_from_scratch (r.setting m.fore.epoch) m.fore.text.lines i line).end
    fore-closed i line at = inr (stand_in m, i, line, h.here, at, refl)

    back-closed : (i : ℕ) (line : List ℕ) → slice_get m.back.text.lines i ≡ Some line → P (line_from_scratch (r.setting m.back.epoch) m.back.text.lines i line).end
    back-closed i line at = inr (stand_of m.back.text m.back.epoch, i, line, way-first (Contains stands) m.back.text m.back.epoch m.orders h.way, at, refl)

    way-after : (x : Step) (a : Answer) (d : Document) → DocumentSteps r (seen m.fore) x a d → Contains stands (stand_of (text_after m.fore.text x a) d.epoch) → AllByRecursion (Contains stands) (way m.back.text m.back.epoch (orders_after m.orders x a))
    way-after (step.Edit c) (Edited version) d x here =
        let P : Document → Type 0 = λ z. Contains stands (stand_of (changed m.fore.text c) z.epoch) in
        way-more (Contains stands) m.back.text m.back.epoch m.orders (ChangeOrder version c) h.way (rw (sound.text, sound.epoch) (subst P x.2 here))
    way-after (step.Edit c) (Refused why) d x here = h.way
    way-after (step.Setting number) Set d x here =
        let P : Document → Type 0 = λ z. Contains stands (stand_of m.fore.text z.epoch) in
        way-more (Contains stands) m.back.text m.back.epoch m.orders (SettingOrder number) h.way (rw sound.text (subst P x.1 here))
    way-after (step.Setting number) (Refused why) d x here = h.way
    way-after step.Line (Lined turn) d x here = h.way
    way-after step.Line (Refused why) d x here = h.way
    way-after (step.Force line) (Forced done blocked) d x here = h.way
    way-after (step.Force line) (Refused why) d x here = h.way
    way-after step.Settle (Forced done blocked) d x here = h.way
    way-after step.Settle (Refused why) d x here = h.way
    way-after _ _ d x here = absurd x

    fore-within : (s : Step) (a : Answer) (n : Machine) → ForeSteps r m s a n → Contains stands (stand_in n) → Within n
    fore-within s a n x here =
        let In : Machine → Type 0 = λ z. Contains stands (stand_in z) in
        let there = subst In x.2 here in
        subst Within (sym x.2) (record {
          here = there;
          way = way-after s a x.0 x.1 there;
          fore = step-ends P r (seen m.fore) sound.fore.right fore-closed h.fore s a x.0 x.1;
          back = h.back;
          items = h.items;
        })

    drain-within : (o : Order) (os : List Order) (fs : List Bool) → m.orders ≡ o ∷ os → Within (record m { back = obeyed m.back o; fresh = fs; orders = os })
    drain-within (ChangeOrder version c) os fs e = record {
      here = h.here;
      way = (subst (λ z. AllByRecursion (Contains stands) (way m.back.text m.back.epoch z)) e h.way).1;
      fore = h.fore;
      back = ends-replaced P (effect_of m.back.text.lines c) m.back.entries h.back;
      items = h.items;
    }
    drain-within (SettingOrder number) os fs e = record {
      here = h.here;
      way = (subst (λ z. AllByRecursion (Contains stands) (way m.back.text m.back.epoch z)) e h.way).1;
      fore = h.fore;
      back = ends-blank P (length m.back.text.lines);
      items = h.items;
    }

    work-within : (d : Document) (fs : List Bool) (es : List (Entry (List FrameData))) → d ≡ with_entries (seen m.back) es → HasEnds P d.entries → Within (record m { back = with_births m.back.text d; fresh = fs })
    work-within d fs es e g =
        let Q : Document → Type 0 = λ z. Within (record m { back = with_births m.back.text z; fresh = fs }) in
        subst Q (sym e) (record { here = h.here; way = h.way; fore = h.fore; back = subst (λ (z : Document). HasEnds P z.entries) e g; items = h.items })

    post-within : (fs : List Bool) → Within (record m { fresh = fs; batches = m.batches ++ record { epoch = m.back.epoch; version = m.back.text.version; items = items_of m.back m.fresh } ∷ [] })
    post-within fs =
        let b : Batch = record { epoch = m.back.epoch; version = m.back.text.version; items = items_of m.back m.fresh } in
        record {
          here = h.here;
          way = h.way;
          fore = h.fore;
          back = h.back;
          items = every-append (HasItemsWithin P) m.batches (b ∷ []) h.items
              (fresh-within P opening m.back.text.births m.back.text.lines m.back.entries m.fresh (λ x q. inl (sym (some_inj q))) h.back, tt);
        }

    taken-within : (b : Batch) (bs : List Batch) (es : List (Entry (List FrameData))) → m.batches ≡ b ∷ bs → HasEnds P es → Within (record m { fore = record (m.fore) { entries = es }; batches = bs })
    taken-within b bs es e g = record {
      here = h.here;
      way = h.way;
      fore = g;
      back = h.back;
      items = (subst (AllByRecursion (HasItemsWithin P)) e h.items).1;
    }

    used-within : (b : Batch) (bs : List Batch) → m.batches ≡ b ∷ bs → Within (record m { fore = record (m.fore) { entries = all_used m.fore.text.births m.fore.entries b.items }; batches = bs })
    used-within b bs e =
        taken-within b bs (all_used m.fore.text.births m.fore.entries b.items) e
        (ends-used P m.fore.text.births m.fore.entries b.items h.fore (subst (AllByRecursion (HasItemsWithin P)) e h.items).0)

    step-within : (s : Step) (a : Answer) (n : Machine) → Steps r m s a n → Contains stands (stand_in n) → Within n
    step-within (step.Edit c) a n x here = fore-within (step.Edit c) a n x here
    step-within (step.Setting number) a n x here = fore-within (step.Setting number) a n x here
    step-within step.Line a n x here = fore-within step.Line a n x here
    step-within (step.Force line) a n x here = fore-within (step.Force line) a n x here
    step-within step.Settle a n x here = fore-within step.Settle a n x here
    step-within step.Drain Nothing n x here = subst Within (sym x.1) h
    step-within step.Drain Drained n x here = subst Within (sym x.3) (drain-within x.0 x.1 _ x.2)
    step-within step.Drain (Refused why) n x here = subst Within (sym x.1) h
    step-within step.Work (Worked turn) n x here = subst Within (sym x.2) (work-within x.0 _ x.1.0 x.1.2 (step-ends P r (seen m.back) sound.back.right back-closed h.back step.Line (Lined turn) x.0 x.1))
    step-within step.Work (Refused why) n x here = subst Within (sym x.1) h
    step-within step.Post Nothing n x here = subst Within (sym x.1) h
    step-within step.Post (Posted count) n x here = subst Within (sym x.2) (post-within _)
    step-within step.Post (Refused why) n x here = subst Within (sym x.1) h
    step-within step.Accept Nothing n x here = subst Within (sym x.1) h
    step-within step.Accept (OtherEpoch batch model) n x here = subst Within (sym x.6) (taken-within x.0 x.1 m.fore.entries x.2 h.fore)
    step-within step.Accept (Used counts) n x here = subst Within (sym x.5) (used-within x.0 x.1 x.2)
    step-within step.Accept (Refused why) n x here = subst Within (sym x.1) h
    step-within _ _ n x here = absurd x

  -- what stands behind the first step is among what stands of a run, and so is all that stands later
  later-stands : (s : Stand) (x : Step) (a : Answer) (xs : List Step) → ((z : Stand) → Contains (stands_of s (if is_done a then x ∷ xs else xs)) z → Contains stands z) → (z : Stand) → Contains (stands_of (stand_behind s x a) xs) z → Contains stands z
  later-stands s x a xs all = go (is_done a) all
    where
      go : (b : Bool) → ((z : Stand) → Contains (stands_of s (if b then x ∷ xs else xs)) z → Contains stands z) → (z : Stand) → Contains (stands_of (if b then stand_after s x else s) xs) z → Contains stands z
      go true all z there = all z (stands-later s x xs z there)
      go false all z there = all z there

  run-within : (m : Machine) (xs : List (Step × Answer)) (n : Machine) → IsSound r m → ((z : Stand) → Contains (stands_of (stand_in m) (done_steps xs)) z → Contains stands z) → Within m → Runs r m xs n → Within n
  run-within m [] n sound all h x = subst Within (sym x) h
  run-within m (y ∷ xs) n sound all h x =
      let Sub : Stand → Type 0 = λ s. (z : Stand) → Contains (stands_of s (done_steps xs)) z → Contains stands z in
      let rest : Sub (stand_in x.0) = subst Sub (sym (step-behind r m y.0 y.1 x.0 x.1)) (later-stands (stand_in m) y.0 y.1 (done_steps xs) all) in
      run-within x.0 xs n (step-sound r m y.0 y.1 x.0 sound x.1) rest (step-within m sound h y.0 y.1 x.0 x.1 (rest (stand_in x.0) (stands-first (stand_in x.0) (done_steps xs)))) x.2

pub every-run-within : (r : Rules) (lines : List (List ℕ)) (xs : List (Step × Answer)) (m : Machine) → Runs r (machine_of lines) xs m → IsWithinPast r (stands_of_run lines xs) m
every-run-within r lines xs m x =
    let stands = stands_of_run lines xs in
    let first = stands-first (record { lines = lines; epoch = 0 }) (done_steps xs) in
    run-within r stands (machine_of lines) xs m (sound-new r lines) (λ z there. there) (record {
      here = first;
      way = (first, tt);
      fore = ends-blank (ReachesEnd r stands) (length lines);
      back = ends-blank (ReachesEnd r stands) (length lines);
      items = tt;
    }) x

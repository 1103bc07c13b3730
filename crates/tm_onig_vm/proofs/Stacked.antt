-- What a mark on top of the trail means.
use Rattle.std.proofs.Common.{◌≡◌, ℕ, zero, ◌+◌, ◌<◌, ◌≤◌, List, [], ◌∷◌, ◌++◌, Option, Some, reverse, refl, ap, sym, ◌∙◌, ◌-◌, suc, min, map, ap₂, take, drop, get_or, slice_get, slice_set, lt-ltb, le-ltb, arith}
use Rattle.std.specs.Prelude.{None, MatchOption, length, option_and_then, option_to_list}
use Rattle.std.proofs.lemmas.List.{append-nil, nil_from_length, reverse-append, take_at, take_more, drop_more}
use Rattle.std.specs.List.{refill}
use Rattle.tm_onig_search.specs.Outcomes.{Caps}
use Rattle.tm_onig_search.specs.Search.{width_or}
use Rattle.tm_onig_vm.specs.inner.Machine.{Thread as Plain, at_pc, from_each, behind_of}
use Rattle.tm_onig_vm.specs.declared.trail.Way.{Way}
use Rattle.tm_onig_vm.specs.declared.trail.Mark.{Mark}
use Rattle.tm_onig_vm.specs.declared.trail.Mark.TheVariants as M
use Rattle.tm_onig_vm.specs.declared.trail.Trail.{Trail}
use Rattle.tm_onig_vm.specs.inner.Threads.{plain, plains, ways, undone, numbers_of, groups_under}

pub reverse_push : {A : Type 0} (xs : List A) (x : A) → reverse (xs ++ x ∷ []) ≡ x ∷ reverse xs
reverse_push xs x = reverse-append xs (x ∷ [])

-- a list that is written over from its beginning to its end
pub refill_same : {A : Type 0} (n : ℕ) (xs ws : List A) → n ≡ length xs → length ws ≡ length xs → refill n xs ws ≡ ws
refill_same n xs ws is long = take_at ws (drop (length ws) xs) n (long ∙ sym is)

set-at : (caps : Caps) (number : ℕ) (group : Option (ℕ × ℕ)) → slice_set (slice_set caps number group) number (option_and_then (λ c. c) (slice_get caps number)) ≡ caps
set-at [] number group = refl
set-at (c ∷ caps) zero group = refl
set-at (c ∷ caps) (suc number) group = ap (λ (cs : Caps). c ∷ cs) (set-at caps number group)

-- a group that is set and then is what it was before
pub set_back : (caps after : Caps) (number : ℕ) (group was : Option (ℕ × ℕ)) → after ≡ slice_set caps number group → was ≡ option_and_then (λ c. c) (slice_get caps number) → slice_set after number was ≡ caps
set_back caps after number group was set same = rw (set, same) (set-at caps number group)

module _ (old new : Trail) where
  -- one mark more, and the same numbers
  abbrev Marked : Mark → Type 0
  Marked mark = new.marks.items ≡ old.marks.items ++ mark ∷ []

  abbrev Same : Type 0
  Same = new.numbers.items ≡ old.numbers.items

  pub same_on : new.marks.items ≡ old.marks.items → old.numbers.items ≡ new.numbers.items ++ [] → (caps : Caps) → plains new caps ≡ plains old caps
  unfolding plains ways
  same_on marks numbers caps = rw (marks, numbers, append-nil) refl

  pub same_kept : new.marks.items ≡ old.marks.items → (caps : Caps) → groups_under new caps ≡ groups_under old caps
  unfolding groups_under
  same_kept marks caps = rw marks refl

  -- the numbers without the one that was put there
  pub put_back : new.marks.items ++ M.Put ∷ [] ≡ old.marks.items → drop 1 (numbers_of old) ≡ numbers_of new → (caps : Caps) → plains new caps ≡ plains old caps
  unfolding plains ways
  put_back marks numbers caps = rw (← marks, reverse_push, ← numbers) refl

  pub way_on : (way : Way) → Marked (M.Way way) → Same → (caps : Caps) → plains new caps ≡ plain way (numbers_of old) caps ∷ plains old caps
  unfolding plains ways
  way_on way marks numbers caps = rw (marks, numbers, reverse_push) refl

  pub way_kept : (way : Way) → Marked (M.Way way) → (caps : Caps) → groups_under new caps ≡ groups_under old caps
  unfolding groups_under undone
  way_kept way marks caps = rw (marks, reverse_push) refl

  pub each_on : (pc lowest n : ℕ) → Marked (M.Each pc lowest n) → Same → (caps : Caps) → plains new caps ≡ from_each pc (numbers_of old) caps lowest n ++ plains old caps
  unfolding plains ways
  each_on pc lowest n marks numbers caps = rw (marks, numbers, reverse_push) refl

  pub each_kept : (pc lowest n : ℕ) → Marked (M.Each pc lowest n) → (caps : Caps) → groups_under new caps ≡ groups_under old caps
  unfolding groups_under undone
  each_kept pc lowest n marks caps = rw (marks, reverse_push) refl

  pub put_on : (number : ℕ) → Marked M.Put → new.numbers.items ≡ old.numbers.items ++ number ∷ [] → (caps : Caps) → plains new caps ≡ plains old caps
  unfolding plains ways
  put_on number marks numbers caps = rw (marks, numbers, reverse_push, reverse_push) refl

  pub put_kept : Marked M.Put → (caps : Caps) → groups_under new caps ≡ groups_under old caps
  unfolding groups_under undone
  put_kept marks caps = rw (marks, reverse_push) refl

  pub taken_on : (number : ℕ) → Marked (M.Taken number) → old.numbers.items ≡ new.numbers.items ++ number ∷ [] → (caps : Caps) → plains new caps ≡ plains old caps
  unfolding plains ways
  taken_on number marks numbers caps = rw (marks, numbers, reverse_push, reverse_push) refl

  pub taken_kept : (number : ℕ) → Marked (M.Taken number) → (caps : Caps) → groups_under new caps ≡ groups_under old caps
  unfolding groups_under undone
  taken_kept number marks caps = rw (marks, reverse_push) refl

  pub group_on : (number : ℕ) (was : Option (ℕ × ℕ)) → Marked (M.Group number was) → Same → (caps : Caps) → plains new caps ≡ plains old (slice_set caps number was)
  unfolding plains ways
  group_on number was marks numbers caps = rw (marks, numbers, reverse_push) refl

  pub group_kept : (number : ℕ) (was : Option (ℕ × ℕ)) → Marked (M.Group number was) → (caps : Caps) → groups_under new caps ≡ groups_under old (slice_set caps number was)
  unfolding groups_under undone
  group_kept number was marks caps = rw (marks, reverse_push) refl

pub none_on : (trail : Trail) → trail.marks.items ≡ [] → (caps : Caps) → plains trail caps ≡ []
unfolding plains ways
none_on trail marks caps = rw marks refl

pub none_kept : (trail : Trail) → trail.marks.items ≡ [] → (caps : Caps) → groups_under trail caps ≡ caps
unfolding groups_under undone
none_kept trail marks caps = rw marks refl

-- what is left of the numbers when one is taken
pub drop-popped : (xs ys : List ℕ) (o : Option ℕ) (m n : ℕ) → m ≡ length xs → n ≡ length ys → xs ≡ ys ++ option_to_list o → MatchOption o ((m ≡ 0) × (n ≡ 0)) (λ _. n + 1 ≡ m) → drop 1 (reverse xs) ≡ reverse ys
drop-popped xs ys None m n x y items cases = rw (nil_from_length xs (sym x ∙ cases.0), nil_from_length ys (sym y ∙ cases.1)) refl
drop-popped xs ys (Some number) m n x y items cases = rw (items, reverse_push) refl

-- a list that nothing was taken from, and then a mark
pub mark_more : (xs ys new : List Mark) (mark : Mark) → xs ≡ ys ++ [] → new ≡ ys ++ mark ∷ [] → new ≡ xs ++ mark ∷ []
mark_more xs ys new mark old is = rw (old, append-nil) is

-- a mark that is taken and put there again, and then another
pub put_again : (xs ys zs new : List Mark) (was mark : Mark) → xs ≡ ys ++ was ∷ [] → zs ≡ ys ++ was ∷ [] → new ≡ zs ++ mark ∷ [] → new ≡ xs ++ mark ∷ []
put_again xs ys zs new was mark old again is = rw (old, ← again) is

-- the one way of a search that begins
pub began : (trail : Trail) (threads : List Plain) (body pos : ℕ) (caps : Caps) → trail.marks.items ≡ [] → trail.numbers.items ≡ [] → threads ≡ at_pc body (numbers_of trail) pos caps ∷ plains trail caps →
    threads ≡ at_pc body [] pos caps ∷ []
began trail threads body pos caps marks numbers is =
    is ∙ ap₂ (λ (ns : List ℕ) (ts : List Plain). at_pc body ns pos caps ∷ ts) (ap (λ (ns : List ℕ). reverse ns) numbers) (none_on trail marks caps)

-- what the marks say of groups came on the trail
pub record Keeps (base trail : Trail) (marks : List Mark) : Type 0 where
  pub ways : (caps : Caps) → plains trail caps ≡ plains base (undone (reverse marks) caps)
  pub kept : (caps : Caps) → groups_under trail caps ≡ groups_under base (undone (reverse marks) caps)
  pub numbers : trail.numbers.items ≡ base.numbers.items

-- what one mark says of the groups
pub undone-first : (mark : Mark) (marks : List Mark) (caps : Caps) → undone (mark ∷ marks) caps ≡ undone marks (undone (mark ∷ []) caps)
unfolding undone
undone-first (M.Way way) marks caps = refl
undone-first (M.Each pc lowest n) marks caps = refl
undone-first (M.Group number was) marks caps = refl
undone-first M.Put marks caps = refl
undone-first (M.Taken number) marks caps = refl

pub keeps_none : (base : Trail) → Keeps base base []
unfolding undone
keeps_none base = record { ways = λ caps. refl; kept = λ caps. refl; numbers = refl }

module _ (base trail : Trail) (marks : List Mark) (i : ℕ) (mark : Mark) (low : i < length marks) (is : mark ≡ get_or marks i mark) (was : Keeps base trail (take i marks)) where
  last_first : (caps : Caps) → undone (reverse (take i marks)) (undone (mark ∷ []) caps) ≡ undone (reverse (take (i + 1) marks)) caps
  last_first caps =
      let more : take (i + 1) marks ≡ take i marks ++ mark ∷ [] = take_more marks i mark low ∙ ap (λ (m : Mark). take i marks ++ m ∷ []) (sym is) in
      sym (undone-first mark (reverse (take i marks)) caps) ∙ ap (λ (ms : List Mark). undone ms caps) (sym (ap (λ (ms : List Mark). reverse ms) more ∙ reverse_push (take i marks) mark))

  pub keeps_mark : (new : Trail) → ((caps : Caps) → plains new caps ≡ plains trail (undone (mark ∷ []) caps)) → ((caps : Caps) → groups_under new caps ≡ groups_under trail (undone (mark ∷ []) caps)) →
      new.numbers.items ≡ trail.numbers.items → Keeps base new (take (i + 1) marks)
  keeps_mark new ways kept numbers = record {
    ways = λ caps. ways caps ∙ was.ways (undone (mark ∷ []) caps) ∙ ap (plains base) (last_first caps);
    kept = λ caps. kept caps ∙ was.kept (undone (mark ∷ []) caps) ∙ ap (groups_under base) (last_first caps);
    numbers = numbers ∙ was.numbers;
  }

  -- a group's mark is put on the trail
  pub keeps_group : (new : Trail) (number : ℕ) (group : Option (ℕ × ℕ)) → mark ≡ M.Group number group → new.marks.items ≡ trail.marks.items ++ mark ∷ [] → new.numbers.items ≡ trail.numbers.items → Keeps base new (take (i + 1) marks)
  unfolding undone
  keeps_group new number group of marked numbers =
      let top = rw of at marked in
      keeps_mark new
      (λ caps. group_on trail new number group top numbers caps ∙ ap (λ (m : Mark). plains trail (undone (m ∷ []) caps)) (sym of))
      (λ caps. group_kept trail new number group top caps ∙ ap (λ (m : Mark). groups_under trail (undone (m ∷ []) caps)) (sym of))
      numbers

  -- a mark that says nothing of the groups is left out
  pub keeps_over : ((caps : Caps) → undone (mark ∷ []) caps ≡ caps) → Keeps base trail (take (i + 1) marks)
  keeps_over nothing = keeps_mark trail (λ caps. ap (plains trail) (sym (nothing caps))) (λ caps. ap (groups_under trail) (sym (nothing caps))) refl

pub way_says : (way : Way) (caps : Caps) → undone (M.Way way ∷ []) caps ≡ caps
unfolding undone
way_says way caps = refl

pub each_says : (pc lowest n : ℕ) (caps : Caps) → undone (M.Each pc lowest n ∷ []) caps ≡ caps
unfolding undone
each_says pc lowest n caps = refl

pub put_says : (caps : Caps) → undone (M.Put ∷ []) caps ≡ caps
unfolding undone
put_says caps = refl

pub taken_says : (number : ℕ) (caps : Caps) → undone (M.Taken number ∷ []) caps ≡ caps
unfolding undone
taken_says number caps = refl

-- the targets of a choice, the last one first
pub each_more : (f : ℕ → Plain) (targets : List ℕ) (i : ℕ) (old new base : List Plain) → 0 < i → i ≤ length targets → old ≡ map f (drop i targets) ++ base → new ≡ f (get_or targets (i - 1) 0) ∷ old →
    new ≡ map f (drop (i - 1) targets) ++ base
each_more f targets i old new base some low was is =
    let first = get_or targets (i - 1) 0 in
    let inside : i - 1 < length targets = omega arith in
    let next : i - 1 + 1 ≡ i = omega arith in
    let more : drop (i - 1) targets ≡ first ∷ drop i targets = drop_more targets (i - 1) 0 inside ∙ ap (λ (j : ℕ). first ∷ drop j targets) next in
    is ∙ ap (λ (ts : List Plain). f first ∷ ts) was ∙ ap (λ (l : List ℕ). map f l ++ base) (sym more)

-- the last position is gone from first
pub each_first : (pc : ℕ) (numbers : List ℕ) (caps : Caps) (lowest n m : ℕ) → n ≡ suc m → from_each pc numbers caps lowest n ≡ at_pc pc numbers (lowest + m) caps ∷ from_each pc numbers caps lowest m
each_first pc numbers caps lowest n m is = rw is refl

pub each_none : (pc : ℕ) (numbers : List ℕ) (caps : Caps) (lowest n : ℕ) → n ≡ 0 → from_each pc numbers caps lowest n ≡ []
each_none pc numbers caps lowest n is = rw is refl

-- the last position is taken
pub each_taken : (was popped new : Trail) (pc lowest n p : ℕ) (old : List Plain) (caps : Caps) → was.marks.items ≡ popped.marks.items ++ M.Each pc lowest n ∷ [] → was.numbers.items ≡ popped.numbers.items → 0 < n →
    p ≡ lowest + (n - 1) → plains was caps ≡ old → plains new caps ≡ from_each pc (numbers_of popped) caps lowest (n - 1) ++ plains popped caps → new.numbers.items ≡ popped.numbers.items →
    old ≡ at_pc pc (numbers_of new) p caps ∷ plains new caps
each_taken was popped new pc lowest n p old caps marks numbers some at is left same =
    let more : n ≡ suc (n - 1) = omega arith in
    sym is ∙ each_on popped was pc lowest n marks numbers caps ∙ ap (λ (ts : List Plain). ts ++ plains popped caps) (each_first pc (numbers_of popped) caps lowest n (n - 1) more)
    ∙ ap₂ (λ (ns : List ℕ) (ts : List Plain). at_pc pc (reverse ns) (lowest + (n - 1)) caps ∷ ts) (sym same) (sym left)
    ∙ ap (λ (q : ℕ). at_pc pc (numbers_of new) q caps ∷ plains new caps) (sym at)

-- no position is left
pub each_over : (was popped : Trail) (pc lowest n : ℕ) (caps : Caps) → was.marks.items ≡ popped.marks.items ++ M.Each pc lowest n ∷ [] → was.numbers.items ≡ popped.numbers.items → n ≡ 0 → plains was caps ≡ plains popped caps
each_over was popped pc lowest n caps marks numbers none =
    each_on popped was pc lowest n marks numbers caps ∙ ap (λ (ts : List Plain). ts ++ plains popped caps) (each_none pc (numbers_of popped) caps lowest n none)

-- the starts of a look-behind
module _ (first least : ℕ) (greatest : Option ℕ) (pos : ℕ) (caps : Caps) (far : ℕ) (ts : List Plain) (far_is : far ≡ min pos (width_or greatest pos)) where
  pub behind_none : ts ≡ [] → far < least → ts ≡ behind_of first least greatest pos caps
  behind_none empty high = rw (empty, ← far_is, lt-ltb far least high) refl

  pub behind_some : least ≤ far → ts ≡ from_each first (pos ∷ []) caps (pos - far) (pos - least + 1 - (pos - far)) → ts ≡ behind_of first least greatest pos caps
  behind_some low is = rw (← far_is, le-ltb far least low) is

-- The groups that options made end one after another.
use Rattle.std.proofs.Common.{◌≡◌, ℕ, ◌<◌, true, false, List, [], ◌∷◌, length, Option, Some, None, Result, refl, subst, arith, le-leb}
use Rattle.std.proofs.lemmas.List.{length-reverse, length-map}
use Rattle.tm_onig_parse.specs.declared.groups.Frame.{Frame}
use Rattle.tm_onig_parse.specs.declared.ParseFault.{ParseFault}
use Rattle.tm_onig_parse.specs.declared.ParseFault.TheVariants.{Unreadable, OutOfMemory}
use Rattle.tm_onig_parse.specs.Meaning.{Built, enclosed}
use Rattle.tm_onig_atom.specs.inner.Reading.{◌>>=◌}
use Rattle.tm_onig_parse.specs.inner.Reading.{Close, Level, State, added, level_built, within, is_set, settled, close_in, step}
use Rattle.tm_onig_parse.specs.inner.Views.{Fails, Steps, levels_of}
use Rattle.tm_onig_parse.proofs.Back.{within_ok, same_state}

-- What a group that options made ends as.
pub record Left (outer : List Level) (top : Level) (opened : ℕ) (next : State) : Type 0 where
  pub settles : settled next.outer next.top ≡ settled outer top
  pub opened_same : next.opened ≡ opened
  pub shorter : length next.outer < length outer

-- one such group ends
pub left_one : (outer : List Level) (top : Level) (opened : ℕ) (next : State) → is_set top.opener ≡ true → close_in opened (outer, top) ≡ Some next → Left outer top opened next
unfolding settled
left_one [] top opened next is e = absurd cc
left_one (l ∷ outer) top opened next is e =
    let b = enclosed top.opener top.number (level_built top) in
    let f = within_ok b (λ b. Some (record { outer = outer; top = added l b; opened = opened })) next e in
    subst (Left (l ∷ outer) top opened) (same_state _ _ f.1) (record { settles = (rw (is, le-leb b.height 200 f.0) refl); opened_same = refl; shorter = omega arith })

-- where it can't be made nothing settles
pub left_fails : (fault : ParseFault) (outer : List Level) (top : Level) (opened : ℕ) → is_set top.opener ≡ true → 0 < length outer → Fails fault (close_in opened (outer, top)) → Fails fault (settled outer top)
unfolding settled
left_fails OutOfMemory outer top opened is some e = tt
left_fails Unreadable [] top opened is some e = absurd (omega arith)
left_fails Unreadable (l ∷ outer) top opened is some e = rw is (by_none (within (enclosed top.opener top.number (level_built top))) e)
  where
    by_none : (o : Option Built) → ◌>>=◌ {B = State} o (λ b. Some (record { outer = outer; top = added l b; opened = opened })) ≡ None → (o >>= λ b. settled outer (added l b)) ≡ None
    by_none None e = refl
    by_none (Some b) e = absurd cc

-- a group of another kind is settled
pub settled_other : (outer : List Level) (top : Level) → is_set top.opener ≡ false → settled outer top ≡ Some (outer, top)
unfolding settled
settled_other [] top isnt = refl
settled_other (l ∷ outer) top isnt = rw isnt refl

-- and so is the whole pattern
pub settled_whole : (outer : List Level) (top : Level) → length outer ≡ 0 → settled outer top ≡ Some (outer, top)
unfolding settled
settled_whole [] top e = refl
settled_whole (l ∷ outer) top e = absurd (omega arith)

-- a `)` behind what was settled
pub close_goes : (s mid : State) (r : Result Unit ParseFault) (next : State) → settled s.outer s.top ≡ Some (mid.outer, mid.top) → mid.opened ≡ s.opened →
    Steps r next (close_in mid.opened (mid.outer, mid.top)) → Steps r next (step Close s)
unfolding step
close_goes s mid r next e same h = rw e (subst (λ n. Steps r next (close_in n (mid.outer, mid.top))) same h)

-- a `)` where nothing settles
pub close_fails : (fault : ParseFault) (s : State) → Fails fault (settled s.outer s.top) → Fails fault (step Close s)
unfolding step
close_fails Unreadable s e = rw e refl
close_fails OutOfMemory s e = tt

-- as many levels as frames
pub length-levels : (frames : List Frame) → length (levels_of frames) ≡ length frames
length-levels frames = simp (length-reverse, length-map)

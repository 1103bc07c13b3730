use Rattle.std.proofs.Common.{◌≡◌, ℕ, suc, ◌-◌, drop, length, ap, sym, ◌∙◌, subst, arith}
use Rattle.tm_theme.specs.Buckets.{with_alternative}
use Rattle.tm_theme.proofs.Lookups.{Knows, knows-none, knows-more, knows-table}
use Rattle.tm_theme.proofs.buckets.buckets_of.Goals as goal

pub loop-place-init : goal.loop-place-init
loop-place-init c =
    let all = c.args.all.now in
    record {
      known = subst (Knows all (drop (length all) all)) (sym c.in_ok-buckets.ensures) (knows-none all c.bucket_count.result c.bucket_count.ensures);
      within = omega arith;
    }

pub loop-place-preserved : goal.loop-place-preserved
loop-place-preserved c =
    let all = c.args.all.now in
    let before : c.loop-place.place ≡ suc (c.loop-place.place - 1) = omega (arith, c.loop-place-test.true) in
    record {
      known =
          subst (Knows all (drop (c.loop-place.place - 1) all)) (sym c.in_ok-put_alternative.ensures)
          (knows-more all (c.loop-place.place - 1) c.loop-place.buckets.items (omega (arith, c.loop-place-test.true, c.loop-place.invariant.within))
          (subst (λ (n : ℕ). Knows all (drop n all) c.loop-place.buckets.items) before c.loop-place.invariant.known));
      within = omega (arith, c.loop-place.invariant.within);
    }

pub returns : goal.returns
returns c =
    let all = c.args.all.now in
    let first : c.loop-place.place ≡ 0 = omega (arith, c.loop-place-test.false) in
    knows-table all c.loop-place.buckets.items (subst (λ (n : ℕ). Knows all (drop n all) c.loop-place.buckets.items) first c.loop-place.invariant.known)

use Rattle.std.proofs.Common.{None, ◌≡◌, ℕ, ◌+◌, ◌*◌, ◌<◌, ◌≤◌, List, length, take, get_or, sym, ap, ◌∙◌, arith}
use Rattle.std.specs.Str.Parse.{digits_value}
use Rattle.std.specs.Char.{digit_value}
use Rattle.std.specs.Prelude.{slice_get}
use Rattle.std.proofs.lemmas.Int.Digits.{digits_value_more}
use Rattle.std.proofs.lemmas.Str.Parse.{digits_value-take-le}
use Rattle.std.proofs.lemmas.Option.{slice_get_past, slice_get-get_or}
use Rattle.std.proofs.lemmas.List.{take_all}
use Rattle.tm_template.proofs.Loops.{char_read}
use Rattle.tm_template.proofs.captures.group_of.Goals as goal

-- the number with one digit more
one_more : (ds : List ℕ) (i c n v : ℕ) → i < length ds → c ≡ get_or ds i c → n ≡ digits_value 10 (take i ds) → v ≡ digit_value c → 10 * n + v ≡ digits_value 10 (take (i + 1) ds)
one_more ds i c n v lt is number value =
    let more = digits_value_more 10 ds i lt in
    let here : v ≡ digit_value (get_or ds i 0) = value ∙ ap digit_value (sym (char_read ds i c lt is)) in
    omega (arith, more, here, number)

pub returns-then-number-groups : goal.returns-then-number-groups
returns-then-number-groups c =
    let more = one_more c.args.digits.now c.digits.i c.index-digits-i.result c.digits.number c.value_of.result c.digits-test.true c.index-digits-i.is c.digits.invariant.value c.value_of.ensures.value in
    let least = digits_value-take-le 10 c.args.digits.now (c.digits.i + 1) (omega arith) in
    sym (slice_get_past c.args.groups.now (digits_value 10 c.args.digits.now) (omega (arith, more, least, c.if-number-groups.true)))

pub digits-preserved : goal.digits-preserved
digits-preserved c = record {
  value = one_more c.args.digits.now c.digits.i c.index-digits-i.result c.digits.number c.value_of.result c.digits-test.true c.index-digits-i.is c.digits.invariant.value c.value_of.ensures.value;
  small = omega (arith, c.if-number-groups.false);
}

-- the number of all digits
whole : (ds : List ℕ) (i n : ℕ) → length ds ≤ i → n ≡ digits_value 10 (take i ds) → n ≡ digits_value 10 ds
whole ds i n le number = number ∙ ap (λ u. digits_value 10 u) (take_all i ds le)

pub returns-then-number-groups-2 : goal.returns-then-number-groups-2
returns-then-number-groups-2 c =
    sym (slice_get-get_or c.args.groups.now c.digits.number None c.if-number-groups-2.true)
    ∙ ap (λ n. slice_get c.args.groups.now n) (whole c.args.digits.now c.digits.i c.digits.number c.digits-test.false c.digits.invariant.value)

pub returns-else-number-groups-2 : goal.returns-else-number-groups-2
returns-else-number-groups-2 c =
    let e = whole c.args.digits.now c.digits.i c.digits.number c.digits-test.false c.digits.invariant.value in
    sym (slice_get_past c.args.groups.now (digits_value 10 c.args.digits.now) (omega (arith, e, c.if-number-groups-2.false)))

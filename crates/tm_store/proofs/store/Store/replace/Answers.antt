use Rattle.std.proofs.Common.{arith, ap, ◌∙◌, length, ◌≤◌, ◌+◌, ◌-◌, ◌^◌}
use Rattle.tm_machine.specs.Entries.{end_at, replaced}
use Rattle.tm_store.proofs.Replaced.{spans-apart, spans-within, replaced-items, replaced-spans, replaced-length}
use Rattle.tm_store.proofs.store.Store.replace.Goals as goal

pub renewed_spans-requires-clause-apart : goal.renewed_spans-requires-clause-apart
renewed_spans-requires-clause-apart g c = spans-apart c.as_slice-2.result.now c.self.inside.entries.items (c.as_slice-2.ensures.value ∙ c.self.invariant.0)

pub renewed_spans-requires-clause-within : goal.renewed_spans-requires-clause-within
renewed_spans-requires-clause-within g c = spans-within (2 ^ 31) c.as_slice-2.result.now c.self.inside.entries.items (c.as_slice-2.ensures.value ∙ c.self.invariant.0) (omega (arith, c.self.invariant.1))

pub invariant_of-self-2 : goal.invariant_of-self-2
invariant_of-self-2 g c =
    let seen = ap (λ h. length h.entries) c.self.view_is in
    let within : c.args.effect.first + c.args.effect.old ≤ length c.self.inside.entries.items = omega (arith, seen, c.requires.within) in
    let count = replaced-length c.args.effect c.self.inside.entries.items c.reserve.new.self.items c.in_ok-added.added.items c.replace_range.new.items.items c.end_of-end.result c.reserve.ensures.items c.in_ok-added.ensures c.replace_range.ensures within in (
      replaced-spans c.args.effect c.self.inside.entries.items c.reserve.new.self.items c.in_ok-added.added.items c.replace_range.new.items.items c.end_of-end.result c.reserve.ensures.items c.in_ok-added.ensures c.replace_range.ensures within
          c.as_slice-2.result.now c.in_ok-bad.bad.items (c.as_slice-2.ensures.value ∙ c.self.invariant.0) c.in_ok-bad.ensures.items c.requires.new,
      omega (arith, count, seen, c.requires.small),
      omega (arith, count, seen, c.requires.within, c.requires.new),
      c.in_ok-bad.ensures.room,
    )

pub returns-clause-ok : goal.returns-clause-ok
returns-clause-ok g c =
    let seen = ap (λ h. length h.entries) c.self.view_is in
    let within : c.args.effect.first + c.args.effect.old ≤ length c.self.inside.entries.items = omega (arith, seen, c.requires.within) in
    replaced-items c.args.effect c.self.inside.entries.items c.reserve.new.self.items c.in_ok-added.added.items c.replace_range.new.items.items c.end_of-end.result c.reserve.ensures.items c.in_ok-added.ensures c.replace_range.ensures within
    c.requires.old (c.end_of-end.ensures ∙ ap (λ es. end_at es (c.args.effect.first + c.args.effect.old - 1)) c.as_slice.ensures.value)
    ∙ ap (λ h. replaced c.args.effect h.entries) c.self.view_is

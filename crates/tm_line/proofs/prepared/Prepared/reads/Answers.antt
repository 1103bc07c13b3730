use Rattle.std.proofs.Common.{◌≡◌, ◌+◌, ◌-◌, ◌<◌, length, ap, sym, subst, ◌∙◌, arith}
use Rattle.std.specs.Option.{is_some}
use Rattle.tm_onig_scan.specs.Winner.{pattern_at, trees_of}
use Rattle.tm_line.specs.inner.Prepared.{patterns_read}
use Rattle.tm_line.proofs.ReadPatterns.{known, twice}
use Rattle.tm_line.proofs.prepared.Prepared.reads.Goals as goal

pub returns : goal.returns
returns c = λ rule at.
    let rules = c.self.inside.rules in
    let two = twice rules c.self.inside.scanner c.self.invariant.1 in
    let low : c.args.n < length rules = rw (← c.self.view_is) at c.requires in
    let behind : c.len-all.result - c.len-count.result + c.args.n ≡ length rules + c.args.n = omega (arith, two, c.len-all.ensures, c.len-count.ensures) in
    known rules c.args.n rule (record { start = c.readable-start.result; end = c.readable-end.result }) low (rw (← c.self.view_is) at at)
    (c.readable-start.ensures.told ∙ ap (λ ps. is_some (pattern_at ps c.args.n)) c.self.invariant.1)
    (c.readable-end.ensures.told ∙ ap (λ ps. is_some (pattern_at ps (c.len-all.result - c.len-count.result + c.args.n))) c.self.invariant.1 ∙ ap (λ k. is_some (pattern_at (patterns_read rules) k)) behind)

use Rattle.std.proofs.Common.{◌≡◌, ap, ◌∙◌}
use Rattle.std.specs.Prelude.{option_map}
use Rattle.tm_defs.specs.Tables.{frame_at}
use Rattle.tm_onig_scan.specs.Asked.{put_in}
use Rattle.tm_onig_scan.specs.Winner.{patterns_at, trees_of}
use Rattle.tm_patcache.specs.Programs.{tree_in}
use Rattle.tm_rules.specs.Candidates.{flattened_candidates}
use Rattle.tm_line.specs.Search.{patterns_in}
use Rattle.tm_line.specs.inner.Prepared.{patterns_read}
use Rattle.tm_line.proofs.Searching.{patterns-searched, found-first, refused}
use Rattle.tm_line.proofs.prepared.Prepared.search.Goals as goal

pub returns-in_err-won : goal.returns-in_err-won
returns-in_err-won g c =
    let a = c.args in
    let rules = a.self.now in
    let f = frame_at (g.S.States.tables a.table.now) a.asked.frame in
    let inside = c.in-Some.inside.now in
    let numbers = inside.list.numbers.items in
    let end = option_map tree_in c.in_ok-end.end in
    let read : trees_of c.self.inside.scanner ≡ patterns_read rules = rw c.self.view_is at c.self.invariant.1 in
    let qs = put_in (patterns_at (trees_of c.self.inside.scanner) numbers) c.instead_of.result in
    let same : qs ≡ patterns_in rules f a.asked.has_end =
    ap (λ ts. put_in (patterns_at ts numbers) c.instead_of.result) read ∙ c.instead_of.ensures (patterns_at (patterns_read rules) numbers)
    ∙ patterns-searched rules f a.asked.has_end inside c.in-Some.ensures end c.in_ok-end.ensures in
    let cs = flattened_candidates rules f.rule in
    refused a.text.now a.asked.at a.asked.first a.asked.anchored rules cs cs (patterns_in rules f a.asked.has_end) qs same a.budget.now c.first_among.new.budget c.in_err-won.field-0.0 c.from_residual-in_err-won.result
    c.from_residual-in_err-won.ensures c.in_err-won.ensures.over c.in_err-won.ensures.falls

pub returns : goal.returns
returns g c =
    let a = c.args in
    let rules = a.self.now in
    let f = frame_at (g.S.States.tables a.table.now) a.asked.frame in
    let inside = c.in-Some.inside.now in
    let numbers = inside.list.numbers.items in
    let end = option_map tree_in c.in_ok-end.end in
    let read : trees_of c.self.inside.scanner ≡ patterns_read rules = rw c.self.view_is at c.self.invariant.1 in
    let qs = put_in (patterns_at (trees_of c.self.inside.scanner) numbers) c.instead_of.result in
    let same : qs ≡ patterns_in rules f a.asked.has_end =
    ap (λ ts. put_in (patterns_at ts numbers) c.instead_of.result) read ∙ c.instead_of.ensures (patterns_at (patterns_read rules) numbers)
    ∙ patterns-searched rules f a.asked.has_end inside c.in-Some.ensures end c.in_ok-end.ensures in
    let cs = flattened_candidates rules f.rule in
    found-first a.text.now a.asked.at a.asked.first a.asked.anchored rules c.candidates.result.now cs (patterns_in rules f a.asked.has_end) qs same a.budget.now c.first_among.new.budget
    c.in_ok-won.won c.winner_in.result (rw c.self.view_is at c.candidates.ensures) c.in_ok-won.ensures.hit c.winner_in.ensures c.in_ok-won.ensures.falls

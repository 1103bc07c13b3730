use Rattle.std.proofs.Common.{◌≡◌, ◌≤◌, ◌+◌, ◌*◌, length, drop}
use Rattle.tm_defs.specs.Tables.{path_at}
use Rattle.tm_line_turns.specs.Captures.{capture_productions}
use Rattle.tm_line_turns.specs.Language.{grammar_at, inner_at}
use Rattle.tm_line_turns.specs.LineRun.{covered, joined, left, line_run, paint}
use Rattle.tm_line_parts.specs.Layers.{AreLayers, layers_at}
use Rattle.tm_line_parts.specs.Stacks.{IsStack, place_at, stack_at}
use Rattle.tm_line_parts.proofs.Adding.{IsBegun}
use Rattle.tm_line_parts.proofs.run.+turns.Given as goal

abbrev pub decreases-tokenize : goal.decreases-tokenize
decreases-tokenize g l = 10 * l.level.now.depth

abbrev pub decreases-apply : goal.decreases-apply
decreases-apply g l = 10 * l.level.now.depth + 1

abbrev pub decreases-take : goal.decreases-take
decreases-take g l = 10 * l.level.now.depth + 2

abbrev pub decreases-covers : goal.decreases-covers
decreases-covers g l = 10 * l.level.now.depth + 3

abbrev pub decreases-ends : goal.decreases-ends
decreases-ends g l = 10 * l.level.now.depth + 4

abbrev pub decreases-matches : goal.decreases-matches
decreases-matches g l = 10 * l.level.now.depth + 4

abbrev pub decreases-enters : goal.decreases-enters
decreases-enters g l = 10 * l.level.now.depth + 4

abbrev pub decreases-begins : goal.decreases-begins
decreases-begins g l = 10 * l.level.now.depth + 5

abbrev pub decreases-takes : goal.decreases-takes
decreases-takes g l = 10 * l.level.now.depth + 6

abbrev pub decreases-turn : goal.decreases-turn
decreases-turn g l = 10 * l.level.now.depth + 7

abbrev pub decreases-run : goal.decreases-run
decreases-run g l = 10 * l.level.now.depth + 8

abbrev pub invariant-covers-loop-group : goal.invariant-covers-loop-group
invariant-covers-loop-group g l =
    let s = g.R.LineRules.language l.level.rules.now in
    let t = g.S.States.tables l.fn.table in
    let u = g.S.States.tables l.table in
    let text = l.level.text.now in
    let stack = stack_at t l.stack in
    let base = path_at t l.cover.inner in
    record {
      known : AreLayers u l.layers.items;
      left : IsBegun s.meta (joined (capture_productions (s.filled text l.m) base l.m (inner_at s l.level.depth text l.cover.first stack) (layers_at u l.layers.items) (drop l.group-index l.groups)) (paint l.m.end base))
          (covered (grammar_at s l.level.depth text) l.cover.whose l.cover.rule l.m stack (path_at t l.cover.outer) base l.cover.first) t u l.fn.out l.out;
    }

abbrev pub invariant-run-loop-fault : goal.invariant-run-loop-fault
invariant-run-loop-fault g l =
    let s = g.R.LineRules.language l.level.rules.now in
    let t = g.S.States.tables l.fn.table in
    let u = g.S.States.tables l.table in
    let grammar = grammar_at s l.level.depth l.level.text.now in
    record {
      stack : IsStack u l.way.stack;
      within : l.way.at ≤ length l.level.text.now;
      left : IsBegun s.meta (line_run grammar (place_at u l.way)).part (line_run grammar (place_at t l.fn.way)).part t u l.fn.out l.out;
      same : (line_run grammar (place_at u l.way)).stack ≡ (line_run grammar (place_at t l.fn.way)).stack;
      room : g.R.LineRules.Fits l.level.rules.now u l.level.text.now l.room;
    }

abbrev pub decreases-run-loop-fault : goal.decreases-run-loop-fault
decreases-run-loop-fault g l = left (grammar_at (g.R.LineRules.language l.level.rules.now) l.level.depth l.level.text.now) (place_at (g.S.States.tables l.table) l.way)

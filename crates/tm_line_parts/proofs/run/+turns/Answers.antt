use Rattle.std.proofs.Common.{◌≡◌, ◌<◌, ◌-◌, ◌++◌, Bool, true, false, not, [], ◌∷◌, length, take, Some, refl, ap, sym, ◌∙◌, subst, arith}
use Rattle.std.specs.Prelude.{Ok, Err, ◌==◌}
use Rattle.std.proofs.lemmas.List.{length-take-le}
use Rattle.std.proofs.lemmas.Option.{slice_get_within}
use Rattle.tm_defs.specs.Tables.{path_at}
use Rattle.tm_defs.proofs.Chains.{path_at-grown, path_at-is, paths-longer}
use Rattle.tm_line_turns.specs.declared.found.Whose.TheVariants.{AtBegin, AtMatch}
use Rattle.tm_line_turns.specs.Captures.{Took, again, capture_productions, group_of, group_place, innermost, pushed, tokenized}
use Rattle.tm_line_turns.specs.Language.{grammar_at, inner_at}
use Rattle.tm_line_turns.specs.LineRun.{Part, covered, joined, line_run, makes, names_made, opened, paint, plain, popped, popped_contents, some_open, turn}
use Rattle.tm_line_turns.proofs.Turns.{line_run-turn, turn-falls, turn-within}
use Rattle.tm_line_parts.specs.declared.layers.Layer.{Layer}
use Rattle.tm_line_parts.specs.declared.rules.Out.{Out}
use Rattle.tm_line_parts.specs.declared.stack.OpenFrame.{OpenFrame}
use Rattle.tm_line_parts.specs.declared.stack.Stack.{Stack}
use Rattle.tm_line_parts.specs.Layers.{AreLayers, Takes, layers_at}
use Rattle.tm_line_parts.specs.Stacks.{IsStack, below_at, place_at, stack_at}
use Rattle.tm_line_parts.proofs.Adding.{IsBegun, begins, next}
use Rattle.tm_line_parts.proofs.Cases.{covered-as, ended-fails, ended-goes, ended-stuck, entered-goes, entered-refused, entered-stuck, entered-uncovered, entered-ungiven, entered-unnamed, matched-goes, matched-stuck, matched-uncovered, matched-unnamed}
use Rattle.tm_line_parts.proofs.Entering.{entered-stack, given-stack}
use Rattle.tm_line_parts.proofs.Grouping.{deep-is, group-done, group-refused, group-unnamed, kept-takes, no-room, no-rule, none-deeper}
use Rattle.tm_line_parts.proofs.LayerSteps.{all-take}
use Rattle.tm_line_parts.proofs.Popping.{of_stack, rest_of}
use Rattle.tm_line_parts.proofs.StacksGrown.{stack-known, stack-same, below-same}
use Rattle.tm_line_parts.proofs.Taking.{group-get, step-done, step-unapplied, step-unclosed, step-unpainted, stepped-at}
use Rattle.tm_line_parts.proofs.Tests.{is-less, not-less}
use Rattle.tm_line_parts.proofs.Turning.{goes-on, line-fails, line-stops, turn-done}
use Rattle.tm_line_parts.proofs.Walking.{walk-ends, walk-fails, walk-goes, walk-halts, walk-starts}
use Rattle.tm_line_parts.proofs.run.+turns.Goals.{apply-in-Some+then-level-gt0+else-not-is_full, apply-in-Some+else-level-gt0, apply-in_default}
use Rattle.tm_line_parts.proofs.run.+turns.Goals as goal

not-true : (b : Bool) → not b ≡ true → b ≡ false
not-true false e = refl
not-true true e = absurd cc

not-false : (b : Bool) → not b ≡ false → b ≡ true
not-false true e = refl
not-false false e = absurd cc

pub run-loop-fault-init : goal.run-loop-fault-init
run-loop-fault-init g t c = record { stack = c.requires.stack; within = c.requires.within; left = begins _ _ _ _; same = refl; room = c.requires.room }

pub run-loop-fault-smaller : goal.run-loop-fault-smaller
run-loop-fault-smaller g t c =
    let s = g.R.LineRules.language c.args.level.now.rules.now in
    let grammar = grammar_at s c.args.level.now.depth c.args.level.now.text.now in
    let finds = g.met.R.LineRules.finds c.args.level.now.rules.now c.args.level.now.text.now in
    let p = place_at (g.S.States.tables c.loop-fault.table) c.loop-fault.way in
    let all = line_run grammar (place_at (g.S.States.tables c.args.table.now) c.args.way.now) in
    (goes-on s.meta grammar p all (g.S.States.tables c.args.table.now) (g.S.States.tables c.loop-fault.table) (g.S.States.tables c.turn.new.table) c.args.out.now c.loop-fault.out c.turn.new.out c.turn.new.way (turn grammar p).part (turn grammar p).next
    (line_run-turn grammar finds p) (turn-falls grammar finds p) (turn-within grammar finds p c.loop-fault.invariant.within) c.loop-fault.invariant.left c.loop-fault.invariant.same (rw c.in-Ok-GoesOn.field-0-is at c.in-Ok-GoesOn.ensures.does)).falls

pub run-loop-fault-preserved : goal.run-loop-fault-preserved
run-loop-fault-preserved g t c =
    let s = g.R.LineRules.language c.args.level.now.rules.now in
    let grammar = grammar_at s c.args.level.now.depth c.args.level.now.text.now in
    let finds = g.met.R.LineRules.finds c.args.level.now.rules.now c.args.level.now.text.now in
    let p = place_at (g.S.States.tables c.loop-fault.table) c.loop-fault.way in
    let all = line_run grammar (place_at (g.S.States.tables c.args.table.now) c.args.way.now) in
    let going = goes-on s.meta grammar p all (g.S.States.tables c.args.table.now) (g.S.States.tables c.loop-fault.table) (g.S.States.tables c.turn.new.table) c.args.out.now c.loop-fault.out c.turn.new.out c.turn.new.way (turn grammar p).part (turn grammar p).next
    (line_run-turn grammar finds p) (turn-falls grammar finds p) (turn-within grammar finds p c.loop-fault.invariant.within) c.loop-fault.invariant.left c.loop-fault.invariant.same (rw c.in-Ok-GoesOn.field-0-is at c.in-Ok-GoesOn.ensures.does) in
    record { stack = going.stack; within = going.within; left = going.rest; same = going.same; room = c.in-Ok-GoesOn.ensures.room }

pub run-returns-in-Ok-Stops-clause-ran : goal.run-returns-in-Ok-Stops-clause-ran
run-returns-in-Ok-Stops-clause-ran g t c =
    let s = g.R.LineRules.language c.args.level.now.rules.now in
    let grammar = grammar_at s c.args.level.now.depth c.args.level.now.text.now in
    let finds = g.met.R.LineRules.finds c.args.level.now.rules.now c.args.level.now.text.now in
    let p = place_at (g.S.States.tables c.loop-fault.table) c.loop-fault.way in
    let all = line_run grammar (place_at (g.S.States.tables c.args.table.now) c.args.way.now) in
    line-stops s.meta grammar p all (g.S.States.tables c.args.table.now) (g.S.States.tables c.loop-fault.table) (g.S.States.tables c.turn.new.table) c.args.out.now c.loop-fault.out c.turn.new.out c.turn.new.way (turn grammar p).part (turn grammar p).next
    _ (line_run-turn grammar finds p) c.loop-fault.invariant.left c.loop-fault.invariant.same (rw c.in-Ok-Stops.field-0-is at c.in-Ok-Stops.ensures.does)

pub run-returns-in-Err-clause-ran : goal.run-returns-in-Err-clause-ran
run-returns-in-Err-clause-ran g t c =
    let s = g.R.LineRules.language c.args.level.now.rules.now in
    let grammar = grammar_at s c.args.level.now.depth c.args.level.now.text.now in
    let finds = g.met.R.LineRules.finds c.args.level.now.rules.now c.args.level.now.text.now in
    let p = place_at (g.S.States.tables c.loop-fault.table) c.loop-fault.way in
    let all = line_run grammar (place_at (g.S.States.tables c.args.table.now) c.args.way.now) in
    line-fails s.meta grammar p all (g.S.States.tables c.args.table.now) (g.S.States.tables c.loop-fault.table) (g.S.States.tables c.turn.new.table) c.args.out.now c.loop-fault.out c.turn.new.out c.turn.new.way (turn grammar p).part (turn grammar p).next
    c.in-Err.fault (line_run-turn grammar finds p) c.loop-fault.invariant.left c.in-Err.ensures.does

pub turn-returns-in-Ok-clause-does : goal.turn-returns-in-Ok-clause-does
turn-returns-in-Ok-clause-does g t c =
    let s = g.R.LineRules.language c.args.level.now.rules.now in
    let t₀ = g.S.States.tables c.args.table.now in
    let grammar = grammar_at s c.args.level.now.depth c.args.level.now.text.now in
    let now : Out = record { pieces = c.args.out.now.pieces; budget = c.winner.new.budget } in
    turn-done s.meta grammar (place_at t₀ c.args.way.now) t₀ (g.S.States.tables c.takes.new.table) c.args.out.now now c.takes.new.out c.takes.new.way c.takes.result c.has_below-has_end.result c.is_anchored-anchored.result c.in-Ok.winner
    c.has_below-has_end.ensures c.is_anchored-anchored.ensures c.in-Ok.ensures.found c.in-Ok.ensures.spends refl c.takes.ensures

pub turn-returns-in-Ok-clause-room : goal.turn-returns-in-Ok-clause-room
turn-returns-in-Ok-clause-room g t c =
    g.met.R.LineRules.keeps c.args.level.now.rules.now _ (g.S.States.tables c.args.table.now) (g.S.States.tables c.takes.new.table) c.args.level.now.text.now c.winner.new.room c.takes.ensures.adds.grows c.in-Ok.ensures.room

pub ends-returns-in-Err : goal.ends-returns-in-Err
ends-returns-in-Err g t c =
    let s = g.R.LineRules.language c.args.level.now.rules.now in
    let t₀ = g.S.States.tables c.args.table.now in
    let grammar = grammar_at s c.args.level.now.depth c.args.level.now.text.now in
    ended-fails s.meta grammar (place_at t₀ c.args.way.now) c.args.m.now t₀ (g.S.States.tables c.covers.new.table) c.args.out.now c.covers.new.out _ (below_at t₀ c.args.way.now.stack) c.in-Err.fault
    (sym c.has_below.ensures ∙ c.if-not-has_below.false) c.in-Err.ensures

pub ends-returns-then-is_stuck_end : goal.ends-returns-then-is_stuck_end
ends-returns-then-is_stuck_end g t c =
    let s = g.R.LineRules.language c.args.level.now.rules.now in
    let t₀ = g.S.States.tables c.args.table.now in
    let u = g.S.States.tables c.covers.new.table in
    let grammar = grammar_at s c.args.level.now.depth c.args.level.now.text.now in
    let w = c.args.way.now in
    let k = c.requires.stack in
    let closed : Stack = record { top = record { frame = record { rule = w.stack.top.frame.rule; end = w.stack.top.frame.end; names = w.stack.top.frame.names; contents = w.stack.top.frame.names; at_eol = w.stack.top.frame.at_eol }; entry = w.stack.top.entry }; below = w.stack.below; base = w.stack.base; deep = w.stack.deep } in
    let known : IsStack t₀ closed = record { top = record { end = k.top.end; names = k.top.names; contents = k.top.names }; below = k.below; base = k.base; deep = k.deep } in
    let names = path_at-grown _ t₀ u w.stack.top.frame.names k.top.names c.in_default.ensures.grows in
    ended-stuck s.meta grammar (place_at t₀ w) c.args.m.now t₀ u c.args.out.now c.stops.new.out _ (below_at t₀ w.stack) u c.covers.new.out c.stops.result
    (sym c.has_below.ensures ∙ c.if-not-has_below.false) (sym c.is_stuck_end.ensures ∙ c.if-is_stuck_end.true) c.in_default.ensures (rw names at c.stops.ensures.adds) c.stops.ensures.stops
    (stack-known _ t₀ u c.in_default.ensures.grows closed known) (stack-same _ t₀ u c.in_default.ensures.grows closed known)

pub ends-leave-requires-clause-stack : goal.ends-leave-requires-clause-stack
ends-leave-requires-clause-stack g t c =
    let t₀ = g.S.States.tables c.args.table.now in
    let u = g.S.States.tables c.covers.new.table in
    let w = c.args.way.now in
    let k = c.requires.stack in
    let closed : Stack = record { top = record { frame = record { rule = w.stack.top.frame.rule; end = w.stack.top.frame.end; names = w.stack.top.frame.names; contents = w.stack.top.frame.names; at_eol = w.stack.top.frame.at_eol }; entry = w.stack.top.entry }; below = w.stack.below; base = w.stack.base; deep = w.stack.deep } in
    let known : IsStack t₀ closed = record { top = record { end = k.top.end; names = k.top.names; contents = k.top.names }; below = k.below; base = k.base; deep = k.deep } in
    stack-known _ t₀ u c.in_default.ensures.grows closed known

pub ends-leave-requires-clause-some : goal.ends-leave-requires-clause-some
ends-leave-requires-clause-some g t c =
    let t₀ = g.S.States.tables c.args.table.now in
    let u = g.S.States.tables c.covers.new.table in
    let w = c.args.way.now in
    let k = c.requires.stack in
    let closed : Stack = record { top = record { frame = record { rule = w.stack.top.frame.rule; end = w.stack.top.frame.end; names = w.stack.top.frame.names; contents = w.stack.top.frame.names; at_eol = w.stack.top.frame.at_eol }; entry = w.stack.top.entry }; below = w.stack.below; base = w.stack.base; deep = w.stack.deep } in
    let known : IsStack t₀ closed = record { top = record { end = k.top.end; names = k.top.names; contents = k.top.names }; below = k.below; base = k.base; deep = k.deep } in
    ap some_open (below-same _ t₀ u c.in_default.ensures.grows closed known) ∙ (sym c.has_below.ensures ∙ c.if-not-has_below.false)

pub ends-returns : goal.ends-returns
ends-returns g t c =
    let s = g.R.LineRules.language c.args.level.now.rules.now in
    let t₀ = g.S.States.tables c.args.table.now in
    let u = g.S.States.tables c.covers.new.table in
    let grammar = grammar_at s c.args.level.now.depth c.args.level.now.text.now in
    let w = c.args.way.now in
    let k = c.requires.stack in
    let closed : Stack = record { top = record { frame = record { rule = w.stack.top.frame.rule; end = w.stack.top.frame.end; names = w.stack.top.frame.names; contents = w.stack.top.frame.names; at_eol = w.stack.top.frame.at_eol }; entry = w.stack.top.entry }; below = w.stack.below; base = w.stack.base; deep = w.stack.deep } in
    let known : IsStack t₀ closed = record { top = record { end = k.top.end; names = k.top.names; contents = k.top.names }; below = k.below; base = k.base; deep = k.deep } in
    ended-goes s.meta grammar (place_at t₀ w) c.args.m.now t₀ u c.args.out.now c.covers.new.out c.advance.new.way (below_at t₀ w.stack)
    (sym c.has_below.ensures ∙ c.if-not-has_below.false) (sym c.is_stuck_end.ensures ∙ c.if-is_stuck_end.false) c.in_default.ensures
    (rw c.advance.ensures.stack c.leave.ensures.stack) (ap (stack_at u) c.advance.ensures.stack ∙ c.leave.ensures.is ∙ below-same _ t₀ u c.in_default.ensures.grows closed known)
    c.advance.ensures.at (c.advance.ensures.anchor ∙ c.anchor_of-way.ensures) c.advance.ensures.first

pub enters-returns-in-Err : goal.enters-returns-in-Err
enters-returns-in-Err g t c =
    let s = g.R.LineRules.language c.args.level.now.rules.now in
    let names = s.names c.args.level.now.text.now c.args.rule c.args.m.now in
    let end_text = s.end_text c.args.level.now.text.now c.args.rule c.args.m.now in
    let content_names = s.content_names c.args.level.now.text.now c.args.rule c.args.m.now in
    let t₀ = g.S.States.tables c.args.table.now in
    let u = g.S.States.tables c.push_names.new.table in
    let grammar = grammar_at s c.args.level.now.depth c.args.level.now.text.now in
    entered-unnamed s.meta grammar (place_at t₀ c.args.way.now) c.args.rule c.args.m.now names end_text content_names t₀ u c.args.out.now c.args.out.now _ c.in-Err.fault (c.in-Err.ensures.adds c.args.out.now)

pub enters-returns-in_default : goal.enters-returns-in_default
enters-returns-in_default g t c =
    let s = g.R.LineRules.language c.args.level.now.rules.now in
    let names = s.names c.args.level.now.text.now c.args.rule c.args.m.now in
    let end_text = s.end_text c.args.level.now.text.now c.args.rule c.args.m.now in
    let content_names = s.content_names c.args.level.now.text.now c.args.rule c.args.m.now in
    let t₀ = g.S.States.tables c.args.table.now in
    let u = g.S.States.tables c.push_names.new.table in
    let grammar = grammar_at s c.args.level.now.depth c.args.level.now.text.now in
    entered-refused s.meta grammar (place_at t₀ c.args.way.now) c.args.rule c.args.m.now names end_text content_names t₀ u c.args.out.now c.args.out.now c.args.out.now _ c.in-Ok.scopes (c.in-Ok.ensures.adds c.args.out.now) refl

pub enters-leave-requires-clause-stack : goal.enters-leave-requires-clause-stack
enters-leave-requires-clause-stack g t c =
    let s = g.R.LineRules.language c.args.level.now.rules.now in
    let names = s.names c.args.level.now.text.now c.args.rule c.args.m.now in
    let end_text = s.end_text c.args.level.now.text.now c.args.rule c.args.m.now in
    let content_names = s.content_names c.args.level.now.text.now c.args.rule c.args.m.now in
    let t₀ = g.S.States.tables c.args.table.now in
    let u = g.S.States.tables c.push_names.new.table in
    let grammar = grammar_at s c.args.level.now.depth c.args.level.now.text.now in
    let w = c.args.way.now in
    let p = place_at t₀ w in
    let named = c.in-Ok.ensures.adds c.args.out.now in
    let scopes = path_at t₀ w.stack.top.frame.contents ++ names in
    let at = c.in-Ok.ensures.ok in
    let grown = named.grows in
    let k = slice_get_within u.paths c.in-Ok.scopes.0 _ at in
    let more = paths-longer _ t₀ u grown in
    let pushed_on = c.in-Ok-open.ensures.stack u (stack-known _ t₀ u grown w.stack c.requires.stack) (record { end = tt; names = k; contents = k }) in
    let v = g.S.States.tables c.covers.new.table in
    stack-known _ u v c.in_default-covers.ensures.grows c.open.new.stack pushed_on.0

pub enters-leave-requires-clause-some : goal.enters-leave-requires-clause-some
enters-leave-requires-clause-some g t c =
    let s = g.R.LineRules.language c.args.level.now.rules.now in
    let names = s.names c.args.level.now.text.now c.args.rule c.args.m.now in
    let end_text = s.end_text c.args.level.now.text.now c.args.rule c.args.m.now in
    let content_names = s.content_names c.args.level.now.text.now c.args.rule c.args.m.now in
    let t₀ = g.S.States.tables c.args.table.now in
    let u = g.S.States.tables c.push_names.new.table in
    let grammar = grammar_at s c.args.level.now.depth c.args.level.now.text.now in
    let w = c.args.way.now in
    let p = place_at t₀ w in
    let named = c.in-Ok.ensures.adds c.args.out.now in
    let scopes = path_at t₀ w.stack.top.frame.contents ++ names in
    let at = c.in-Ok.ensures.ok in
    let grown = named.grows in
    let k = slice_get_within u.paths c.in-Ok.scopes.0 _ at in
    let more = paths-longer _ t₀ u grown in
    let pushed_on = c.in-Ok-open.ensures.stack u (stack-known _ t₀ u grown w.stack c.requires.stack) (record { end = tt; names = k; contents = k }) in
    let v = g.S.States.tables c.covers.new.table in
    ap some_open (below-same _ u v c.in_default-covers.ensures.grows c.open.new.stack pushed_on.0 ∙ ap rest_of pushed_on.1)

pub enters-stops-requires : goal.enters-stops-requires
enters-stops-requires g t c =
    let s = g.R.LineRules.language c.args.level.now.rules.now in
    let names = s.names c.args.level.now.text.now c.args.rule c.args.m.now in
    let end_text = s.end_text c.args.level.now.text.now c.args.rule c.args.m.now in
    let content_names = s.content_names c.args.level.now.text.now c.args.rule c.args.m.now in
    let t₀ = g.S.States.tables c.args.table.now in
    let u = g.S.States.tables c.push_names.new.table in
    let grammar = grammar_at s c.args.level.now.depth c.args.level.now.text.now in
    let w = c.args.way.now in
    let p = place_at t₀ w in
    let named = c.in-Ok.ensures.adds c.args.out.now in
    let scopes = path_at t₀ w.stack.top.frame.contents ++ names in
    let at = c.in-Ok.ensures.ok in
    let grown = named.grows in
    let k = slice_get_within u.paths c.in-Ok.scopes.0 _ at in
    let more = paths-longer _ t₀ u grown in
    let v = g.S.States.tables c.covers.new.table in
    let again = paths-longer _ u v c.in_default-covers.ensures.grows in
    omega (arith, more, again, c.requires.stack.top.contents)

pub enters-returns-in-Err-covers : goal.enters-returns-in-Err-covers
enters-returns-in-Err-covers g t c =
    let s = g.R.LineRules.language c.args.level.now.rules.now in
    let names = s.names c.args.level.now.text.now c.args.rule c.args.m.now in
    let end_text = s.end_text c.args.level.now.text.now c.args.rule c.args.m.now in
    let content_names = s.content_names c.args.level.now.text.now c.args.rule c.args.m.now in
    let t₀ = g.S.States.tables c.args.table.now in
    let u = g.S.States.tables c.push_names.new.table in
    let grammar = grammar_at s c.args.level.now.depth c.args.level.now.text.now in
    let w = c.args.way.now in
    let p = place_at t₀ w in
    let named = c.in-Ok.ensures.adds c.args.out.now in
    let scopes = path_at t₀ w.stack.top.frame.contents ++ names in
    let at = c.in-Ok.ensures.ok in
    let grown = named.grows in
    let k = slice_get_within u.paths c.in-Ok.scopes.0 _ at in
    let more = paths-longer _ t₀ u grown in
    let pushed_on = c.in-Ok-open.ensures.stack u (stack-known _ t₀ u grown w.stack c.requires.stack) (record { end = tt; names = k; contents = k }) in
    let v = g.S.States.tables c.covers.new.table in
    let all = entered-stack _ t₀ u w.stack c.open.new.stack c.args.rule w.at w.anchor c.in-Ok.scopes _ scopes grown c.requires.stack at pushed_on.1 in
    entered-uncovered s.meta grammar p c.args.rule c.args.m.now names end_text content_names t₀ u v c.args.out.now c.args.out.now c.covers.new.out _ c.in-Ok.scopes c.in-Err-covers.fault named
    (covered-as s.meta grammar AtBegin c.args.rule c.args.m.now w.first u v c.args.out.now c.covers.new.out (Err c.in-Err-covers.fault) (stack_at u c.open.new.stack) (opened (plain c.args.rule scopes (c.args.m.now.end == length c.args.level.now.text.now)) w.at w.anchor ∷ stack_at t₀ w.stack) (path_at u w.stack.top.frame.contents) (path_at t₀ w.stack.top.frame.contents) (path_at u c.in-Ok.scopes) scopes
    (all) (path_at-grown _ t₀ u w.stack.top.frame.contents c.requires.stack.top.contents grown) (path_at-is u c.in-Ok.scopes scopes at) c.in-Err-covers.ensures)

pub enters-returns-then-is_stuck : goal.enters-returns-then-is_stuck
enters-returns-then-is_stuck g t c =
    let s = g.R.LineRules.language c.args.level.now.rules.now in
    let names = s.names c.args.level.now.text.now c.args.rule c.args.m.now in
    let end_text = s.end_text c.args.level.now.text.now c.args.rule c.args.m.now in
    let content_names = s.content_names c.args.level.now.text.now c.args.rule c.args.m.now in
    let t₀ = g.S.States.tables c.args.table.now in
    let u = g.S.States.tables c.push_names.new.table in
    let grammar = grammar_at s c.args.level.now.depth c.args.level.now.text.now in
    let w = c.args.way.now in
    let p = place_at t₀ w in
    let named = c.in-Ok.ensures.adds c.args.out.now in
    let scopes = path_at t₀ w.stack.top.frame.contents ++ names in
    let at = c.in-Ok.ensures.ok in
    let grown = named.grows in
    let k = slice_get_within u.paths c.in-Ok.scopes.0 _ at in
    let more = paths-longer _ t₀ u grown in
    let pushed_on = c.in-Ok-open.ensures.stack u (stack-known _ t₀ u grown w.stack c.requires.stack) (record { end = tt; names = k; contents = k }) in
    let v = g.S.States.tables c.covers.new.table in
    let all = entered-stack _ t₀ u w.stack c.open.new.stack c.args.rule w.at w.anchor c.in-Ok.scopes _ scopes grown c.requires.stack at pushed_on.1 in
    let grew = c.in_default-covers.ensures.grows in
    let less = paths-longer _ t₀ u grown in
    let outer : path_at v w.stack.top.frame.contents ≡ path_at t₀ w.stack.top.frame.contents = path_at-grown _ u v w.stack.top.frame.contents (omega (arith, less, c.requires.stack.top.contents)) grew ∙ path_at-grown _ t₀ u w.stack.top.frame.contents c.requires.stack.top.contents grown in
    entered-stuck s.meta grammar p c.args.rule c.args.m.now names end_text content_names t₀ u v c.args.out.now c.args.out.now c.covers.new.out c.stops.new.out _ c.in-Ok.scopes c.stops.result (sym (c.is_stuck_begin-is_stuck.ensures t₀) ∙ c.if-is_stuck.true) named
    (covered-as s.meta grammar AtBegin c.args.rule c.args.m.now w.first u v c.args.out.now c.covers.new.out (Ok c.in_default-covers.field-0) (stack_at u c.open.new.stack) (opened (plain c.args.rule scopes (c.args.m.now.end == length c.args.level.now.text.now)) w.at w.anchor ∷ stack_at t₀ w.stack) (path_at u w.stack.top.frame.contents) (path_at t₀ w.stack.top.frame.contents) (path_at u c.in-Ok.scopes) scopes
    (all) (path_at-grown _ t₀ u w.stack.top.frame.contents c.requires.stack.top.contents grown) (path_at-is u c.in-Ok.scopes scopes at) c.in_default-covers.ensures)
    (rw outer at c.stops.ensures.adds) c.stops.ensures.stops c.leave.ensures.stack (c.leave.ensures.is ∙ below-same _ u v grew c.open.new.stack pushed_on.0 ∙ ap rest_of all)

pub enters-inside_of-requires-clause-scopes : goal.enters-inside_of-requires-clause-scopes
enters-inside_of-requires-clause-scopes g t c =
    let u = g.S.States.tables c.push_names.new.table in
    let v = g.S.States.tables c.covers.new.table in
    let k = slice_get_within u.paths c.in-Ok.scopes.0 _ c.in-Ok.ensures.ok in
    let more = paths-longer _ u v c.in_default-covers.ensures.grows in
    omega (arith, more, k)

pub enters-returns-in-Err-inside_of : goal.enters-returns-in-Err-inside_of
enters-returns-in-Err-inside_of g t c =
    let s = g.R.LineRules.language c.args.level.now.rules.now in
    let names = s.names c.args.level.now.text.now c.args.rule c.args.m.now in
    let end_text = s.end_text c.args.level.now.text.now c.args.rule c.args.m.now in
    let content_names = s.content_names c.args.level.now.text.now c.args.rule c.args.m.now in
    let t₀ = g.S.States.tables c.args.table.now in
    let u = g.S.States.tables c.push_names.new.table in
    let v = g.S.States.tables c.covers.new.table in
    let x = g.S.States.tables c.inside_of.new.table in
    let grammar = grammar_at s c.args.level.now.depth c.args.level.now.text.now in
    let w = c.args.way.now in
    let p = place_at t₀ w in
    let named = c.in-Ok.ensures.adds c.args.out.now in
    let scopes = path_at t₀ w.stack.top.frame.contents ++ names in
    let at = c.in-Ok.ensures.ok in
    let grown = named.grows in
    let k = slice_get_within u.paths c.in-Ok.scopes.0 _ at in
    let pushed_on = c.in-Ok-open.ensures.stack u (stack-known _ t₀ u grown w.stack c.requires.stack) (record { end = tt; names = k; contents = k }) in
    let all = entered-stack _ t₀ u w.stack c.open.new.stack c.args.rule w.at w.anchor c.in-Ok.scopes _ scopes grown c.requires.stack at pushed_on.1 in
    let grew = c.in_default-covers.ensures.grows in
    let over = covered-as s.meta grammar AtBegin c.args.rule c.args.m.now w.first u v c.args.out.now c.covers.new.out (Ok c.in_default-covers.field-0) (stack_at u c.open.new.stack) (opened (plain c.args.rule scopes (c.args.m.now.end == length c.args.level.now.text.now)) w.at w.anchor ∷ stack_at t₀ w.stack) (path_at u w.stack.top.frame.contents) (path_at t₀ w.stack.top.frame.contents) (path_at u c.in-Ok.scopes) scopes
    all (path_at-grown _ t₀ u w.stack.top.frame.contents c.requires.stack.top.contents grown) (path_at-is u c.in-Ok.scopes scopes at) c.in_default-covers.ensures in
    let mean : path_at v c.in-Ok.scopes ≡ scopes = path_at-grown _ u v c.in-Ok.scopes k grew ∙ path_at-is u c.in-Ok.scopes scopes at in
    let gives = rw mean at c.in-Err-inside_of.ensures c.covers.new.out in
    entered-ungiven s.meta grammar p c.args.rule c.args.m.now names end_text content_names t₀ u v x c.args.out.now c.args.out.now c.covers.new.out _ c.in-Ok.scopes named over c.in-Err-inside_of.fault
    (sym (c.is_stuck_begin-is_stuck.ensures t₀) ∙ c.if-is_stuck.false) gives.adds

pub enters-returns : goal.enters-returns
enters-returns g t c =
    let s = g.R.LineRules.language c.args.level.now.rules.now in
    let names = s.names c.args.level.now.text.now c.args.rule c.args.m.now in
    let end_text = s.end_text c.args.level.now.text.now c.args.rule c.args.m.now in
    let content_names = s.content_names c.args.level.now.text.now c.args.rule c.args.m.now in
    let t₀ = g.S.States.tables c.args.table.now in
    let u = g.S.States.tables c.push_names.new.table in
    let v = g.S.States.tables c.covers.new.table in
    let x = g.S.States.tables c.inside_of.new.table in
    let grammar = grammar_at s c.args.level.now.depth c.args.level.now.text.now in
    let w = c.args.way.now in
    let p = place_at t₀ w in
    let named = c.in-Ok.ensures.adds c.args.out.now in
    let scopes = path_at t₀ w.stack.top.frame.contents ++ names in
    let at = c.in-Ok.ensures.ok in
    let grown = named.grows in
    let k = slice_get_within u.paths c.in-Ok.scopes.0 _ at in
    let pushed_on = c.in-Ok-open.ensures.stack u (stack-known _ t₀ u grown w.stack c.requires.stack) (record { end = tt; names = k; contents = k }) in
    let all = entered-stack _ t₀ u w.stack c.open.new.stack c.args.rule w.at w.anchor c.in-Ok.scopes _ scopes grown c.requires.stack at pushed_on.1 in
    let grew = c.in_default-covers.ensures.grows in
    let over = covered-as s.meta grammar AtBegin c.args.rule c.args.m.now w.first u v c.args.out.now c.covers.new.out (Ok c.in_default-covers.field-0) (stack_at u c.open.new.stack) (opened (plain c.args.rule scopes (c.args.m.now.end == length c.args.level.now.text.now)) w.at w.anchor ∷ stack_at t₀ w.stack) (path_at u w.stack.top.frame.contents) (path_at t₀ w.stack.top.frame.contents) (path_at u c.in-Ok.scopes) scopes
    all (path_at-grown _ t₀ u w.stack.top.frame.contents c.requires.stack.top.contents grown) (path_at-is u c.in-Ok.scopes scopes at) c.in_default-covers.ensures in
    let mean : path_at v c.in-Ok.scopes ≡ scopes = path_at-grown _ u v c.in-Ok.scopes k grew ∙ path_at-is u c.in-Ok.scopes scopes at in
    let gives = rw mean at c.in-Ok-inside_of.ensures c.covers.new.out in
    let inside = c.in-Ok-inside_of.inside in
    let opened_stack = c.open.new.stack in
    let known_v = stack-known _ u v grew opened_stack pushed_on.0 in
    let known_x = stack-known _ v x gives.adds.grows opened_stack known_v in
    let new : Stack = record { top = record { frame = record { rule = opened_stack.top.frame.rule; end = inside.1; names = opened_stack.top.frame.names; contents = inside.0; at_eol = opened_stack.top.frame.at_eol }; entry = opened_stack.top.entry }; below = opened_stack.below; base = opened_stack.base; deep = opened_stack.deep } in
    let known : IsStack x new = record { top = record { end = gives.known; names = known_x.top.names; contents = slice_get_within x.paths inside.0.0 _ gives.contents }; below = known_x.below; base = known_x.base; deep = known_x.deep } in
    let top = ap (λ (o : OpenFrame). record { frame = record { rule = o.frame.rule; end = inside.1; names = o.frame.names; contents = inside.0; at_eol = o.frame.at_eol }; entry = o.entry }) c.in-Ok-open.ensures.top in
    let more = paths-longer _ u v grew in
    let names_x : path_at x c.in-Ok.scopes ≡ scopes = path_at-grown _ v x c.in-Ok.scopes (omega (arith, more, k)) gives.adds.grows ∙ mean in
    let below : below_at x opened_stack ≡ stack_at t₀ w.stack = below-same _ v x gives.adds.grows opened_stack known_v ∙ below-same _ u v grew opened_stack pushed_on.0 ∙ ap rest_of all in
    let is = given-stack x new c.args.rule inside.1 c.in-Ok.scopes inside.0 (c.args.m.now.end == length c.args.level.now.text.now) w.at w.anchor end_text scopes (scopes ++ content_names) (stack_at t₀ w.stack) top gives.end names_x (path_at-is x inside.0 (scopes ++ content_names) gives.contents) below in
    entered-goes s.meta grammar p c.args.rule c.args.m.now names end_text content_names t₀ u v x c.args.out.now c.args.out.now c.covers.new.out c.advance.new.way c.in-Ok.scopes named over inside
    (sym (c.is_stuck_begin-is_stuck.ensures t₀) ∙ c.if-is_stuck.false) gives.adds
    (rw c.advance.ensures.stack known) (ap (stack_at x) c.advance.ensures.stack ∙ is) c.advance.ensures.at c.advance.ensures.anchor c.advance.ensures.first

pub matches-returns-in-Err : goal.matches-returns-in-Err
matches-returns-in-Err g t c =
    let s = g.R.LineRules.language c.args.level.now.rules.now in
    let names = s.names c.args.level.now.text.now c.args.rule c.args.m.now in
    let t₀ = g.S.States.tables c.args.table.now in
    let u = g.S.States.tables c.push_names.new.table in
    let grammar = grammar_at s c.args.level.now.depth c.args.level.now.text.now in
    matched-unnamed s.meta grammar (place_at t₀ c.args.way.now) c.args.rule c.args.m.now names t₀ u c.args.out.now c.args.out.now _ c.in-Err.fault (c.in-Err.ensures.adds c.args.out.now)

pub matches-returns-in-Err-covers : goal.matches-returns-in-Err-covers
matches-returns-in-Err-covers g t c =
    let s = g.R.LineRules.language c.args.level.now.rules.now in
    let names = s.names c.args.level.now.text.now c.args.rule c.args.m.now in
    let t₀ = g.S.States.tables c.args.table.now in
    let u = g.S.States.tables c.push_names.new.table in
    let v = g.S.States.tables c.covers.new.table in
    let grammar = grammar_at s c.args.level.now.depth c.args.level.now.text.now in
    let p = place_at t₀ c.args.way.now in
    let named = c.in-Ok.ensures.adds c.args.out.now in
    let scopes = path_at t₀ c.args.way.now.stack.top.frame.contents ++ names in
    matched-uncovered s.meta grammar p c.args.rule c.args.m.now names t₀ u v c.args.out.now c.args.out.now c.covers.new.out _ c.in-Ok.scopes c.in-Err-covers.fault named
    (covered-as s.meta grammar AtMatch c.args.rule c.args.m.now c.args.way.now.first u v c.args.out.now c.covers.new.out (Err c.in-Err-covers.fault) (stack_at u c.args.way.now.stack) (stack_at t₀ c.args.way.now.stack) (path_at u c.args.way.now.stack.top.frame.contents) (path_at t₀ c.args.way.now.stack.top.frame.contents) (path_at u c.in-Ok.scopes) scopes
    (stack-same _ t₀ u named.grows c.args.way.now.stack c.requires.stack) (path_at-grown _ t₀ u c.args.way.now.stack.top.frame.contents c.requires.stack.top.contents named.grows) (path_at-is u c.in-Ok.scopes scopes (c.in-Ok.ensures.ok)) c.in-Err-covers.ensures)

pub matches-returns-then-m-way : goal.matches-returns-then-m-way
matches-returns-then-m-way g t c =
    let s = g.R.LineRules.language c.args.level.now.rules.now in
    let names = s.names c.args.level.now.text.now c.args.rule c.args.m.now in
    let t₀ = g.S.States.tables c.args.table.now in
    let u = g.S.States.tables c.push_names.new.table in
    let grammar = grammar_at s c.args.level.now.depth c.args.level.now.text.now in
    let w = c.args.way.now in
    let p = place_at t₀ w in
    let named = c.in-Ok.ensures.adds c.args.out.now in
    let scopes = path_at t₀ w.stack.top.frame.contents ++ names in
    let at = c.in-Ok.ensures.ok in
    let grown = named.grows in
    let k = slice_get_within u.paths c.in-Ok.scopes.0 _ at in
    let more = paths-longer _ t₀ u grown in
    let v = g.S.States.tables c.covers.new.table in
    let grew = c.in_default.ensures.grows in
    let known = stack-known _ t₀ u grown w.stack c.requires.stack in
    matched-goes s.meta grammar p c.args.rule c.args.m.now names t₀ u v c.args.out.now c.args.out.now c.covers.new.out c.advance.new.way c.in-Ok.scopes (is-less w.at c.args.m.now.end c.if-m-way.true) named
    (covered-as s.meta grammar AtMatch c.args.rule c.args.m.now w.first u v c.args.out.now c.covers.new.out (Ok c.in_default.field-0) (stack_at u w.stack) (stack_at t₀ w.stack) (path_at u w.stack.top.frame.contents) (path_at t₀ w.stack.top.frame.contents) (path_at u c.in-Ok.scopes) scopes
    (stack-same _ t₀ u grown w.stack c.requires.stack) (path_at-grown _ t₀ u w.stack.top.frame.contents c.requires.stack.top.contents grown) (path_at-is u c.in-Ok.scopes scopes at) c.in_default.ensures)
    (rw c.advance.ensures.stack (stack-known _ u v grew w.stack known)) (ap (stack_at v) c.advance.ensures.stack ∙ stack-same _ u v grew w.stack known ∙ stack-same _ t₀ u grown w.stack c.requires.stack)
    c.advance.ensures.at c.advance.ensures.anchor c.advance.ensures.first

pub matches-stops_popped-requires : goal.matches-stops_popped-requires
matches-stops_popped-requires g t c =
    let s = g.R.LineRules.language c.args.level.now.rules.now in
    let names = s.names c.args.level.now.text.now c.args.rule c.args.m.now in
    let t₀ = g.S.States.tables c.args.table.now in
    let u = g.S.States.tables c.push_names.new.table in
    let grammar = grammar_at s c.args.level.now.depth c.args.level.now.text.now in
    let w = c.args.way.now in
    let p = place_at t₀ w in
    let named = c.in-Ok.ensures.adds c.args.out.now in
    let scopes = path_at t₀ w.stack.top.frame.contents ++ names in
    let at = c.in-Ok.ensures.ok in
    let grown = named.grows in
    let k = slice_get_within u.paths c.in-Ok.scopes.0 _ at in
    let more = paths-longer _ t₀ u grown in
    let v = g.S.States.tables c.covers.new.table in
    stack-known _ u v c.in_default.ensures.grows w.stack (stack-known _ t₀ u grown w.stack c.requires.stack)

pub matches-returns : goal.matches-returns
matches-returns g t c =
    let s = g.R.LineRules.language c.args.level.now.rules.now in
    let names = s.names c.args.level.now.text.now c.args.rule c.args.m.now in
    let t₀ = g.S.States.tables c.args.table.now in
    let u = g.S.States.tables c.push_names.new.table in
    let grammar = grammar_at s c.args.level.now.depth c.args.level.now.text.now in
    let w = c.args.way.now in
    let p = place_at t₀ w in
    let named = c.in-Ok.ensures.adds c.args.out.now in
    let scopes = path_at t₀ w.stack.top.frame.contents ++ names in
    let at = c.in-Ok.ensures.ok in
    let grown = named.grows in
    let k = slice_get_within u.paths c.in-Ok.scopes.0 _ at in
    let more = paths-longer _ t₀ u grown in
    let v = g.S.States.tables c.covers.new.table in
    let grew = c.in_default.ensures.grows in
    let known = stack-known _ t₀ u grown w.stack c.requires.stack in
    let same : stack_at v w.stack ≡ stack_at t₀ w.stack = stack-same _ u v grew w.stack known ∙ stack-same _ t₀ u grown w.stack c.requires.stack in
    let contents = ap (of_stack popped_contents []) same in
    matched-stuck s.meta grammar p c.args.rule c.args.m.now names t₀ u v c.args.out.now c.args.out.now c.covers.new.out c.stops_popped.new.out _ c.in-Ok.scopes c.stops_popped.result (not-less w.at c.args.m.now.end (λ less. omega (arith, less, c.if-m-way.false))) named
    (covered-as s.meta grammar AtMatch c.args.rule c.args.m.now w.first u v c.args.out.now c.covers.new.out (Ok c.in_default.field-0) (stack_at u w.stack) (stack_at t₀ w.stack) (path_at u w.stack.top.frame.contents) (path_at t₀ w.stack.top.frame.contents) (path_at u c.in-Ok.scopes) scopes
    (stack-same _ t₀ u grown w.stack c.requires.stack) (path_at-grown _ t₀ u w.stack.top.frame.contents c.requires.stack.top.contents grown) (path_at-is u c.in-Ok.scopes scopes at) c.in_default.ensures)
    (rw contents at c.stops_popped.ensures.adds) c.stops_popped.ensures.stops c.stops_popped.ensures.stack (c.stops_popped.ensures.is ∙ ap (of_stack popped []) same)

pub ends-covers-requires : goal.ends-covers-requires
ends-covers-requires g t c κs within =
    let k = c.requires.stack in
    (omega (arith, c.decreases), (within.0, (within.1.0, (within.1.1, (record { top = record { end = k.top.end; names = k.top.names; contents = k.top.names }; below = k.below; base = k.base; deep = k.deep }, (c.requires.within, (c.requires.small, (k.top.contents, k.top.names))))))))

pub enters-covers-requires : goal.enters-covers-requires
enters-covers-requires g t c κs within =
    let t₀ = g.S.States.tables c.args.table.now in
    let u = g.S.States.tables c.push_names.new.table in
    let w = c.args.way.now in
    let grown = (c.in-Ok.ensures.adds c.args.out.now).grows in
    let k = slice_get_within u.paths c.in-Ok.scopes.0 _ c.in-Ok.ensures.ok in
    let more = paths-longer _ t₀ u grown in
    let pushed_on = c.in-Ok-open.ensures.stack u (stack-known _ t₀ u grown w.stack c.requires.stack) (record { end = tt; names = k; contents = k }) in
    (omega (arith, c.decreases), (within.0, (within.1.0, (within.1.1, (pushed_on.0, (c.requires.within, (c.requires.small, (omega (arith, more, c.requires.stack.top.contents), k))))))))

pub matches-covers-requires : goal.matches-covers-requires
matches-covers-requires g t c κs within =
    let t₀ = g.S.States.tables c.args.table.now in
    let u = g.S.States.tables c.push_names.new.table in
    let grown = (c.in-Ok.ensures.adds c.args.out.now).grows in
    let more = paths-longer _ t₀ u grown in
    (omega (arith, c.decreases), (within.0, (within.1.0, (within.1.1, (stack-known _ t₀ u grown c.args.way.now.stack c.requires.stack, (c.requires.within, (c.requires.small, (omega (arith, more, c.requires.stack.top.contents), slice_get_within u.paths c.in-Ok.scopes.0 _ c.in-Ok.ensures.ok))))))))

pub covers-loop-group-init : goal.covers-loop-group-init
covers-loop-group-init g t c =
    let s = g.R.LineRules.language c.args.level.now.rules.now in
    let t₀ = g.S.States.tables c.args.table.now in
    let stack = stack_at t₀ c.args.stack.now in
    let base = path_at t₀ c.args.cover.inner in
    let outer = path_at t₀ c.args.cover.outer in
    let m = c.args.m.now in
    let inner = inner_at s c.args.level.now.depth c.args.level.now.text.now c.args.cover.first stack in
    let filled = s.filled c.args.level.now.text.now c.args.m.now in
    let given = s.captures c.args.cover.whose c.args.cover.rule in
    let tail = paint m.end base in
    let all = covered (grammar_at s c.args.level.now.depth c.args.level.now.text.now) c.args.cover.whose c.args.cover.rule m stack outer base c.args.cover.first in
    let P : Part → Type 0 = λ x. IsBegun s.meta (joined x tail) all t₀ t₀ c.args.out.now c.paint.new.out in
    record {
      known = rw c.new-layers.ensures.items tt;
      left = subst P (walk-starts filled base m inner t₀ c.new-layers.result.items c.captures-groups.result.now given c.new-layers.ensures.items c.captures-groups.ensures)
          (next s.meta (paint m.start outer) (joined (capture_productions filled base m inner [] given) tail) all t₀ t₀ t₀ c.args.out.now c.args.out.now c.paint.new.out _ (begins s.meta all t₀ c.args.out.now) c.in_default.ensures);
    }

pub covers-take-requires : goal.covers-take-requires
covers-take-requires g t c κs within =
    let t₀ = g.S.States.tables c.args.table.now in
    let u = g.S.States.tables c.loop-group.table in
    let grown = c.loop-group.invariant.left.grows in
    let more = paths-longer _ t₀ u grown in
    (omega (arith, c.decreases), (within.0, (within.1.0, (within.1.1, (stack-known _ t₀ u grown c.args.stack.now c.requires.stack, (c.requires.within, (c.requires.small, (omega (arith, more, c.requires.inner), c.loop-group.invariant.known))))))))

pub covers-returns-in-Ok-false : goal.covers-returns-in-Ok-false
covers-returns-in-Ok-false g t c =
    let s = g.R.LineRules.language c.args.level.now.rules.now in
    let t₀ = g.S.States.tables c.args.table.now in
    let u = g.S.States.tables c.loop-group.table in
    let v = g.S.States.tables c.take.new.table in
    let base = path_at t₀ c.args.cover.inner in
    let m = c.args.m.now in
    let grown = c.loop-group.invariant.left.grows in
    let mean = path_at-grown _ t₀ u c.args.cover.inner c.requires.inner grown in
    let stacked = stack-same _ t₀ u grown c.args.stack.now c.requires.stack in
    let inner = inner_at s c.args.level.now.depth c.args.level.now.text.now c.args.cover.first (stack_at t₀ c.args.stack.now) in
    let filled = s.filled c.args.level.now.text.now c.args.m.now in
    let all = covered (grammar_at s c.args.level.now.depth c.args.level.now.text.now) c.args.cover.whose c.args.cover.rule m (stack_at t₀ c.args.stack.now) (path_at t₀ c.args.cover.outer) base c.args.cover.first in
    let less = paths-longer _ t₀ u grown in
    let later : path_at v c.args.cover.inner ≡ base = path_at-grown _ u v c.args.cover.inner (omega (arith, less, c.requires.inner)) c.in-Ok-false.ensures.takes.adds.grows ∙ mean in
    walk-halts s.meta filled base m inner all (paint m.end base) t₀ u c.args.out.now c.loop-group.out c.loop-group.layers.items c.captures-groups.result.now c.loop-group.group-index c.group-item.result c.loop-group-test.true c.group-item.is c.loop-group.invariant.left v c.take.new.out c.finish.new.out c.take.new.layers.items c.finish.result (rw (mean, stacked, c.in-Ok-false.field-0-test) at c.in-Ok-false.ensures) (rw (later, c.as_slice.ensures.value) at c.finish.ensures)

pub covers-returns-in-Err-take : goal.covers-returns-in-Err-take
covers-returns-in-Err-take g t c =
    let s = g.R.LineRules.language c.args.level.now.rules.now in
    let t₀ = g.S.States.tables c.args.table.now in
    let u = g.S.States.tables c.loop-group.table in
    let v = g.S.States.tables c.take.new.table in
    let base = path_at t₀ c.args.cover.inner in
    let m = c.args.m.now in
    let grown = c.loop-group.invariant.left.grows in
    let mean = path_at-grown _ t₀ u c.args.cover.inner c.requires.inner grown in
    let stacked = stack-same _ t₀ u grown c.args.stack.now c.requires.stack in
    let inner = inner_at s c.args.level.now.depth c.args.level.now.text.now c.args.cover.first (stack_at t₀ c.args.stack.now) in
    let filled = s.filled c.args.level.now.text.now c.args.m.now in
    let all = covered (grammar_at s c.args.level.now.depth c.args.level.now.text.now) c.args.cover.whose c.args.cover.rule m (stack_at t₀ c.args.stack.now) (path_at t₀ c.args.cover.outer) base c.args.cover.first in
    walk-fails s.meta filled base m inner all (paint m.end base) t₀ u c.args.out.now c.loop-group.out c.loop-group.layers.items c.captures-groups.result.now c.loop-group.group-index c.group-item.result c.loop-group-test.true c.group-item.is c.loop-group.invariant.left v c.take.new.out c.take.new.layers.items c.in-Err-take.fault (rw (mean, stacked) at c.in-Err-take.ensures)

pub covers-loop-group-preserved : goal.covers-loop-group-preserved
covers-loop-group-preserved g t c =
    let s = g.R.LineRules.language c.args.level.now.rules.now in
    let t₀ = g.S.States.tables c.args.table.now in
    let u = g.S.States.tables c.loop-group.table in
    let v = g.S.States.tables c.take.new.table in
    let base = path_at t₀ c.args.cover.inner in
    let m = c.args.m.now in
    let grown = c.loop-group.invariant.left.grows in
    let mean = path_at-grown _ t₀ u c.args.cover.inner c.requires.inner grown in
    let stacked = stack-same _ t₀ u grown c.args.stack.now c.requires.stack in
    let inner = inner_at s c.args.level.now.depth c.args.level.now.text.now c.args.cover.first (stack_at t₀ c.args.stack.now) in
    let filled = s.filled c.args.level.now.text.now c.args.m.now in
    let all = covered (grammar_at s c.args.level.now.depth c.args.level.now.text.now) c.args.cover.whose c.args.cover.rule m (stack_at t₀ c.args.stack.now) (path_at t₀ c.args.cover.outer) base c.args.cover.first in
    let went = walk-goes s.meta filled base m inner all (paint m.end base) t₀ u c.args.out.now c.loop-group.out c.loop-group.layers.items c.captures-groups.result.now c.loop-group.group-index c.group-item.result c.loop-group-test.true c.group-item.is c.loop-group.invariant.left v c.take.new.out c.take.new.layers.items (rw (mean, stacked, c.in-Ok-true.field-0-test) at c.in-Ok-true.ensures) in
    record { known = went.0; left = went.1 }

pub covers-returns : goal.covers-returns
covers-returns g t c =
    let s = g.R.LineRules.language c.args.level.now.rules.now in
    let t₀ = g.S.States.tables c.args.table.now in
    let u = g.S.States.tables c.loop-group.table in
    let base = path_at t₀ c.args.cover.inner in
    let m = c.args.m.now in
    let mean = path_at-grown _ t₀ u c.args.cover.inner c.requires.inner c.loop-group.invariant.left.grows in
    let inner = inner_at s c.args.level.now.depth c.args.level.now.text.now c.args.cover.first (stack_at t₀ c.args.stack.now) in
    let filled = s.filled c.args.level.now.text.now c.args.m.now in
    let all = covered (grammar_at s c.args.level.now.depth c.args.level.now.text.now) c.args.cover.whose c.args.cover.rule m (stack_at t₀ c.args.stack.now) (path_at t₀ c.args.cover.outer) base c.args.cover.first in
    walk-ends s.meta filled base m inner all (paint m.end base) t₀ u c.args.out.now c.loop-group.out c.loop-group.layers.items c.captures-groups.result.now c.loop-group.group-index c.finish-2.new.out c.finish-2.result c.loop-group-test.false c.loop-group.invariant.left
    (rw (mean, c.as_slice-2.ensures.value) at c.finish-2.ensures)

pub apply-returns-then-not-is_full : goal.apply-returns-then-not-is_full
apply-returns-then-not-is_full g t c =
    let s = g.R.LineRules.language c.args.level.now.rules.now in
    let t₀ = g.S.States.tables c.args.table.now in
    let stack = stack_at t₀ c.args.over.now.stack.now in
    let filled = s.filled c.args.level.now.text.now c.args.over.now.m.now in
    let base = path_at t₀ c.args.over.now.cover.inner in
    let room = not-false _ (sym (c.is_full.ensures t₀ c.requires.stack) ∙ c.if-not-is_full.true) in
    kept-takes s.meta _ (again filled base (tokenized (grammar_at s (c.args.level.now.depth - 1)) c.args.level.now.text.now c.args.over.now.cover.first stack) c.in-Some.rule c.args.group.now c.args.span.start c.args.span.end) t₀ (g.S.States.tables c.tokenize.new.table) c.args.out.now c.tokenize.new.out c.args.layers.now.items c.tokenize.result
    (deep-is s filled c.args.level.now.text.now c.args.over.now.cover.first stack base (layers_at t₀ c.args.layers.now.items) c.args.group.now c.args.span.start c.args.span.end c.args.level.now.depth c.in-Some.rule c.if-level-gt0.true room c.in-Some.is) c.requires.layers c.tokenize.ensures

pub apply-returns : goal.apply-returns
apply-returns g t c =
    let s = g.R.LineRules.language c.args.level.now.rules.now in
    let t₀ = g.S.States.tables c.args.table.now in
    let u = g.S.States.tables c.name.new.table in
    let stack = stack_at t₀ c.args.over.now.stack.now in
    let filled = s.filled c.args.level.now.text.now c.args.over.now.m.now in
    let base = path_at t₀ c.args.over.now.cover.inner in
    let ls = layers_at t₀ c.args.layers.now.items in
    let P : Took → Type 0 = λ x. Takes s.meta x t₀ u c.args.out.now c.args.out.now c.name.new.layers.items c.name.result in
    let named = c.name.ensures s.meta c.args.out.now in
    elim c.match-group.branch [
      | apply-in-Some+then-level-gt0+else-not-is_full w ↦ subst P (sym (no-room s filled c.args.level.now.text.now c.args.over.now.cover.first stack base ls c.args.group.now c.args.span.start c.args.span.end c.args.level.now.depth c.args.group.now.rule (not-true _ (sym (w.is_full.ensures t₀ c.requires.stack) ∙ w.if-not-is_full.false)))) named
      | apply-in-Some+else-level-gt0 w ↦ subst P (sym (none-deeper s filled c.args.level.now.text.now c.args.over.now.cover.first stack base ls c.args.group.now c.args.span.start c.args.span.end c.args.level.now.depth (omega (arith, w.if-level-gt0.false)) c.args.group.now.rule)) named
      | apply-in_default w ↦ subst P (sym (no-rule s filled c.args.level.now.text.now c.args.over.now.cover.first stack base ls c.args.group.now c.args.span.start c.args.span.end c.args.level.now.depth w.in_default.is)) named
    ]

pub take-returns-in-Err : goal.take-returns-in-Err
take-returns-in-Err g t c =
    let s = g.R.LineRules.language c.args.level.now.rules.now in
    let t₀ = g.S.States.tables c.args.table.now in
    let m = c.args.over.now.m.now in
    let base = path_at t₀ c.args.over.now.cover.inner in
    let items = c.args.layers.now.items in
    let ls = layers_at t₀ items in
    let inner = inner_at s c.args.level.now.depth c.args.level.now.text.now c.args.over.now.cover.first (stack_at t₀ c.args.over.now.stack.now) in
    let filled = s.filled c.args.level.now.text.now m in
    let group = group_of m.groups c.args.group.now.group in
    let found : group ≡ Some (c.in-Some.start, c.in-Some.end) = sym c.in-Some.ensures in
    let is = stepped-at filled base m inner ls c.args.group.now c.in-Some.start c.in-Some.end group found c.if-start-end.false (λ less. omega (arith, less, c.if-over-start.false)) in
    step-unclosed s.meta filled base m inner ls c.args.group.now c.in-Some.start c.in-Some.end group is t₀ c.args.out.now c.close.new.out items c.in-Err.fault (rw c.as_slice.ensures.value at c.in-Err.ensures.adds)

pub take-returns-in-Err-paint : goal.take-returns-in-Err-paint
take-returns-in-Err-paint g t c =
    let s = g.R.LineRules.language c.args.level.now.rules.now in
    let t₀ = g.S.States.tables c.args.table.now in
    let m = c.args.over.now.m.now in
    let base = path_at t₀ c.args.over.now.cover.inner in
    let items = c.args.layers.now.items in
    let ls = layers_at t₀ items in
    let inner = inner_at s c.args.level.now.depth c.args.level.now.text.now c.args.over.now.cover.first (stack_at t₀ c.args.over.now.stack.now) in
    let filled = s.filled c.args.level.now.text.now m in
    let group = group_of m.groups c.args.group.now.group in
    let found : group ≡ Some (c.in-Some.start, c.in-Some.end) = sym c.in-Some.ensures in
    let is = stepped-at filled base m inner ls c.args.group.now c.in-Some.start c.in-Some.end group found c.if-start-end.false (λ less. omega (arith, less, c.if-over-start.false)) in
    let closing = rw c.as_slice.ensures.value at c.in-Ok.ensures.adds in
    let kept_is = ap (layers_at t₀) c.truncate.ensures.items ∙ (rw c.as_slice.ensures.value at c.in-Ok.ensures.keeps).1 in
    let mean = c.innermost-scopes.ensures.is ∙ ap (λ l. innermost base (layers_at t₀ l)) c.as_slice-2.ensures.value ∙ ap (innermost base) kept_is in
    step-unpainted s.meta filled base m inner ls c.args.group.now c.in-Some.start c.in-Some.end group is t₀ c.args.out.now c.close.new.out c.paint.new.out c.in-Ok.kept c.truncate.new.self.items c.in-Err-paint.fault closing (rw mean at c.in-Err-paint.ensures)

pub take-apply-requires : goal.take-apply-requires
take-apply-requires g t c κs within =
    let s = g.R.LineRules.language c.args.level.now.rules.now in
    let t₀ = g.S.States.tables c.args.table.now in
    let m = c.args.over.now.m.now in
    let base = path_at t₀ c.args.over.now.cover.inner in
    let items = c.args.layers.now.items in
    let ls = layers_at t₀ items in
    let inner = inner_at s c.args.level.now.depth c.args.level.now.text.now c.args.over.now.cover.first (stack_at t₀ c.args.over.now.stack.now) in
    let filled = s.filled c.args.level.now.text.now m in
    let group = group_of m.groups c.args.group.now.group in
    let found : group ≡ Some (c.in-Some.start, c.in-Some.end) = sym c.in-Some.ensures in
    let is = stepped-at filled base m inner ls c.args.group.now c.in-Some.start c.in-Some.end group found c.if-start-end.false (λ less. omega (arith, less, c.if-over-start.false)) in
    let there = c.requires.within.groups c.args.group.now.group c.in-Some.start c.in-Some.end (group-get m.groups c.args.group.now.group (c.in-Some.start, c.in-Some.end) found) in
    let known : AreLayers t₀ c.truncate.new.self.items = rw c.truncate.ensures.items (all-take (λ (l : Layer). l.scopes.0 < length t₀.paths) c.in-Ok.kept items c.requires.layers) in
    (omega (arith, c.decreases), (within.0, (within.1.0, (within.1.1, (c.requires.stack, (c.requires.within, (c.requires.small, (c.requires.inner, (known, (there.0, there.1))))))))))

pub take-returns-in-Ok-apply : goal.take-returns-in-Ok-apply
take-returns-in-Ok-apply g t c =
    let s = g.R.LineRules.language c.args.level.now.rules.now in
    let t₀ = g.S.States.tables c.args.table.now in
    let m = c.args.over.now.m.now in
    let base = path_at t₀ c.args.over.now.cover.inner in
    let items = c.args.layers.now.items in
    let ls = layers_at t₀ items in
    let inner = inner_at s c.args.level.now.depth c.args.level.now.text.now c.args.over.now.cover.first (stack_at t₀ c.args.over.now.stack.now) in
    let filled = s.filled c.args.level.now.text.now m in
    let group = group_of m.groups c.args.group.now.group in
    let found : group ≡ Some (c.in-Some.start, c.in-Some.end) = sym c.in-Some.ensures in
    let is = stepped-at filled base m inner ls c.args.group.now c.in-Some.start c.in-Some.end group found c.if-start-end.false (λ less. omega (arith, less, c.if-over-start.false)) in
    let closing = rw c.as_slice.ensures.value at c.in-Ok.ensures.adds in
    let kept_is = ap (layers_at t₀) c.truncate.ensures.items ∙ (rw c.as_slice.ensures.value at c.in-Ok.ensures.keeps).1 in
    let mean = c.innermost-scopes.ensures.is ∙ ap (λ l. innermost base (layers_at t₀ l)) c.as_slice-2.ensures.value ∙ ap (innermost base) kept_is in
    step-done s.meta filled base m inner ls c.args.group.now c.in-Some.start c.in-Some.end group is t₀ c.args.out.now (g.S.States.tables c.apply.new.table) c.close.new.out c.paint.new.out c.apply.new.out c.in-Ok.kept c.in_default-paint.field-0 _ c.apply.new.layers.items closing (rw mean at c.in_default-paint.ensures) (rw kept_is at c.in-Ok-apply.ensures)

pub take-returns-in-Err-apply : goal.take-returns-in-Err-apply
take-returns-in-Err-apply g t c =
    let s = g.R.LineRules.language c.args.level.now.rules.now in
    let t₀ = g.S.States.tables c.args.table.now in
    let m = c.args.over.now.m.now in
    let base = path_at t₀ c.args.over.now.cover.inner in
    let items = c.args.layers.now.items in
    let ls = layers_at t₀ items in
    let inner = inner_at s c.args.level.now.depth c.args.level.now.text.now c.args.over.now.cover.first (stack_at t₀ c.args.over.now.stack.now) in
    let filled = s.filled c.args.level.now.text.now m in
    let group = group_of m.groups c.args.group.now.group in
    let found : group ≡ Some (c.in-Some.start, c.in-Some.end) = sym c.in-Some.ensures in
    let is = stepped-at filled base m inner ls c.args.group.now c.in-Some.start c.in-Some.end group found c.if-start-end.false (λ less. omega (arith, less, c.if-over-start.false)) in
    let closing = rw c.as_slice.ensures.value at c.in-Ok.ensures.adds in
    let kept_is = ap (layers_at t₀) c.truncate.ensures.items ∙ (rw c.as_slice.ensures.value at c.in-Ok.ensures.keeps).1 in
    let mean = c.innermost-scopes.ensures.is ∙ ap (λ l. innermost base (layers_at t₀ l)) c.as_slice-2.ensures.value ∙ ap (innermost base) kept_is in
    step-unapplied s.meta filled base m inner ls c.args.group.now c.in-Some.start c.in-Some.end group is t₀ c.args.out.now (g.S.States.tables c.apply.new.table) c.close.new.out c.paint.new.out c.apply.new.out c.in-Ok.kept c.in_default-paint.field-0 c.apply.new.layers.items c.in-Err-apply.fault closing (rw mean at c.in_default-paint.ensures) (rw kept_is at c.in-Err-apply.ensures)

pub tokenize-returns-in-Err : goal.tokenize-returns-in-Err
tokenize-returns-in-Err g t c =
    let s = g.R.LineRules.language c.args.level.now.rules.now in
    let t₀ = g.S.States.tables c.args.table.now in
    let u = g.S.States.tables c.inner_way.new.table in
    let o = c.args.out.now in
    let filled = s.filled c.args.level.now.text.now c.args.over.now.m.now in
    let base = path_at t₀ c.args.over.now.cover.inner in
    let names = base ++ pushed filled c.args.group.now.name in
    let contents = names ++ pushed filled c.args.group.now.content_name in
    let named = makes (names_made base (pushed filled c.args.group.now.name)) in
    let inside = makes (names_made names (pushed filled c.args.group.now.content_name)) in
    let grammar = grammar_at s (c.args.level.now.depth - 1) (take c.args.span.end c.args.level.now.text.now) in
    let place = group_place c.args.over.now.cover.first (stack_at t₀ c.args.over.now.stack.now) c.args.rule names contents c.args.span.start in
    group-unnamed s.meta named inside grammar place t₀ u o c.in-Err.fault (c.in-Err.ensures.enters o).adds

pub tokenize-returns-in_default : goal.tokenize-returns-in_default
tokenize-returns-in_default g t c =
    let s = g.R.LineRules.language c.args.level.now.rules.now in
    let t₀ = g.S.States.tables c.args.table.now in
    let u = g.S.States.tables c.inner_way.new.table in
    let o = c.args.out.now in
    let filled = s.filled c.args.level.now.text.now c.args.over.now.m.now in
    let base = path_at t₀ c.args.over.now.cover.inner in
    let names = base ++ pushed filled c.args.group.now.name in
    let contents = names ++ pushed filled c.args.group.now.content_name in
    let named = makes (names_made base (pushed filled c.args.group.now.name)) in
    let inside = makes (names_made names (pushed filled c.args.group.now.content_name)) in
    let grammar = grammar_at s (c.args.level.now.depth - 1) (take c.args.span.end c.args.level.now.text.now) in
    let place = group_place c.args.over.now.cover.first (stack_at t₀ c.args.over.now.stack.now) c.args.rule names contents c.args.span.start in
    group-refused s.meta named inside grammar place t₀ u o c.in-Ok.way (c.in-Ok.ensures.enters o).adds

pub tokenize-run-requires : goal.tokenize-run-requires
tokenize-run-requires g t c κs within =
    let cut = length-take-le c.args.span.end c.args.level.now.text.now c.requires.end in
    let at = c.in-Ok.ensures.at in
    (omega (arith, c.decreases, c.requires.deep), (within.0, (within.1.0, (within.1.1, ((c.in-Ok.ensures.enters c.args.out.now).stack, (omega (arith, at, c.requires.start, c.requires.end, cut), (omega (arith, c.requires.end, c.requires.small, cut), c.in-Ok-inner_room.ensures (g.S.States.tables c.inner_way.new.table))))))))

pub tokenize-returns : goal.tokenize-returns
tokenize-returns g t c =
    let s = g.R.LineRules.language c.args.level.now.rules.now in
    let t₀ = g.S.States.tables c.args.table.now in
    let u = g.S.States.tables c.inner_way.new.table in
    let o = c.args.out.now in
    let filled = s.filled c.args.level.now.text.now c.args.over.now.m.now in
    let base = path_at t₀ c.args.over.now.cover.inner in
    let names = base ++ pushed filled c.args.group.now.name in
    let contents = names ++ pushed filled c.args.group.now.content_name in
    let named = makes (names_made base (pushed filled c.args.group.now.name)) in
    let inside = makes (names_made names (pushed filled c.args.group.now.content_name)) in
    let grammar = grammar_at s (c.args.level.now.depth - 1) (take c.args.span.end c.args.level.now.text.now) in
    let place = group_place c.args.over.now.cover.first (stack_at t₀ c.args.over.now.stack.now) c.args.rule names contents c.args.span.start in
    group-done s.meta named inside grammar place t₀ u o c.in-Ok.way (c.in-Ok.ensures.enters o).adds (place_at u c.in-Ok.way) (g.S.States.tables c.run.new.table) c.run.new.out c.run.result (c.in-Ok.ensures.enters o).is c.run.ensures.ran.adds

use Rattle.std.proofs.Common.{◌≡◌, ◌≤◌, ◌∷◌, Some, max, length, refl, ap, ◌∙◌, subst}
use Rattle.std.specs.Prelude.{Ok}
use Rattle.tm_defs.specs.Tables.{frame_at, path_at}
use Rattle.tm_line_turns.specs.declared.found.Whose.TheVariants.{AtWhile}
use Rattle.tm_line_turns.specs.Language.{grammar_at}
use Rattle.tm_line_turns.specs.LineRun.{Place, earlier, stack_of}
use Rattle.tm_line_parts.specs.Stacks.{place_at, stack_at}
use Rattle.tm_line_parts.proofs.Cases.{covered-as, place-is}
use Rattle.tm_line_parts.proofs.Passing.{held-goes, max-within}
use Rattle.tm_line_parts.proofs.StacksGrown.{stack-known, stack-same}
use Rattle.tm_line_parts.proofs.whiles.holds_up.Goals as goal

pub returns : goal.returns
returns g c =
    let s = g.R.LineRules.language c.args.level.now.rules.now in
    let t = g.S.States.tables c.args.table.now in
    let v = g.S.States.tables c.covers.new.table in
    let grammar = grammar_at s c.args.level.now.depth c.args.level.now.text.now in
    let w = c.args.way.now in
    let p = place_at t w in
    let o = earlier (frame_at t c.args.frame) in
    let m = c.args.m.now in
    let kept = c.in-Ok.ensures t c.requires.stack c.requires.frame in
    let scopes = path_at t c.args.frame.contents in
    let grew = c.in_default-covers.ensures.grows in
    let at : c.keep.new.way.at ≡ w.at = ap (λ (q : Place). q.at) kept.place in
    let first : c.keep.new.way.first ≡ w.first = ap (λ (q : Place). q.first) kept.place in
    let far : max w.at m.end ≤ length c.args.level.now.text.now = max-within w.at m.end (length c.args.level.now.text.now) c.requires.at c.requires.within.end in
    held-goes s.meta (length c.args.level.now.text.now) grammar p o t m v c.args.out.now c.covers.new.out c.advance.new.way c.in_default-covers.field-0
    (covered-as s.meta grammar AtWhile c.args.frame.rule m w.first t v c.args.out.now c.covers.new.out (Ok c.in_default-covers.field-0) _ (o ∷ stack_of p) scopes scopes scopes scopes (ap stack_of kept.place) refl refl c.in_default-covers.ensures)
    (rw c.advance.ensures.stack (stack-known _ t v grew c.keep.new.way.stack kept.stack))
    (place-is v c.advance.new.way o (o ∷ stack_of p) (max w.at m.end) (Some m.end) _ (ap (stack_at v) c.advance.ensures.stack ∙ stack-same _ t v grew c.keep.new.way.stack kept.stack ∙ ap stack_of kept.place) (rw at at c.advance.ensures.at) c.advance.ensures.anchor (rw (at, first) at c.advance.ensures.first))
    (rw (c.advance.ensures.at, at) far)

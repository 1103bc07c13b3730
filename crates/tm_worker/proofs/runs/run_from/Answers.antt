use Rattle.std.proofs.Common.{[], ◌∷◌, Some, ap, arith, length, length-append, subst, suc, sym, ◌≡◌, ◌+◌, ◌∙◌}
use Rattle.tm_defs.specs.Tables.{state_at}
use Rattle.tm_document.specs.Held.{setting_now}
use Rattle.tm_machine.specs.Entries.{start_at}
use Rattle.tm_machine.specs.Turns.{opening}
use Rattle.tm_rebase.specs.Right.{AreRightItems}
use Rattle.tm_text.proofs.Sizes.{small-text}
use Rattle.tm_worker.proofs.RunSteps.{run-next, start-there}
use Rattle.tm_worker.proofs.runs.run_from.Goals as goal

pub unreachable-requires : goal.unreachable-requires
unreachable-requires g c = start-there (setting_now g.T.LineTok.plain g.T.LineTok.tokenized g.T.LineTok.plain_cost g.T.LineTok.entries_made c.args.document.now) c.args.document.now.budget c.args.document.now.lines c.args.document.now.entries c.args.first c.prove_sound.ensures.sound.right (omega (arith, c.requires.some, c.requires.within)) c.prove_sound.ensures.sound.lengths c.requires.good c.in_default.ensures.state

pub lines-preserved : goal.lines-preserved
lines-preserved g c =
    let at = c.lines.at in
    let inv = c.lines.invariant in
    let one : at + 1 ≡ suc at = omega arith in
    let made = c.in_ok-item.ensures in
    let pushed = c.in_ok-push.ensures.items in
    record {
      run = λ s is. run-next (setting_now g.T.LineTok.plain g.T.LineTok.tokenized g.T.LineTok.plain_cost g.T.LineTok.entries_made c.args.document.now) c.args.document.now.budget c.args.document.now.lines c.args.document.now.entries c.args.document.now.tables c.args.first c.args.end at (at + 1) c.prove_sound.ensures.sound.right c.lines-test.true c.requires.within c.prove_sound.ensures.sound.lengths (sym c.is_good.ensures ∙ c.if-is_good.true)
          s c.lines.items.items c.push.new.self.items c.lines.state c.in_ok-item.behind c.in_ok-item.item one inv.count pushed inv.begins made.end made.line made.right made.leads (inv.run s is);
      begins = ap (start_at opening c.args.document.now.entries) one ∙ made.end;
      known = made.known;
      count = let more = ap length pushed ∙ length-append c.lines.items.items (c.in_ok-item.item ∷ []) in omega (arith, more, inv.count);
      within = omega (arith, c.lines-test.true);
    }

pub returns-clause-right : goal.returns-clause-right
returns-clause-right g c =
    let start_is = c.in-Some.ensures.state ∙ ap Some (sym (c.in_ok-start.ensures ∙ ap (λ t. state_at t c.in-Some.before) c.table.ensures)) in
    let run = c.lines.invariant.run c.in_ok-start.start start_is in
    let count = ap length c.new.ensures in
    let few = (small-text c.args.document.now.lines c.prove_sound.ensures.text).few in
    record {
      items = subst (AreRightItems (setting_now g.T.LineTok.plain g.T.LineTok.tokenized g.T.LineTok.plain_cost g.T.LineTok.entries_made c.args.document.now).tokenized c.in_ok-start.start) (sym c.new.ensures) run.right;
      lines = omega (arith, count, few, c.lines.invariant.count, c.lines.invariant.within, c.requires.within);
    }

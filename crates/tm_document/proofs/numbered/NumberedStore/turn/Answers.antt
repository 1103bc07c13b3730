use Rattle.std.proofs.Common.{arith, refl, Some, rules}
use Rattle.tm_machine.specs.Settings.{tokenizing_of}
use Rattle.tm_document.proofs.KeptTurns.{ticks-one, ticks-none, turn-stays, turn-grows, turn-full, turn-kept, turn-done, turn-done-known, turn-blocks, turn-blocked-known, turn-still-known}
use Rattle.tm_document.proofs.numbered.NumberedStore.turn.Goals as goal

pub returns-then-entry-clause-turn : goal.returns-then-entry-clause-turn
returns-then-entry-clause-turn g c = λ lines holds. turn-stays c.self.inside.store.entries c.self.inside.table c.args.self.now c.self.view_is c.args.i c.entry.result.now c.requires.front c.entry.ensures c.if-entry.true (tokenizing_of g.T.LineTok.tokenized g.T.LineTok.plain_cost g.T.LineTok.entries_made (Some (g.T.LineTok.plain c.args.setting.now))) c.args.budget lines

pub returns-then-entry-clause-ticks : goal.returns-then-entry-clause-ticks
returns-then-entry-clause-ticks g c = let none = ticks-none c.self.inside.store.entries c.self.inside.table c.args.self.now c.self.view_is c.args.i c.entry.result.now c.requires.front c.entry.ensures c.if-entry.true in omega (arith, none)

pub invariant_of-self : goal.invariant_of-self
invariant_of-self g c = turn-still-known c.self.inside.store.entries c.self.inside.table c.args.self.now c.self.view_is c.args.i c.entry.result.now c.in-Some.start c.args.line.now c.requires.front c.entry.ensures c.if-entry.false c.in-Some.ensures.state (tokenizing_of g.T.LineTok.tokenized g.T.LineTok.plain_cost g.T.LineTok.entries_made (Some (g.T.LineTok.plain c.args.setting.now))) c.args.budget c.line.new.table c.in-Ok.ensures.grows c.self.invariant c.reserve.new.self.entries c.reserve.ensures.entries

pub returns-in_default-reserve-clause-grows : goal.returns-in_default-reserve-clause-grows
returns-in_default-reserve-clause-grows g c = turn-grows c.self.inside.store.entries c.self.inside.table c.args.self.now c.self.view_is c.args.i c.entry.result.now c.in-Some.start c.args.line.now c.requires.front c.entry.ensures c.if-entry.false c.in-Some.ensures.state (tokenizing_of g.T.LineTok.tokenized g.T.LineTok.plain_cost g.T.LineTok.entries_made (Some (g.T.LineTok.plain c.args.setting.now))) c.args.budget c.line.new.table c.in-Ok.ensures.grows

pub returns-in_default-reserve-clause-err : goal.returns-in_default-reserve-clause-err
returns-in_default-reserve-clause-err g c = turn-kept c.self.inside.store.entries c.self.inside.table c.args.self.now c.self.view_is c.args.i c.entry.result.now c.in-Some.start c.args.line.now c.requires.front c.entry.ensures c.if-entry.false c.in-Some.ensures.state (tokenizing_of g.T.LineTok.tokenized g.T.LineTok.plain_cost g.T.LineTok.entries_made (Some (g.T.LineTok.plain c.args.setting.now))) c.args.budget c.line.new.table c.in-Ok.ensures.grows c.self.invariant c.reserve.new.self.entries c.reserve.ensures.entries

pub returns-in_default-reserve-clause-ticks : goal.returns-in_default-reserve-clause-ticks
returns-in_default-reserve-clause-ticks g c = let one = ticks-one c.self.inside.store.entries c.self.inside.table c.args.self.now c.self.view_is c.args.i c.entry.result.now c.in-Some.start c.args.line.now c.requires.front c.entry.ensures c.if-entry.false c.in-Some.ensures.state in omega (arith, one, c.line.ensures.ticks)

pub invariant_of-self-in-Ok : goal.invariant_of-self-in-Ok
invariant_of-self-in-Ok g c = turn-done-known c.self.inside.store.entries c.self.inside.table c.args.self.now c.self.view_is c.args.i c.entry.result.now c.in-Some.start c.args.line.now c.requires.front c.entry.ensures c.if-entry.false c.in-Some.ensures.state (tokenizing_of g.T.LineTok.tokenized g.T.LineTok.plain_cost g.T.LineTok.entries_made (Some (g.T.LineTok.plain c.args.setting.now))) c.args.budget c.line.new.table c.in-Ok.ensures.grows c.self.invariant c.in-Ok.out.tokens c.in-Ok.out.end c.reserve.new.self.entries c.put.new.self.entries _ c.reserve.ensures.entries c.put.ensures.entries c.in-Ok.ensures.end

pub returns-in-Ok-reserve-clause-turn : goal.returns-in-Ok-reserve-clause-turn
returns-in-Ok-reserve-clause-turn g c = turn-done c.self.inside.store.entries c.self.inside.table c.args.self.now c.self.view_is c.args.i c.entry.result.now c.in-Some.start c.args.line.now c.requires.front c.entry.ensures c.if-entry.false c.in-Some.ensures.state (tokenizing_of g.T.LineTok.tokenized g.T.LineTok.plain_cost g.T.LineTok.entries_made (Some (g.T.LineTok.plain c.args.setting.now))) c.args.budget c.line.new.table c.in-Ok.ensures.grows c.self.invariant c.in-Ok.out.tokens c.in-Ok.out.end c.reserve.new.self.entries c.put.new.self.entries _ c.reserve.ensures.entries c.put.ensures.entries c.in-Ok.ensures.tokens c.in-Ok.ensures.end c.prove_known.ensures.states_once (search rules) (search rules)

pub returns-in-Ok-reserve-clause-grows : goal.returns-in-Ok-reserve-clause-grows
returns-in-Ok-reserve-clause-grows g c = turn-grows c.self.inside.store.entries c.self.inside.table c.args.self.now c.self.view_is c.args.i c.entry.result.now c.in-Some.start c.args.line.now c.requires.front c.entry.ensures c.if-entry.false c.in-Some.ensures.state (tokenizing_of g.T.LineTok.tokenized g.T.LineTok.plain_cost g.T.LineTok.entries_made (Some (g.T.LineTok.plain c.args.setting.now))) c.args.budget c.line.new.table c.in-Ok.ensures.grows

pub returns-in-Ok-reserve-clause-ticks : goal.returns-in-Ok-reserve-clause-ticks
returns-in-Ok-reserve-clause-ticks g c = let one = ticks-one c.self.inside.store.entries c.self.inside.table c.args.self.now c.self.view_is c.args.i c.entry.result.now c.in-Some.start c.args.line.now c.requires.front c.entry.ensures c.if-entry.false c.in-Some.ensures.state in omega (arith, one, c.line.ensures.ticks)

pub invariant_of-self-in-Err-Budget : goal.invariant_of-self-in-Err-Budget
invariant_of-self-in-Err-Budget g c = turn-blocked-known c.self.inside.store.entries c.self.inside.table c.args.self.now c.self.view_is c.args.i c.entry.result.now c.in-Some.start c.args.line.now c.requires.front c.entry.ensures c.if-entry.false c.in-Some.ensures.state (tokenizing_of g.T.LineTok.tokenized g.T.LineTok.plain_cost g.T.LineTok.entries_made (Some (g.T.LineTok.plain c.args.setting.now))) c.args.budget c.line.new.table c.in-Err-Budget.ensures.grows c.self.invariant c.block.new.self.entries c.block.ensures.entries

pub returns-in-Err-Budget-clause-turn : goal.returns-in-Err-Budget-clause-turn
returns-in-Err-Budget-clause-turn g c = turn-blocks c.self.inside.store.entries c.self.inside.table c.args.self.now c.self.view_is c.args.i c.entry.result.now c.in-Some.start c.args.line.now c.requires.front c.entry.ensures c.if-entry.false c.in-Some.ensures.state (tokenizing_of g.T.LineTok.tokenized g.T.LineTok.plain_cost g.T.LineTok.entries_made (Some (g.T.LineTok.plain c.args.setting.now))) c.args.budget c.line.new.table c.in-Err-Budget.ensures.grows c.self.invariant c.block.new.self.entries (rw c.in-Err-Budget.field-0-is at c.in-Err-Budget.ensures.cause) c.block.ensures.entries

pub returns-in-Err-Budget-clause-grows : goal.returns-in-Err-Budget-clause-grows
returns-in-Err-Budget-clause-grows g c = turn-grows c.self.inside.store.entries c.self.inside.table c.args.self.now c.self.view_is c.args.i c.entry.result.now c.in-Some.start c.args.line.now c.requires.front c.entry.ensures c.if-entry.false c.in-Some.ensures.state (tokenizing_of g.T.LineTok.tokenized g.T.LineTok.plain_cost g.T.LineTok.entries_made (Some (g.T.LineTok.plain c.args.setting.now))) c.args.budget c.line.new.table c.in-Err-Budget.ensures.grows

pub returns-in-Err-Budget-clause-ticks : goal.returns-in-Err-Budget-clause-ticks
returns-in-Err-Budget-clause-ticks g c = let one = ticks-one c.self.inside.store.entries c.self.inside.table c.args.self.now c.self.view_is c.args.i c.entry.result.now c.in-Some.start c.args.line.now c.requires.front c.entry.ensures c.if-entry.false c.in-Some.ensures.state in omega (arith, one, c.line.ensures.ticks)

pub invariant_of-self-in-Err-TableFull : goal.invariant_of-self-in-Err-TableFull
invariant_of-self-in-Err-TableFull g c = turn-still-known c.self.inside.store.entries c.self.inside.table c.args.self.now c.self.view_is c.args.i c.entry.result.now c.in-Some.start c.args.line.now c.requires.front c.entry.ensures c.if-entry.false c.in-Some.ensures.state (tokenizing_of g.T.LineTok.tokenized g.T.LineTok.plain_cost g.T.LineTok.entries_made (Some (g.T.LineTok.plain c.args.setting.now))) c.args.budget c.line.new.table c.in-Err-TableFull.ensures.grows c.self.invariant c.self.inside.store.entries refl

pub returns-in-Err-TableFull-clause-grows : goal.returns-in-Err-TableFull-clause-grows
returns-in-Err-TableFull-clause-grows g c = turn-grows c.self.inside.store.entries c.self.inside.table c.args.self.now c.self.view_is c.args.i c.entry.result.now c.in-Some.start c.args.line.now c.requires.front c.entry.ensures c.if-entry.false c.in-Some.ensures.state (tokenizing_of g.T.LineTok.tokenized g.T.LineTok.plain_cost g.T.LineTok.entries_made (Some (g.T.LineTok.plain c.args.setting.now))) c.args.budget c.line.new.table c.in-Err-TableFull.ensures.grows

pub returns-in-Err-TableFull-clause-err : goal.returns-in-Err-TableFull-clause-err
returns-in-Err-TableFull-clause-err g c = turn-kept c.self.inside.store.entries c.self.inside.table c.args.self.now c.self.view_is c.args.i c.entry.result.now c.in-Some.start c.args.line.now c.requires.front c.entry.ensures c.if-entry.false c.in-Some.ensures.state (tokenizing_of g.T.LineTok.tokenized g.T.LineTok.plain_cost g.T.LineTok.entries_made (Some (g.T.LineTok.plain c.args.setting.now))) c.args.budget c.line.new.table c.in-Err-TableFull.ensures.grows c.self.invariant c.self.inside.store.entries refl

pub returns-in-Err-TableFull-clause-cause : goal.returns-in-Err-TableFull-clause-cause
returns-in-Err-TableFull-clause-cause g c = turn-full c.self.inside.store.entries c.self.inside.table c.args.self.now c.self.view_is c.args.i c.entry.result.now c.in-Some.start c.args.line.now c.requires.front c.entry.ensures c.if-entry.false c.in-Some.ensures.state (tokenizing_of g.T.LineTok.tokenized g.T.LineTok.plain_cost g.T.LineTok.entries_made (Some (g.T.LineTok.plain c.args.setting.now))) c.args.budget c.line.new.table c.in-Err-TableFull.ensures.grows _ (rw c.in-Err-TableFull.field-0-is at c.in-Err-TableFull.ensures.cause)

pub returns-in-Err-TableFull-clause-ticks : goal.returns-in-Err-TableFull-clause-ticks
returns-in-Err-TableFull-clause-ticks g c = let one = ticks-one c.self.inside.store.entries c.self.inside.table c.args.self.now c.self.view_is c.args.i c.entry.result.now c.in-Some.start c.args.line.now c.requires.front c.entry.ensures c.if-entry.false c.in-Some.ensures.state in omega (arith, one, c.line.ensures.ticks)

pub invariant_of-self-in-Err-OutOfMemory : goal.invariant_of-self-in-Err-OutOfMemory
invariant_of-self-in-Err-OutOfMemory g c = turn-still-known c.self.inside.store.entries c.self.inside.table c.args.self.now c.self.view_is c.args.i c.entry.result.now c.in-Some.start c.args.line.now c.requires.front c.entry.ensures c.if-entry.false c.in-Some.ensures.state (tokenizing_of g.T.LineTok.tokenized g.T.LineTok.plain_cost g.T.LineTok.entries_made (Some (g.T.LineTok.plain c.args.setting.now))) c.args.budget c.line.new.table c.in-Err-OutOfMemory.ensures.grows c.self.invariant c.self.inside.store.entries refl

pub returns-in-Err-OutOfMemory-clause-grows : goal.returns-in-Err-OutOfMemory-clause-grows
returns-in-Err-OutOfMemory-clause-grows g c = turn-grows c.self.inside.store.entries c.self.inside.table c.args.self.now c.self.view_is c.args.i c.entry.result.now c.in-Some.start c.args.line.now c.requires.front c.entry.ensures c.if-entry.false c.in-Some.ensures.state (tokenizing_of g.T.LineTok.tokenized g.T.LineTok.plain_cost g.T.LineTok.entries_made (Some (g.T.LineTok.plain c.args.setting.now))) c.args.budget c.line.new.table c.in-Err-OutOfMemory.ensures.grows

pub returns-in-Err-OutOfMemory-clause-err : goal.returns-in-Err-OutOfMemory-clause-err
returns-in-Err-OutOfMemory-clause-err g c = turn-kept c.self.inside.store.entries c.self.inside.table c.args.self.now c.self.view_is c.args.i c.entry.result.now c.in-Some.start c.args.line.now c.requires.front c.entry.ensures c.if-entry.false c.in-Some.ensures.state (tokenizing_of g.T.LineTok.tokenized g.T.LineTok.plain_cost g.T.LineTok.entries_made (Some (g.T.LineTok.plain c.args.setting.now))) c.args.budget c.line.new.table c.in-Err-OutOfMemory.ensures.grows c.self.invariant c.self.inside.store.entries refl

pub returns-in-Err-OutOfMemory-clause-ticks : goal.returns-in-Err-OutOfMemory-clause-ticks
returns-in-Err-OutOfMemory-clause-ticks g c = let one = ticks-one c.self.inside.store.entries c.self.inside.table c.args.self.now c.self.view_is c.args.i c.entry.result.now c.in-Some.start c.args.line.now c.requires.front c.entry.ensures c.if-entry.false c.in-Some.ensures.state in omega (arith, one, c.line.ensures.ticks)

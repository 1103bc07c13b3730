use Rattle.std.proofs.Common.{◌≡◌, ℕ, ◌++◌, List, [], length, None, true, false, ap, sym, ◌∙◌, subst}
use Rattle.std.specs.Prelude.{Ok, Err}
use Rattle.std.proofs.lemmas.Option.{slice_get_within}
use Rattle.tm_defs.specs.Tables.{path_at}
use Rattle.tm_defs.proofs.Chains.{path_at-is}
use Rattle.tm_line_turns.specs.LineRun.{Open, Place, makes, names_made}
use Rattle.tm_line_parts.specs.Adds.{Adds}
use Rattle.tm_line_parts.specs.Stacks.{below_at}
use Rattle.tm_line_parts.specs.declared.stack.Stack.{Stack}
use Rattle.tm_line_parts.specs.declared.stack.Way.{Way}
use Rattle.tm_line_parts.proofs.Adding.{same-fault, same-part}
use Rattle.tm_line_parts.proofs.Starting.{empty-is, opening-below, opening-is}
use Rattle.tm_line_parts.proofs.start.opening.Goals as goal

pub returns-in-Err-clause-adds : goal.returns-in-Err-clause-adds
returns-in-Err-clause-adds g c meta o =
    let t = g.S.States.tables c.args.table.now in
    let u = g.S.States.tables c.push_all.new.table in
    let P : List (List ℕ) → Type 0 = λ p. Adds {X = Way} meta (makes (names_made p c.args.scopes.now)) t u o o (Err c.in-Err.fault) in
    subst P (empty-is t c.prove_known.ensures) (same-fault meta (makes (names_made (path_at t (record { 0 = 0 })) c.args.scopes.now)) t u o o c.in-Err.fault (c.in-Err.ensures.adds meta o))

pub returns-clause-stack : goal.returns-clause-stack
returns-clause-stack g c =
    let u = g.S.States.tables c.push_all.new.table in
    let k = slice_get_within u.paths c.in-Ok.list.0 _ c.in-Ok.ensures.ok in
    record {
      top = record { end = tt; names = k; contents = k };
      below = rw c.new.ensures.items tt;
      base = slice_get_within u.states 0 [] c.prove_known-2.ensures.opening;
      deep = sym (ap length (opening-is u c.prove_known-2.ensures));
    }

pub returns-clause-place : goal.returns-clause-place
returns-clause-place g c =
    let t = g.S.States.tables c.args.table.now in
    let u = g.S.States.tables c.push_all.new.table in
    let make : List (List ℕ) → List Open → Place = λ p b. record { top = record { frame = record { rule = 0; end = None; names = p; contents = p; at_eol = false }; entry = None }; below = b; at = 0; anchor = None; first = true } in
    let path : path_at u c.in-Ok.list ≡ c.args.scopes.now = path_at-is u c.in-Ok.list _ c.in-Ok.ensures.ok ∙ ap (λ p. p ++ c.args.scopes.now) (empty-is t c.prove_known.ensures) in
    let stack : Stack = record { top = record { frame = record { rule = 0; end = None; names = c.in-Ok.list; contents = c.in-Ok.list; at_eol = false }; entry = None }; below = c.new.result; base = record { 0 = 0 }; deep = 0 } in
    ap (λ p. make p (below_at u stack)) path ∙ ap (make c.args.scopes.now) (opening-below u c.new.result.items c.prove_known-2.ensures c.new.ensures.items)

pub returns-clause-adds : goal.returns-clause-adds
returns-clause-adds g c meta o =
    let t = g.S.States.tables c.args.table.now in
    let u = g.S.States.tables c.push_all.new.table in
    let way : Way = record { stack = record { top = record { frame = record { rule = 0; end = None; names = c.in-Ok.list; contents = c.in-Ok.list; at_eol = false }; entry = None }; below = c.new.result; base = record { 0 = 0 }; deep = 0 }; at = 0; anchor = None; first = true } in
    let P : List (List ℕ) → Type 0 = λ p. Adds {X = Way} meta (makes (names_made p c.args.scopes.now)) t u o o (Ok way) in
    subst P (empty-is t c.prove_known.ensures) (same-part meta (makes (names_made (path_at t (record { 0 = 0 })) c.args.scopes.now)) t u o o c.in-Ok.list way (c.in-Ok.ensures.adds meta o))

use Rattle.std.proofs.Common.{◌≡◌, ◌++◌, ◌∷◌, false, None, refl, ap, ◌∙◌, arith}
use Rattle.std.specs.Prelude.{Ok, Err, ◌&&◌, ◌==◌}
use Rattle.std.proofs.lemmas.Option.{slice_get_within}
use Rattle.tm_defs.specs.declared.tokenizer.LineFault.TheVariants as line
use Rattle.tm_defs.specs.Tables.{path_at}
use Rattle.tm_defs.proofs.Chains.{path_at-grown, path_at-is, paths-longer}
use Rattle.tm_line_turns.specs.Captures.{pushed}
use Rattle.tm_line_turns.specs.LineRun.{Open, framed, makes, names_made, opened}
use Rattle.tm_line_parts.specs.declared.stack.Way.{Way}
use Rattle.tm_line_parts.specs.Stacks.{stack_at}
use Rattle.tm_line_parts.proofs.Adding.{first-fails, refused-behind, same-fault, same-part, then-any}
use Rattle.tm_line_parts.proofs.Cases.{place-is}
use Rattle.tm_line_parts.proofs.StacksGrown.{stack-known, stack-same}
use Rattle.tm_line_parts.proofs.groups.inner_way.Goals as goal

pub push_optional-requires-2-clause-list : goal.push_optional-requires-2-clause-list
push_optional-requires-2-clause-list g c = slice_get_within (g.S.States.tables c.push_optional.new.table).paths c.in-Ok.names.0 _ c.in-Ok.ensures.ok

pub returns-in-Err-clause-enters : goal.returns-in-Err-clause-enters
returns-in-Err-clause-enters g c o =
    let s = g.R.LineRules.language c.args.level.now.rules.now in
    let t = g.S.States.tables c.args.table.now in
    let filled = s.filled c.args.level.now.text.now c.args.over.now.m.now in
    let base = path_at t c.args.over.now.cover.inner in
    let inside = makes (names_made (base ++ pushed filled c.args.group.now.name) (pushed filled c.args.group.now.content_name)) in
    record {
      adds = first-fails s.meta (makes (names_made base (pushed filled c.args.group.now.name))) inside t (g.S.States.tables c.push_optional.new.table) o o c.in-Err.fault (c.in-Err.ensures.adds s.meta o);
      stack = tt;
      is = tt;
    }

pub returns-in-Err-push_optional-clause-enters : goal.returns-in-Err-push_optional-clause-enters
returns-in-Err-push_optional-clause-enters g c o =
    let s = g.R.LineRules.language c.args.level.now.rules.now in
    let t = g.S.States.tables c.args.table.now in
    let u = g.S.States.tables c.push_optional.new.table in
    let v = g.S.States.tables c.push_optional-2.new.table in
    let filled = s.filled c.args.level.now.text.now c.args.over.now.m.now in
    let base = path_at t c.args.over.now.cover.inner in
    let names = base ++ pushed filled c.args.group.now.name in
    let means : path_at u c.in-Ok.names ≡ names = path_at-is u c.in-Ok.names names c.in-Ok.ensures.ok in
    let named = makes (names_made base (pushed filled c.args.group.now.name)) in
    let inside = makes (names_made names (pushed filled c.args.group.now.content_name)) in
    let first = c.in-Ok.ensures.adds s.meta o in
    record {
      adds = then-any s.meta named inside t u v o o o c.in-Ok.names (Err c.in-Err-push_optional.fault) first (same-fault s.meta inside u v o o c.in-Err-push_optional.fault (rw means at c.in-Err-push_optional.ensures.adds s.meta o));
      stack = tt;
      is = tt;
    }

pub returns-in_default-clause-enters : goal.returns-in_default-clause-enters
returns-in_default-clause-enters g c o =
    let s = g.R.LineRules.language c.args.level.now.rules.now in
    let t = g.S.States.tables c.args.table.now in
    let u = g.S.States.tables c.push_optional.new.table in
    let v = g.S.States.tables c.push_optional-2.new.table in
    let filled = s.filled c.args.level.now.text.now c.args.over.now.m.now in
    let base = path_at t c.args.over.now.cover.inner in
    let names = base ++ pushed filled c.args.group.now.name in
    let means : path_at u c.in-Ok.names ≡ names = path_at-is u c.in-Ok.names names c.in-Ok.ensures.ok in
    let named = makes (names_made base (pushed filled c.args.group.now.name)) in
    let inside = makes (names_made names (pushed filled c.args.group.now.content_name)) in
    let first = c.in-Ok.ensures.adds s.meta o in
    record {
      adds = then-any s.meta named inside t u v o o o c.in-Ok.names (Err line.OutOfMemory) first (refused-behind s.meta inside u v o o c.in-Ok-push_optional.contents (rw means at c.in-Ok-push_optional.ensures.adds s.meta o));
      stack = tt;
      is = tt;
    }

pub returns-clause-enters : goal.returns-clause-enters
returns-clause-enters g c o =
    let s = g.R.LineRules.language c.args.level.now.rules.now in
    let t = g.S.States.tables c.args.table.now in
    let u = g.S.States.tables c.push_optional.new.table in
    let v = g.S.States.tables c.push_optional-2.new.table in
    let filled = s.filled c.args.level.now.text.now c.args.over.now.m.now in
    let base = path_at t c.args.over.now.cover.inner in
    let names = base ++ pushed filled c.args.group.now.name in
    let means : path_at u c.in-Ok.names ≡ names = path_at-is u c.in-Ok.names names c.in-Ok.ensures.ok in
    let named = makes (names_made base (pushed filled c.args.group.now.name)) in
    let inside = makes (names_made names (pushed filled c.args.group.now.content_name)) in
    let first = c.in-Ok.ensures.adds s.meta o in
    let second = rw means at c.in-Ok-push_optional.ensures.adds s.meta o in
    let at = rw means at c.in-Ok-push_optional.ensures.ok in
    let contents = names ++ pushed filled c.args.group.now.content_name in
    let k = slice_get_within u.paths c.in-Ok.names.0 _ c.in-Ok.ensures.ok in
    let more = paths-longer _ u v second.grows in
    let outer = c.args.over.now.stack.now in
    let known = stack-known _ t u first.grows outer c.requires.stack in
    let inner = c.in-Ok-inside.ensures v (stack-known _ u v second.grows outer known) (omega (arith, k, more)) (slice_get_within v.paths c.in-Ok-push_optional.contents.0 _ at) in
    let rule = c.args.rule in
    let start = c.args.start in
    let names_v : path_at v c.in-Ok.names ≡ names = path_at-grown _ u v c.in-Ok.names k second.grows ∙ means in
    let contents_v : path_at v c.in-Ok-push_optional.contents ≡ contents = path_at-is v c.in-Ok-push_optional.contents contents at in
    let top : Open = opened (framed rule None names contents false) start None in
    let all : stack_at v c.in-Ok-inside.stack ≡ top ∷ stack_at t outer =
    inner.1
    ∙ ap (λ p. opened (framed rule None p (path_at v c.in-Ok-push_optional.contents) false) start None ∷ stack_at v outer) names_v
    ∙ ap (λ p. opened (framed rule None names p false) start None ∷ stack_at v outer) contents_v
    ∙ ap (λ l. top ∷ l) (stack-same _ u v second.grows outer known ∙ stack-same _ t u first.grows outer c.requires.stack) in
    let way : Way = record { stack = c.in-Ok-inside.stack; at = start; anchor = None; first = c.is_first.result } in
    record {
      adds = then-any s.meta named inside t u v o o o c.in-Ok.names (Ok way) first (same-part s.meta inside u v o o c.in-Ok-push_optional.contents way second);
      stack = inner.0;
      is = place-is v way top (top ∷ stack_at t outer) start None (c.args.over.now.cover.first && (start == 0)) all refl refl c.is_first.ensures;
    }

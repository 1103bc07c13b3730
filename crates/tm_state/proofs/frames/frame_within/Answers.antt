use Rattle.tm_state.proofs.FrameParts.{grows-end, grows-names, grows-contents, names-absent, contents-absent, names-full, contents-full, number-range, number-is}
use Rattle.tm_state.proofs.frames.frame_within.Goals as goal

pub returns-in-Err-clause-grows : goal.returns-in-Err-clause-grows
returns-in-Err-clause-grows c = grows-end c.args.frame.now c.args.scopes.now c.end_within.new.scopes c.end_within.ensures.grows

pub returns-in-Err-path_within-clause-grows : goal.returns-in-Err-path_within-clause-grows
returns-in-Err-path_within-clause-grows c = grows-names c.args.frame.now c.args.scopes.now c.end_within.new.scopes c.end_within.ensures.grows c.path_within.new.self c.path_within.ensures.grows

pub returns-in-Err-path_within-clause-absent : goal.returns-in-Err-path_within-clause-absent
returns-in-Err-path_within-clause-absent c = names-absent c.args.frame.now c.args.scopes.now c.end_within.new.scopes c.end_within.ensures.grows c.in-Err-path_within.ensures.absent

pub returns-in-Err-path_within-clause-full : goal.returns-in-Err-path_within-clause-full
returns-in-Err-path_within-clause-full c = names-full c.args.frame.now c.args.limit c.path_within.new.self c.in-Err-path_within.fault c.in-Err-path_within.ensures.full

pub returns-in-Err-path_within-2-clause-grows : goal.returns-in-Err-path_within-2-clause-grows
returns-in-Err-path_within-2-clause-grows c =
    grows-contents c.args.frame.now c.args.scopes.now c.end_within.new.scopes c.end_within.ensures.grows c.path_within.new.self c.path_within.ensures.grows c.path_within-2.new.self c.path_within-2.ensures.grows

pub returns-in-Err-path_within-2-clause-absent : goal.returns-in-Err-path_within-2-clause-absent
returns-in-Err-path_within-2-clause-absent c =
    contents-absent c.args.frame.now c.args.scopes.now c.end_within.new.scopes c.end_within.ensures.grows c.path_within.new.self c.path_within.ensures.grows c.in-Err-path_within-2.ensures.absent

pub returns-in-Err-path_within-2-clause-full : goal.returns-in-Err-path_within-2-clause-full
returns-in-Err-path_within-2-clause-full c = contents-full c.args.frame.now c.args.limit c.path_within-2.new.self c.in-Err-path_within-2.fault c.in-Err-path_within-2.ensures.full

pub returns-clause-range : goal.returns-clause-range
returns-clause-range c =
    number-range c.args.frame.now c.args.scopes.now c.end_within.new.scopes c.end_within.ensures.grows c.path_within.new.self c.path_within.ensures.grows c.path_within-2.new.self c.path_within-2.ensures.grows
    c.in-Ok.end c.in-Ok.ensures.range c.in-Ok.ensures.ok c.in-Ok-path_within.names c.in-Ok-path_within-2.contents c.in-Ok-path_within.ensures.ok c.in-Ok-path_within-2.ensures.ok

pub returns-clause-ok : goal.returns-clause-ok
returns-clause-ok c =
    number-is c.args.frame.now c.args.scopes.now c.end_within.new.scopes c.end_within.ensures.grows c.path_within.new.self c.path_within.ensures.grows c.path_within-2.new.self c.path_within-2.ensures.grows
    c.in-Ok.end c.in-Ok.ensures.range c.in-Ok.ensures.ok c.in-Ok-path_within.names c.in-Ok-path_within-2.contents c.in-Ok-path_within.ensures.ok c.in-Ok-path_within-2.ensures.ok

pub returns-clause-grows : goal.returns-clause-grows
returns-clause-grows c =
    grows-contents c.args.frame.now c.args.scopes.now c.end_within.new.scopes c.end_within.ensures.grows c.path_within.new.self c.path_within.ensures.grows c.path_within-2.new.self c.path_within-2.ensures.grows

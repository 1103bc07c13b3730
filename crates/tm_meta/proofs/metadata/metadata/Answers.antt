use Rattle.std.proofs.Common.{ap, ◌∙◌}
use Rattle.tm_defs.specs.Tables.{path_at, text_at}
use Rattle.tm_meta.specs.Metadata.{decided_type}
use Rattle.tm_meta.proofs.Metas.{metadata_of-decided, metadata_of-passed}
use Rattle.tm_meta.proofs.metadata.metadata.Goals as goal

pub returns-in-Some-decided : goal.returns-in-Some-decided
returns-in-Some-decided g c =
    let t = g.S.States.tables c.args.table.now in
    c.word.ensures ∙ metadata_of-decided (path_at t c.loop-name.list) (path_at t c.in-Some.rest) (text_at t c.in-Some.name) c.decided.result c.in-Some-decided.token_type c.in-Some.ensures.parts
    (c.decided.ensures ∙ ap decided_type (c.as_slice.ensures ∙ c.text_of.ensures)) c.in-Some-decided.is ∙ c.loop-name.invariant.same

pub loop-name-preserved : goal.loop-name-preserved
loop-name-preserved g c =
    let t = g.S.States.tables c.args.table.now in record {
      known = c.in-Some.ensures.in_range.1;
      same = metadata_of-passed (path_at t c.loop-name.list) (path_at t c.in-Some.rest) (text_at t c.in-Some.name) c.decided.result c.in-Some.ensures.parts
          (c.decided.ensures ∙ ap decided_type (c.as_slice.ensures ∙ c.text_of.ensures)) c.in_default-decided.is ∙ c.loop-name.invariant.same;
    }

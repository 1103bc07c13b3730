use Rattle.std.proofs.Common.{◌∙◌}
use Rattle.tm_meta.proofs.Metas.{metadata_of-nil}
use Rattle.tm_meta.proofs.metadata.base_metadata.Goals as goal

pub returns : goal.returns
returns c = c.word.ensures ∙ metadata_of-nil

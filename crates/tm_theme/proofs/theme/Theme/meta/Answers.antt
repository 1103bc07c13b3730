use Rattle.tm_theme.specs.Theme.{base_parts}
use Rattle.tm_theme.proofs.Parts.{all-small}
use Rattle.tm_theme.proofs.theme.Theme.meta.Goals as goal

pub word_of-requires : goal.word_of-requires
word_of-requires c = all-small c.parts_of-parts.result (base_parts c.self.inside.base) c.self.inside.alternatives c.as_slice.result.now c.as_slice-2.result.now c.parts_of-parts.ensures c.self.invariant.1 c.self.invariant.0

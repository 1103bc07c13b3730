use Rattle.std.proofs.Common.{subst}
use Rattle.tm_text.specs.Texts.{IsText, IsSmall}
use Rattle.tm_text.proofs.Sizes.{small-text}
use Rattle.tm_text.proofs.text.Text.prove_known.Goals as goal

pub returns-clause-text : goal.returns-clause-text
returns-clause-text c = subst (λ h. IsText h.lines) c.self.view_is c.self.invariant.0

pub returns-clause-small : goal.returns-clause-small
returns-clause-small c = subst (λ h. IsSmall h.lines) c.self.view_is (small-text _ c.self.invariant.0)

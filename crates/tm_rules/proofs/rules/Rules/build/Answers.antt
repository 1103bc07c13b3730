use Rattle.std.proofs.Common.{◌≡◌, ◌<◌, length, refl, arith}
use Rattle.tm_rules.specs.Rules.{grammars_size, grammars_of, plain_rules}
use Rattle.tm_rules.specs.Sizes.{rule_limit}
use Rattle.tm_rules.proofs.Lengths.{length_plain}
use Rattle.tm_rules.proofs.rules.Rules.build.Goals as goal

pub returns-in_default-clause-many : goal.returns-in_default-clause-many
returns-in_default-clause-many c =
    let many : rule_limit < length (plain_rules c.args.parts.now) = omega (arith, c.in_default.ensures, length_plain c.args.parts.now) in
    (λ e. many, λ h. refl)

pub returns-then-count-gt-RULE_LIMIT-clause-many :
    goal.returns-then-count-gt-RULE_LIMIT-clause-many
returns-then-count-gt-RULE_LIMIT-clause-many c =
    let many : rule_limit < length (plain_rules c.args.parts.now) = omega (arith, length_plain c.args.parts.now) in
    (λ e. many, λ h. refl)

pub returns-in-Err-clause-many : goal.returns-in-Err-clause-many
returns-in-Err-clause-many c =
    let few : length (plain_rules c.args.parts.now) ≡ grammars_size (grammars_of c.args.parts.now) = length_plain c.args.parts.now in
    (λ e. absurd (cc), λ h. absurd (omega (arith, few)))

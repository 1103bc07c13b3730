use Rattle.std.proofs.Common.{ap, ◌==◌, ◌∙◌}
use Rattle.std.proofs.lemmas.Nat.Bits.{shr_and_one}
use Rattle.tm_onig_vm.proofs.Ascii.{ascii_word}
use Rattle.tm_onig_vm.proofs.words.is_word.Goals as goal

pub returns-then-code-lt128 : goal.returns-then-code-lt128
returns-then-code-lt128 c = ap (λ n. n == 1) (shr_and_one 0x07FFFFFE87FFFFFE03FF000000000000 c.args.c) ∙ ascii_word c.args.c c.if-code-lt128.true

use Rattle.std.proofs.Common.{ℕ, length, ◌+◌, ◌-◌}
use Rattle.std.specs.Option.{option_copied}
use Rattle.tm_onig_scan.specs.Asked.{searched_in, subject_in, trees_in}
use Rattle.tm_onig_scan.specs.Pass.{Pass, pass_from}
use Rattle.tm_onig_scan.proofs.Tried.{IsPassing}
use Rattle.tm_onig_scan.proofs.passes.pass.Given as goal

abbrev pub invariant-loop-start : goal.invariant-loop-start
invariant-loop-start l =
    let patterns = searched_in (trees_in l.job) (option_copied l.list) l.instead in
    let later : ℕ → Pass = λ n. pass_from (subject_in l.job) (length l.job.asked.text.now + 1 - n) n patterns in
    IsPassing (later l.begin) (later l.start) l.fn.budget l.budget

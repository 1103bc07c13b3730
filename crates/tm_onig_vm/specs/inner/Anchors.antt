-- What is searched, as the code has it.
use Rattle.std.specs.Prelude.{ℕ, List}
use Rattle.tm_onig_search.specs.Places.{Subject, subject}
use Rattle.tm_onig_vm.specs.declared.starts.Anchors.{Anchors}

abbrev pub subject_of : List ℕ → Anchors → Subject
subject_of line anchors = subject line anchors.first anchors.allow_a anchors.allow_g

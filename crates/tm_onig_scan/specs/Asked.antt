-- What is searched: a text from a position on, for the patterns of a list.
use Rattle.std.specs.Option.{option_copied}
use Rattle.std.specs.Prelude.{List, Option, Some, None, option_map, slice_set}
use Rattle.tm_onig_class.specs.Tree.{Tree, tree_of}
use Rattle.tm_onig_search.specs.Places.{Subject}
use Rattle.tm_onig_vm.specs.inner.Anchors.{subject_of}
use Rattle.tm_onig_scan.specs.Winner.{trees_of, patterns_at}
use Rattle.tm_onig_scan.specs.declared.asked.Asked.{Asked}
use Rattle.tm_onig_scan.specs.declared.asked.Instead.{Instead}
use Rattle.tm_onig_scan.specs.declared.candidates.Candidates.{Candidates}
use Rattle.tm_onig_scan.specs.declared.passes.Job.{Job}

-- the patterns, with one in place of another
abbrev pub put_in : List (Option Tree) → Option Instead → List (Option Tree)
put_in ps None = ps
put_in ps (Some it) = slice_set ps it.place (option_map tree_of (option_copied it.program))

-- the patterns that a pass goes over: all, or those of the candidates, with one in place of another
abbrev pub searched_in : List (Option Tree) → Option Candidates → Option Instead → List (Option Tree)
searched_in patterns None instead = patterns
searched_in patterns (Some them) instead = put_in (patterns_at patterns them.numbers.items) instead

abbrev pub asked_subject : Asked → Subject
asked_subject asked = subject_of asked.text.now asked.anchors

-- what a pass goes over
abbrev pub subject_in : Job → Subject
subject_in job = asked_subject job.asked

abbrev pub trees_in : Job → List (Option Tree)
trees_in job = trees_of job.programs.now

use Rattle.std.proofs.Common.{◌≡◌, ◌≤◌, length}
use Rattle.tm_theme_file.specs.Written.{stands_before, has_word}
use Rattle.tm_theme_file.proofs.written.has_word.Given as goal

abbrev pub invariant-loop-place : goal.invariant-loop-place
invariant-loop-place l = record {
  same : stands_before l.word l.text l.place ≡ has_word l.word l.text;
  within : l.place ≤ length l.text;
}

abbrev pub decreases-loop-place : goal.decreases-loop-place
decreases-loop-place l = l.place

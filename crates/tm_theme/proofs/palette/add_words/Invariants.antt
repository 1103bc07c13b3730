use Rattle.std.proofs.Common.{◌≡◌, ◌++◌, drop}
use Rattle.tm_theme.specs.Palette.{alternatives_with}
use Rattle.tm_theme.proofs.palette.add_words.Given as goal

abbrev pub invariant-loop-words : goal.invariant-loop-words
invariant-loop-words l = l.done.items ++ alternatives_with l.style (drop l.words-index l.all) ≡ l.initial.done.items ++ alternatives_with l.style l.all

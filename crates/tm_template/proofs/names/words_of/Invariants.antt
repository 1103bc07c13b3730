use Rattle.std.proofs.Common.{◌≡◌, ◌++◌, ◌≤◌, false, drop, All}
use Rattle.std.specs.List.{slice_range}
use Rattle.tm_template.specs.Names.{words_of, is_blank}
use Rattle.tm_template.proofs.names.words_of.Given as goal

-- the words so far and those of what is left, from the start of the run on, are all
abbrev pub invariant-text : goal.invariant-text
invariant-text l = record {
  order : l.start ≤ l.at;
  run : All (λ c. is_blank c ≡ false) (slice_range l.text l.start l.at);
  whole : l.words.items ++ words_of (drop l.start l.text) ≡ words_of l.text;
}

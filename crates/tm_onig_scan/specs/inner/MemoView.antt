-- A memo's fields, and what they say.
use Rattle.std.specs.Option.{option_copied}
use Rattle.std.specs.Prelude.{◌≡◌, ◌<◌, ◌^◌, true, List, Option, length, option_map, IfSome}
use Rattle.tm_onig_class.specs.Tree.{Tree}
use Rattle.tm_onig_scan.specs.Asked.{searched_in}
use Rattle.tm_onig_scan.specs.Memo.{MemoOf}
use Rattle.tm_onig_scan.specs.Rows.{AreCandidates}
use Rattle.tm_onig_scan.specs.Steady.{all_steady, NoneStarts}
use Rattle.tm_onig_scan.specs.Winner.{trees_of}
use Rattle.tm_onig_scan.specs.declared.memo.Memo.TheInside.{Inside}

-- the patterns that are searched
abbrev pub searched : Inside → List (Option Tree)
searched memo = searched_in (trees_of memo.programs.now) (option_copied memo.list) memo.instead

abbrev pub memo_of : Inside → MemoOf
memo_of memo = record {
  patterns = memo.programs.now;
  numbers = option_map (λ them. them.numbers.items) (option_copied memo.list);
  instead = option_map (λ it. (it.place, option_copied it.program)) memo.instead;
  text = memo.text.now;
}

-- no pattern matches from the one start up to the other, and a steady memo's patterns are steady
pub record IsMemo (memo : Inside) : Type 0 where
  pub few : length memo.programs.now < 2 ^ 32
  pub small : length memo.text.now < 2 ^ 31
  pub candidates : IfSome (option_copied memo.list) (λ them. AreCandidates (trees_of memo.programs.now) them)
  pub steady : memo.steady ≡ true → all_steady (searched memo) ≡ true
  pub none : NoneStarts memo.text.now (searched memo) memo.from memo.until

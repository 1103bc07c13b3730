use Rattle.std.proofs.Common.{refl}
use Rattle.regex_class.specs.Ranges.{in_ranges, in_range}
use Rattle.tm_onig_search.specs.Search.{search_tree, search_row}
use Rattle.tm_onig_search.specs.Find.{last_group, last_group_of, first_of}
use Rattle.tm_line.proofs.worked_searches.Goals as goal

pub returns-clause-first : goal.returns-clause-first
unfolding in_ranges in_range search_tree search_row last_group last_group_of first_of
returns-clause-first c = refl

pub returns-clause-first_cost : goal.returns-clause-first_cost
unfolding in_ranges in_range search_tree search_row last_group last_group_of first_of
returns-clause-first_cost c = refl

pub returns-clause-next : goal.returns-clause-next
unfolding in_ranges in_range search_tree search_row last_group last_group_of first_of
returns-clause-next c = refl

pub returns-clause-next_cost : goal.returns-clause-next_cost
unfolding in_ranges in_range search_tree search_row last_group last_group_of first_of
returns-clause-next_cost c = refl

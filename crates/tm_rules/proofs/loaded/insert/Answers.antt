use Rattle.std.proofs.Common.{ℕ, List, ap, ◌∙◌}
use Rattle.std.specs.BTreeMap.{insert_entry}
use Rattle.std.specs.Cmp.Lexicographic.{slice_cmp}
use Rattle.std.specs.Ordering.{nat_cmp}
use Rattle.tm_rules.specs.inner.Keyed.{keyed}
use Rattle.tm_rules.proofs.Keys.{keyed-insert}
use Rattle.tm_rules.proofs.loaded.insert.Goals as goal

pub returns : goal.returns
returns c =
    ap keyed c.in_ok-insert.ensures.entries
    ∙ keyed-insert c.args.numbers.now.entries c.in_ok-name.name c.args.number
    ∙ ap (λ (name : List ℕ). insert_entry (slice_cmp nat_cmp) (keyed c.args.numbers.now.entries) name c.args.number) (c.in_ok-name.ensures.items ∙ c.as_slice.ensures)

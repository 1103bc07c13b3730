use Rattle.std.proofs.Common.{rules, ◌≡◌, ◌<◌, [], ℕ, false, length, get_or, refl}
use Rattle.tm_rules.proofs.Ordered.{unmarked}
use Rattle.tm_rules.proofs.only_lists.OnlyLists.new.Goals as goal

pub returns : goal.returns
returns c =
    let clear : (k : ℕ) → k < length c.resize.new.self.items → get_or c.resize.new.self.items k false ≡ false = search rules in
    record {
      lists = record {
        over = refl;
        long = search rules;
        marked = search rules;
        right = λ n h. absurd (cc (unmarked c.resize.new.self.items clear n));
      };
      order = [];
      topological = tt;
      among = λ n. unmarked c.resize.new.self.items clear n;
    }

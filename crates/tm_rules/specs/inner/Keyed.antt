-- A map by texts, as the list of its entries.
use Rattle.std.specs.Prelude.{ℕ, List, map, Vec}
use Rattle.std.specs.declared.alloc.Global.{Global}

abbrev pub keyed : List (Vec ℕ Global × ℕ) → List (List ℕ × ℕ)
keyed es = map (λ e. (e.0.items, e.1)) es

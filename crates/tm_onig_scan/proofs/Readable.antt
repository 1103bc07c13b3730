-- Which patterns are readable.
use Rattle.std.proofs.Common.{◌≡◌, ◌↔◌, ℕ, List, Option, Some, None, refl, sym, ◌∙◌}
use Rattle.std.specs.Prelude.{IsTrue, slice_get, option_map}
use Rattle.std.specs.Option.{is_some}
use Rattle.tm_onig_class.specs.Tree.{Tree, tree_of}
use Rattle.tm_onig_class.specs.declared.patterns.Pattern.{Pattern}
use Rattle.tm_onig_scan.specs.Winner.{IsReadable}

pub readable : (o : Option Pattern) (patterns : List (Option Tree)) (number : ℕ) → slice_get patterns number ≡ Some (option_map tree_of o) → IsTrue (is_some (option_map tree_of o)) ↔ IsReadable patterns number
readable None patterns number e = (λ is. absurd cc, λ found. let both : Some None ≡ Some (Some found.0) = sym e ∙ found.1 in absurd cc)
readable (Some pattern) patterns number e = (λ is. (tree_of pattern, e), λ found. refl)

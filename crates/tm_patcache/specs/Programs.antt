-- Programs that are kept with the texts of their patterns.
use Rattle.std.specs.Prelude.{◌≡◌, ℕ, List, Contains, Option, option_map, map}
use Rattle.std.specs.Arc.{arc_value}
use Rattle.std.specs.declared.sync.Arc.{Arc}
use Rattle.tm_onig_class.specs.declared.patterns.Pattern.{Pattern}
use Rattle.tm_onig_class.specs.Tree.{Tree, tree_of}
use Rattle.tm_onig_parse.specs.Parsed.{parsed}

module _ {A : Type 0} where
  -- the tree of what is shared, if there is a program
  abbrev pub tree_in : Option (Arc Pattern A) → Option Tree
  tree_in program = option_map (λ p. tree_of (arc_value p)) program

  -- the program has the tree of the text; there is none exactly where the text is unreadable
  abbrev pub IsProgramOf : List ℕ → Option (Arc Pattern A) → Type 0
  IsProgramOf text program = tree_in program ≡ parsed text

  -- each entry is the program of its own text
  abbrev pub AreOfTheirTexts : List (List ℕ × Option (Arc Pattern A)) → Type 0
  AreOfTheirTexts entries = (text : List ℕ) (program : Option (Arc Pattern A)) → Contains entries (text, program) → IsProgramOf text program

  -- the texts with the patterns of their programs, in the order of the entries
  abbrev pub patterns_kept : List (List ℕ × Option (Arc Pattern A)) → List (List ℕ × Option Pattern)
  patterns_kept entries = map (λ e. (e.0, option_map arc_value e.1)) entries

-- Answers worked out by the definitions alone.
use Rattle.std.specs.Prelude.{◌≡◌, ℕ, [], ◌∷◌, codes, Some, None}
use Rattle.tm_onig_search.specs.Outcomes.{Caps}
use Rattle.tm_template.specs.Names.{names_of}
use Rattle.tm_template.specs.Ends.{resolved}

-- a match of two characters whose one group is the second
abbrev pub second : Caps
second = Some (0, 2) ∷ Some (1, 2) ∷ []

-- the same with a further group, which is unset
abbrev pub unset : Caps
unset = Some (0, 2) ∷ Some (1, 2) ∷ None ∷ []

-- ten groups of which the tenth is the whole match
abbrev pub ten : Caps
ten = Some (0, 2) ∷ Some (1, 2) ∷ None ∷ None ∷ None ∷ None ∷ None ∷ None ∷ None ∷ None ∷ Some (0, 2) ∷ []

-- a match whose one group is all of it
abbrev pub all : ℕ → Caps
all n = Some (0, n) ∷ Some (0, n) ∷ []

-- some templates and ends with what they give
pub record Rows : Type 0 where
  pub leading_dot : names_of (codes "k.$1 m") (codes ".x") (all 2) ≡ codes "k.x" ∷ codes "m" ∷ []
  pub beyond_stays : names_of (codes "$10") (codes "ab") second ≡ codes "$10" ∷ []
  pub longest_run : names_of (codes "$10") (codes "ab") ten ≡ codes "ab" ∷ []
  pub unset_is_empty : names_of (codes "a.$2") (codes "ab") unset ≡ codes "a." ∷ []
  pub upper_case : names_of (codes "${1:/upcase}$1") (codes "ab") second ≡ codes "Bb" ∷ []
  pub other_case_stays : names_of (codes "${1:/other}") (codes "ab") second ≡ codes "${1:/other}" ∷ []
  pub braces_stay : names_of (codes "${1}") (codes "ab") second ≡ codes "${1}" ∷ []
  pub two_names : names_of (codes "s.$1") (codes "a b") (all 3) ≡ codes "s.a" ∷ codes "b" ∷ []
  pub huge_stays : names_of (codes "$99999999999999999999") (codes "ab") second ≡ codes "$99999999999999999999" ∷ []
  pub escaped_dot : resolved (codes "^\\1$") (codes ".") (all 1) ≡ codes "^\\.$"
  pub second_backslash : resolved (codes "\\\\1") (codes "-") (all 1) ≡ codes "\\\\-"
  pub beyond_is_empty : resolved (codes "a\\10b") (codes ".") (all 1) ≡ codes "ab"

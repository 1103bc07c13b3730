-- What stands before a start.
use Rattle.std.proofs.Common.{◌≡◌, ℕ, ◌-◌, Bool, false, cond, List, Some, None, slice_get, ◌==◌, ap, ◌∙◌}
use Rattle.tm_onig_class.specs.declared.listed.Listed.TheVariants as L
use Rattle.tm_onig_class.specs.Listed.{in_listed}
use Rattle.tm_onig_search.specs.Places.{subject, before, is_break, is_word}
use Rattle.tm_onig_search.specs.Starts.{IsBehind}

module _ (line : List ℕ) (from start c : ℕ) (word allow_a allow_g : Bool) (inside : (start == 0) ≡ false) (later : (start == from) ≡ false) (got : slice_get line (start - 1) ≡ Some c) where
  before_is : before line start ≡ Some c
  before_is = ap (λ b. cond b None (slice_get line (start - 1))) inside ∙ got

  pub behind_is : (c == 0x0A) ≡ false → in_listed L.Word c ≡ word → IsBehind (subject line from allow_a allow_g) word start
  behind_is unbroken is = record {
    inside = inside;
    later = later;
    unbroken = ap is_break before_is ∙ unbroken;
    word_is = ap is_word before_is ∙ is;
  }

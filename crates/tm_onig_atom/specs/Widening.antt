-- Widening by folding.
use Rattle.std.specs.Prelude.{ℕ, Bool, ◌&&◌, ◌==◌, if◌then◌else◌}
use Rattle.ucd_case.specs.CaseFolding.{simple_fold}
use Rattle.tm_onig_class.specs.Members.{is_char}
use Rattle.tm_onig_class.specs.Folding.{any_below}

-- Some character that passes folds as this one does.
abbrev pub alike : (ℕ → Bool) → ℕ → Bool
alike test c = any_below 0x110000 (λ m. is_char m && (test m && (simple_fold m == simple_fold c)))

-- The characters that pass, widened by folding where that is asked.
abbrev pub widened : Bool → (ℕ → Bool) → ℕ → Bool
widened fold test c = if fold then alike test c else test c

-- Words at places, one place more.
use Rattle.std.proofs.Common.{◌≡◌, ℕ, zero, suc, ◌-◌, ◌<◌, true, false, List, ap, sym, ◌∙◌, arith, if◌then◌else◌}
use Rattle.tm_theme_file.specs.Written.{stands_at, stands_before}

pub before-step : (word text : List ℕ) (place : ℕ) → 0 < place → stands_at word text (place - 1) ≡ false → stands_before word text (place - 1) ≡ stands_before word text place
before-step word text zero lt e = absurd (omega arith)
before-step word text (suc n) lt e =
    let same : suc n - 1 ≡ n = omega arith in
    ap (stands_before word text) same ∙ sym (ap (λ b. if b then true else stands_before word text n) (ap (stands_at word text) (sym same) ∙ e))

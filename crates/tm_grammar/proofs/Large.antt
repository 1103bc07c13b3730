-- Numbers beyond those of captures.
use Rattle.std.proofs.Common.{◌≡◌, ℕ, suc, ◌+◌, ◌-◌, ◌*◌, ◌<◌, ◌≤◌, List, [], ◌∷◌, Bool, true, false, Option, None, refl, if◌then◌else◌, get_or, drop, drop-cons, sym, arith, length}
use Rattle.tm_grammar.specs.Numbers.{capture_limit, place_number, number_from, is_digit}

pub place_number-large : (n : ℕ) → capture_limit ≤ n → place_number n ≡ None
place_number-large n h = grind arith

if-none : (t : Bool) (o : Option ℕ) → o ≡ None → (if t then o else None) ≡ None
if-none true o e = e
if-none false o e = refl

-- what is too large stays so with more digits
pub number_from-large : (n : ℕ) (cs : List ℕ) → capture_limit ≤ n → number_from n cs ≡ None
number_from-large n [] h = place_number-large n h
number_from-large n (c ∷ cs) h = if-none (is_digit c) (number_from (10 * n + (c - 48)) cs) (number_from-large (10 * n + (c - 48)) cs (omega arith))

-- a digit that makes it too large
pub number_from-at : (xs : List ℕ) (i n : ℕ) → i < length xs → capture_limit ≤ 10 * n + (get_or xs i 0 - 48) → None ≡ number_from n (drop i xs)
number_from-at xs i n within h =
    let c = get_or xs i 0 in
    let cs = drop (suc i) xs in
    rw (drop-cons xs i 0 within) (sym (if-none (is_digit c) (number_from (10 * n + (c - 48)) cs) (number_from-large (10 * n + (c - 48)) cs h)))

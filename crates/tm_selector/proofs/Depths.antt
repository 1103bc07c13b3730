-- No more groups stand around a token than tokens are behind it.
use Rattle.std.proofs.Common.{◌≡◌, ℕ, zero, suc, ◌+◌, ◌<◌, ◌≤◌, Bool, true, false, List, [], ◌∷◌, length, ap, sym, arith, subst}
use Rattle.tm_selector.specs.declared.tokens.Sign.TheVariants.{Left, Right, Minus, Open, Close, Bar, Comma}
use Rattle.tm_selector.specs.declared.tokens.Token.{Token}
use Rattle.tm_selector.specs.declared.tokens.Token.TheVariants.{Word, Mark}
use Rattle.tm_selector.specs.declared.walk.Pending.TheVariants.{Known, Path}
use Rattle.tm_selector.specs.declared.walk.Mode.{Mode}
use Rattle.tm_selector.specs.declared.walk.Mode.TheVariants.{Live, Failed, Passed}
use Rattle.tm_selector.specs.declared.walk.Walk.{Walk}
use Rattle.tm_selector.specs.Walk.{pending_matches, named, turned_mode, into_group, closed_mode, opened_mode, next_choice, barred_mode, barred, parted, walked_on, walked, IsBelow}

-- at most n groups around, and between
record Holds (n : ℕ) (w : Walk) : Type 0 where
  depth : w.depth ≤ n
  between : IsBelow (n + 1) w.mode

weaker : (n m : ℕ) (mode : Mode) → n ≤ m → IsBelow n mode → IsBelow m mode
weaker n m (Live p) le h = tt
weaker n m (Failed b) le h = omega arith
weaker n m (Passed b) le h = omega arith

named-below : (scopes : List (List ℕ)) (name : List ℕ) (n : ℕ) (mode : Mode) → IsBelow (n + 1) mode → IsBelow (n + 1) (named scopes name mode)
named-below scopes name n (Live (Path p)) h = tt
named-below scopes name n (Live (Known true)) h = tt
named-below scopes name n (Live (Known false)) h = omega arith
named-below scopes name n (Failed b) h = h
named-below scopes name n (Passed b) h = h

turned-below : (n : ℕ) (mode : Mode) → IsBelow n mode → IsBelow n (turned_mode mode)
turned-below n (Live p) h = tt
turned-below n (Failed b) h = h
turned-below n (Passed b) h = h

closed-below : (n : ℕ) (mode : Mode) → IsBelow (n + 1) mode → IsBelow (n + 1 + 1) (closed_mode mode)
closed-below n (Live p) h = go (pending_matches p)
  where
    go : (b : Bool) → IsBelow (n + 1 + 1) (into_group b)
    go true = tt
    go false = omega arith
closed-below n (Failed b) h = omega arith
closed-below n (Passed b) h = omega arith

opened-below : (n : ℕ) (mode : Mode) → IsBelow n mode → IsBelow n (opened_mode mode)
opened-below n (Live p) h = tt
opened-below n (Failed zero) h = tt
opened-below n (Failed (suc b)) h = omega arith
opened-below n (Passed zero) h = tt
opened-below n (Passed (suc b)) h = omega arith

barred-below : (n : ℕ) (mode : Mode) → IsBelow (n + 1) mode → IsBelow (n + 1) (barred_mode mode)
barred-below n (Live p) h = go (pending_matches p)
  where
    go : (b : Bool) → IsBelow (n + 1) (next_choice b)
    go true = omega arith
    go false = tt
barred-below n (Failed zero) h = tt
barred-below n (Failed (suc b)) h = h
barred-below n (Passed b) h = h

step : (scopes : List (List ℕ)) (t : Token) (n : ℕ) (w : Walk) → Holds n w → Holds (n + 1) (walked_on scopes t w)
step scopes (Word name) n w h = record { depth = omega (arith, h.depth); between = weaker (n + 1) (n + 1 + 1) (named scopes name w.mode) (omega arith) (named-below scopes name n w.mode h.between) }
step scopes (Mark Left) n w h = record { depth = omega (arith, h.depth); between = weaker (n + 1) (n + 1 + 1) w.mode (omega arith) h.between }
step scopes (Mark Right) n w h = record { depth = omega (arith, h.depth); between = weaker (n + 1) (n + 1 + 1) w.mode (omega arith) h.between }
step scopes (Mark Minus) n w h = record { depth = omega (arith, h.depth); between = weaker (n + 1) (n + 1 + 1) (turned_mode w.mode) (omega arith) (turned-below (n + 1) w.mode h.between) }
step scopes (Mark Open) n w h = record { depth = omega (arith, h.depth); between = weaker (n + 1) (n + 1 + 1) (opened_mode w.mode) (omega arith) (opened-below (n + 1) w.mode h.between) }
step scopes (Mark Close) n w h = record { depth = omega (arith, h.depth); between = closed-below n w.mode h.between }
step scopes (Mark Bar) n w h = go w.depth h.depth
  where
    go : (d : ℕ) → w.depth ≤ n → Holds (n + 1) (barred d w)
    go zero le = record { depth = omega arith; between = weaker (n + 1) (n + 1 + 1) w.mode (omega arith) h.between }
    go (suc d) le = record { depth = omega arith; between = weaker (n + 1) (n + 1 + 1) (barred_mode w.mode) (omega arith) (barred-below n w.mode h.between) }
step scopes (Mark Comma) n w h = go w.depth h.depth
  where
    go : (d : ℕ) → w.depth ≤ n → Holds (n + 1) (parted d w)
    go zero le = record { depth = omega arith; between = tt }
    go (suc d) le = record { depth = omega arith; between = weaker (n + 1) (n + 1 + 1) (barred_mode w.mode) (omega arith) (barred-below n w.mode h.between) }

holds : (scopes : List (List ℕ)) (ts : List Token) → Holds (length ts) (walked scopes ts)
holds scopes [] = record { depth = omega arith; between = tt }
holds scopes (t ∷ ts) =
    let more : Holds (length ts + 1) (walked_on scopes t (walked scopes ts)) = step scopes t (length ts) (walked scopes ts) (holds scopes ts) in
    record { depth = omega (arith, more.depth); between = weaker (length ts + 1 + 1) (length (t ∷ ts) + 1) (walked scopes (t ∷ ts)).mode (omega arith) more.between }

pub depth-below : (scopes : List (List ℕ)) (ts : List Token) (w : Walk) (m : ℕ) → w ≡ walked scopes ts → length ts + 1 ≤ m → w.depth < m
depth-below scopes ts w m e le = let h = holds scopes ts in let same : w.depth ≡ (walked scopes ts).depth = ap (λ v. v.depth) e in omega (arith, h.depth)

pub between-below : (scopes : List (List ℕ)) (ts : List Token) (w : Walk) (m : ℕ) → w ≡ walked scopes ts → length ts + 1 ≤ m → IsBelow m w.mode
between-below scopes ts w m e le = weaker (length ts + 1) m w.mode le (subst (λ (v : Walk). IsBelow (length ts + 1) v.mode) (sym e) (holds scopes ts).between)

-- The walk over a selector's tokens knows what matches of what is read.
use Rattle.std.proofs.Common.{◌≡◌, ℕ, zero, suc, ◌+◌, ◌-◌, Bool, true, false, not, ◌||◌, List, [], ◌∷◌, length, Option, is_some, refl, ap, sym, ◌∙◌, arith, subst, add-one}
use Rattle.std.specs.Prelude.{option_and_then, ◌==◌}
use Rattle.tm_selector.specs.declared.tokens.Sign.TheVariants.{Left, Right, Minus, Open, Close, Bar, Comma}
use Rattle.tm_selector.specs.declared.tokens.Token.{Token}
use Rattle.tm_selector.specs.declared.tokens.Token.TheVariants.{Word, Mark}
use Rattle.tm_selector.specs.declared.walk.Pending.{Pending}
use Rattle.tm_selector.specs.declared.walk.Pending.TheVariants.{Known, Path}
use Rattle.tm_selector.specs.declared.walk.Mode.{Mode}
use Rattle.tm_selector.specs.declared.walk.Mode.TheVariants.{Live, Failed, Passed}
use Rattle.tm_selector.specs.declared.walk.Walk.{Walk}
use Rattle.tm_selector.specs.Names.{path_place, place_above}
use Rattle.tm_selector.specs.Selector.{path, turned, group, Operands, no_operands, operand, Level, fresh, Reading, with_name, with_minus, all_of, with_group, with_choice, opened, bar_inside, alternatives_by, alternatives, comma_inside, put, reading, alternatives_of, operand_matches, all_match, some_match, least_with, least_side}
use Rattle.tm_selector.specs.Walk.{pending_matches, named, turned_mode, into_group, closed_mode, opened_mode, next_choice, barred_mode, mode_matches, least_by, ended, barred, parted, walked_on, walked}
use Rattle.tm_selector.proofs.Booleans.{or-false, or-true, and-true, and-false}

-- all operands match so far, and no choice behind does
record IsOpen (s : List (List ℕ)) (l : Level) : Type 0 where
  now : all_match l.now s ≡ true
  later : some_match l.later s ≡ false

abbrev AllOpen : List (List ℕ) → List Level → Type 0
AllOpen s [] = Unit {0}
AllOpen s (l ∷ ls) = IsOpen s l × AllOpen s ls

abbrev IsInside : List Level → Type 0
IsInside [] = ⊥
IsInside (l ∷ ls) = Unit {0}

abbrev tail : Operands → Operands
tail no_operands = no_operands
tail (operand first more) = more

abbrev NoPath : Operands → Type 0
NoPath no_operands = Unit {0}
NoPath (operand (path names) more) = ⊥
NoPath (operand (turned o) more) = Unit {0}
NoPath (operand (group cs) more) = Unit {0}

abbrev IsPath : List (List ℕ) → Option ℕ → Operands → Type 0
IsPath s place no_operands = ⊥
IsPath s place (operand (path names) more) = (path_place s names ≡ place) × (all_match more s ≡ true)
IsPath s place (operand (turned o) more) = ⊥
IsPath s place (operand (group cs) more) = ⊥

record IsKnown (s : List (List ℕ)) (b : Bool) (now : Operands) : Type 0 where
  apart : NoPath now
  all : all_match now s ≡ b
  behind : all_match (tail now) s ≡ true

abbrev IsPending : List (List ℕ) → Pending → Operands → Type 0
IsPending s (Known b) now = IsKnown s b now
IsPending s (Path place) now = IsPath s place now

abbrev Fails : List (List ℕ) → ℕ → List Level → Type 0
Fails s n [] = ⊥
Fails s zero (l ∷ ls) = (all_match l.now s ≡ false) × (some_match l.later s ≡ false) × AllOpen s ls
Fails s (suc n) (l ∷ ls) = Fails s n ls

abbrev Passes : List (List ℕ) → ℕ → List Level → Type 0
Passes s n [] = ⊥
Passes s zero (l ∷ ls) = (some_match l.later s ≡ true) × AllOpen s ls × IsInside ls
Passes s (suc n) (l ∷ ls) = Passes s n ls

abbrev IsMode : List (List ℕ) → Mode → Level → List Level → Type 0
IsMode s (Live p) l outer = IsPending s p l.now × (some_match l.later s ≡ false) × AllOpen s outer
IsMode s (Failed zero) l outer = (all_match (tail l.now) s ≡ false) × (some_match l.later s ≡ false) × AllOpen s outer
IsMode s (Failed (suc n)) l outer = Fails s n outer
IsMode s (Passed zero) l outer = (some_match l.later s ≡ true) × AllOpen s outer × IsInside outer
IsMode s (Passed (suc n)) l outer = Passes s n outer

record Knows (s : List (List ℕ)) (w : Walk) (r : Reading) : Type 0 where
  depth : w.depth ≡ length r.outer
  side : w.side ≡ r.side
  least : w.least ≡ least_side r.done s
  mode : IsMode s w.mode r.level r.outer

-- what is pending is the first operand, and all others match
pending-all : (s : List (List ℕ)) (p : Pending) (now : Operands) → IsPending s p now → all_match now s ≡ pending_matches p
pending-all s (Known b) now h = h.all
pending-all s (Path place) no_operands h = elim h [ ]
pending-all s (Path place) (operand (turned o) more) h = elim h [ ]
pending-all s (Path place) (operand (group cs) more) h = elim h [ ]
pending-all s (Path place) (operand (path names) more) h = and-true (is_some (path_place s names)) (all_match more s) h.1 ∙ ap is_some h.0

pending-tail : (s : List (List ℕ)) (p : Pending) (now : Operands) → IsPending s p now → all_match (tail now) s ≡ true
pending-tail s (Known b) now h = h.behind
pending-tail s (Path place) no_operands h = elim h [ ]
pending-tail s (Path place) (operand (turned o) more) h = elim h [ ]
pending-tail s (Path place) (operand (group cs) more) h = elim h [ ]
pending-tail s (Path place) (operand (path names) more) h = h.1

tail-false : (s : List (List ℕ)) (now : Operands) → all_match (tail now) s ≡ false → all_match now s ≡ false
tail-false s no_operands h = h
tail-false s (operand first more) h = and-false (operand_matches first s) (all_match more s) h

-- names
name-known : (s : List (List ℕ)) (name : List ℕ) (now : Operands) → NoPath now → with_name name now ≡ operand (path (name ∷ [])) now
name-known s name no_operands h = refl
name-known s name (operand (path names) more) h = elim h [ ]
name-known s name (operand (turned o) more) h = refl
name-known s name (operand (group cs) more) h = refl

name-failed : (s : List (List ℕ)) (name : List ℕ) (now : Operands) → all_match (tail now) s ≡ false → all_match (tail (with_name name now)) s ≡ false
name-failed s name no_operands h = h
name-failed s name (operand (path names) more) h = h
name-failed s name (operand (turned o) more) h = tail-false s (operand (turned o) more) h
name-failed s name (operand (group cs) more) h = tail-false s (operand (group cs) more) h

named-live : (s : List (List ℕ)) (name : List ℕ) (place : Option ℕ) (now : Operands) → IsPath s place now → IsPath s (option_and_then (place_above name s) place) (with_name name now)
named-live s name place no_operands h = elim h [ ]
named-live s name place (operand (turned o) more) h = elim h [ ]
named-live s name place (operand (group cs) more) h = elim h [ ]
named-live s name place (operand (path names) more) h = (ap (option_and_then (place_above name s)) h.0, h.1)

name-mode : (s : List (List ℕ)) (name : List ℕ) (mode : Mode) (l : Level) (outer : List Level) → IsMode s mode l outer → IsMode s (named s name mode) (record l { now = with_name name l.now }) outer
name-mode s name (Live (Path place)) l outer h = (named-live s name place l.now h.0, h.1, h.2)
name-mode s name (Live (Known true)) l outer h = (subst (IsPath s (place_above name s (length s))) (sym (name-known s name l.now h.0.apart)) (refl, h.0.all), h.1, h.2)
name-mode s name (Live (Known false)) l outer h = (subst (λ (now : Operands). all_match (tail now) s ≡ false) (sym (name-known s name l.now h.0.apart)) h.0.all, h.1, h.2)
name-mode s name (Failed zero) l outer h = (name-failed s name l.now h.0, h.1, h.2)
name-mode s name (Failed (suc n)) l outer h = h
name-mode s name (Passed zero) l outer h = h
name-mode s name (Passed (suc n)) l outer h = h

-- a `-`
minus-known : (s : List (List ℕ)) (b : Bool) (now : Operands) → all_match now s ≡ b → all_match (tail now) s ≡ true → IsKnown s (not b) (with_minus now)
minus-known s b no_operands e t = record { apart = tt; all = ap not e; behind = refl }
minus-known s b (operand first more) e t =
    let same : operand_matches first s ≡ b = sym (and-true (operand_matches first s) (all_match more s) t) ∙ e in
    record { apart = tt; all = and-true (not (operand_matches first s)) (all_match more s) t ∙ ap not same; behind = t }

minus-tail : (s : List (List ℕ)) (now : Operands) → all_match (tail now) s ≡ false → all_match (tail (with_minus now)) s ≡ false
minus-tail s no_operands h = h
minus-tail s (operand first more) h = h

minus-mode : (s : List (List ℕ)) (mode : Mode) (l : Level) (outer : List Level) → IsMode s mode l outer → IsMode s (turned_mode mode) (record l { now = with_minus l.now }) outer
minus-mode s (Live p) l outer h = (minus-known s (pending_matches p) l.now (pending-all s p l.now h.0) (pending-tail s p l.now h.0), h.1, h.2)
minus-mode s (Failed zero) l outer h = (minus-tail s l.now h.0, h.1, h.2)
minus-mode s (Failed (suc n)) l outer h = h
minus-mode s (Passed zero) l outer h = h
minus-mode s (Passed (suc n)) l outer h = h

-- the end of a group
close-live : (s : List (List ℕ)) (b : Bool) (l : Level) (outer : List Level) → all_match l.now s ≡ b → some_match l.later s ≡ false → AllOpen s outer → IsMode s (into_group b) fresh (l ∷ outer)
close-live s true l outer e f os = (record { apart = tt; all = refl; behind = refl }, refl, (record { now = e; later = f }, os))
close-live s false l outer e f os = (e, f, os)

close-failed : (s : List (List ℕ)) (n : ℕ) (l : Level) (outer : List Level) → IsMode s (Failed n) l outer → Fails s n (l ∷ outer)
close-failed s zero l outer h = (tail-false s l.now h.0, h.1, h.2)
close-failed s (suc n) l outer h = h

close-passed : (s : List (List ℕ)) (n : ℕ) (l : Level) (outer : List Level) → IsMode s (Passed n) l outer → Passes s n (l ∷ outer)
close-passed s zero l outer h = h
close-passed s (suc n) l outer h = h

close-mode : (s : List (List ℕ)) (mode : Mode) (l : Level) (outer : List Level) → IsMode s mode l outer → IsMode s (closed_mode mode) fresh (l ∷ outer)
close-mode s (Live p) l outer h = close-live s (pending_matches p) l outer (pending-all s p l.now h.0) h.1 h.2
close-mode s (Failed n) l outer h = subst (λ (k : ℕ). IsMode s (Failed k) fresh (l ∷ outer)) (sym (add-one n)) (close-failed s n l outer h)
close-mode s (Passed n) l outer h = subst (λ (k : ℕ). IsMode s (Passed k) fresh (l ∷ outer)) (sym (add-one n)) (close-passed s n l outer h)

-- the beginning of a group
group-known : (s : List (List ℕ)) (b : Bool) (inner l : Level) → some_match (all_of inner) s ≡ b → all_match l.now s ≡ true → IsKnown s b (with_group inner l).now
group-known s b inner l e t = record { apart = tt; all = and-true (some_match (all_of inner) s) (all_match l.now s) t ∙ e; behind = t }

live-group : (s : List (List ℕ)) (p : Pending) (inner : Level) → IsPending s p inner.now → some_match inner.later s ≡ false → some_match (all_of inner) s ≡ pending_matches p
live-group s p inner h f = or-false (all_match inner.now s) (some_match inner.later s) f ∙ pending-all s p inner.now h

failed-group : (s : List (List ℕ)) (inner : Level) → all_match (tail inner.now) s ≡ false → some_match inner.later s ≡ false → some_match (all_of inner) s ≡ false
failed-group s inner h f = or-false (all_match inner.now s) (some_match inner.later s) f ∙ tail-false s inner.now h

open-mode-inside : (s : List (List ℕ)) (mode : Mode) (inner l : Level) (ls : List Level) → IsMode s mode inner (l ∷ ls) → IsMode s (opened_mode mode) (with_group inner l) ls
open-mode-inside s (Live p) inner l ls h = (group-known s (pending_matches p) inner l (live-group s p inner h.0 h.1) h.2.0.now, h.2.0.later, h.2.1)
open-mode-inside s (Failed zero) inner l ls h = (group-known s false inner l (failed-group s inner h.0 h.1) h.2.0.now, h.2.0.later, h.2.1)
open-mode-inside s (Failed (suc zero)) inner l ls h = h
open-mode-inside s (Failed (suc (suc n))) inner l ls h = h
open-mode-inside s (Passed zero) inner l ls h = (group-known s true inner l (or-true (all_match inner.now s) (some_match inner.later s) h.0) h.1.0.now, h.1.0.later, h.1.1)
open-mode-inside s (Passed (suc zero)) inner l ls h = h
open-mode-inside s (Passed (suc (suc n))) inner l ls h = h

open-mode-outside : (s : List (List ℕ)) (mode : Mode) (inner : Level) → IsMode s mode inner [] → IsMode s (opened_mode mode) (with_group inner fresh) []
open-mode-outside s (Live p) inner h = (group-known s (pending_matches p) inner fresh (live-group s p inner h.0 h.1) refl, refl, tt)
open-mode-outside s (Failed zero) inner h = (group-known s false inner fresh (failed-group s inner h.0 h.1) refl, refl, tt)
open-mode-outside s (Failed (suc n)) inner h = elim h [ ]
open-mode-outside s (Passed zero) inner h = elim h.2 [ ]
open-mode-outside s (Passed (suc n)) inner h = elim h [ ]

open-knows : (s : List (List ℕ)) (w : Walk) (r : Reading) (outer : List Level) → w.depth ≡ length outer → w.side ≡ r.side → w.least ≡ least_side r.done s → IsMode s w.mode r.level outer →
    Knows s (walked_on s (Mark Open) w) (opened r.level outer r)
open-knows s w r [] d e f m = record { depth = ap (λ k. k - 1) d; side = e; least = f; mode = open-mode-outside s w.mode r.level m }
open-knows s w r (l ∷ ls) d e f m = record { depth = ap (λ k. k - 1) d ∙ omega arith; side = e; least = f; mode = open-mode-inside s w.mode r.level l ls m }

-- the sign between two choices
bar-live : (s : List (List ℕ)) (b : Bool) (l : Level) (outer : List Level) → all_match l.now s ≡ b → some_match l.later s ≡ false → AllOpen s outer → IsInside outer → IsMode s (next_choice b) (with_choice l) outer
bar-live s true l outer e f os inside = (ap (λ x. x || some_match l.later s) e, os, inside)
bar-live s false l outer e f os inside = (record { apart = tt; all = refl; behind = refl }, or-false (all_match l.now s) (some_match l.later s) f ∙ e, os)

bar-mode : (s : List (List ℕ)) (mode : Mode) (l : Level) (outer : List Level) → IsInside outer → IsMode s mode l outer → IsMode s (barred_mode mode) (with_choice l) outer
bar-mode s (Live p) l outer inside h = bar-live s (pending_matches p) l outer (pending-all s p l.now h.0) h.1 h.2 inside
bar-mode s (Failed zero) l outer inside h = (record { apart = tt; all = refl; behind = refl }, failed-group s l h.0 h.1, h.2)
bar-mode s (Failed (suc n)) l outer inside h = h
bar-mode s (Passed zero) l outer inside h = (or-true (all_match l.now s) (some_match l.later s) h.0, h.1, h.2)
bar-mode s (Passed (suc n)) l outer inside h = h

bar-knows : (s : List (List ℕ)) (w : Walk) (r : Reading) (outer : List Level) (d : ℕ) → d ≡ length outer → outer ≡ r.outer → Knows s w r → Knows s (barred d w) (bar_inside outer r)
bar-knows s w r [] zero d e k = k
bar-knows s w r [] (suc n) d e k = absurd (omega arith)
bar-knows s w r (l ∷ ls) zero d e k = absurd (omega arith)
bar-knows s w r (l ∷ ls) (suc n) d e k = record { depth = k.depth; side = k.side; least = k.least; mode = bar-mode s w.mode r.level r.outer (subst IsInside e tt) k.mode }

-- the end of an alternative
mode-all : (s : List (List ℕ)) (mode : Mode) (l : Level) → IsMode s mode l [] → mode_matches mode ≡ all_match l.now s
mode-all s (Live p) l h = sym (pending-all s p l.now h.0)
mode-all s (Failed zero) l h = sym (tail-false s l.now h.0)
mode-all s (Failed (suc n)) l h = elim h [ ]
mode-all s (Passed zero) l h = elim h.2 [ ]
mode-all s (Passed (suc n)) l h = elim h [ ]

ended-by : (s : List (List ℕ)) (w : Walk) (r : Reading) (outer : List Level) (d : ℕ) → d ≡ length outer → w.side ≡ r.side → w.least ≡ least_side r.done s → IsMode s w.mode r.level outer →
    least_by d w ≡ least_side (alternatives_by outer r) s
ended-by s w r [] zero d e f m = ap (λ b. least_with b w.side w.least) (mode-all s w.mode r.level m) ∙ ap (λ x. least_with (all_match r.level.now s) x w.least) e ∙ ap (least_with (all_match r.level.now s) r.side) f
ended-by s w r [] (suc n) d e f m = absurd (omega arith)
ended-by s w r (l ∷ ls) zero d e f m = absurd (omega arith)
ended-by s w r (l ∷ ls) (suc n) d e f m = f

ended-knows : (s : List (List ℕ)) (w : Walk) (r : Reading) → Knows s w r → ended w ≡ least_side (alternatives r) s
ended-knows s w r k = ended-by s w r r.outer w.depth k.depth k.side k.least k.mode

comma-knows : (s : List (List ℕ)) (w : Walk) (r : Reading) (outer : List Level) (d : ℕ) → d ≡ length outer → outer ≡ r.outer → Knows s w r → Knows s (parted d w) (comma_inside outer r)
comma-knows s w r [] zero d e k = record { depth = refl; side = refl; least = ended-knows s w r k; mode = (record { apart = tt; all = refl; behind = refl }, refl, tt) }
comma-knows s w r [] (suc n) d e k = absurd (omega arith)
comma-knows s w r (l ∷ ls) zero d e k = absurd (omega arith)
comma-knows s w r (l ∷ ls) (suc n) d e k = record { depth = k.depth; side = k.side; least = k.least; mode = bar-mode s w.mode r.level r.outer (subst IsInside e tt) k.mode }

-- one more token
knows-step : (s : List (List ℕ)) (t : Token) (w : Walk) (r : Reading) → Knows s w r → Knows s (walked_on s t w) (put t r)
knows-step s (Word name) w r k = record { depth = k.depth; side = k.side; least = k.least; mode = name-mode s name w.mode r.level r.outer k.mode }
knows-step s (Mark Left) w r k = record { depth = k.depth; side = refl; least = k.least; mode = k.mode }
knows-step s (Mark Right) w r k = record { depth = k.depth; side = refl; least = k.least; mode = k.mode }
knows-step s (Mark Minus) w r k = record { depth = k.depth; side = k.side; least = k.least; mode = minus-mode s w.mode r.level r.outer k.mode }
knows-step s (Mark Open) w r k = open-knows s w r r.outer k.depth k.side k.least k.mode
knows-step s (Mark Close) w r k = record { depth = ap (λ n. n + 1) k.depth ∙ omega arith; side = k.side; least = k.least; mode = close-mode s w.mode r.level r.outer k.mode }
knows-step s (Mark Bar) w r k = bar-knows s w r r.outer w.depth k.depth refl k
knows-step s (Mark Comma) w r k = comma-knows s w r r.outer w.depth k.depth refl k

knows : (s : List (List ℕ)) (ts : List Token) → Knows s (walked s ts) (reading ts)
knows s [] = record { depth = refl; side = refl; least = refl; mode = (record { apart = tt; all = refl; behind = refl }, refl, tt) }
knows s (t ∷ ts) = knows-step s t (walked s ts) (reading ts) (knows s ts)

pub ended-is : (s : List (List ℕ)) (ts : List Token) → false ≡ (length ts == 0) → ended (walked s ts) ≡ least_side (alternatives_of ts) s
ended-is s [] some = cc
ended-is s (t ∷ ts) some = ended-knows s (walked s (t ∷ ts)) (reading (t ∷ ts)) (knows s (t ∷ ts))

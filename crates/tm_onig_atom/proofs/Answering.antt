-- What reading gives is what the grammar says, answer by answer.
use Rattle.std.proofs.Common.{◌≡◌, ℕ, ◌≤◌, List, Some, Result, Ok, Err, IfOk, sym, ap, ◌∙◌, subst}
use Rattle.tm_onig_class.specs.Tree.{Tree, IsOne}
use Rattle.tm_onig_atom.specs.declared.options.Options.{Options}
use Rattle.tm_onig_atom.specs.declared.fault.AtomFault.{AtomFault}
use Rattle.tm_onig_atom.specs.Escapes.{Escape, BeginsEscape, escape_tree}
use Rattle.tm_onig_atom.specs.inner.Reading.{escape_at}
use Rattle.tm_onig_atom.specs.Classes.{Class, BeginsClass, class_height, class_tree}
use Rattle.tm_onig_atom.specs.inner.ClassReading.{class_at}
use Rattle.tm_onig_atom.specs.inner.Views.{Gives}
use Rattle.tm_onig_atom.proofs.EscapeExact.{escape_again, escape_found, escape_one}
use Rattle.tm_onig_atom.proofs.ClassExact.{class_again, class_found, class_one}

-- what is read of an escape
abbrev EscapeRead : Type 0
EscapeRead = Tree × List ℕ

-- an answer is an escape
pub escape_is : {X : Type 0} (view : X → EscapeRead) (r : Result X AtomFault) (o : Options) (t : List ℕ) → Gives view r (escape_at o t) →
    IfOk r (λ x. (e : Escape) × BeginsEscape t e (view x).1 × ((view x).0 ≡ escape_tree o e))
escape_is view (Ok x) o t g = let f = escape_found o t (view x).0 (view x).1 g in (f.escape, record { whole = f.whole; is = f.is }, f.means)
escape_is view (Err fault) o t g = tt

-- an escape is answered
pub escape_answered : {X : Type 0} (view : X → EscapeRead) (r : Result X AtomFault) (o : Options) (t : List ℕ) → Gives view r (escape_at o t) →
    (e : Escape) (rest : List ℕ) → BeginsEscape t e rest → Gives view r (Some (escape_tree o e, rest))
escape_answered view r o t g e rest b = subst (Gives view r) (ap (escape_at o) b.whole ∙ escape_again e o rest b.is) g

-- an answer takes one character
pub escape_wide : {X : Type 0} (view : X → EscapeRead) (r : Result X AtomFault) (o : Options) (t : List ℕ) → Gives view r (escape_at o t) → IfOk r (λ x. IsOne (view x).0)
escape_wide view (Ok x) o t g = let f = escape_found o t (view x).0 (view x).1 g in subst IsOne (sym f.means) (escape_one o f.escape)
escape_wide view (Err fault) o t g = tt

-- what is read of a class
abbrev ClassRead : Type 0
ClassRead = (Tree × ℕ) × List ℕ

-- an answer is a class
pub class_is : {X : Type 0} (view : X → ClassRead) (r : Result X AtomFault) (depth : ℕ) (o : Options) (t : List ℕ) → Gives view r (class_at depth o t) →
    IfOk r (λ x. (k : Class) × BeginsClass t k (view x).1 × ((view x).0.0 ≡ class_tree o k) × ((view x).0.1 ≡ class_height k) × (class_height k ≤ depth))
class_is view (Ok x) depth o t g = let f = class_found depth o t (view x).0.0 (view x).0.1 (view x).1 g in (f.class, record { whole = f.whole; is = f.is }, f.means, f.high, f.low)
class_is view (Err fault) depth o t g = tt

-- a class is answered
pub class_answered : {X : Type 0} (view : X → ClassRead) (r : Result X AtomFault) (depth : ℕ) (o : Options) (t : List ℕ) → Gives view r (class_at depth o t) →
    (k : Class) (rest : List ℕ) → BeginsClass t k rest → class_height k ≤ depth → Gives view r (Some ((class_tree o k, class_height k), rest))
class_answered view r depth o t g k rest b low = subst (Gives view r) (ap (class_at depth o) b.whole ∙ class_again k depth o rest b.is low) g

-- an answer takes one character
pub class_wide : {X : Type 0} (view : X → ClassRead) (r : Result X AtomFault) (depth : ℕ) (o : Options) (t : List ℕ) → Gives view r (class_at depth o t) → IfOk r (λ x. IsOne (view x).0.0)
class_wide view (Ok x) depth o t g = let f = class_found depth o t (view x).0.0 (view x).0.1 (view x).1 g in subst IsOne (sym f.means) (class_one o f.class)
class_wide view (Err fault) depth o t g = tt

-- an answer is nested no deeper than is allowed
pub class_low : {X : Type 0} (view : X → ClassRead) (r : Result X AtomFault) (depth : ℕ) (o : Options) (t : List ℕ) → Gives view r (class_at depth o t) → IfOk r (λ x. (view x).0.1 ≤ depth)
class_low view (Ok x) depth o t g = let f = class_found depth o t (view x).0.0 (view x).0.1 (view x).1 g in subst (λ h. h ≤ depth) (sym f.high) f.low
class_low view (Err fault) depth o t g = tt

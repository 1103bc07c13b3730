-- The parts of a class, one after another.
use Rattle.std.proofs.Common.{◌≡◌, ℕ, zero, suc, ◌+◌, ◌<◌, Bool, true, false, ◌||◌, ◌&&◌, List, [], ◌∷◌, ◌++◌, length, drop, get_or, refl, sym, ap, ap₂, ◌∙◌}
use Rattle.std.specs.Prelude.{◌==◌}
use Rattle.std.proofs.lemmas.List.{drop_more}
use Rattle.ucd_case.specs.CaseFolding.{simple_fold}
use Rattle.regex_class.specs.Ranges.{Range as CharRange, in_range, in_ranges}
use Rattle.regex_class.proofs.RangesLemmas.{in_ranges-nil, in_ranges-push, or_assoc}
use Rattle.tm_onig_class.specs.Members.{is_char}
use Rattle.tm_onig_class.specs.Folding.{any_below}
use Rattle.tm_onig_atom.specs.declared.parts.Member.TheVariants as M
use Rattle.tm_onig_atom.specs.declared.parts.Part.{Part}
use Rattle.tm_onig_atom.specs.declared.parts.Part.TheVariants.{Adds, Meets, Inner}
use Rattle.tm_onig_atom.specs.Widening.{alike, widened}
use Rattle.tm_onig_atom.specs.Classes.{member_has, part_has, side_has, later_have}
use Rattle.tm_onig_atom.specs.inner.Sides.{met_after, side_after, walked}

-- tests that agree
any_below-same : (n : ℕ) (f g : ℕ → Bool) → ((c : ℕ) → f c ≡ g c) → any_below n f ≡ any_below n g
unfolding any_below
any_below-same zero f g same = refl
any_below-same (suc n) f g same = ap₂ ◌||◌ (same n) (any_below-same n f g same)

-- either of two, some of four
or_four : (a b x y : Bool) → ((a || b) || (x || y)) ≡ ((a || x) || (b || y))
or_four true b x y = refl
or_four false true true y = refl
or_four false true false y = refl
or_four false false true y = refl
or_four false false false y = refl

-- a test that two tests make
any_below-or : (n : ℕ) (f g : ℕ → Bool) → any_below n (λ c. f c || g c) ≡ (any_below n f || any_below n g)
unfolding any_below
any_below-or zero f g = refl
any_below-or (suc n) f g = ap (λ b. (f n || g n) || b) (any_below-or n f g) ∙ or_four (f n) (g n) (any_below n f) (any_below n g)

-- a conjunction of three over either of two
and_or : (a f g b : Bool) → (a && ((f || g) && b)) ≡ ((a && (f && b)) || (a && (g && b)))
and_or false f g b = refl
and_or true true true true = refl
and_or true true true false = refl
and_or true true false true = refl
and_or true true false false = refl
and_or true false true true = refl
and_or true false true false = refl
and_or true false false true = refl
and_or true false false false = refl

-- what folds as a character of either of two sets
alike-or : (f g : ℕ → Bool) (c : ℕ) → alike (λ d. f d || g d) c ≡ (alike f c || alike g c)
alike-or f g c =
    any_below-same 0x110000 _ _ (λ m. and_or (is_char m) (f m) (g m) (simple_fold m == simple_fold c))
    ∙ any_below-or 0x110000 (λ m. is_char m && (f m && (simple_fold m == simple_fold c))) (λ m. is_char m && (g m && (simple_fold m == simple_fold c)))

-- what folds as a character of the same set
alike-same : (f g : ℕ → Bool) (c : ℕ) → ((d : ℕ) → f d ≡ g d) → alike f c ≡ alike g c
alike-same f g c same = any_below-same 0x110000 _ _ (λ m. ap (λ b. is_char m && (b && (simple_fold m == simple_fold c))) (same m))

-- the same, widened or not
widened-or : (fold : Bool) (f g h : ℕ → Bool) (c : ℕ) → ((d : ℕ) → h d ≡ (f d || g d)) → widened fold h c ≡ (widened fold f c || widened fold g c)
widened-or true f g h c same = alike-same h (λ d. f d || g d) c same ∙ alike-or f g c
widened-or false f g h c same = same c

-- nothing passes
any_below-none : (n : ℕ) (f : ℕ → Bool) → ((c : ℕ) → f c ≡ false) → any_below n f ≡ false
unfolding any_below
any_below-none zero f none = refl
any_below-none (suc n) f none = ap₂ ◌||◌ (none n) (any_below-none n f none)

-- no member
and_none : (a b : Bool) → (a && (false && b)) ≡ false
and_none true b = refl
and_none false b = refl

-- nothing is widened to nothing
widened-none : (fold : Bool) (f : ℕ → Bool) (c : ℕ) → ((d : ℕ) → f d ≡ false) → widened fold f c ≡ false
widened-none true f c none = any_below-none 0x110000 _ (λ m. ap (λ b. is_char m && (b && (simple_fold m == simple_fold c))) (none m) ∙ and_none (is_char m) (simple_fold m == simple_fold c))
widened-none false f c none = none c

-- no ranges
pub no_ranges : (fold : Bool) (rs : List CharRange) (s : Bool) (c : ℕ) → rs ≡ [] → s ≡ in_ranges [] c → (widened fold (in_ranges rs) c || s) ≡ false
no_ranges fold rs s c e h = ap₂ ◌||◌ (widened-none fold (in_ranges rs) c (λ d. ap (λ l. in_ranges l d) e ∙ in_ranges-nil d)) (h ∙ in_ranges-nil c)

-- the last of three may come first
or_middle : (x y z : Bool) → ((x || y) || z) ≡ ((x || z) || y)
or_middle true y z = refl
or_middle false true true = refl
or_middle false true false = refl
or_middle false false true = refl
or_middle false false false = refl

-- one range more
range_has : (rs : List CharRange) (first last d : ℕ) → in_ranges (rs ++ (first, last) ∷ []) d ≡ (in_ranges rs d || member_has (M.Range first last) d)
unfolding in_range
range_has rs first last d = in_ranges-push rs (first, last) d

-- a range more among the ranges
pub range_more : (fold : Bool) (news olds : List CharRange) (first last c : ℕ) (s : Bool) → news ≡ olds ++ (first, last) ∷ [] →
    (widened fold (in_ranges news) c || s) ≡ ((widened fold (in_ranges olds) c || s) || widened fold (member_has (M.Range first last)) c)
range_more fold news olds first last c s e =
    ap (λ b. b || s) (widened-or fold (in_ranges olds) (member_has (M.Range first last)) (in_ranges news) c (λ d. ap (λ l. in_ranges l d) e ∙ range_has olds first last d))
    ∙ or_middle (widened fold (in_ranges olds) c) (widened fold (member_has (M.Range first last)) c) s

-- a set more among the others
pub set_more : (w s t u : Bool) → u ≡ (s || t) → (w || u) ≡ ((w || s) || t)
set_more w s t u e = ap (λ b. w || b) e ∙ or_assoc w s t

-- where a side ends
ends_here : (m s a b : Bool) → ((m && s) && ((false || a) && b)) ≡ (m && ((s || false) && (a && b)))
ends_here true true a b = refl
ends_here true false a b = refl
ends_here false s a b = refl

-- where the parts end
no_more : (m s : Bool) → (m && s) ≡ (m && ((s || false) && true))
no_more true true = refl
no_more true false = refl
no_more false s = refl

-- the parts from the left are those between the `&&`
walked-sides : (fold : Bool) (ps : List Part) (m s : Bool) (c : ℕ) → walked fold ps m s c ≡ (m && ((s || side_has fold ps c) && later_have fold ps c))
unfolding walked side_has later_have
walked-sides fold [] m s c = no_more m s
walked-sides fold (Adds x ∷ ps) m s c =
    walked-sides fold ps m (s || part_has fold (Adds x) c) c
    ∙ ap (λ b. m && (b && later_have fold ps c)) (sym (or_assoc s (part_has fold (Adds x) c) (side_has fold ps c)))
walked-sides fold (Inner ranges height ∷ ps) m s c =
    walked-sides fold ps m (s || part_has fold (Inner ranges height) c) c
    ∙ ap (λ b. m && (b && later_have fold ps c)) (sym (or_assoc s (part_has fold (Inner ranges height) c) (side_has fold ps c)))
walked-sides fold (Meets ∷ ps) m s c = walked-sides fold ps (m && s) false c ∙ ends_here m s (side_has fold ps c) (later_have fold ps c)

-- all parts, from the first one
pub walked_all : (fold : Bool) (ps : List Part) (c : ℕ) → walked fold ps true false c ≡ (side_has fold ps c && later_have fold ps c)
walked_all fold ps c = walked-sides fold ps true false c

-- before the first part
pub walk_starts : (fold : Bool) (ps : List Part) (m s : Bool) (c : ℕ) → m ≡ true → s ≡ false → walked fold ps m s c ≡ walked fold ps true false c
walk_starts fold ps m s c e f = ap₂ (λ a b. walked fold ps a b c) e f

-- one part more
pub walk_on : (fold : Bool) (ps : List Part) (i : ℕ) (d : Part) (m s n t all : Bool) (c : ℕ) → i < length ps → walked fold (drop i ps) m s c ≡ all →
    n ≡ met_after (get_or ps i d) m s → t ≡ side_after fold (get_or ps i d) s c → walked fold (drop (i + 1) ps) n t c ≡ all
unfolding walked
walk_on fold ps i d m s n t all c lt whole e f = ap₂ (λ a b. walked fold (drop (i + 1) ps) a b c) e f ∙ (rw (drop_more ps i d lt) at whole)

-- behind the last part
pub walk_ends : (fold : Bool) (m s all : Bool) (c : ℕ) → walked fold [] m s c ≡ all → (m && s) ≡ all
unfolding walked
walk_ends fold m s all c e = e

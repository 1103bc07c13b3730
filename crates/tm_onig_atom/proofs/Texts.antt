-- Texts up to a character.
use Rattle.std.proofs.Common.{◌≡◌, ℕ, ◌+◌, ◌-◌, ◌<◌, ◌≤◌, Bool, true, false, ◌||◌, cond, List, [], ◌∷◌, ◌++◌, length, take, drop, get_or, Option, Some, None, option_map, refl, sym, ap, ◌∙◌, subst, inl, inr, ◌⊎◌, arith, append_assoc, append-nil}
use Rattle.std.specs.Prelude.{◌==◌}
use Rattle.std.specs.List.{list_any}
use Rattle.std.proofs.lemmas.Bool.{eqb-true, eq-eqb, ne_eqb}
use Rattle.std.proofs.lemmas.List.{take_more, drop_more, take_all, drop_all, length-drop}
use Rattle.tm_onig_atom.specs.inner.Reading.{◌>>=◌, before}

-- which side of a choice was taken
pub chosen : {A : Type 0} (b : Bool) (x y z : A) → cond b x y ≡ z → ((b ≡ true) × (x ≡ z)) ⊎ ((b ≡ false) × (y ≡ z))
chosen true x y z e = inl (refl, e)
chosen false x y z e = inr (refl, e)

-- the value that there was
pub bind_ok : {A B : Type 0} (o : Option A) (f : A → Option B) (y : B) → (o >>= f) ≡ Some y → (x : A) × (o ≡ Some x) × (f x ≡ Some y)
bind_ok None f y e = absurd cc
bind_ok (Some x) f y e = (x, refl, e)

-- one value in both
pub some_same : {A : Type 0} (x y : A) → Some x ≡ Some y → x ≡ y
some_same x y e = cc

-- the value that was changed
pub map_ok : {A B : Type 0} (f : A → B) (o : Option A) (y : B) → option_map f o ≡ Some y → (x : A) × (o ≡ Some x) × (f x ≡ y)
map_ok f None y e = absurd cc
map_ok f (Some x) y e = (x, refl, some_same (f x) y e)

-- a character that a table has differs from one that it lacks
pub differs : {A : Type 0} (f : ℕ → Option A) (d : ℕ) → f d ≡ None → (c : ℕ) (x : A) → f c ≡ Some x → (c == d) ≡ false
differs f d lacks c x found = ne_eqb c d (λ e. cc)

-- neither of two
pub or_parts : (a b : Bool) → (a || b) ≡ false → (a ≡ false) × (b ≡ false)
or_parts true b e = absurd cc
or_parts false b e = (refl, e)

-- what is read with the text in front of it
abbrev pub in_front : List ℕ → Option (List ℕ × List ℕ) → Option (List ℕ × List ℕ)
in_front front o = option_map (λ x. (front ++ x.0, x.1)) o

-- a text that ends so is found
pub before_again : (end : ℕ) (name rest : List ℕ) → list_any (λ c. c == end) name ≡ false → ◌≡◌ {A = Option (List ℕ × List ℕ)} (before end (name ++ end ∷ rest)) (Some (name, rest))
unfolding before
before_again end [] rest none = rw (same end) refl
  where
    same : (c : ℕ) → (c == c) ≡ true
    same c = grind arith
before_again end (c ∷ name) rest none = let parts = or_parts (c == end) (list_any (λ c. c == end) name) none in rw (parts.0, before_again end name rest parts.1) refl

-- The text that was found.
pub record Before (end : ℕ) (t name rest : List ℕ) : Type 0 where
  pub whole : t ≡ name ++ end ∷ rest
  pub none : list_any (λ c. c == end) name ≡ false

-- one character more
before_more : (end c : ℕ) (t name rest : List ℕ) → (c == end) ≡ false → Before end t name rest → Before end (c ∷ t) (c ∷ name) rest
before_more end c t name rest other b = record { whole = ap (λ u. c ∷ u) b.whole; none = rw other b.none }

-- a text that is found ends so
pub before_found : (end : ℕ) (t name rest : List ℕ) → ◌≡◌ {A = Option (List ℕ × List ℕ)} (before end t) (Some (name, rest)) → Before end t name rest
unfolding before
before_found end [] name rest e = absurd cc
before_found end (c ∷ t) name rest e = elim (chosen (c == end) _ _ _ e) [
  | inl h ↦
      let p : ◌≡◌ {A = List ℕ × List ℕ} ([], t) (name, rest) = cc in
      subst (λ (p : List ℕ × List ℕ). Before end (c ∷ t) p.0 p.1) p (record { whole = ap (λ d. d ∷ t) (eqb-true c end h.0); none = refl })
  | inr h ↦
      let b = bind_ok (before end t) (λ x. Some (c ∷ x.0, x.1)) (name, rest) h.1 in
      let p : ◌≡◌ {A = List ℕ × List ℕ} (c ∷ b.0.0, b.0.1) (name, rest) = cc in
      subst (λ (p : List ℕ × List ℕ). Before end (c ∷ t) p.0 p.1) p (before_more end c t b.0.0 b.0.1 h.0 (before_found end t b.0.0 b.0.1 b.1))
]

-- the search at the character
pub before_here : (end : ℕ) (t : List ℕ) (i : ℕ) → i < length t → (x : ℕ) → x ≡ get_or t i x → x ≡ end → in_front (take i t) (before end (drop i t)) ≡ Some (take i t, drop (i + 1) t)
unfolding before
before_here end t i lt x at is = rw (drop_more t i x lt, sym at, eq-eqb x end is, append-nil) refl

-- one character more in front
front_one : (front : List ℕ) (c : ℕ) (o : Option (List ℕ × List ℕ)) → in_front front (o >>= λ x. Some (c ∷ x.0, x.1)) ≡ in_front (front ++ c ∷ []) o
front_one front c None = refl
front_one front c (Some x) = ap (λ xs. Some (xs, x.1)) (sym (append_assoc front (c ∷ []) x.0))

-- the search behind another character
pub before_on : (end : ℕ) (t : List ℕ) (i : ℕ) → i < length t → (x : ℕ) → x ≡ get_or t i x → (x ≡ end → ⊥) → in_front (take i t) (before end (drop i t)) ≡ in_front (take (i + 1) t) (before end (drop (i + 1) t))
unfolding before
before_on end t i lt x at other =
    (rw (drop_more t i x lt, sym at, ne_eqb x end other) (front_one (take i t) x (before end (drop (i + 1) t))))
    ∙ ap (λ u. in_front u (before end (drop (i + 1) t))) (sym (take_more t i x lt ∙ ap (λ y. take i t ++ y ∷ []) (sym at)))

-- the search at the end of the text
pub before_past : (end : ℕ) (t : List ℕ) (i : ℕ) → length t ≤ i → in_front (take i t) (before end (drop i t)) ≡ None
unfolding before
before_past end t i le = rw (drop_all i t le) refl

-- what is behind a character, as the end of its text
pub rest_taken : (t : List ℕ) (i : ℕ) → ◌≡◌ {A = Option (List ℕ × List ℕ)} (Some (take i t, take (length t - (i + 1)) (drop (i + 1) t))) (Some (take i t, drop (i + 1) t))
rest_taken t i = ap (λ (u : List ℕ). Some (take i t, u)) (take_all (length t - (i + 1)) (drop (i + 1) t) (omega (arith, length-drop (i + 1) t)))

-- The while pass over rules that have no `while`.
use Rattle.std.proofs.Common.{◌≡◌, ℕ, ◌+◌, arith, List, [], ◌∷◌, ◌++◌, map, reverse, Bool, true, false, cond, Option, Some, refl, ap, sym, ◌∙◌, append_assoc}
use Rattle.std.specs.Prelude.{◌||◌}
use Rattle.std.proofs.lemmas.List.{reverse-append}
use Rattle.tm_defs.specs.declared.frames.FrameData.{FrameData}
use Rattle.tm_line_turns.specs.Language.{Language, grammar_of}
use Rattle.tm_line_turns.specs.Line.{HoldsUpAll, others, resumed, resumed_place, some_while, start_anchor, start_place, start_state}
use Rattle.tm_line_turns.specs.LineRun.{Grammar, Open, Part, Place, earlier, joined, nothing}
use Rattle.tm_line_turns.specs.WhilePass.{Passed, Tested, opened_on, passed, searched_while, tested, while_pass}

-- all of these are open on those of a place
abbrev all_open : Place → List Open → Place
all_open p [] = p
all_open p (o ∷ os) = all_open (opened_on p o) os

joined-nothing : (a : Part) → joined nothing a ≡ a
joined-nothing a =
    let same : 0 + a.cost ≡ a.cost = omega arith in
    ap (λ n. record { pieces = a.pieces; made = a.made; cost = n }) same

-- where neither of two holds
neither : (a b : Bool) → (a || b) ≡ false → (a ≡ false) × (b ≡ false)
neither false b none = (refl, none)
neither true b none = absurd cc

module _ (g : Grammar) where
  tested-free : (p : Place) (o : Open) → g.has_while o.frame.rule ≡ false → tested g p o ≡ record { part = nothing; next = Some (opened_on p o) }
  tested-free p o free = ap (λ b. cond b (searched_while g p o) (record { part = nothing; next = Some (opened_on p o) })) free

  pass-free : (p : Place) (fs : List FrameData) → some_while g.has_while fs ≡ false → while_pass g p (map earlier fs) ≡ record { part = nothing; place = all_open p (map earlier fs) }
  pass-free p [] none = refl
  pass-free p (f ∷ fs) none =
      let apart = neither (g.has_while f.rule) (some_while g.has_while fs) none in
      let on : Passed = while_pass g (opened_on p (earlier f)) (map earlier fs) in
      ap (λ (t : Tested). passed (λ q. while_pass g q (map earlier fs)) p t.part t.next) (tested-free p (earlier f) apart.0)
      ∙ ap (λ a. record { part = a; place = on.place }) (joined-nothing on.part)
      ∙ pass-free (opened_on p (earlier f)) fs apart.1

-- opened one on the other, the last is the innermost
all_open-resumed : (anchor : Option ℕ) (first : Bool) (f : FrameData) (fs more : List FrameData) →
    all_open (resumed (f ∷ fs) anchor first) (map earlier more) ≡ resumed (reverse more ++ f ∷ fs) anchor first
all_open-resumed anchor first f fs [] = refl
all_open-resumed anchor first f fs (m ∷ ms) =
    all_open-resumed anchor first m (f ∷ fs) ms
    ∙ ap (λ l. resumed l anchor first) (sym (append_assoc (reverse ms) (m ∷ []) (f ∷ fs)) ∙ ap (λ l. l ++ f ∷ fs) (sym (reverse-append (m ∷ []) ms)))

pub pass-all : (g : Grammar) (scopes : List (List ℕ)) (start : List FrameData) → some_while g.has_while start ≡ false →
    while_pass g (start_place scopes start) (others (start_state scopes start)) ≡ record { part = nothing; place = resumed_place scopes start }
pass-all g scopes [] none = refl
pass-all g scopes (f ∷ fs) none =
    let anchor : Option ℕ = start_anchor (reverse (f ∷ fs)) in
    let place : all_open (start_place scopes (f ∷ fs)) (map earlier fs) ≡ resumed_place scopes (f ∷ fs) =
    all_open-resumed anchor false f [] fs ∙ ap (λ s. resumed s anchor false) (sym (reverse-append (f ∷ []) fs)) in
    pass-free g (start_place scopes (f ∷ fs)) fs (neither (g.has_while f.rule) (some_while g.has_while fs) none).1
    ∙ ap (λ p. record { part = nothing; place = p }) place

pub holds-all : (l : Language) → HoldsUpAll l
holds-all l scopes start line none = pass-all (grammar_of l (line ++ 10 ∷ [])) scopes start none

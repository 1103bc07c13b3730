-- The line by its turns, and what is left of it.
use Rattle.std.proofs.Common.{◌≡◌, ℕ, ◌<◌, ◌≤◌, List, ap, sym, ◌∙◌, subst, arith}
use Rattle.std.specs.Prelude.{Result, Ok, Err, Bool}
use Rattle.tm_defs.specs.declared.tokenizer.LineFault.{LineFault}
use Rattle.std.proofs.lemmas.List.{append-nil}
use Rattle.tm_defs.specs.Tables.{Tables, none_made}
use Rattle.tm_defs.proofs.Growth.{tables-refl}
use Rattle.tm_line_turns.specs.declared.found.Winner.{Winner}
use Rattle.tm_line_turns.specs.LineRun.{Place, Part, Outcome, Turn, Stops, GoesOn, Grammar, joined, nothing, searches, after, by_winner, is_anchored, left, line_run, some_open, turn}
use Rattle.tm_line_turns.specs.LineRun as line
use Rattle.tm_line_turns.proofs.Turns.{Falls, IsWithin}
use Rattle.tm_line_parts.specs.declared.rules.Out.{Out}
use Rattle.tm_line_parts.specs.declared.stops.Next.{Next}
use Rattle.tm_line_parts.specs.declared.stops.Next.TheVariants as next
use Rattle.tm_line_parts.specs.declared.stack.Way.{Way}
use Rattle.tm_line_parts.specs.Adds.{Adds, Spends}
use Rattle.tm_line_parts.specs.Did.{Does, Ran}
use Rattle.tm_line_parts.specs.Stacks.{IsStack, place_at}
use Rattle.tm_line_parts.proofs.Adding.{IsBegun, next, fails, ends, ends-fault, then-any, first-fails}

-- where a turn leads, and what is left there
pub record IsGoing (meta : List (List ℕ) → ℕ) (g : Grammar) (p : Place) (all : Outcome) (t v : Tables) (old new : Out) (w : Way) : Type 0 where
  pub stack : IsStack v w.stack
  pub within : w.at ≤ g.end
  pub rest : IsBegun meta (line_run g (place_at v w)).part all.part t v old new
  pub same : (line_run g (place_at v w)).stack ≡ all.stack
  pub falls : left g (place_at v w) < left g p

module _ (meta : List (List ℕ) → ℕ) (g : Grammar) (p : Place) (all : Outcome) (t u v : Tables) (old now new : Out) (w : Way) where
  pub goes-on : (part : Part) (n : line.Next) → line_run g p ≡ after (line_run g) part n → Falls g p n → IsWithin g.end n → IsBegun meta (line_run g p).part all.part t u old now → (line_run g p).stack ≡ all.stack →
      Does meta (record { part = part; next = n }) u v now new w (Ok next.GoesOn) → IsGoing meta g p all t v old new w
  goes-on part (Stops s) e falls within begun same does = absurd does.leads
  goes-on part (GoesOn q) e falls within begun same does =
      let is : place_at v w ≡ q = does.leads.1 in
      let P : Place → Type 0 = λ x. IsBegun meta (line_run g x).part all.part t v old new in
      let Q : Place → Type 0 = λ x. (line_run g x).stack ≡ all.stack in
      let R : Place → Type 0 = λ x. left g x < left g p in
      let S : Outcome → Type 0 = λ o. IsBegun meta o.part all.part t u old now in
      let here : IsBegun meta (joined part (line_run g q).part) all.part t u old now = subst S e begun in
      let at : w.at ≡ q.at = ap (λ (x : Place). x.at) is in
      record {
        stack = does.leads.0;
        within = omega (arith, at, within);
        rest = subst P (sym is) (next meta part (line_run g q).part all.part t u v old now new next.GoesOn here does.adds);
        same = subst Q (sym is) (sym (ap (λ (o : Outcome). o.stack) e) ∙ same);
        falls = subst R (sym is) falls;
      }

  pub line-stops : {X : Type 0} (part : Part) (n : line.Next) (x : X) → line_run g p ≡ after (line_run g) part n → IsBegun meta (line_run g p).part all.part t u old now → (line_run g p).stack ≡ all.stack →
      Does meta (record { part = part; next = n }) u v now new w (Ok next.Stops) → Ran meta all t v old new w (Ok x)
  line-stops part (GoesOn q) x e begun same does = absurd does.leads
  line-stops part (Stops s) x e begun same does =
      let S : Outcome → Type 0 = λ o. IsBegun meta o.part all.part t u old now in
      let here : IsBegun meta part all.part t u old now = subst S e begun in
      record {
        adds = ends meta part all.part t u v old now new next.Stops x here does.adds;
        leads = (does.leads.0, does.leads.1 ∙ sym (ap (λ (o : Outcome). o.stack) e) ∙ same);
      }

  pub line-fails : {X : Type 0} (part : Part) (n : line.Next) (f : LineFault) → line_run g p ≡ after (line_run g) part n → IsBegun meta (line_run g p).part all.part t u old now →
      Does meta (record { part = part; next = n }) u v now new w (Err f) → Ran {X = X} meta all t v old new w (Err f)
  line-fails part (GoesOn q) f e begun does =
      let S : Outcome → Type 0 = λ o. IsBegun meta o.part all.part t u old now in
      let here : IsBegun meta (joined part (line_run g q).part) all.part t u old now = subst S e begun in
      record { adds = fails meta part (line_run g q).part all.part t u v old now new f here does.adds; leads = tt }
  line-fails part (Stops s) f e begun does =
      let S : Outcome → Type 0 = λ o. IsBegun meta o.part all.part t u old now in
      let here : IsBegun meta part all.part t u old now = subst S e begun in
      record { adds = ends-fault meta part all.part t u v old now new f here does.adds; leads = tt }

-- a turn, where its search was paid first
pub searched-then : {X : Type 0} (meta : List (List ℕ) → ℕ) (cost : ℕ) (k : Turn) (t v : Tables) (old now new : Out) (w : Way) (x : X) (r : Result Next LineFault) → Adds meta (searches cost) t t old now (Ok x) → Does meta k t v now new w r →
    Does meta (record { part = joined (searches cost) k.part; next = k.next }) t v old new w r
searched-then meta cost k t v old now new w x r h does = record { adds = then-any meta (searches cost) k.part t t v old now new x r h does.adds; leads = does.leads }

-- a search that was refused
pub search-fails : {X : Type 0} (meta : List (List ℕ) → ℕ) (cost : ℕ) (k : Turn) (t : Tables) (old new : Out) (w : Way) (f : LineFault) → Adds {X = X} meta (searches cost) t t old new (Err f) →
    Does meta (record { part = joined (searches cost) k.part; next = k.next }) t t old new w (Err f)
search-fails meta cost k t old new w f h = record { adds = first-fails meta (searches cost) k.part t t old new f h; leads = tt }

-- the turn of what was found
pub turn-done : (meta : List (List ℕ) → ℕ) (g : Grammar) (p : Place) (t v : Tables) (old now new : Out) (w : Way) (r : Result Next LineFault) (has_end anchored : Bool) (win : Winner) → has_end ≡ some_open p.below → anchored ≡ is_anchored p.anchor p.at →
    win ≡ g.winner p.top.frame has_end p.at p.first anchored → Spends (g.cost p.top.frame has_end p.at p.first anchored) old.budget now.budget → now.pieces.items ≡ old.pieces.items → Does meta (by_winner g p win) t v now new w r → Does meta (turn g p) t v old new w r
turn-done meta g p t v old now new w r has_end anchored win has at is spends same does =
    let found : win ≡ g.winner p.top.frame (some_open p.below) p.at p.first (is_anchored p.anchor p.at) = is ∙ ap (λ b. g.winner p.top.frame b p.at p.first anchored) has ∙ ap (λ b. g.winner p.top.frame (some_open p.below) p.at p.first b) at in
    let cost : g.cost p.top.frame has_end p.at p.first anchored ≡ g.cost p.top.frame (some_open p.below) p.at p.first (is_anchored p.anchor p.at) =
    ap (λ b. g.cost p.top.frame b p.at p.first anchored) has ∙ ap (λ b. g.cost p.top.frame (some_open p.below) p.at p.first b) at in
    let mark : ℕ = 0 in
    let P : Winner → Type 0 = λ x. Does meta (by_winner g p x) t v now new w r in
    let paid : Spends (g.cost p.top.frame (some_open p.below) p.at p.first (is_anchored p.anchor p.at)) old.budget now.budget = subst (λ n. Spends n old.budget now.budget) cost spends in
    let search : Adds meta (searches (g.cost p.top.frame (some_open p.below) p.at p.first (is_anchored p.anchor p.at))) t t old now (Ok mark) =
    record { pieces = same ∙ sym (append-nil old.pieces.items); grows = tables-refl none_made t; spends = paid; cause = tt } in
    searched-then meta _ (by_winner g p (g.winner p.top.frame (some_open p.below) p.at p.first (is_anchored p.anchor p.at))) t v old now new w mark r search (subst P found does)

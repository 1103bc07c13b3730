-- What a body did in a turn, and in a line.
use Rattle.std.specs.Prelude.{◌≡◌, ℕ, List, [], ◌∷◌, ◌++◌, Option, option_map, slice_get, Some, Result, IfOk, OnOk}
use Rattle.tm_defs.specs.declared.tokenizer.LineFault.{LineFault}
use Rattle.tm_defs.specs.declared.frames.ScopeList.{ScopeList}
use Rattle.tm_defs.specs.declared.frames.TextId.{TextId}
use Rattle.tm_defs.specs.Tables.{IsOptionalText, Tables, text_at}
use Rattle.tm_line_turns.specs.LineRun as line
use Rattle.tm_line_turns.specs.LineRun.{Outcome, Part, Place, Turn, Stops, GoesOn, all_of, end_made, makes, names_made}
use Rattle.tm_line_parts.specs.declared.rules.Out.{Out}
use Rattle.tm_line_parts.specs.declared.stops.Next.{Next}
use Rattle.tm_line_parts.specs.declared.stops.Next.TheVariants as next
use Rattle.tm_line_parts.specs.declared.stack.Way.{Way}
use Rattle.tm_line_parts.specs.Adds.{Adds}
use Rattle.tm_line_parts.specs.Stacks.{IsStack, stack_at, place_at}

-- the way stands where the turn leads
abbrev pub Leads : Tables → line.Next → Next → Way → Type 0
Leads u (Stops stack) next.Stops w = IsStack u w.stack × (stack_at u w.stack ≡ stack)
Leads u (Stops stack) next.GoesOn w = ⊥
Leads u (GoesOn q) next.Stops w = ⊥
Leads u (GoesOn q) next.GoesOn w = IsStack u w.stack × (place_at u w ≡ q)

-- the body did this turn, or was refused
pub record Does (meta : List (List ℕ) → ℕ) (turn : Turn) (t u : Tables) (old new : Out) (w : Way) (result : Result Next LineFault) : Type 0 where
  pub adds : Adds meta turn.part t u old new result
  pub leads : IfOk result (λ next. Leads u turn.next next w)

-- the body did all turns of a line
pub record Ran {X : Type 0} (meta : List (List ℕ) → ℕ) (o : Outcome) (t u : Tables) (old new : Out) (w : Way) (result : Result X LineFault) : Type 0 where
  pub adds : Adds meta o.part t u old new result
  pub leads : OnOk result (IsStack u w.stack × (stack_at u w.stack ≡ o.stack))

-- behind a begin over these scopes: the content names were pushed and the end's text was made, and these are their numbers
pub record Gives (meta : List (List ℕ) → ℕ) (scopes content_names : List (List ℕ)) (end_text : Option (List ℕ)) (t u : Tables) (o : Out) (result : Result (ScopeList × Option TextId) LineFault) : Type 0 where
  pub adds : Adds meta (all_of (makes (names_made scopes content_names) ∷ makes (end_made end_text) ∷ [])) t u o o result
  pub contents : IfOk result (λ given. slice_get u.paths given.0.0 ≡ Some (scopes ++ content_names))
  pub known : IfOk result (λ given. IsOptionalText u given.1)
  pub end : IfOk result (λ given. option_map (text_at u) given.1 ≡ end_text)

-- the text of a group was entered: what that adds was added, and the way stands at its place
pub record Enters (meta : List (List ℕ) → ℕ) (part : Part) (place : Place) (t u : Tables) (o : Out) (result : Result Way LineFault) : Type 0 where
  pub adds : Adds meta part t u o o result
  pub stack : IfOk result (λ way. IsStack u way.stack)
  pub is : IfOk result (λ way. place_at u way ≡ place)

-- A line as its start, its run and its end.
use Rattle.std.proofs.Common.{◌≡◌, ℕ, ◌+◌, ◌-◌, ◌≤◌, ◌++◌, append_assoc, List, [], ◌∷◌, length, length-append, ap, sym, ◌∙◌, subst, arith}
use Rattle.std.specs.Prelude.{Result, Ok, Err}
use Rattle.std.proofs.lemmas.List.{append-nil}
use Rattle.tm_defs.specs.declared.frames.FrameData.{FrameData}
use Rattle.tm_defs.specs.declared.tokenizer.LineFault.{LineFault}
use Rattle.tm_defs.specs.declared.tokenizer.LineOut.{LineOut}
use Rattle.tm_defs.specs.Tables.{Tables}
use Rattle.tm_paint.specs.Painted.{runs_of}
use Rattle.tm_line_turns.specs.Language.{FindsInText, Language, grammar_of}
use Rattle.tm_line_turns.specs.Line.{line_made, others, outcome_of, passed_of, start_made, start_place, start_state, top_contents}
use Rattle.tm_line_turns.specs.LineRun.{Open, Outcome, Part, Place, joined, line_run, makes, states_made}
use Rattle.tm_line_turns.specs.WhilePass.{Passed, while_pass}
use Rattle.tm_line_turns.specs.declared.painter.Painted.{Painted}
use Rattle.tm_line_turns.specs.Painted.{furthest, meta_at, painted}
use Rattle.tm_line_turns.proofs.Reach.{furthest-right, line_run-reach}
use Rattle.tm_line_turns.proofs.Runs.{runs-painted}
use Rattle.tm_line_parts.specs.Adds.{Adds}
use Rattle.tm_line_parts.specs.Did.{Ran}
use Rattle.tm_line_parts.specs.Holds.{Starts}
use Rattle.tm_line_parts.specs.Stacks.{place_at, stack_at}
use Rattle.tm_line_parts.specs.Whole.{Finishes, Tokenizes}
use Rattle.tm_line_parts.specs.declared.rules.Out.{Out}
use Rattle.tm_line_parts.specs.declared.stack.Way.{Way}
use Rattle.tm_line_parts.proofs.Adding.{among-refl, cause-more, first-fails, joined-assoc, painted-append, then-any}

furthest-behind : (a b : List Painted) → furthest b ≤ furthest (a ++ b)
furthest-behind [] b = omega arith
furthest-behind (x ∷ xs) b = let h = furthest-behind xs b in omega arith

-- what a run painted reaches the text's end
pub run-reach : (l : Language) (text : List ℕ) (p : Place) (pieces old : List Painted) (len : ℕ) → FindsInText l → pieces ≡ old ++ painted l.meta (line_run (grammar_of l text) p).part.pieces → len ≡ length text - 1 → len ≤ furthest pieces
run-reach l text p pieces old len finds is size =
    let reach = line_run-reach l.meta (grammar_of l text) (finds text) p in
    let more = furthest-behind old (painted l.meta (line_run (grammar_of l text) p).part.pieces) in
    omega (arith, reach, more, ap furthest is, size)

module _ (l : Language) (scopes : List (List ℕ)) (state : List FrameData) (line text : List ℕ) (whole : text ≡ line ++ 10 ∷ []) (t u : Tables) (out now : Out) where
  abbrev all : Outcome
  all = outcome_of l scopes state line

  abbrev begun : List ℕ → Passed
  begun x = while_pass (grammar_of l x) (start_place scopes state) (others (start_state scopes state))

  abbrev pass : Passed
  pass = passed_of l scopes state line

  abbrev run : Outcome
  run = line_run (grammar_of l (line ++ 10 ∷ [])) pass.place

  abbrev start_part : Part
  start_part = makes (start_made scopes state)

  abbrev first_part : Part
  first_part = joined start_part pass.part

  abbrev end_part : Part
  end_part = makes (states_made run.stack)

  -- a refusal of one of the four
  refusal : {X : Type 0} (v : Tables) (new : Out) (e : LineFault) → Adds {X = X} l.meta (joined start_part (joined all.part end_part)) t v out new (Err e) → Tokenizes l scopes state line t v out.budget (Err e)
  refusal v new e h = record {
    tokens = tt;
    end = tt;
    grows = h.grows;
    cause = cause-more out.budget out.budget (0 + (all.part.cost + 0)) all.part.cost (line_made l scopes state line) (line_made l scopes state line) v e (λ lt. omega (arith, lt)) (among-refl (line_made l scopes state line)) h.cause;
  }

  -- the four parts, by the two of the line's
  as-whole : {X : Type 0} (v : Tables) (new : Out) (r : Result X LineFault) → Adds l.meta (joined first_part (joined run.part end_part)) t v out new r → Adds l.meta (joined start_part (joined all.part end_part)) t v out new r
  as-whole v new r h =
      let P : Part → Type 0 = λ x. Adds l.meta x t v out new r in
      subst P (joined-assoc start_part pass.part (joined run.part end_part) ∙ ap (joined start_part) (sym (joined-assoc pass.part run.part end_part))) h

  -- the pass that the body makes is the line's
  as-start : (r : Result Way LineFault) → Starts l.meta (length text) (joined start_part (begun text).part) (begun text).place t u out now r → Starts l.meta (length text) first_part pass.place t u out now r
  as-start r h = let P : List ℕ → Type 0 = λ x. Starts l.meta (length text) (joined start_part (begun x).part) (begun x).place t u out now r in subst P whole h

  pub start-fails : (e : LineFault) → Starts l.meta (length text) (joined start_part (begun text).part) (begun text).place t u out now (Err e) → Tokenizes l scopes state line t u out.budget (Err e)
  start-fails e h = refusal {X = Way} u now e (as-whole {X = Way} u now (Err e) (first-fails l.meta first_part (joined run.part end_part) t u out now e (as-start (Err e) h).adds))

  module _ (way : Way) (started : Starts l.meta (length text) (joined start_part (begun text).part) (begun text).place t u out now (Ok way)) (v : Tables) (new : Out) (w : Way) where
    from : Starts l.meta (length text) first_part pass.place t u out now (Ok way)
    from = as-start (Ok way) started

    -- the run that the body makes is the line's
    same-run : line_run (grammar_of l text) (place_at u way) ≡ run
    same-run = ap (line_run (grammar_of l text)) from.stands.place ∙ ap (λ x. line_run (grammar_of l x) pass.place) whole

    as-line : {X : Type 0} (r : Result X LineFault) → Ran l.meta (line_run (grammar_of l text) (place_at u way)) u v now new w r → Ran l.meta run u v now new w r
    as-line r ran = let P : Outcome → Type 0 = λ o. Ran l.meta o u v now new w r in subst P same-run ran

    pub run-fails : {X : Type 0} (e : LineFault) → Ran {X = X} l.meta (line_run (grammar_of l text) (place_at u way)) u v now new w (Err e) → Tokenizes l scopes state line t v out.budget (Err e)
    run-fails {X} e ran =
        let did = as-line (Err e) ran in
        refusal {X = X} v new e (as-whole {X = X} v new (Err e) (then-any l.meta first_part (joined run.part end_part) t u v out now new way (Err e) from.adds (first-fails l.meta run.part end_part u v now new e did.adds)))

    module _ {X : Type 0} (x : X) (empty : out.pieces.items ≡ []) (finds : FindsInText l) (ran : Ran l.meta (line_run (grammar_of l text) (place_at u way)) u v now new w (Ok x)) where
      pieces-are : new.pieces.items ≡ painted l.meta all.part.pieces
      pieces-are =
          (as-line (Ok x) ran).adds.pieces
          ∙ ap (λ q. q ++ painted l.meta run.part.pieces) (from.adds.pieces ∙ ap (λ q. q ++ painted l.meta pass.part.pieces) empty)
          ∙ sym (painted-append l.meta pass.part.pieces run.part.pieces)

      all-reach : length line ≤ furthest (painted l.meta all.part.pieces)
      all-reach =
          let reach = line_run-reach l.meta (grammar_of l (line ++ 10 ∷ [])) (finds (line ++ 10 ∷ [])) pass.place in
          let more = furthest-right l.meta (grammar_of l (line ++ 10 ∷ [])) pass.part.pieces run.part.pieces in
          omega (arith, reach, more, length-append line (10 ∷ []))

      finish-adds : (z : Tables) (r : Result LineOut LineFault) (pieces : List _) (len : ℕ) → Finishes l.meta pieces len run.stack v z r → Adds l.meta end_part v z new new r
      finish-adds z (Ok o) pieces len fin = record { pieces = sym (append-nil new.pieces.items); grows = fin.grows; spends = record { falls = omega arith; most = omega arith }; cause = tt }
      finish-adds z (Err e) pieces len fin = record { pieces = tt; grows = fin.grows; spends = record { falls = omega arith; most = omega arith }; cause = fin.cause new.budget 0 }

      whole-adds : (z : Tables) (r : Result LineOut LineFault) (len : ℕ) → Finishes l.meta new.pieces.items len run.stack v z r → Adds l.meta (joined start_part (joined all.part end_part)) t z out new r
      whole-adds z r len fin = as-whole z new r (then-any l.meta first_part (joined run.part end_part) t u z out now new way r from.adds
          (then-any l.meta run.part end_part u v z now new new x r (as-line (Ok x) ran).adds (finish-adds z r new.pieces.items len fin)))

      pub line-done : (z : Tables) (r : Result LineOut LineFault) (len : ℕ) → len ≡ length text - 1 → Finishes l.meta new.pieces.items len (stack_at v w.stack) v z r → Tokenizes l scopes state line t z out.budget r
      line-done z r len size fin₀ = by_result r fin
        where
          same : len ≡ length line
          same = omega (arith, size, ap length whole, length-append line (10 ∷ []))

          fin : Finishes l.meta new.pieces.items len run.stack v z r
          fin = let P : List Open → Type 0 = λ s. Finishes l.meta new.pieces.items len s v z r in subst P (as-line (Ok x) ran).leads.1 fin₀

          by_result : (r : Result LineOut LineFault) → Finishes l.meta new.pieces.items len run.stack v z r → Tokenizes l scopes state line t z out.budget r
          by_result (Err e) f = refusal z new e (whole-adds z (Err e) len f)
          by_result (Ok o) f = record {
            tokens = f.tokens ∙ ap (λ n. runs_of (meta_at new.pieces.items) (l.meta (top_contents run.stack)) n) same
                ∙ ap (λ q. runs_of (meta_at q) (l.meta (top_contents run.stack)) (length line)) pieces-are
                ∙ runs-painted l.meta all.part.pieces (l.meta (top_contents run.stack)) (length line) all-reach;
            end = f.end;
            grows = (whole-adds z (Ok o) len f).grows;
            cause = tt;
          }

-- Parts of a line, one after the other: four lemmas serve each chain and each loop.
use Rattle.std.proofs.Common.{◌≡◌, ℕ, ◌+◌, ◌<◌, ◌≤◌, ◌++◌, List, [], ◌∷◌, refl, ap, sym, ◌∙◌, arith, subst, append_assoc}
use Rattle.std.specs.Prelude.{Result, Ok, Err}
use Rattle.std.proofs.lemmas.List.{append-nil}
use Rattle.tm_defs.specs.declared.tables.TableFault.TheVariants as table
use Rattle.tm_defs.specs.declared.tokenizer.LineFault.{LineFault}
use Rattle.tm_defs.specs.declared.tokenizer.LineFault.TheVariants as line
use Rattle.tm_defs.specs.Tables.{Tables, TableEntries, GrowsWithin, more_made}
use Rattle.tm_defs.specs.Tokenizer.{IsLineCause}
use Rattle.tm_defs.proofs.Growth.{AreAmong, tables-trans, tables-refl, full-more}
use Rattle.tm_defs.proofs.Chains.{left-among, right-among}
use Rattle.tm_paint.specs.Painted.{Piece}
use Rattle.tm_line_turns.specs.LineRun.{Part, joined, nothing}
use Rattle.tm_line_turns.specs.Painted.{painted}
use Rattle.tm_line_parts.specs.declared.rules.Out.{Out}
use Rattle.tm_line_parts.specs.Adds.{Adds}

pub cause-more : (before now cost whole : ℕ) (few more : TableEntries) (t : Tables) (fault : LineFault) → (now < cost → before < whole) → AreAmong few more →
    IsLineCause now cost few t fault → IsLineCause before whole more t fault
cause-more before now cost whole few more t line.Budget over among h = over h
cause-more before now cost whole few more t (line.TableFull n) over among h = full-more few more t (table.TableFull n) among h
cause-more before now cost whole few more t line.OutOfMemory over among h = tt

-- a part that adds no entry and no step, and paints this
pub paints-alone : {X : Type 0} (meta : List (List ℕ) → ℕ) (part : Part) (t : Tables) (old new : Out) (x : X) → new.pieces.items ≡ old.pieces.items ++ painted meta part.pieces → new.budget ≡ old.budget →
    Adds meta part t t old new (Ok x)
paints-alone meta part t old new x e same = record { pieces = e; grows = tables-refl part.made t; spends = record { falls = omega (arith, same); most = omega (arith, same) }; cause = tt }

-- a refusal for memory of a part that was not begun
pub refused : {X : Type 0} (meta : List (List ℕ) → ℕ) (part : Part) (t : Tables) (old new : Out) → new.budget ≡ old.budget → Adds {X = X} meta part t t old new (Err line.OutOfMemory)
refused meta part t old new same = record { pieces = tt; grows = tables-refl part.made t; spends = record { falls = omega (arith, same); most = omega (arith, same) }; cause = tt }

-- what is there is as good for another value
pub same-part : {X Y : Type 0} (meta : List (List ℕ) → ℕ) (part : Part) (t u : Tables) (old new : Out) (x : X) (y : Y) → Adds meta part t u old new (Ok x) → Adds meta part t u old new (Ok y)
same-part meta part t u old new x y h = record { pieces = h.pieces; grows = h.grows; spends = h.spends; cause = tt }

pub same-fault : {X Y : Type 0} (meta : List (List ℕ) → ℕ) (part : Part) (t u : Tables) (old new : Out) (e : LineFault) → Adds {X = X} meta part t u old new (Err e) → Adds {X = Y} meta part t u old new (Err e)
same-fault meta part t u old new e h = record { pieces = tt; grows = h.grows; spends = h.spends; cause = h.cause }

-- and it stays where memory is refused behind it
pub refused-behind : {X Y : Type 0} (meta : List (List ℕ) → ℕ) (part : Part) (t u : Tables) (old new : Out) (x : X) → Adds meta part t u old new (Ok x) → Adds {X = Y} meta part t u old new (Err line.OutOfMemory)
refused-behind meta part t u old new x h = record { pieces = tt; grows = h.grows; spends = h.spends; cause = tt }

pub painted-append : (meta : List (List ℕ) → ℕ) (a b : List Piece) → painted meta (a ++ b) ≡ painted meta a ++ painted meta b
painted-append meta [] b = refl
painted-append meta (x ∷ xs) b = ap (λ l. record { end = x.end; meta = meta x.scopes } ∷ l) (painted-append meta xs b)

pub among-refl : (a : TableEntries) → AreAmong a a
among-refl a = record { texts = λ x m. m; paths = λ x m. m; states = λ x m. m }

pub among-trans : (a b c : TableEntries) → AreAmong a b → AreAmong b c → AreAmong a c
among-trans a b c h k = record { texts = λ x m. k.texts x (h.texts x m); paths = λ x m. k.paths x (h.paths x m); states = λ x m. k.states x (h.states x m) }

more_made-assoc : (a b c : TableEntries) → more_made (more_made a b) c ≡ more_made a (more_made b c)
more_made-assoc a b c =
    ap (λ l. record { texts = l; paths = (a.paths ++ b.paths) ++ c.paths; states = (a.states ++ b.states) ++ c.states }) (append_assoc a.texts b.texts c.texts)
    ∙ ap (λ l. record { texts = a.texts ++ (b.texts ++ c.texts); paths = l; states = (a.states ++ b.states) ++ c.states }) (append_assoc a.paths b.paths c.paths)
    ∙ ap (λ l. record { texts = a.texts ++ (b.texts ++ c.texts); paths = a.paths ++ (b.paths ++ c.paths); states = l }) (append_assoc a.states b.states c.states)

pub joined-assoc : (a b c : Part) → joined (joined a b) c ≡ joined a (joined b c)
joined-assoc a b c =
    let made : TableEntries = more_made (more_made a.made b.made) c.made in
    let cost : (a.cost + b.cost) + c.cost ≡ a.cost + (b.cost + c.cost) = omega arith in
    ap (λ l. record { pieces = l; made = made; cost = (a.cost + b.cost) + c.cost }) (append_assoc a.pieces b.pieces c.pieces)
    ∙ ap (λ l. record { pieces = a.pieces ++ (b.pieces ++ c.pieces); made = l; cost = (a.cost + b.cost) + c.cost }) (more_made-assoc a.made b.made c.made)
    ∙ ap (λ n. record { pieces = a.pieces ++ (b.pieces ++ c.pieces); made = more_made a.made (more_made b.made c.made); cost = n }) cost

-- of a whole the rest is still to be added
pub record IsBegun (meta : List (List ℕ) → ℕ) (rest all : Part) (t u : Tables) (old now : Out) : Type 0 where
  pub pieces : now.pieces.items ++ painted meta rest.pieces ≡ old.pieces.items ++ painted meta all.pieces
  pub among : AreAmong rest.made all.made
  pub grows : GrowsWithin all.made t u
  pub falls : now.budget ≤ old.budget
  pub most : old.budget + rest.cost ≤ now.budget + all.cost

module _ (meta : List (List ℕ) → ℕ) where
  -- nothing was added yet
  pub begins : (all : Part) (t : Tables) (old : Out) → IsBegun meta all all t t old old
  begins all t old = record {
    pieces = refl;
    among = record { texts = λ x m. m; paths = λ x m. m; states = λ x m. m };
    grows = tables-refl all.made t;
    falls = omega arith;
    most = omega arith;
  }

  -- a part more was added
  pub next : {X : Type 0} (a rest all : Part) (t u v : Tables) (old now new : Out) (x : X) → IsBegun meta (joined a rest) all t u old now → Adds meta a u v now new (Ok x) → IsBegun meta rest all t v old new
  next a rest all t u v old now new x h s =
      let falls = h.falls in
      let most = h.most in
      let less = s.spends.falls in
      let fewer = s.spends.most in
      record {
        pieces = ap (λ l. l ++ painted meta rest.pieces) s.pieces ∙ append_assoc now.pieces.items (painted meta a.pieces) (painted meta rest.pieces)
            ∙ ap (λ l. now.pieces.items ++ l) (sym (painted-append meta a.pieces rest.pieces)) ∙ h.pieces;
        among = among-trans rest.made (more_made a.made rest.made) all.made (right-among a.made rest.made) h.among;
        grows = tables-trans a.made all.made t u v (among-trans a.made (more_made a.made rest.made) all.made (left-among a.made rest.made) h.among) h.grows s.grows;
        falls = omega arith;
        most = omega arith;
      }

  -- a part more was refused
  pub fails : {X Y : Type 0} (a rest all : Part) (t u v : Tables) (old now new : Out) (e : LineFault) → IsBegun meta (joined a rest) all t u old now → Adds {X = X} meta a u v now new (Err e) → Adds {X = Y} meta all t v old new (Err e)
  fails a rest all t u v old now new e h s =
      let falls = h.falls in
      let most = h.most in
      let less = s.spends.falls in
      let fewer = s.spends.most in
      let among = among-trans a.made (more_made a.made rest.made) all.made (left-among a.made rest.made) h.among in
      record {
        pieces = tt;
        grows = tables-trans a.made all.made t u v among h.grows s.grows;
        spends = record { falls = omega arith; most = omega arith };
        cause = cause-more old.budget now.budget a.cost all.cost a.made all.made v e (λ over. omega arith) among s.cause;
      }

  -- the rest was added, or refused
  pub ends : {X Y : Type 0} (rest all : Part) (t u v : Tables) (old now new : Out) (x : X) (y : Y) → IsBegun meta rest all t u old now → Adds meta rest u v now new (Ok x) → Adds meta all t v old new (Ok y)
  ends rest all t u v old now new x y h s =
      let falls = h.falls in
      let most = h.most in
      let less = s.spends.falls in
      let fewer = s.spends.most in
      record {
        pieces = s.pieces ∙ h.pieces;
        grows = tables-trans rest.made all.made t u v h.among h.grows s.grows;
        spends = record { falls = omega arith; most = omega arith };
        cause = tt;
      }

  pub ends-fault : {X Y : Type 0} (rest all : Part) (t u v : Tables) (old now new : Out) (e : LineFault) → IsBegun meta rest all t u old now → Adds {X = X} meta rest u v now new (Err e) → Adds {X = Y} meta all t v old new (Err e)
  ends-fault rest all t u v old now new e h s =
      let falls = h.falls in
      let most = h.most in
      let less = s.spends.falls in
      let fewer = s.spends.most in
      record {
        pieces = tt;
        grows = tables-trans rest.made all.made t u v h.among h.grows s.grows;
        spends = record { falls = omega arith; most = omega arith };
        cause = cause-more old.budget now.budget rest.cost all.cost rest.made all.made v e (λ over. omega arith) h.among s.cause;
      }

  pub ends-any : {X : Type 0} (rest all : Part) (t u v : Tables) (old now new : Out) (r : Result X LineFault) → IsBegun meta rest all t u old now → Adds meta rest u v now new r → Adds meta all t v old new r
  ends-any rest all t u v old now new (Ok x) h s = ends rest all t u v old now new x x h s
  ends-any rest all t u v old now new (Err e) h s = ends-fault rest all t u v old now new e h s

  -- nothing is left
  pub whole : {X : Type 0} (all : Part) (t u : Tables) (old now : Out) (x : X) → IsBegun meta nothing all t u old now → Adds meta all t u old now (Ok x)
  whole all t u old now x h =
      let falls = h.falls in
      let most = h.most in
      record {
        pieces = sym (append-nil now.pieces.items) ∙ h.pieces;
        grows = h.grows;
        spends = record { falls = falls; most = omega arith };
        cause = tt;
      }

  -- an end that is refused for memory
  pub refuses : {X : Type 0} (rest all : Part) (t u : Tables) (old now new : Out) → IsBegun meta rest all t u old now → new.budget ≡ now.budget → Adds {X = X} meta all t u old new (Err line.OutOfMemory)
  refuses rest all t u old now new h same =
      let falls = h.falls in
      let most = h.most in
      record { pieces = tt; grows = h.grows; spends = record { falls = omega (arith, same); most = omega (arith, same) }; cause = tt }

  pub reassoc : (a b c all : Part) (t u : Tables) (old now : Out) → IsBegun meta (joined (joined a b) c) all t u old now → IsBegun meta (joined a (joined b c)) all t u old now
  reassoc a b c all t u old now h = let P : Part → Type 0 = λ x. IsBegun meta x all t u old now in subst P (joined-assoc a b c) h

  -- a chain whose first part is refused, and one whose first part was added
  pub first-fails : {X Y : Type 0} (a rest : Part) (t u : Tables) (old new : Out) (e : LineFault) → Adds {X = X} meta a t u old new (Err e) → Adds {X = Y} meta (joined a rest) t u old new (Err e)
  first-fails a rest t u old new e h = fails a rest (joined a rest) t t u old old new e (begins (joined a rest) t old) h

  pub then-any : {X Y : Type 0} (a b : Part) (t u v : Tables) (old now new : Out) (x : X) (r : Result Y LineFault) → Adds meta a t u old now (Ok x) → Adds meta b u v now new r → Adds meta (joined a b) t v old new r
  then-any a b t u v old now new x r h k = ends-any b (joined a b) t u v old now new r (next a b (joined a b) t t u old old now x (begins (joined a b) t old) h) k

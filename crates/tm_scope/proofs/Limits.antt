-- Tables that grew twice within a limit, and refusals for more entries.
use Rattle.std.proofs.Common.{◌≡◌, ℕ, ◌≤◌, List, length, Contains, inl, inr, refl, ◌∙◌, arith}
use Rattle.tm_defs.specs.Tables.{Tables, TableEntries, IsNumbering, IsFullForSome, LacksOne}
use Rattle.tm_defs.specs.declared.tables.TableFault.{TableFault}
use Rattle.tm_defs.specs.declared.tables.TableFault.TheVariants.{TableFull, OutOfMemory}
use Rattle.tm_defs.proofs.Growth.{AreAmong}
use Rattle.tm_scope.specs.Numbered.{KeepsLimit}
use Rattle.tm_scope.specs.Entries.{KeepsLimits, LacksOneAt, IsFullFor}

limit-trans : (limit a b c : ℕ) → KeepsLimit limit a b → KeepsLimit limit b c → KeepsLimit limit a c
limit-trans limit a b c (inl e) (inl f) = inl (f ∙ e)
limit-trans limit a b c (inr h) (inl f) = inr (omega arith)
limit-trans limit a b c h (inr k) = inr k

pub limits-refl : (limit : ℕ) (t : Tables) → KeepsLimits limit t t
limits-refl limit t = record { texts = inl refl; paths = inl refl; states = inl refl }

pub limits-trans : (limit : ℕ) (t u v : Tables) → KeepsLimits limit t u → KeepsLimits limit u v → KeepsLimits limit t v
limits-trans limit t u v h k = record {
  texts = limit-trans limit (length t.texts) (length u.texts) (length v.texts) h.texts k.texts;
  paths = limit-trans limit (length t.paths) (length u.paths) (length v.paths) h.paths k.paths;
  states = limit-trans limit (length t.states) (length u.states) (length v.states) h.states k.states;
}

lacks-among : {X : Type 0} (n : ℕ) (few more xs : List X) → ((x : X) → Contains few x → Contains more x) → LacksOneAt n few xs → LacksOneAt n more xs
lacks-among n few more xs sub h = (h.0, (h.1.0, sub h.1.0 h.1.1, h.1.2))

pub full-among : (n : ℕ) (few more : TableEntries) (t : Tables) (fault : TableFault) → AreAmong few more → IsFullFor n few t fault → IsFullFor n more t fault
full-among n few more t OutOfMemory sub h = tt
full-among n few more t (TableFull m) sub (e, inl h) = (e, inl (lacks-among n few.texts more.texts t.texts sub.texts h))
full-among n few more t (TableFull m) sub (e, inr (inl h)) = (e, inr (inl (lacks-among n few.paths more.paths t.paths sub.paths h)))
full-among n few more t (TableFull m) sub (e, inr (inr h)) = (e, inr (inr (lacks-among n few.states more.states t.states sub.states h)))

lacks-some : {X : Type 0} (m n most : ℕ) (made xs : List X) → m ≡ n → n ≡ most → length xs ≤ most → LacksOneAt n made xs → LacksOne m made xs
lacks-some m n most made xs e same low h = (omega (arith, h.0), h.1)

-- at the limit of a numbering
pub full-some : (made : TableEntries) (t : Tables) (n : ℕ) (fault : TableFault) → n ≡ t.limit → IsNumbering t → IsFullFor n made t fault → IsFullForSome made t fault
full-some made t n OutOfMemory same num h = tt
full-some made t n (TableFull m) same num (e, inl h) = (e ∙ same, inl (lacks-some m n t.limit made.texts t.texts e same num.texts_within h))
full-some made t n (TableFull m) same num (e, inr (inl h)) = (e ∙ same, inr (inl (lacks-some m n t.limit made.paths t.paths e same num.paths_within h)))
full-some made t n (TableFull m) same num (e, inr (inr h)) = (e ∙ same, inr (inr (lacks-some m n t.limit made.states t.states e same num.states_within h)))

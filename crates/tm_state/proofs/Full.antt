-- A refusal at the limit of a numbering.
use Rattle.std.proofs.Common.{◌≡◌, ℕ, Result, Ok, Err}
use Rattle.std.specs.Prelude.{IfErr}
use Rattle.tm_defs.specs.Tables.{Tables, TableEntries, IsNumbering, IsFullForSome}
use Rattle.tm_defs.specs.declared.tables.TableFault.{TableFault}
use Rattle.tm_scope.specs.Entries.{IsFullFor}
use Rattle.tm_scope.proofs.Limits.{full-some}

pub err-full-some : {V : Type 0} (r : Result V TableFault) (made : TableEntries) (t : Tables) (n : ℕ) → n ≡ t.limit → IsNumbering t → IfErr r (IsFullFor n made t) → IfErr r (IsFullForSome made t)
err-full-some (Ok v) made t n same num h = tt
err-full-some (Err fault) made t n same num h = full-some made t n fault same num h

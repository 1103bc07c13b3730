use Rattle.std.proofs.Common.{◌∙◌, sym}
use Rattle.tm_scope.proofs.Pushed.{count-paths}
use Rattle.tm_scope.proofs.scopes.ScopeTable.list_count.Goals as goal

pub returns : goal.returns
returns c = rw (← c.self.view_is) (c.taken.ensures ∙ sym (count-paths c.self.inside.texts c.self.inside.lists c.self.inside.limit c.self.invariant))

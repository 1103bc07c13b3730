use Rattle.std.proofs.Common.{rules, ◌≡◌, [], false, List, ℕ, get_or, slice_get, flat_map, IsTrue, ap, sym, subst, ◌∙◌}
use Rattle.tm_rules.specs.Candidates.{flattened}
use Rattle.tm_rules.specs.Readers.{patterns_of}
use Rattle.tm_rules.specs.inner.Made.{AreKnown}
use Rattle.tm_rules.proofs.Ordered.{flattened-known, ordered-more}
use Rattle.tm_rules.proofs.only_lists.OnlyLists.make.Goals as goal

pub put-requires-clause-list : goal.put-requires-clause-list
put-requires-clause-list c =
    let pats : patterns_of (slice_get c.args.self.now.rules.now c.args.number) ≡ c.in-Some.patterns.now = c.in-Some.ensures.1 in
    let bare : get_or c.args.self.now.made.items c.args.number false ≡ false = sym (rw c.as_slice.ensures.value at c.is_marked.ensures) ∙ c.if-is_marked.false in
    let is : IsTrue c.are_known.result = search rules in
    let known : AreKnown c.args.self.now.rules.now c.args.self.now.made.items (patterns_of (slice_get c.args.self.now.rules.now c.args.number)) =
    subst (λ (ps : List ℕ). AreKnown c.args.self.now.rules.now c.args.self.now.made.items ps) (sym pats) (c.are_known.ensures is) in
    let made : c.from_vec.result ≡ flat_map (flattened c.args.self.now.rules.now []) c.in-Some.patterns.now = search rules in
    made ∙ ap (flat_map (flattened c.args.self.now.rules.now [])) (sym pats)
    ∙ sym (flattened-known c.args.self.now.rules.now c.args.self.now c.args.number c.requires c.in-Some.ensures.0 bare known)

pub returns-clause-ordered : goal.returns-clause-ordered
returns-clause-ordered c =
    let pats : patterns_of (slice_get c.args.self.now.rules.now c.args.number) ≡ c.in-Some.patterns.now = c.in-Some.ensures.1 in
    let bare : get_or c.args.self.now.made.items c.args.number false ≡ false = sym (rw c.as_slice.ensures.value at c.is_marked.ensures) ∙ c.if-is_marked.false in
    let is : IsTrue c.are_known.result = search rules in
    let known : AreKnown c.args.self.now.rules.now c.args.self.now.made.items (patterns_of (slice_get c.args.self.now.rules.now c.args.number)) =
    subst (λ (ps : List ℕ). AreKnown c.args.self.now.rules.now c.args.self.now.made.items ps) (sym pats) (c.are_known.ensures is) in
    ordered-more c.args.self.now.rules.now c.args.self.now c.args.number c.requires c.in-Some.ensures.0 bare known c.put.new.self c.put.ensures.made c.put.ensures.marks

use Rattle.std.proofs.Common.{ap, ◌∙◌, ◌++◌, ◌∷◌, []}
use Rattle.conform.proofs.Makings.{an_invariant, a_union_left, stepped}
use Rattle.conform.proofs.testing.Testing.next_test.Goals as goal

pub returns-in-Some-Holds : goal.returns-in-Some-Holds
returns-in-Some-Holds g c =
    an_invariant (g.N.TypeNames.found c.args.names.now) (g.N.TypeNames.descends c.args.names.now) (g.N.TypeNames.rank c.args.names.now) c.args.self.now.waiting.items c.push.new.self.items c.pop.new.self c.args.tests.items c.in-Some-Holds.definition c.in-Some-Holds.value
    c.in_ok-push-in-Some-Holds.ensures.items (c.in-Some-Holds.ensures.items ∙ ap (λ t. c.pop.new.self.items ++ t ∷ []) c.in-Some-Holds.field-0-is)

pub returns-in-Some-OneHolds : goal.returns-in-Some-OneHolds
returns-in-Some-OneHolds g c =
    stepped (g.N.TypeNames.found c.args.names.now) (g.N.TypeNames.descends c.args.names.now) (g.N.TypeNames.rank c.args.names.now) c.try_types.result _ _ _ _
    (a_union_left (g.N.TypeNames.found c.args.names.now) (g.N.TypeNames.descends c.args.names.now) (g.N.TypeNames.rank c.args.names.now) c.args.self.now.waiting.items c.push-in-Some-OneHolds.new.self.items c.pop.new.self c.args.tests.items c.in-Some-OneHolds.scope
    c.in-Some-OneHolds.types c.in-Some-OneHolds.value c.in_ok-push-in-Some-OneHolds.ensures.items (c.in-Some-OneHolds.ensures.items ∙ ap (λ t. c.pop.new.self.items ++ t ∷ []) c.in-Some-OneHolds.field-0-is))
    c.try_types.ensures

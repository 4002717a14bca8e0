use Rattle.std.proofs.Common.{◌∙◌}
use Rattle.conform.proofs.Makings.{follows_last, asked, went_on}
use Rattle.conform.proofs.testing.Testing.next.Goals as goal

pub returns-in-Some-2 : goal.returns-in-Some-2
returns-in-Some-2 g c =
    asked (g.N.TypeNames.found c.args.names.now) (g.N.TypeNames.descends c.args.names.now) (g.N.TypeNames.rank c.args.names.now) _ c.in-Some-2.definition c.in-Some-2.value _ _ _ _ c.in-Some-2.is c.in_ok-definition-in-Some.ensures
    (follows_last (g.N.TypeNames.found c.args.names.now) (g.N.TypeNames.descends c.args.names.now) (g.N.TypeNames.rank c.args.names.now) c.loop-step.self.waiting.items c.pop.new.self.items c.in-Some.waiting c.loop-step.self.holds c.in-Some.ensures.items ∙ c.loop-step.invariant)

pub loop-step-preserved : goal.loop-step-preserved
loop-step-preserved g c =
    went_on (g.N.TypeNames.found c.args.names.now) (g.N.TypeNames.descends c.args.names.now) (g.N.TypeNames.rank c.args.names.now) _ _ _ _ _ c.in-None-2.is c.in_ok-definition-in-Some.ensures
    (follows_last (g.N.TypeNames.found c.args.names.now) (g.N.TypeNames.descends c.args.names.now) (g.N.TypeNames.rank c.args.names.now) c.loop-step.self.waiting.items c.pop.new.self.items c.in-Some.waiting c.loop-step.self.holds c.in-Some.ensures.items ∙ c.loop-step.invariant)

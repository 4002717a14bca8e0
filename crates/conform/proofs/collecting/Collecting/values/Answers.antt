use Rattle.conform.proofs.OneByOne.{a_value, no_value}
use Rattle.conform.proofs.collecting.Collecting.values.Goals as goal

pub returns-in_ok-push-in-Some : goal.returns-in_ok-push-in-Some
returns-in_ok-push-in-Some g c =
    a_value (g.N.TypeNames.found c.args.names.now) (g.N.TypeNames.descends c.args.names.now) (g.N.TypeNames.rank c.args.names.now) c.args.self.now.found.items _ _ _ _ c.in-Some.value _ _ c.in_ok-push-in-Some.ensures.items c.in-Some.ensures.cases.0

pub returns-in-None : goal.returns-in-None
returns-in-None g c =
    no_value (g.N.TypeNames.found c.args.names.now) (g.N.TypeNames.descends c.args.names.now) (g.N.TypeNames.rank c.args.names.now) c.args.self.now.found.items c.args.self.now.frames.items c.args.scope c.args.declared.now c.args.values.now c.in-None.ensures.cases

use Rattle.conform.proofs.OneByOne.{a_factor, no_factor}
use Rattle.conform.proofs.collecting.Collecting.factors.Goals as goal

pub returns-in_ok-push-in-Some-Some : goal.returns-in_ok-push-in-Some-Some
returns-in_ok-push-in-Some-Some g c =
    a_factor (g.N.TypeNames.found c.args.names.now) (g.N.TypeNames.descends c.args.names.now) (g.N.TypeNames.rank c.args.names.now) c.args.self.now.found.items _ _ _ c.in-Some-Some.declared _ _ c.in-Some-Some.value _ _ c.in_ok-push-in-Some-Some.ensures.items
    c.in-Some-Some.ensures.cases.0 c.in-Some-Some.ensures'.cases.0

pub returns-in-None-None : goal.returns-in-None-None
returns-in-None-None g c =
    no_factor (g.N.TypeNames.found c.args.names.now) (g.N.TypeNames.descends c.args.names.now) (g.N.TypeNames.rank c.args.names.now) c.args.self.now.found.items c.args.self.now.frames.items c.args.scope c.args.types.now c.args.values.now c.in-None-None.ensures.cases c.in-None-None.ensures'.cases

use Rattle.conform.proofs.Unions.{own_found, no_own}
use Rattle.conform.proofs.collecting.Collecting.own.Goals as goal

pub returns-in_ok-push-in-Some : goal.returns-in_ok-push-in-Some
returns-in_ok-push-in-Some g c =
    own_found (g.N.TypeNames.found c.args.names.now) (g.N.TypeNames.descends c.args.names.now) (g.N.TypeNames.rank c.args.names.now) c.args.self.now.frames.items c.args.self.now.found.items c.push.new.self.items c.args.definition c.args.value.now
    c.in_ok-value-in-Some.value _ c.in_ok-push-in-Some.ensures.items c.in_ok-value-in-Some.ensures c.in-Some.is

pub returns-in-None : goal.returns-in-None
returns-in-None g c =
    no_own (g.N.TypeNames.found c.args.names.now) (g.N.TypeNames.descends c.args.names.now) (g.N.TypeNames.rank c.args.names.now) c.args.self.now.frames.items c.args.self.now.found.items c.args.definition.now c.args.value.now c.in-None.is

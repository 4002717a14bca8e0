use Rattle.std.proofs.Common.{refl}
use Rattle.conform.proofs.OneByOne.{a_field, no_field}
use Rattle.conform.proofs.collecting.Collecting.fields.Goals as goal

pub returns-in_ok-push-in-Some-Some : goal.returns-in_ok-push-in-Some-Some
returns-in_ok-push-in-Some-Some g c =
    a_field (g.N.TypeNames.found c.args.names.now) (g.N.TypeNames.descends c.args.names.now) (g.N.TypeNames.rank c.args.names.now) c.args.self.now.found.items _ _ _ c.in-Some-Some.field.now (record { ref_ptr = (0, 0); now = c.in-Some-Some.field.now.declared }) _ _ c.in-Some-Some.value _ _ c.in_ok-push-in-Some-Some.ensures.items
    c.in-Some-Some.ensures.cases.0 refl c.in-Some-Some.ensures'.cases.0

pub returns-in-None-None : goal.returns-in-None-None
returns-in-None-None g c =
    no_field (g.N.TypeNames.found c.args.names.now) (g.N.TypeNames.descends c.args.names.now) (g.N.TypeNames.rank c.args.names.now) c.args.self.now.found.items c.args.self.now.frames.items c.args.scope c.args.fields.now c.args.values.now c.in-None-None.ensures.cases c.in-None-None.ensures'.cases

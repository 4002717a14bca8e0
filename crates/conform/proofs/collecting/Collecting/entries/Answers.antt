use Rattle.std.proofs.Common.{refl}
use Rattle.conform.proofs.OneByOne.{a_key, no_entry}
use Rattle.conform.proofs.collecting.Collecting.entries.Goals as goal

pub returns-in_ok-push-in-Some : goal.returns-in_ok-push-in-Some
returns-in_ok-push-in-Some g c =
    a_key (g.N.TypeNames.found c.args.names.now) (g.N.TypeNames.descends c.args.names.now) (g.N.TypeNames.rank c.args.names.now) c.args.self.now.found.items _ _ _ _ _ (record { ref_ptr = (0, 0); now = c.in-Some.entry.now.0 }) _ _ _ _ c.in_ok-push-in-Some.ensures.items c.in-Some.ensures.cases.0 refl refl

pub returns-in-None : goal.returns-in-None
returns-in-None g c =
    no_entry (g.N.TypeNames.found c.args.names.now) (g.N.TypeNames.descends c.args.names.now) (g.N.TypeNames.rank c.args.names.now) c.args.self.now.found.items c.args.self.now.frames.items c.args.scope c.args.key.now c.args.declared.now c.args.entries.now c.in-None.ensures.cases

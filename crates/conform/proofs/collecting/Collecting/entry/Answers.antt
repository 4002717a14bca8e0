use Rattle.conform.proofs.OneByOne.{its_value}
use Rattle.conform.proofs.collecting.Collecting.entry.Goals as goal

pub returns : goal.returns
returns g c =
    its_value (g.N.TypeNames.found c.args.names.now) (g.N.TypeNames.descends c.args.names.now) (g.N.TypeNames.rank c.args.names.now) c.args.self.now.found.items _ _ _ _ _ c.args.value _ c.in_ok-push.ensures.items

use Rattle.std.proofs.Common.{nat_eq}
use Rattle.std.specs.HashMap.{get}
use Rattle.patterns.proofs.Standing.{finds_fewer}
use Rattle.patterns.proofs.names.Names.cut.Goals as goal

pub invariant_of-self : goal.invariant_of-self
invariant_of-self c = record {
  finds = finds_fewer c.args.self.now.bounds.items _ c.args.kept (get nat_eq c.args.self.now.places) c.args.self.now.finds c.truncate.ensures.items;
}

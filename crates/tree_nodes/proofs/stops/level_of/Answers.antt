use Rattle.std.proofs.Common.{arith}
use Rattle.tree_nodes.proofs.Levels.{level-most}
use Rattle.tree_nodes.proofs.stops.level_of.Goals as goal

pub returns-clause-most : goal.returns-clause-most
returns-clause-most c = let most = level-most c.args.sign in omega arith

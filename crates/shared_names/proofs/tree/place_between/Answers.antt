use Rattle.std.proofs.Common.{arith}
use Rattle.shared_names.proofs.Places.{bits_differ}
use Rattle.shared_names.proofs.tree.place_between.Goals as goal

pub returns : goal.returns
returns c = bits_differ c.args.a c.args.b (omega arith) (omega arith) c.requires

use Rattle.stmt_front_reader.proofs.Counting.{few}
use Rattle.stmt_front_reader.proofs.open_nodes.OpenNodes.are_too_many.Goals as goal

pub returns-else-len : goal.returns-else-len
returns-else-len c = few c.args.self.now c.len.result c.len.ensures c.if-len.false

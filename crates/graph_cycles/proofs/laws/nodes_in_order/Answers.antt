use Rattle.graph_cycles.proofs.Orders.{once, most, all}
use Rattle.graph_cycles.proofs.laws.nodes_in_order.Goals as goal

pub returns-clause-once : goal.returns-clause-once
returns-clause-once c = once

pub returns-clause-most : goal.returns-clause-most
returns-clause-most c = most

pub returns-clause-all : goal.returns-clause-all
returns-clause-all c = all

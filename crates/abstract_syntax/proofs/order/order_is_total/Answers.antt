use Rattle.abstract_syntax.specs.ValueOrderTotal.{order_of_itself, order_turns, order_chains, value_order_total, equal_where_same}
use Rattle.abstract_syntax.proofs.order.order_is_total.Goals as goal

pub returns-clause-itself : goal.returns-clause-itself
returns-clause-itself c = order_of_itself

pub returns-clause-turns : goal.returns-clause-turns
returns-clause-turns c = order_turns

pub returns-clause-chains : goal.returns-clause-chains
returns-clause-chains c = order_chains

pub returns-clause-total : goal.returns-clause-total
returns-clause-total c = value_order_total

pub returns-clause-apart : goal.returns-clause-apart
returns-clause-apart c = equal_where_same

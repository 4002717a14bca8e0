use Rattle.abstract_syntax.proofs.RisingLaws.{rising_rises, rising_keeps, rising_once}
use Rattle.abstract_syntax.specs.ValueOrderTotal.{value_order_total, same_from_order}
use Rattle.abstract_syntax.proofs.sets.sets_are_told_by_their_members.Goals as goal

pub returns-clause-rises : goal.returns-clause-rises
returns-clause-rises c = rising_rises value_order_total same_from_order

pub returns-clause-members : goal.returns-clause-members
returns-clause-members c = rising_keeps value_order_total same_from_order

pub returns-clause-once : goal.returns-clause-once
returns-clause-once c = rising_once value_order_total same_from_order

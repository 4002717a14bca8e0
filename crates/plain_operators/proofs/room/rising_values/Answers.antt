use Rattle.std.proofs.Common.{[], sym, subst}
use Rattle.std.specs.List.Sorted.{IsStrictlySortedBy}
use Rattle.abstract_syntax.specs.ValueOrder.{value_order}
use Rattle.abstract_syntax.specs.ValueOrderTotal.{value_order_total, same_from_order}
use Rattle.abstract_syntax.proofs.RisingLaws.{rising_rises}
use Rattle.plain_operators.proofs.room.rising_values.Goals as goal

pub returns-in-Ok : goal.returns-in-Ok
returns-in-Ok c = subst (IsStrictlySortedBy value_order) (sym c.in-Ok.ensures) (rising_rises value_order_total same_from_order c.args.values.items)

pub returns-in-Err : goal.returns-in-Err
returns-in-Err c = subst (IsStrictlySortedBy value_order) (sym c.new.ensures.items) (rising_rises value_order_total same_from_order [])

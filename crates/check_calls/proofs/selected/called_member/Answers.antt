use Rattle.check_calls.proofs.selected.called_member.Goals as goal

pub returns-in-Operation : goal.returns-in-Operation
returns-in-Operation c = rw c.in-Operation.is c.called_operation.ensures

pub returns-in-Variable : goal.returns-in-Variable
returns-in-Variable c = rw c.in-Variable.is c.called_variable.ensures

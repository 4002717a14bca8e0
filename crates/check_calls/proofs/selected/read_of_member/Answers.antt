use Rattle.check_calls.proofs.selected.read_of_member.Goals as goal

pub returns-in-Variable : goal.returns-in-Variable
returns-in-Variable c = rw c.in-Variable.is c.read_of_variable.ensures

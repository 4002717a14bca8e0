use Rattle.check_names.proofs.names.old_member.Goals as goal

pub returns-in-Variable : goal.returns-in-Variable
returns-in-Variable c = rw c.in-Variable.is c.read_variable.ensures

use Rattle.check_calls.proofs.selected.of_alternative.Goals as goal

pub returns-in-Record : goal.returns-in-Record
returns-in-Record c = rw c.in-Record.is c.of_record.ensures

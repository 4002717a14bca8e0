use Rattle.check_calls.proofs.selected.used_field.Goals as goal

pub returns-in-Applied : goal.returns-in-Applied
returns-in-Applied c = rw c.in-Applied.is c.applied_field.ensures

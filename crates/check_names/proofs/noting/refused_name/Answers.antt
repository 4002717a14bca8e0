use Rattle.check_names.proofs.Notes.{told_refused}
use Rattle.check_names.proofs.noting.refused_name.Goals as goal

pub returns : goal.returns
returns c = told_refused _ _ c.args.kind c.args.place _ c.refuse.ensures c.any.ensures

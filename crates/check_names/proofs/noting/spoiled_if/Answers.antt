use Rattle.check_names.proofs.Notes.{note_if}
use Rattle.check_names.proofs.noting.spoiled_if.Goals as goal

pub returns : goal.returns
returns c = note_if _ _ c.args.refused c.args.kind c.args.place c.requires c.refuse_if.ensures

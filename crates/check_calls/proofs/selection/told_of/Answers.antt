use Rattle.check_calls.proofs.Selections.{found_calls}
use Rattle.check_calls.proofs.selection.told_of.Goals as goal

pub returns : goal.returns
returns c = λ tree e. found_calls _ _ _ c.args.found.callee tree e c.refuse_first.ensures

use Rattle.vdm_meaning.proofs.OneRun.{behind_no_end}
use Rattle.vdm_meaning.proofs.laws.nothing_stands_behind_an_end.Goals as goal

pub returns : goal.returns
returns c = behind_no_end

-- How the program says that a run ends, in the words of the meaning.
use Rattle.vdm_legal.specs.Finishes.{Finish as Meant, ended, failed}
use Rattle.plain_state.specs.declared.finish.Finish.{Finish}
use Rattle.plain_state.specs.declared.finish.Finish.TheVariants.{Ended, Failed}

abbrev pub finishes : Finish → Meant
finishes (Ended value) = ended value
finishes (Failed fault exit thread place) = failed fault exit thread place

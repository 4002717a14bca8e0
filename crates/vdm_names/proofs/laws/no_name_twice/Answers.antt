use Rattle.vdm_names.proofs.NameLemmas.{IsDistinct-built_in_names, IsDistinct-with_name}
use Rattle.vdm_names.proofs.laws.no_name_twice.Goals as goal

pub returns : goal.returns
returns c = record { built_in = IsDistinct-built_in_names; further = IsDistinct-with_name }

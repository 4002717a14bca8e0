use Rattle.vdm_names.proofs.NameLemmas.{number_in-with_name, number_in-with_name-below, slice_get-with_name}
use Rattle.vdm_names.proofs.laws.names_are_found.Goals as goal

pub returns : goal.returns
returns c = record { kept = number_in-with_name; within = number_in-with_name-below; found = slice_get-with_name }

use Rattle.std.proofs.Common.{pos}
use Rattle.operator_laws.proofs.Replacements.{replaced_length, replaced_item}
use Rattle.operator_laws.proofs.sequence_laws.overridden_sequences_have_the_maps_values.Goals as goal

pub returns-clause-length : goal.returns-clause-length
returns-clause-length c = λ ps vs. replaced_length ps (pos 1) vs

pub returns-clause-item : goal.returns-clause-item
returns-clause-item c = replaced_item

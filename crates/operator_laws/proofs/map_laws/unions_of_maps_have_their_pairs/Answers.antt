use Rattle.operator_laws.proofs.MapPairs.{union_pairs, merged_pairs, inverse_pairs, conflict_is_fault, free_is_joined}
use Rattle.operator_laws.proofs.map_laws.unions_of_maps_have_their_pairs.Goals as goal

pub returns-clause-union : goal.returns-clause-union
returns-clause-union c = union_pairs

pub returns-clause-merge : goal.returns-clause-merge
returns-clause-merge c = merged_pairs

pub returns-clause-inverse : goal.returns-clause-inverse
returns-clause-inverse c = inverse_pairs

pub returns-clause-conflict : goal.returns-clause-conflict
returns-clause-conflict c = conflict_is_fault

pub returns-clause-free : goal.returns-clause-free
returns-clause-free c = free_is_joined

use Rattle.std.proofs.Common.{refl}
use Rattle.stmt_fronts.proofs.worked.worked_depths.Goals as goal

pub returns-clause-blocks : goal.returns-clause-blocks
returns-clause-blocks c = refl

pub returns-clause-blocks_too_many : goal.returns-clause-blocks_too_many
returns-clause-blocks_too_many c = refl

pub returns-clause-call_in_blocks : goal.returns-clause-call_in_blocks
returns-clause-call_in_blocks c = refl

pub returns-clause-call_too_deep : goal.returns-clause-call_too_deep
returns-clause-call_too_deep c = refl

pub returns-clause-applications : goal.returns-clause-applications
returns-clause-applications c = refl

pub returns-clause-call_of_applications : goal.returns-clause-call_of_applications
returns-clause-call_of_applications c = refl

pub returns-clause-applications_too_deep : goal.returns-clause-applications_too_deep
returns-clause-applications_too_deep c = refl

pub returns-clause-steps_are_no_nodes : goal.returns-clause-steps_are_no_nodes
returns-clause-steps_are_no_nodes c = refl

pub returns-clause-ifs : goal.returns-clause-ifs
returns-clause-ifs c = refl

pub returns-clause-ifs_too_many : goal.returns-clause-ifs_too_many
returns-clause-ifs_too_many c = refl

pub returns-clause-whiles_too_many : goal.returns-clause-whiles_too_many
returns-clause-whiles_too_many c = refl

pub returns-clause-traps : goal.returns-clause-traps
returns-clause-traps c = refl

pub returns-clause-traps_too_many : goal.returns-clause-traps_too_many
returns-clause-traps_too_many c = refl

pub returns-clause-expression_inside : goal.returns-clause-expression_inside
returns-clause-expression_inside c = refl

pub returns-clause-expression_too_deep : goal.returns-clause-expression_too_deep
returns-clause-expression_too_deep c = refl

pub returns-clause-from_nothing_in_a_class : goal.returns-clause-from_nothing_in_a_class
returns-clause-from_nothing_in_a_class c = refl

pub returns-clause-too_deep_in_a_class : goal.returns-clause-too_deep_in_a_class
returns-clause-too_deep_in_a_class c = refl

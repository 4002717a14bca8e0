use Rattle.value_parts.proofs.BindingObjects.{first_binding_keeps, binding_of_list_keeps}
use Rattle.value_parts.proofs.laws.bindings_invent_no_objects.Goals as goal

pub returns-clause-one : goal.returns-clause-one
returns-clause-one g c = first_binding_keeps g.T.ObjectProperty.holds

pub returns-clause-list : goal.returns-clause-list
returns-clause-list g c = binding_of_list_keeps g.T.ObjectProperty.holds

-- The components of a tuple.
use Rattle.std.proofs.Common.{◌≡◌, ℤ, ap, ◌∙◌}
use Rattle.vdm_values.specs.declared.value.Node.{Node}
use Rattle.vdm_values.specs.declared.value.Node.TheVariants.{Tuple}
use Rattle.vdm_values.specs.Tree.{tree_of}
use Rattle.abstract_syntax.specs.Values.{ValueTree, value_list-value_trees}
use Rattle.value_operators.specs.Sequences.{at_position}
use Rattle.node_meaning.specs.Strict.{there, component}

pub component_is : (n : ℤ) (v : ValueTree) (node : Node) (vs : _) → v ≡ tree_of node → node ≡ Tuple vs → component n v ≡ there (at_position vs.items n)
component_is n v node vs e h = ap (component n) (e ∙ ap tree_of h) ∙ ap (λ us. there (at_position us n)) (value_list-value_trees vs.items)

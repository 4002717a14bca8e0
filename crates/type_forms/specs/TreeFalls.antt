-- Each part of a form has fewer nodes than the form.
use Rattle.std.specs.Prelude.{◌≤◌, ◌+◌, max, List, [], ◌∷◌}
use Rattle.std.proofs.Common.{arith}
use Rattle.type_forms.specs.declared.form.Node.{Node}
use Rattle.type_forms.specs.declared.form.Node.TheVariants.{OneOf}
use Rattle.type_forms.specs.declared.form.Alt.{Alt}
use Rattle.type_forms.specs.declared.form.Alt.TheVariants.{Tuple, Seq, Set, Map}
use Rattle.type_forms.specs.declared.form.Form.TheDeep.{deep-Node, deep-Alt}
use Rattle.form_meaning.specs.Forms.{FormTree}
use Rattle.type_forms.specs.Sizes.{nodes_of, nodes_of_alt, nodes_of_alts, nodes_of_forms}
use Rattle.type_forms.specs.Tree.{tree_of, alt_of, alt_trees, form_trees}
use denote.Param.Weighed.{most}

-- no form of a list has more nodes than all of them together
most_le-nodes_of_forms : (forms : List FormTree) → most (λ form. nodes_of form + 1) forms ≤ nodes_of_forms (form_trees forms) + 1
most_le-nodes_of_forms [] = omega arith
most_le-nodes_of_forms (form ∷ forms) = omega (arith, most_le-nodes_of_forms forms)

-- no part of an alternative is deeper than it has nodes
deep-alt_of : (a : Alt) → deep-Alt a ≤ nodes_of_alt (alt_of a)
deep-alt_of (Tuple parts) = omega (arith, most_le-nodes_of_forms parts.items)
deep-alt_of (Seq items) = omega arith
deep-alt_of (Set elements) = omega arith
deep-alt_of (Map keys values) = omega arith
deep-alt_of _ = omega arith

-- no alternative of a list is deeper than all of them have nodes
most_le-nodes_of_alts : (alternatives : List Alt) → most deep-Alt alternatives ≤ nodes_of_alts (alt_trees alternatives)
most_le-nodes_of_alts [] = omega arith
most_le-nodes_of_alts (a ∷ alternatives) = omega (arith, deep-alt_of a, most_le-nodes_of_alts alternatives)

-- no part is deeper than the form has nodes
pub deep-tree_of : (n : Node) → max (deep-Node n) 0 ≤ nodes_of (tree_of n)
deep-tree_of (OneOf alternatives) = omega (arith, most_le-nodes_of_alts alternatives.value.items)
deep-tree_of _ = omega arith

use Rattle.std.proofs.Common.{◌≡◌, ◌+◌, ◌*◌, drop}
use Rattle.form_meaning.specs.Forms.{followed_by}
use Rattle.type_forms.specs.Sizes.{nodes_of, nodes_of_alt, nodes_of_alts, nodes_of_forms}
use Rattle.type_forms.specs.Tree.{alt_of, alt_trees, form_trees}
use Rattle.type_forms.specs.JoinedAgain.{each_joined, parts_joined}
use Rattle.type_forms.proofs.Lists.{forms_then}
use Rattle.type_forms.proofs.joining.+joining.Given as goal

abbrev pub decreases-joined_with : goal.decreases-joined_with
decreases-joined_with l = 4 * nodes_of l.known.now

abbrev pub decreases-each_joined : goal.decreases-each_joined
decreases-each_joined l = 4 * nodes_of_alts (alt_trees l.alternatives.now) + 2

abbrev pub decreases-alt_joined : goal.decreases-alt_joined
decreases-alt_joined l = 4 * nodes_of_alt (alt_of l.alternative.now) + 1

abbrev pub decreases-parts_joined : goal.decreases-parts_joined
decreases-parts_joined l = 4 * nodes_of_forms (form_trees l.parts.now) + 2

abbrev pub invariant-each_joined-loop-alternative : goal.invariant-each_joined-loop-alternative
invariant-each_joined-loop-alternative l =
    followed_by (alt_trees l.made.items) (each_joined (alt_trees (drop l.alternative-index l.alternatives)) (alt_trees l.others))
    ≡ each_joined (alt_trees l.alternatives) (alt_trees l.others)

abbrev pub invariant-parts_joined-loop-part : goal.invariant-parts_joined-loop-part
invariant-parts_joined-loop-part l =
    forms_then (form_trees l.made.items) (parts_joined (form_trees (drop l.part-index l.parts)) (form_trees l.left))
    ≡ parts_joined (form_trees l.parts) (form_trees l.others)

abbrev pub decreases-alts_joined : goal.decreases-alts_joined
decreases-alts_joined l = 4 * nodes_of_alts (alt_trees l.alternatives.now) + 3

use Rattle.std.proofs.Common.{ap, ◌∙◌}
use Rattle.form_meaning.specs.Forms.{no_alts}
use Rattle.type_forms.specs.Pending.{turned}
use Rattle.type_forms.specs.Tree.{tree_of, alt_trees}
use Rattle.type_forms.proofs.Steps.{form_put}
use Rattle.type_forms.proofs.opening.with_form.Goals as goal

pub returns-in_ok-put-in-OneOf : goal.returns-in_ok-put-in-OneOf
returns-in_ok-put-in-OneOf c find is_class adds =
    form_put find is_class adds c.args.opening.known c.args.form (alt_trees c.in-OneOf.alternatives.value.items)
    (alt_trees c.in_ok-alternatives-in-OneOf.alternatives.items) (turned c.args.opening.pending.items no_alts)
    (turned c.in_ok-put-in-OneOf.field-0.items no_alts) (c.into_node.ensures ∙ ap tree_of c.in-OneOf.is)
    c.in_ok-alternatives-in-OneOf.ensures c.in_ok-put-in-OneOf.ensures

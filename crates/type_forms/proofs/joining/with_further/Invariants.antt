use Rattle.std.proofs.Common.{◌≡◌, drop}
use Rattle.form_meaning.specs.Forms.{followed_by, further}
use Rattle.type_forms.specs.Tree.{alt_trees}
use Rattle.type_forms.proofs.joining.with_further.Given as goal

abbrev pub invariant-loop-other : goal.invariant-loop-other
invariant-loop-other l =
    followed_by (alt_trees l.all.items) (further (alt_trees l.alternatives) (alt_trees (drop l.other-index l.others)))
    ≡ followed_by (alt_trees l.fn.made.items) (further (alt_trees l.alternatives) (alt_trees l.others))

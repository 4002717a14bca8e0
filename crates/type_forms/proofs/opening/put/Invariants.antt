use Rattle.std.proofs.Common.{◌≡◌, length}
use Rattle.form_meaning.specs.Forms.{no_alts, followed_by}
use Rattle.type_forms.specs.Pending.{turned}
use Rattle.type_forms.specs.Tree.{alt_trees}
use Rattle.type_forms.proofs.opening.put.Given as goal

abbrev pub invariant-loop-alternative : goal.invariant-loop-alternative
invariant-loop-alternative l =
    followed_by (alt_trees l.left.items) (turned l.pending.items no_alts)
    ≡ followed_by (alt_trees l.fn.alternatives.items) (turned l.fn.pending.items no_alts)

abbrev pub decreases-loop-alternative : goal.decreases-loop-alternative
decreases-loop-alternative l = length l.left.items

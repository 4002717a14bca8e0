use Rattle.std.proofs.Common.{◌+◌, ◌*◌}
use Rattle.row_bindings.proofs.inputs.Inputs.+nesting.Given as goal

abbrev pub decreases-part : goal.decreases-part
decreases-part l = 5 * l.depth

abbrev pub decreases-parts : goal.decreases-parts
decreases-parts l = 5 * l.inner + 1

abbrev pub decreases-piece : goal.decreases-piece
decreases-piece l = 5 * l.inner + 2

abbrev pub decreases-list : goal.decreases-list
decreases-list l = 5 * l.inner + 3

abbrev pub decreases-record : goal.decreases-record
decreases-record l = 5 * l.inner + 3

abbrev pub decreases-map : goal.decreases-map
decreases-map l = 5 * l.inner + 3

abbrev pub decreases-join : goal.decreases-join
decreases-join l = 5 * l.inner + 3

abbrev pub decreases-compound : goal.decreases-compound
decreases-compound l = 5 * l.inner + 4

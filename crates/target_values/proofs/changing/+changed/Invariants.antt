use Rattle.std.proofs.Common.{◌+◌, ◌*◌, length}
use Rattle.target_values.proofs.changing.+changed.Given as goal

abbrev pub decreases-changed_by : goal.decreases-changed_by
decreases-changed_by l = 3 * length l.steps.now

abbrev pub decreases-in_field : goal.decreases-in_field
decreases-in_field l = 3 * length l.steps.now + 2

abbrev pub decreases-in_record : goal.decreases-in_record
decreases-in_record l = 3 * length l.steps.now + 1

abbrev pub decreases-in_element : goal.decreases-in_element
decreases-in_element l = 3 * length l.steps.now + 2

abbrev pub decreases-new_element : goal.decreases-new_element
decreases-new_element l = 3 * length l.steps.now + 1

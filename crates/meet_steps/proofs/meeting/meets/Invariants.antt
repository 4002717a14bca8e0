use Rattle.std.proofs.Common.{◌≡◌}
use Rattle.spec_table.specs.Tables.{table_spec}
use Rattle.step_data.specs.Meetings.{meets_value}
use Rattle.meet_steps.specs.Onwards.{further_count}
use Rattle.meet_steps.proofs.meeting.meets.Given as goal

-- the pattern that is tried comes to what the first one comes to
abbrev pub invariant-loop-next : goal.invariant-loop-next
invariant-loop-next l = meets_value (table_spec l.table) l.meeting l.locals.items ≡ meets_value (table_spec l.table) l.fn.meeting l.fn.locals.items

abbrev pub decreases-loop-next : goal.decreases-loop-next
decreases-loop-next l = further_count l.meeting.follow

use Rattle.vdm_cli.proofs.Following.{empty_no_command, empty_check, empty_no_trees, empty_unread, empty_usage, empty_refused, empty_checked, empty_read_fault}
use Rattle.vdm_cli.proofs.laws.the_journal_is_empty.Goals as goal

pub returns-clause-no_command : goal.returns-clause-no_command
returns-clause-no_command c = empty_no_command

pub returns-clause-check_ : goal.returns-clause-check_
returns-clause-check_ c = empty_check

pub returns-clause-no_trees : goal.returns-clause-no_trees
returns-clause-no_trees c = empty_no_trees

pub returns-clause-unread : goal.returns-clause-unread
returns-clause-unread c = empty_unread

pub returns-clause-usage : goal.returns-clause-usage
returns-clause-usage c = empty_usage

pub returns-clause-refused : goal.returns-clause-refused
returns-clause-refused c = empty_refused

pub returns-clause-checked : goal.returns-clause-checked
returns-clause-checked c = empty_checked

pub returns-clause-read_fault : goal.returns-clause-read_fault
returns-clause-read_fault c = empty_read_fault

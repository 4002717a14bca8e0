-- What was written of the report that the command means; or memory was wanting for the names.
use Rattle.std.proofs.Common.{refl}
use Rattle.vdm_cli.proofs.Whole.{does_written, does_without_memory}
use Rattle.vdm_cli.proofs.vdm_main.do_command.Goals as goal

pub returns-in-Ok-clause-does : goal.returns-in-Ok-clause-does
returns-in-Ok-clause-does g c =
    does_written _ _ _ c.written.result c.meant_by-meant.result c.meant_by-meant.new.names _ refl c.written.ensures.journal c.written.ensures.log
    c.meant_by-meant.ensures.means c.written.ensures.wrote

pub returns-in-Err-clause-does : goal.returns-in-Err-clause-does
returns-in-Err-clause-does g c = does_without_memory _ _ _ c.without_run.result refl refl refl c.without_run.ensures.end c.without_run.ensures.journal

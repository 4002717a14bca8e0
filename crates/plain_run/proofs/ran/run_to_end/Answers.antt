use Rattle.stmt_exec.specs.Standing.{rest}
use Rattle.plain_run.proofs.Turns.{first-goes_on}
use Rattle.plain_run.proofs.ran.run_to_end.Goals as goal

pub take_turns-requires : goal.take_turns-requires
take_turns-requires c = first-goes_on _ _ _ _ _ c.requires.empty (rest c.in_ok-machine.machine) c.in_ok-machine.ensures

use Rattle.std.proofs.Common.{ap, ◌∙◌}
use Rattle.stmt_exec.specs.Standing.{rest}
use Rattle.vdm_legal.specs.Finishes.{finish_of}
use Rattle.plain_state.specs.Entered.{journal}
use Rattle.plain_run.proofs.Endings.{still-open}
use Rattle.plain_run.proofs.Turns.{cut-order, cut-run, never-over, question-ready, turn-goes_on, turn-order, turn-run}
use Rattle.plain_run.proofs.ran.take_turns.Goals as goal

pub turn-requires-clause-asks : goal.turn-requires-clause-asks
turn-requires-clause-asks c = never-over _ _ _ _ _ (rest c.turns.machine) c.turns.invariant

pub turn-requires-clause-ready : goal.turn-requires-clause-ready
turn-requires-clause-ready c = question-ready _ _ _ _ _ (rest c.turns.machine) c.turns.invariant

pub returns-in_err-turn-clause-run : goal.returns-in_err-turn-clause-run
returns-in_err-turn-clause-run c = cut-run _ _ _ _ _ (rest c.turns.machine) c.turns.invariant _ c.in_err-turn.ensures.err

pub returns-in_err-turn-clause-order : goal.returns-in_err-turn-clause-order
returns-in_err-turn-clause-order c = cut-order _ _ _ _ _ (rest c.turns.machine) c.turns.invariant _ c.in_err-turn.ensures.err

pub returns-in_err-finish-clause-run : goal.returns-in_err-finish-clause-run
returns-in_err-finish-clause-run c = turn-run _ _ _ _ _ (rest c.turns.machine) c.turns.invariant _ (rest c.turn.new.machine) c.in_ok-turn.ensures.ok

pub returns-in_err-finish-clause-order : goal.returns-in_err-finish-clause-order
returns-in_err-finish-clause-order c = turn-order _ _ _ _ _ (rest c.turns.machine) c.turns.invariant _ (rest c.turn.new.machine) c.in_ok-turn.ensures.ok

pub returns-in-Some-clause-run : goal.returns-in-Some-clause-run
returns-in-Some-clause-run c = turn-run _ _ _ _ _ (rest c.turns.machine) c.turns.invariant _ (rest c.turn.new.machine) c.in_ok-turn.ensures.ok

pub returns-in-Some-clause-order : goal.returns-in-Some-clause-order
returns-in-Some-clause-order c = turn-order _ _ _ _ _ (rest c.turns.machine) c.turns.invariant _ (rest c.turn.new.machine) c.in_ok-turn.ensures.ok

pub turns-preserved : goal.turns-preserved
turns-preserved c =
    let taken = c.in_ok-turn.ensures.ok in
    let behind = c.in_ok-finish.ensures _ _ (c.entries.ensures ∙ taken.answered.entered.is_last) c.turns.invariant.open_end in
    turn-goes_on _ _ _ _ _ (rest c.turns.machine) c.turns.invariant _ (rest c.turn.new.machine) taken
    (still-open _ (journal c.turn.new.store) c.in_default.is (behind ∙ ap finish_of c.entries.ensures))

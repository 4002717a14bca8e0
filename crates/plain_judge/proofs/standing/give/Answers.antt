use Rattle.stmt_exec.specs.Standing.{rest}
use Rattle.plain_judge.proofs.Staying.{over-leaves}
use Rattle.plain_judge.proofs.standing.give.Goals as goal

pub returns-then-over : goal.returns-then-over
returns-then-over c = λ answers. over-leaves (rest c.args.machine.now) c.requires (c.over.ensures.0 c.if-over.true) c.args.answer answers

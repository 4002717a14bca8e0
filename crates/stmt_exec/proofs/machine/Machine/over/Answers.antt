use Rattle.stmt_exec.proofs.Resting.{rest-over}
use Rattle.stmt_exec.proofs.machine.Machine.over.Goals as goal

pub returns-in_default : goal.returns-in_default
returns-in_default c = (
  λ h. absurd (cc h),
  λ e. absurd (c.in_default.not-Over (rest-over c.args.self.now.names.now c.args.self.now.stack c.args.self.now.rest e)),
)

use Rattle.step_data.proofs.Light.{needs-not-light}
use Rattle.step_data.proofs.action.Action.of.Goals as goal

pub returns-in-Need-clause-low : goal.returns-in-Need-clause-low
returns-in-Need-clause-low c = λ light. absurd (needs-not-light c.args.step c.in-Need.need c.in-Need.place c.in-Need.after c.in-Need.is light)

pub returns-in-Need-clause-idle : goal.returns-in-Need-clause-idle
returns-in-Need-clause-idle c = λ light. absurd (needs-not-light c.args.step c.in-Need.need c.in-Need.place c.in-Need.after c.in-Need.is light)

use Rattle.vdm_cli.proofs.run_option.first_steps.Goals as goal

pub returns-in_err-value : goal.returns-in_err-value
returns-in_err-value c = rw c.from_residual.ensures (λ n others b. c.in_err-value.ensures (b.0, others) b.1)

use Rattle.std.proofs.Common.{◌∙◌}
use Rattle.eval_data.specs.Parts.{here_of}
use Rattle.name_steps.proofs.Arguments.{looks_up_in, looks_nothing_up_in}
use Rattle.name_steps.proofs.Plans.{if_ok}
use Rattle.name_steps.proofs.calling.looked_up_among.Goals as goal

pub returns-in-len1-clause-same : goal.returns-in-len1-clause-same
returns-in-len1-clause-same c = if_ok c.looked_up_at.result c.looked_up_at.ensures.same (λ s plan setting locals.
    plan setting locals ∙
    looks_up_in (here_of c.args.here) c.args.place c.args.value locals c.args.arguments.now c.argument-item.result
    c.in-len1.len_at_least c.in-len1.len_below c.argument-item.is)

pub returns-in-len2-up-clause-same : goal.returns-in-len2-up-clause-same
returns-in-len2-up-clause-same c = λ setting locals.
    looks_nothing_up_in (here_of c.args.here) c.args.place c.args.value locals c.args.arguments.now c.in-len2-up.len_at_least

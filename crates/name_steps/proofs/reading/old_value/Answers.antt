use Rattle.std.proofs.Common.{ap, ◌∙◌}
use Rattle.node_meaning.specs.Envs.{local_named}
use Rattle.node_meaning.specs.Expressions.{held_value}
use Rattle.name_steps.proofs.Plans.{if_ok}
use Rattle.name_steps.proofs.reading.old_value.Goals as goal

pub returns : goal.returns
returns c = if_ok c.held_value.result c.held_value.ensures (λ s plan setting any.
    plan setting any ∙
    ap (λ o. held_value c.args.place o any) (c.local_slot.ensures ∙ ap (local_named c.args.locals.now) c.in_ok-name.ensures))

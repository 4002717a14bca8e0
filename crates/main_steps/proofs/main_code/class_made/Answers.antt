use Rattle.std.proofs.Common.{◌+◌, ap, ◌∙◌}
use Rattle.step_data.specs.declared.class_making.ClassMaking.{ClassMaking}
use Rattle.main_steps.proofs.Numbers.{behind_class}
use Rattle.main_steps.proofs.main_code.class_made.Goals as goal

pub returns-clause-falls : goal.returns-clause-falls
returns-clause-falls c =
    behind_class c.make_class_objects.result c.args.making.value.object _
    (c.in_ok-next.ensures.behind ∙ ap (λ (m : ClassMaking). m.object + 1) c.deref.ensures) c.in_ok-next.ensures.bounded c.make_class_objects.ensures.falls

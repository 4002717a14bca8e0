use Rattle.std.proofs.Common.{ap, ◌∙◌}
use Rattle.check_fields.specs.Below.check_scopes.specs.Told.{scope_at, spec_in}
use Rattle.check_calls.specs.Calling.{called}
use Rattle.check_calls.proofs.Behind.{called_behind}
use Rattle.check_names.proofs.Notes.{if_ok}
use Rattle.check_calls.proofs.called.callee_behind.Goals as goal

pub returns : goal.returns
returns c =
    if_ok c.callee_in_class.result c.callee_in_class.ensures (λ callee is names k e.
    ap (called _)
    (called_behind (spec_in c.args.setting) (scope_at c.args.setting names) c.args.named.name c.args.named.place c.args.call.head_place c.args.call.count
    c.args.call.place _ k c.is_below-own.result e (c.is_below-own.ensures names k e))
    ∙ is names)

use Rattle.std.proofs.Common.{ap, ◌∙◌}
use Rattle.check_fields.specs.Below.check_scopes.specs.Told.{scope_at, spec_in}
use Rattle.check_calls.specs.Calling.{called}
use Rattle.check_calls.proofs.Behind.{called_in}
use Rattle.check_names.proofs.Notes.{if_ok}
use Rattle.check_calls.proofs.called.callee_there.Goals as goal

pub returns : goal.returns
returns c =
    if_ok c.meant_callee.result c.meant_callee.ensures (λ callee is names k e.
    ap (called _)
    (called_in (spec_in c.args.setting) (scope_at c.args.setting names) c.args.own c.args.named.name c.args.named.place c.args.call.head_place
    c.args.call.count c.args.call.place _ k _ e (c.meaning-meant.ensures.some k e))
    ∙ is names k e)

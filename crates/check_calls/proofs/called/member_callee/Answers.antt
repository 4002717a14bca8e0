use Rattle.std.proofs.Common.{◌≡◌, true, rules, ap, ◌∙◌}
use Rattle.check_fields.specs.Below.check_scopes.specs.Told.{first_in, scope_at, spec_in}
use Rattle.check_fields.specs.Below.spec_table.specs.Members.{item_view}
use Rattle.check_names.proofs.Notes.{if_ok}
use Rattle.check_calls.specs.Calling.{called}
use Rattle.check_calls.proofs.Behind.{by_look_up, is_looked_up}
use Rattle.check_calls.proofs.called.member_callee.Goals as goal

pub returns-in-Function : goal.returns-in-Function
returns-in-Function c = rw c.in-Function.is c.called_function.ensures

pub returns-in-Operation : goal.returns-in-Operation
returns-in-Operation c = rw c.in-Operation.is c.called_operation.ensures

pub returns-in-TypeDef : goal.returns-in-TypeDef
returns-in-TypeDef c =
    let looked : is_looked_up (item_view c.args.item) ≡ true = search rules in
    if_ok c.looked_up_member.result c.looked_up_member.ensures (λ callee is names.
    ap (called (first_in c.args.refusals.now))
    (by_look_up (spec_in c.args.setting) (scope_at c.args.setting names) c.args.own c.args.name_place c.args.call.head_place c.args.call.count
    c.args.call.place c.args.owner.number (item_view c.args.item) looked)
    ∙ is names)

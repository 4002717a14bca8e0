use Rattle.std.proofs.Common.{◌≡◌, ap, sym, ◌∙◌}
use Rattle.form_meaning.specs.Forms.{FormTree}
use Rattle.class_checks.specs.Callees.{value_callee}
use Rattle.class_checks.specs.Members.{read_member}
use Rattle.class_checks.specs.Results.{form_unless}
use Rattle.check_fields.specs.Below.spec_table.specs.Members.{item_view}
use Rattle.check_fields.specs.Below.check_scopes.specs.Told.{Told, first_in, scope_at, spec_in}
use Rattle.check_calls.specs.Calling.{called}
use Rattle.check_calls.proofs.Callees.{member_known}
use Rattle.check_names.proofs.Notes.{if_ok}
use Rattle.check_calls.proofs.called.looked_up_member.Goals as goal

pub returns : goal.returns
returns c =
    let spec = spec_in c.args.setting in
    if_ok c.value_callee.result c.value_callee.ensures (λ callee is names.
    let head = read_member spec (scope_at c.args.setting names) c.args.name_place c.args.own c.args.owner.number (item_view c.args.item) in
    let told_so = c.in_ok-form.ensures names in
    let same : head.form ≡ c.in_ok-form.form = ap (λ (t : Told). t.form) told_so in
    ap (λ (f : FormTree). called (first_in c.args.refusals.now) (value_callee spec head.refusals f c.args.call.head_place c.args.call.count c.args.call.place)) same
    ∙ is (first_in c.args.refusals.now) head.refusals (ap (λ (t : Told). t.first) told_so)
    (ap (form_unless head.refusals) (sym same)
    ∙ member_known spec (scope_at c.args.setting names) c.args.name_place c.args.own c.args.owner.number (item_view c.args.item)
    ∙ same))

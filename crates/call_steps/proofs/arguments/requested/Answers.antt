use Rattle.std.proofs.Common.{length, map, ap, sym, ◌∙◌, rules, arith}
use Rattle.stmt_meaning.specs.Olds.{old_variables}
use Rattle.spec_table.specs.Tables.{table_spec}
use Rattle.step_data.specs.declared.calling.Calling.{Calling}
use Rattle.step_data.specs.Callings.{calling_of, old_view}
use Rattle.call_steps.proofs.Requests.{asked_so, few}
use Rattle.call_steps.proofs.arguments.requested.Goals as goal

pub returns-clause-same : goal.returns-clause-same
returns-clause-same c =
    let spec = table_spec c.args.table.now in
    let lent = c.deref_mut.result.now in
    asked_so spec c.args.call.value lent c.set_olds.new.self
    (c.set_olds.ensures ∙ (λ i. record lent { olds = (sym (ap (λ (x : Calling). x.olds) c.set_olds.ensures)) i })) c.deref_mut.ensures.value
    (ap (λ (x : Calling). map old_view x.olds.items) c.set_olds.ensures ∙ c.in_ok-olds.ensures
    ∙ ap (λ (x : Calling). old_variables spec (calling_of x)) c.deref.ensures)

pub returns-clause-falls : goal.returns-clause-falls
returns-clause-falls c =
    few (length c.set_olds.new.self.olds.items) (length c.in_ok-olds.olds.items) (ap (λ (x : Calling). length x.olds.items) c.set_olds.ensures)
    (omega (arith, c.if-len-gt-MOST_OLDS.false, c.len.ensures))

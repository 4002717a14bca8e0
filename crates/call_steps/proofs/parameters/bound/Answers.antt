use Rattle.std.proofs.Common.{Some, ap, ◌∙◌, rules}
use Rattle.vdm_kinds.specs.declared.run_fault.RunFault.TheVariants.{NoMatch}
use Rattle.node_meaning.specs.Matching.{met}
use Rattle.node_meaning.specs.Tasks.{fault}
use Rattle.stmt_meaning.specs.Calls.{pre_of}
use Rattle.spec_table.specs.Tables.{table_spec}
use Rattle.step_data.specs.declared.calling.Calling.{Calling}
use Rattle.step_data.specs.Callings.{call_operation, calling_of}
use Rattle.call_steps.proofs.parameters.bound.Goals as goal

pub returns-clause-same : goal.returns-clause-same
returns-clause-same c =
    let spec = table_spec c.args.table.now in
    let call = c.args.call.value in
    let matched = pre_of spec (calling_of call) (calling_of call).operation.pre in
    c.answered.ensures.same spec c.parameters_met.new.locals.items (search rules)
    ∙ c.in_ok-attempt.ensures call.place matched (λ missed. fault NoMatch call.place)
    ∙ ap (λ (x : Calling). met spec (Some x.op.class) call.place (call_operation x).patterns x.arguments matched (λ missed. fault NoMatch call.place) c.args.given.items c.args.locals.now.items) c.deref.ensures

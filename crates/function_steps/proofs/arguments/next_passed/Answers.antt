use Rattle.std.proofs.Common.{sym, ◌∙◌}
use Rattle.std.proofs.lemmas.Result.{IfOk-weaker}
use Rattle.spec_table.specs.Tables.{table_spec}
use Rattle.function_steps.proofs.arguments.next_passed.Goals as goal

pub returns-in-Some : goal.returns-in-Some
returns-in-Some c =
    IfOk-weaker c.argument_passed.result _ _ (λ p is asker.
    is asker ∙ sym ((rw c.in-Some.is at c.in_ok-next_argument.ensures) (table_spec c.args.table.now) c.args.locals.now.items)) c.argument_passed.ensures

use Rattle.std.proofs.Common.{◌∙◌, rules}
use Rattle.std.specs.List.{flat_map}
use Rattle.expr_tree.specs.View.{boxed_view}
use Rattle.pattern_meaning.specs.Brackets.{given_in}
use Rattle.node_meaning.specs.Functions.{body_here, bound}
use Rattle.eval_data.specs.Parts.{applying_of, boxed_list}
use Rattle.spec_table.specs.Tables.{table_spec}
use Rattle.function_steps.proofs.Listed.{brackets_begun}
use Rattle.function_steps.proofs.parameters.binds.Goals as goal

pub returns-in-Some : goal.returns-in-Some
returns-in-Some c = λ asker.
    let applying = applying_of c.args.applying.value in
    let spec = table_spec c.args.table.now in
    c.in_ok-step-in-Some.ensures (record { spec = spec; asker = asker }) c.args.locals.now.items
    ∙ brackets_begun (body_here applying) applying.place (bound spec applying c.args.values) c.args.locals.now.items
    (boxed_list c.in_ok-found.found.items) (flat_map given_in applying.function.patterns) (boxed_view c.in-Some.first.now) (search rules) (search rules)

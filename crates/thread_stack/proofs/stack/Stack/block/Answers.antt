use Rattle.std.proofs.Common.{refl, ◌∙◌, ap}
use Rattle.std.specs.Prelude.{map}
use Rattle.vdm_tree.specs.StmtView.{dcl_view}
use Rattle.node_meaning.specs.Tasks.{Code}
use Rattle.stmt_meaning.specs.Blocks.{types_declared}
use Rattle.stmt_meaning.specs.Flows.{sequence}
use Rattle.eval_data.specs.Parts.{here_of}
use Rattle.spec_table.specs.Tables.{table_spec}
use Rattle.step_data.specs.declared.around.Around.{Around}
use Rattle.step_data.specs.Declarations.{surrounded}
use Rattle.step_data.specs.Parts.{statements_of}
use Rattle.thread_stack.proofs.Loads.{block-low}
use Rattle.thread_stack.proofs.Standings.{blocked, with_code}
use Rattle.thread_stack.proofs.stack.Stack.block.Goals as goal

pub returns-clause-same : goal.returns-clause-same
returns-clause-same c = λ answers.
    let spec = table_spec c.args.self.now.table.now in
    let rest = c.args.rest in
    let code : Code = sequence (here_of rest.here) rest.count (statements_of rest.statements.now) c.args.self.now.locals.items in
    let now : Around = record c.args.self.now.around { declared = c.in_ok-declared.declared } in
    with_code spec c.args.self.now.levels.items c.args.self.now.fuel _ _ answers
    (ap (surrounded now) (c.sequence.ensures.same spec)
    ∙ blocked now c.args.self.now.around (types_declared (map dcl_view rest.dcls.now)) code refl c.in_ok-declared.ensures)

pub returns-clause-low : goal.returns-clause-low
returns-clause-low c = block-low c.args.self.now.levels.items c.args.self.now.fuel c.sequence.result c.sequence.ensures.falls

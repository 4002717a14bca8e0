use Rattle.spec_table.specs.Tables.{table_spec}
use Rattle.step_data.specs.Declarations.{declared_of}
use Rattle.step_data.specs.Parts.{task_of}
use Rattle.thread_stack.proofs.Loads.{begun-low}
use Rattle.thread_stack.proofs.Standings.{begun, spent_becomes}
use Rattle.thread_stack.proofs.stack.Stack.begin.Goals as goal

pub returns-in-Some-clause-same : goal.returns-in-Some-clause-same
returns-in-Some-clause-same c =
    begun (table_spec c.args.self.now.table.now) c.args.self.now.levels.items c.planned.new.around c.args.self.now.around c.planned.new.locals.items
    c.args.self.now.fuel c.in-Some.left (task_of c.args.task c.args.self.now.locals.items) c.planned.result c.in-Some.ensures c.planned.ensures.same

pub returns-in-None-clause-same : goal.returns-in-None-clause-same
returns-in-None-clause-same c = λ answers.
    spent_becomes (table_spec c.args.self.now.table.now) c.args.self.now.levels.items c.args.self.now.around c.args.self.now.fuel
    (task_of c.args.task c.args.self.now.locals.items) _ answers c.in-None.ensures
    (c.unentered.ensures.same (table_spec c.args.self.now.table.now) (declared_of c.args.self.now.around.declared) c.args.self.now.locals.items)

pub returns-in-Some-clause-low : goal.returns-in-Some-clause-low
returns-in-Some-clause-low c = begun-low c.args.self.now.levels.items c.args.self.now.fuel c.in-Some.left c.planned.result c.in-Some.ensures c.planned.ensures.falls

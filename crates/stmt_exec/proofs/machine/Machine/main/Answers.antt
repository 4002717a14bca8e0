use Rattle.std.proofs.Common.{ap, ◌∙◌}
use Rattle.std.specs.Borrow.{Bor}
use Rattle.expr_tree.specs.View.{view_of}
use Rattle.spec_table.specs.Tables.{table_spec}
use Rattle.spec_table.specs.declared.table.ClassTable.{ClassTable}
use Rattle.thread_stack.specs.declared.stack.Stack.{Stack}
use Rattle.stmt_exec.proofs.Acting.{main-stands}
use Rattle.stmt_exec.proofs.machine.Machine.main.Goals as goal

pub returns : goal.returns
returns c = λ answers.
    let stack : Stack = record c.new-stack.result { locals = c.make_class_objects.new.locals } in
    c.in_ok-rest.ensures.same c.args.names.now answers ∙
    main-stands c.args.names.now (table_spec c.args.table.now) (view_of c.args.tree.now) stack c.args.steps c.classes-classes.result.now c.in_ok-action.action answers
    (ap (λ (t : Bor ClassTable). table_spec t.now) c.new-stack.ensures.table) c.new-stack.ensures.levels c.new-stack.ensures.nest
    c.new-stack.ensures.declared c.new-stack.ensures.fuel c.classes-classes.ensures c.in_ok-action.ensures.same

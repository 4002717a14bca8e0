use Rattle.std.proofs.Common.{◌∙◌, rules}
use Rattle.expr_tree.specs.View.{boxed_view, view_of}
use Rattle.eval_data.specs.Parts.{here_of}
use Rattle.spec_table.specs.Tables.{table_spec}
use Rattle.object_steps.proofs.Fitting.{evaluated_next}
use Rattle.object_steps.proofs.object.initialise.Goals as goal

pub returns-in-Some-initial_of-clause-same : goal.returns-in-Some-initial_of-clause-same
returns-in-Some-initial_of-clause-same c =
    evaluated_next (table_spec c.args.table.now) c.loop-var.making.value c.deref_mut.result.now (here_of c.initialising-here.result) c.new.result.items
    (view_of c.deref-in-Some-initial_of-3.result.now) (boxed_view c.in-Some-initial_of.initial.now) c.in-Some.left c.in-Some.var.now
    c.deref_mut.ensures.value (search rules) c.new.ensures.items (search rules) (search rules) (search rules)
    ∙ c.loop-var.invariant.same

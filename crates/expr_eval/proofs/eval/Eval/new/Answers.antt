use Rattle.expr_tree.specs.View.{view_of}
use Rattle.spec_table.specs.Tables.{table_spec}
use Rattle.eval_data.specs.Parts.{here_of}
use Rattle.expr_eval.proofs.Turning.{begins}
use Rattle.expr_eval.proofs.eval.Eval.new.Goals as goal

pub returns : goal.returns
returns c = (
  λ answers units. begins (table_spec c.args.table.now) c.args.env.now c.args.depth (view_of c.args.tree.now) (here_of c.here-here.result) c.in_ok-locals.locals.items c.place.result c.new.result.items answers units
      c.new.ensures.items c.here-here.ensures c.in_ok-locals.ensures c.place.ensures,
  tt,
)

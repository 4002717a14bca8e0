use Rattle.std.proofs.Common.{[], ap, ◌∙◌, map}
use Rattle.std.proofs.lemmas.Result.{IfOk-weaker}
use Rattle.abstract_syntax.specs.Expressions.{ExprTree}
use Rattle.expr_tree.specs.View.{field_value_trees, field_value_view}
use Rattle.node_meaning.specs.Records.{field_exprs, field_names, record_changed}
use Rattle.node_meaning.specs.Strict.{with_others}
use Rattle.node_meaning.specs.Tasks.{evaluated}
use Rattle.eval_data.specs.Parts.{here_of}
use Rattle.record_steps.proofs.nodes.modify_record.Goals as goal

pub returns : goal.returns
returns c =
    let here = here_of c.args.here in
    let changes = field_value_trees (map field_value_view c.args.changes.now) in
    IfOk-weaker c.first_part.result _ _ (λ s is setting locals.
    is setting locals ∙
    ap (λ (tree : ExprTree). evaluated here locals tree c.args.place
    (with_others here c.args.place (field_exprs changes) [] (record_changed setting.spec here.nest (field_names changes) c.args.place))) c.boxed.ensures)
    c.first_part.ensures

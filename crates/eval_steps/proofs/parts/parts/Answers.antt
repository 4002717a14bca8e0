use Rattle.std.proofs.Common.{[], List, map, ap, sym, ◌∙◌}
use Rattle.abstract_syntax.specs.Expressions.{one_expr}
use Rattle.expr_tree.specs.View.{boxed_view, field_value_trees, field_value_view, view_of}
use Rattle.expr_tree.specs.declared.parts.FieldValue.{FieldValue}
use Rattle.node_meaning.specs.Expressions.{expr_plan}
use Rattle.node_meaning.specs.Records.{field_exprs, field_names, record_changed}
use Rattle.node_meaning.specs.Strict.{collected}
use Rattle.eval_data.specs.Parts.{here_of}
use Rattle.eval_steps.proofs.Results.{if_ok}
use Rattle.eval_steps.proofs.Views.{view-ModifyRecord, view-SameBaseClass, view-SameClass, view-SetRange, view-Subsequence}
use Rattle.eval_steps.proofs.parts.parts.Goals as goal

pub returns-in-SetRange : goal.returns-in-SetRange
returns-in-SetRange c = λ setting locals.
    c.range.ensures setting locals
    ∙ sym (ap (expr_plan setting (here_of c.args.here) locals) (ap view_of c.in-SetRange.is ∙ view-SetRange _ _ _))

pub returns-in-Subsequence : goal.returns-in-Subsequence
returns-in-Subsequence c =
    if_ok c.subsequence.result c.subsequence.ensures (λ s is setting locals.
    is setting locals
    ∙ sym (ap (expr_plan setting (here_of c.args.here) locals) (ap view_of c.in-Subsequence.is ∙ view-Subsequence _ _ _ _)))

pub returns-in-ModifyRecord : goal.returns-in-ModifyRecord
returns-in-ModifyRecord c =
    if_ok c.modify_record.result c.modify_record.ensures (λ s is setting locals.
    is setting locals
    ∙ ap (λ (changes : List FieldValue). collected (here_of c.args.here) c.in-ModifyRecord.place (one_expr (boxed_view c.in-ModifyRecord.target) (field_exprs (field_value_trees (map field_value_view changes)))) []
    (record_changed setting.spec (here_of c.args.here).nest (field_names (field_value_trees (map field_value_view changes))) c.in-ModifyRecord.place) locals) c.as_slice-in-ModifyRecord.ensures.value
    ∙ sym (ap (expr_plan setting (here_of c.args.here) locals) (ap view_of c.in-ModifyRecord.is ∙ view-ModifyRecord _ _ _)))

pub returns-in-SameClass : goal.returns-in-SameClass
returns-in-SameClass c =
    if_ok c.class_tested.result c.class_tested.ensures (λ s is setting locals.
    is setting locals
    ∙ sym (ap (expr_plan setting (here_of c.args.here) locals) (ap view_of c.in-SameClass.is ∙ view-SameClass _ _ _)))

pub returns-in-SameBaseClass : goal.returns-in-SameBaseClass
returns-in-SameBaseClass c =
    if_ok c.class_tested-in-SameBaseClass.result c.class_tested-in-SameBaseClass.ensures (λ s is setting locals.
    is setting locals
    ∙ sym (ap (expr_plan setting (here_of c.args.here) locals) (ap view_of c.in-SameBaseClass.is ∙ view-SameBaseClass _ _ _)))

use Rattle.std.proofs.Common.{ap, sym, ◌∙◌, rules}
use Rattle.expr_tree.specs.View.{boxed_view}
use Rattle.vdm_tree.specs.StmtView.{target_step_view}
use Rattle.spec_table.specs.Tables.{table_spec}
use Rattle.target_values.proofs.Steps.{at_first, at_last, into_none, into_some}
use Rattle.target_values.proofs.changing.+changed.Goals as goal

pub changed_by-returns-in_default : goal.changed_by-returns-in_default
changed_by-returns-in_default t c =
    at_last c.last_value.result (table_spec c.args.table.now) c.args.values.now c.args.old.now c.args.steps.now
    c.in_default.ensures.cases (c.last_value.ensures (table_spec c.args.table.now) c.args.old.now)

pub changed_by-returns-in-Field : goal.changed_by-returns-in-Field
changed_by-returns-in-Field t c =
    at_first c.in_field.result (table_spec c.args.table.now) c.args.values.now c.args.old.now c.args.steps.now c.in-Some.others.now c.in-Some.step.now _
    c.in-Some.ensures.cases.0 (ap target_step_view c.in-Field.is) (c.in_field.ensures c.in-Field.field-1 c.in-Field.field-2)

pub changed_by-returns-in-Element : goal.changed_by-returns-in-Element
changed_by-returns-in-Element t c =
    at_first c.in_element.result (table_spec c.args.table.now) c.args.values.now c.args.old.now c.args.steps.now c.in-Some.others.now c.in-Some.step.now _
    c.in-Some.ensures.cases.0 (ap target_step_view c.in-Element.is) (c.in_element.ensures (boxed_view c.in-Element.field-0) c.in-Element.field-1)

pub new_element-returns-then-is_empty : goal.new_element-returns-then-is_empty
new_element-returns-then-is_empty t c =
    into_none c.last_value.result (table_spec c.args.table.now) c.args.values.now c.args.old.now c.args.index.now c.args.steps.now
    (sym c.is_empty.ensures ∙ c.if-is_empty.true) (c.last_value.ensures (table_spec c.args.table.now) c.args.old.now)

pub new_element-returns-in_err-held : goal.new_element-returns-in_err-held
new_element-returns-in_err-held t c =
    into_some c.from_residual.result (table_spec c.args.table.now) c.args.values.now c.args.old.now c.args.index.now c.args.steps.now
    (sym c.is_empty.ensures ∙ c.if-is_empty.false) (search rules)

pub new_element-returns : goal.new_element-returns
new_element-returns t c =
    into_some c.changed_by.result (table_spec c.args.table.now) c.args.values.now c.args.old.now c.args.index.now c.args.steps.now
    (sym c.is_empty.ensures ∙ c.if-is_empty.false) (search rules)

use Rattle.std.proofs.Common.{List, ◌++◌, map, option_map, Bor, ap, sym, ◌∙◌}
use Rattle.abstract_syntax.specs.Values.{ValueTree, value_trees, value_list-value_trees}
use Rattle.expr_tree.specs.declared.type_def.Field.{Field}
use Rattle.expr_tree.specs.TypeDefView.{field_view}
use Rattle.node_meaning.specs.Records.{with_field}
use Rattle.stmt_meaning.specs.Targets.{field_among, record_again}
use Rattle.target_values.proofs.Steps.{moved}
use Rattle.target_values.proofs.changing.field_replaced.Goals as goal

pub returns : goal.returns
returns c =
    let held = c.in_ok-push_copies.ensures ∙ ap (λ (vs : List ValueTree). vs ++ c.args.fields.now) c.new-values.ensures.items ∙ sym (value_list-value_trees c.args.fields.now) in
    let declared = ap (option_map (λ (fields : Bor (List Field)). map field_view fields.now)) (sym c.in-Some.is) ∙ c.fields_of.ensures in
    moved c.record_again.result _ _
    (ap (record_again c.args.class c.args.type_name)
    (c.with_field.ensures ∙ ap (with_field c.args.name c.args.value (map field_view c.in-Some.declared.now)) held ∙
    ap (field_among c.args.name c.args.value (value_trees c.args.fields.now)) declared))
    c.record_again.ensures

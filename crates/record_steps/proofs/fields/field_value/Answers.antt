use Rattle.std.proofs.Common.{ap, sym, ◌∙◌, map, option_map, Bor, List}
use Rattle.abstract_syntax.specs.Values.{value_trees, value_list, value_list-value_trees}
use Rattle.expr_tree.specs.declared.type_def.Field.{Field}
use Rattle.expr_tree.specs.TypeDefView.{field_view}
use Rattle.node_meaning.specs.Records.{field_among, field_in}
use Rattle.record_steps.proofs.Moving.{copy_given, moved}
use Rattle.record_steps.proofs.fields.field_value.Goals as goal

pub returns-in-Some : goal.returns-in-Some
returns-in-Some c =
    moved c.copied.result _ _
    (ap (field_in c.args.name (map field_view c.in-Some.fields.now)) (sym (value_list-value_trees c.args.values.now)) ∙
    ap (λ o. field_among c.args.name o (value_list (value_trees c.args.values.now)))
    (ap (option_map (λ (fields : Bor (List Field)). map field_view fields.now)) (sym c.in-Some.is) ∙ c.fields_of.ensures))
    (copy_given c.field_in.result c.copied.result _ c.field_in.ensures c.copied.ensures)

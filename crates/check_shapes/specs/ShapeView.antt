-- Shapes and parts of the program as the trees that definitions speak of.
use Rattle.std.specs.Prelude.{List, map}
use Rattle.vdm_kinds.specs.declared.name.Name.{Name}
use Rattle.expr_tree.specs.declared.parts.FieldValue.{FieldValue}
use Rattle.expr_tree.specs.View.{field_value_view, field_value_trees}
use Rattle.type_forms.specs.Tree.{form_trees}
use Rattle.class_checks.specs.Shapes.{
  ShapeTree,
  of_prefix,
  of_operator,
  of_range,
  of_set,
  of_sequence,
  of_map,
  of_tuple,
  of_token,
  of_test,
  of_condition,
  of_call,
  of_part,
  of_subsequence,
  of_changed,
  Seen as SeenTree,
}
use Rattle.class_checks.specs.Expressions.{changed_names}
use Rattle.check_shapes.specs.declared.shape.Seen.{Seen}
use Rattle.check_shapes.specs.declared.shape.Shape.{Shape}
use Rattle.check_shapes.specs.declared.shape.Shape.TheVariants.{
  Prefix,
  Operator,
  Range,
  Set,
  Sequence,
  Map,
  Tuple,
  Token,
  Test,
  Condition,
  Call,
  Part,
  Subsequence,
  Changed,
}

abbrev pub seen_view : Seen → SeenTree
seen_view seen = record { form = seen.form; fits = seen.fits }

-- the names of the fields of a `mu`
abbrev pub names_of : List FieldValue → List Name
names_of fields = changed_names (field_value_trees (map field_value_view fields))

abbrev pub shape_view : Shape → ShapeTree
shape_view (Prefix sign) = of_prefix sign
shape_view (Operator sign) = of_operator sign
shape_view Range = of_range
shape_view Set = of_set
shape_view Sequence = of_sequence
shape_view Map = of_map
shape_view Tuple = of_tuple
shape_view Token = of_token
shape_view Test = of_test
shape_view Condition = of_condition
shape_view (Call wants result) = of_call (form_trees wants.items) result
shape_view (Part number) = of_part number
shape_view Subsequence = of_subsequence
shape_view (Changed fields) = of_changed (names_of fields.now.items)

-- The pure trees that definitions of types of the program are.
use Rattle.std.specs.Prelude.{map, option_map}
use Rattle.abstract_syntax.specs.Classes.{FieldTree, TypeBody as TypeBodyTree, same_as, with_fields, InvariantTree, TypeDefTree}
use Rattle.expr_tree.specs.declared.type_def.Field.{Field}
use Rattle.expr_tree.specs.declared.type_def.TypeBody.{TypeBody}
use Rattle.expr_tree.specs.declared.type_def.TypeBody.TheVariants.{Same, Fields}
use Rattle.expr_tree.specs.declared.type_def.TypeInvariant.{TypeInvariant}
use Rattle.expr_tree.specs.declared.type_def.TypeDef.{TypeDef}
use Rattle.type_tree.specs.TypeView.{type_view}
use Rattle.expr_tree.specs.View.{boxed_view, pattern_view}

abbrev pub field_view : Field → FieldTree
field_view f = record { name = f.name; name_place = f.name_place; declared = type_view f.declared }

abbrev pub type_body_view : TypeBody → TypeBodyTree
type_body_view (Same declared) = same_as (type_view declared)
type_body_view (Fields fields) = with_fields (map field_view fields.items)

abbrev pub invariant_view : TypeInvariant → InvariantTree
invariant_view i = record { pattern = pattern_view i.pattern; condition = boxed_view i.condition }

abbrev pub type_def_view : TypeDef → TypeDefTree
type_def_view t = record {
  access = t.access;
  class = t.class;
  name = t.name;
  name_place = t.name_place;
  body = type_body_view t.body;
  invariant = option_map invariant_view t.invariant;
  place = t.place;
}

-- Records: how they are made and changed, and what a field of one has.
use Rattle.std.specs.Prelude.{List, [], ◌∷◌, Option, Some, None, option_map, Ok, Err, if◌then◌else◌}
use Rattle.std.specs.Option.{option_and_then}
use Rattle.vdm_kinds.specs.declared.name.Name.{Name}
use Rattle.vdm_kinds.specs.declared.name_at.TypeName.{TypeName}
use Rattle.vdm_kinds.specs.declared.place.Place.{Place}
use Rattle.vdm_kinds.specs.declared.run_fault.RunFault.TheVariants.{TypeFault, Undefined}
use Rattle.abstract_syntax.specs.Values.{ValueTree, ValueTrees, record_of, value_trees, value_list}
use Rattle.abstract_syntax.specs.Expressions.{ExprTrees, no_exprs, one_expr, FieldValueTrees, no_field_values, one_field_value}
use Rattle.abstract_syntax.specs.Classes.{FieldTree, TypeBody, same_as, with_fields, TypeDefTree, SpecTree, is_same_name}
use Rattle.member_meaning.specs.TypeRanks.{finder, type_rank}
use Rattle.pattern_meaning.specs.RecordTypes.{RecordType, stands_for}
use Rattle.value_operators.specs.Outcomes.{Outcome, sized}
use Rattle.node_meaning.specs.Envs.{Locals, Nest, type_scope}
use Rattle.node_meaning.specs.Fitting.{typed}
use Rattle.node_meaning.specs.Tasks.{Code, fault, value_or_fault}

-- ---- the fields of a record type

abbrev pub fields_in : TypeBody → Option (List FieldTree)
fields_in (with_fields fields) = Some fields
fields_in (same_as declared) = None

-- the fields of the record type of a class and a name, in order
abbrev pub fields_of : SpecTree → Name → Name → Option (List FieldTree)
fields_of spec class name = option_and_then (λ (d : TypeDefTree). fields_in d.body) (finder spec class None name)

-- the record type that a name stands for in the class of a node
abbrev pub record_type : SpecTree → Option Name → TypeName → Option RecordType
record_type spec scope t = stands_for (finder spec) (type_rank spec) (type_scope scope) t

-- ---- `mk_T`

-- Each value is tested against the type of its field, in order, at the place of the node. There are as many values as fields.
abbrev pub fields_typed : SpecTree → Nest → Name → Place → List FieldTree → List ValueTree → (Locals → Code) → Locals → Code
fields_typed spec nest class place [] [] further locals = further locals
fields_typed spec nest class place (field ∷ fields) (v ∷ vs) further locals =
    typed spec nest (Some class) field.declared place (λ fitting_v after. fields_typed spec nest class place fields vs further after) v locals
fields_typed spec nest class place _ _ further locals = fault TypeFault place

-- the record of a class and a name with these values
abbrev pub record_value : Name → Name → Place → List ValueTree → Locals → Code
record_value class name place vs locals = value_or_fault place (sized (record_of class name (value_trees vs))) locals

-- the record of a type with these fields; the invariant of the type itself is not tested
abbrev pub record_with : SpecTree → Nest → Name → Name → Place → Option (List FieldTree) → List ValueTree → Locals → Code
record_with spec nest class name place None vs locals = fault Undefined place
record_with spec nest class name place (Some fields) vs locals =
    fields_typed spec nest class place fields vs (record_value class name place vs) locals

abbrev pub record_of_type : SpecTree → Nest → Place → Option RecordType → List ValueTree → Locals → Code
record_of_type spec nest place None vs locals = fault Undefined place
record_of_type spec nest place (Some r) vs locals = record_with spec nest r.class r.name place (fields_of spec r.class r.name) vs locals

-- behind the values of the fields
abbrev pub record_made : SpecTree → Nest → Option Name → TypeName → Place → List ValueTree → Locals → Code
record_made spec nest scope t place vs locals = record_of_type spec nest place (record_type spec scope t) vs locals

-- ---- fields

-- the value of a field; what has no such field is of another type
abbrev pub field_in : Name → List FieldTree → List ValueTree → Outcome
field_in name (field ∷ fields) (v ∷ vs) = if is_same_name name field.name then Ok v else field_in name fields vs
field_in name _ _ = Err TypeFault

abbrev pub field_among : Name → Option (List FieldTree) → List ValueTree → Outcome
field_among name None vs = Err TypeFault
field_among name (Some fields) vs = field_in name fields vs

-- ... of a record of the type of this class and name, with these values
abbrev pub field_value : SpecTree → Name → Name → Name → ValueTrees → Outcome
field_value spec name class type values = field_among name (fields_of spec class type) (value_list values)

-- ---- `mu`

-- the values of fields with another one in the place of that of a field
abbrev pub with_field : Name → ValueTree → List FieldTree → List ValueTree → Option (List ValueTree)
with_field name v (field ∷ fields) (w ∷ ws) =
    if is_same_name name field.name then Some (v ∷ ws) else option_map (λ (vs : List ValueTree). w ∷ vs) (with_field name v fields ws)
with_field name v _ _ = None

-- ... with several ones, one after the other
abbrev pub with_fields_named : List FieldTree → List Name → List ValueTree → List ValueTree → Option (List ValueTree)
with_fields_named fields [] [] ws = Some ws
with_fields_named fields (name ∷ names) (v ∷ vs) ws = option_and_then (with_fields_named fields names vs) (with_field name v fields ws)
with_fields_named fields _ _ ws = None

-- all fields of what comes of it are tested
abbrev pub tested_again : SpecTree → Nest → Name → Name → Place → List FieldTree → Option (List ValueTree) → Locals → Code
tested_again spec nest class type place fields None locals = fault TypeFault place
tested_again spec nest class type place fields (Some vs) locals = record_with spec nest class type place (Some fields) vs locals

abbrev pub changed_record : SpecTree → Nest → Name → Name → Place → Option (List FieldTree) → List Name → List ValueTree → List ValueTree → Locals → Code
changed_record spec nest class type place None names vs ws locals = fault TypeFault place
changed_record spec nest class type place (Some fields) names vs ws locals =
    tested_again spec nest class type place fields (with_fields_named fields names vs ws) locals

-- a record, and the values for the fields of these names; what is no record is of another type
abbrev pub record_changed : SpecTree → Nest → List Name → Place → List ValueTree → Locals → Code
record_changed spec nest names place (record_of class type values ∷ vs) locals =
    changed_record spec nest class type place (fields_of spec class type) names vs (value_list values) locals
record_changed spec nest names place _ locals = fault TypeFault place

-- the names of fields, and the expressions for them
abbrev pub field_names : FieldValueTrees → List Name
field_names no_field_values = []
field_names (one_field_value name name_place tree others) = name ∷ field_names others

abbrev pub field_exprs : FieldValueTrees → ExprTrees
field_exprs no_field_values = no_exprs
field_exprs (one_field_value name name_place tree others) = one_expr tree (field_exprs others)

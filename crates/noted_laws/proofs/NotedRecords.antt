-- Records ask, in a thread, questions that entries answer.
use Rattle.std.proofs.Common.{◌∷◌, [], List, Option, Some, None}
use Rattle.vdm_kinds.specs.declared.name.Name.{Name}
use Rattle.vdm_kinds.specs.declared.place.Place.{Place}
use Rattle.abstract_syntax.specs.Classes.{FieldTree, SpecTree}
use Rattle.abstract_syntax.specs.Values.{ValueTree, record_of, value_list, value_trees}
use Rattle.value_operators.specs.Outcomes.{sized}
use Rattle.pattern_meaning.specs.RecordTypes.{RecordType}
use Rattle.node_meaning.specs.Envs.{Locals, Nest}
use Rattle.node_meaning.specs.Records.{changed_record, fields_of, fields_typed, record_changed, record_of_type, record_value, record_with, tested_again, with_fields_named}
use Rattle.node_meaning.specs.Tasks.{Code}
use Rattle.noted_laws.proofs.Noting.{Onward, OnwardWith, notes-typed, notes-value_or_fault}

module _ (spec : SpecTree) (nest : Nest) (place : Place) where
  notes-fields_typed : (class : Name) (fields : List FieldTree) (vs : List ValueTree) (further : Locals → Code) → Onward further → Onward (fields_typed spec nest class place fields vs further)
  notes-fields_typed class [] [] further h locals = h locals
  notes-fields_typed class (field ∷ fields) (v ∷ vs) further h locals =
      notes-typed spec nest (Some class) field.declared place (λ fitting_v after. fields_typed spec nest class place fields vs further after) (λ fitting_v. notes-fields_typed class fields vs further h) v locals
  notes-fields_typed class _ _ further h locals = tt

  notes-record_value : (class name : Name) (vs : List ValueTree) → Onward (record_value class name place vs)
  notes-record_value class name vs = notes-value_or_fault place (sized (record_of class name (value_trees vs)))

  notes-record_with : (class name : Name) (fields : Option (List FieldTree)) → OnwardWith (record_with spec nest class name place fields)
  notes-record_with class name None vs locals = tt
  notes-record_with class name (Some fields) vs locals = notes-fields_typed class fields vs (record_value class name place vs) (notes-record_value class name vs) locals

  pub notes-record_of_type : (found : Option RecordType) → OnwardWith (record_of_type spec nest place found)
  notes-record_of_type None vs locals = tt
  notes-record_of_type (Some r) vs locals = notes-record_with r.class r.name (fields_of spec r.class r.name) vs locals

  notes-tested_again : (class type : Name) (fields : List FieldTree) (found : Option (List ValueTree)) → Onward (tested_again spec nest class type place fields found)
  notes-tested_again class type fields None locals = tt
  notes-tested_again class type fields (Some vs) locals = notes-record_with class type (Some fields) vs locals

  notes-changed_record : (class type : Name) (fields : Option (List FieldTree)) (names : List Name) (vs ws : List ValueTree) → Onward (changed_record spec nest class type place fields names vs ws)
  notes-changed_record class type None names vs ws locals = tt
  notes-changed_record class type (Some fields) names vs ws locals = notes-tested_again class type fields (with_fields_named fields names vs ws) locals

  pub notes-record_changed : (names : List Name) → OnwardWith (record_changed spec nest names place)
  notes-record_changed names (record_of class type values ∷ vs) locals = notes-changed_record class type (fields_of spec class type) names vs (value_list values) locals
  notes-record_changed names _ locals = tt

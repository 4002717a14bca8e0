-- Records keep the rules: they are made of known values and have known fields.
use Rattle.std.proofs.Common.{◌∷◌, [], Bool, IfOk, IfSome, List, None, Ok, Option, Some, false, if◌then◌else◌, option_map, true, ℕ}
use Rattle.std.specs.List.{AllByRecursion as Each}
use Rattle.std.specs.Option.{option_and_then}
use Rattle.vdm_kinds.specs.declared.name.Name.{Name}
use Rattle.vdm_kinds.specs.declared.place.Place.{Place}
use Rattle.vdm_kinds.specs.declared.run_fault.RunFault.TheVariants.{TypeFault, Undefined}
use Rattle.abstract_syntax.specs.Classes.{FieldTree, SpecTree, is_same_name}
use Rattle.abstract_syntax.specs.Values.{ValueTree, ValueTrees, record_of, value_list, value_trees}
use Rattle.pattern_meaning.specs.RecordTypes.{RecordType}
use Rattle.value_operators.specs.Outcomes.{sized}
use Rattle.value_parts.specs.Objects.{EachObject, EachObjectIn}
use Rattle.value_parts.proofs.Gathered.{gathered, listed, sized_keeps}
use Rattle.run_journal.specs.declared.entry.Entry.{Entry}
use Rattle.vdm_legal.proofs.Known.{IsThere}
use Rattle.vdm_legal.proofs.Sanity.{within-self, within-then}
use Rattle.node_meaning.specs.Envs.{Here, Locals, Nest}
use Rattle.node_meaning.specs.Records.{changed_record, field_among, field_in, field_value, fields_of, fields_typed, record_changed, record_of_type, record_value, record_with, tested_again, with_field, with_fields_named}
use Rattle.node_meaning.specs.Tasks.{Code}
use Rattle.vdm_meaning.proofs.Rules.{IsSafe}
use Rattle.vdm_meaning.proofs.Parts.{EachKnown, Goes, IsAt, may-fail, values-on}
use Rattle.vdm_meaning.proofs.Strict.{safe-value_or_fault}
use Rattle.vdm_meaning.proofs.Fitting.{safe-typed}

module _ (P : ℕ → Name → Type 0) where
  -- ---- fields

  field_in_keeps : (name : Name) (fields : List FieldTree) (vs : List ValueTree) → Each (EachObject P) vs → IfOk (field_in name fields vs) (EachObject P)
  field_in_keeps name (field ∷ fields) (v ∷ vs) h = by (is_same_name name field.name) (field_in_keeps name fields vs h.1)
    where
      by : (b : Bool) → IfOk (field_in name fields vs) (EachObject P) → IfOk (if b then Ok v else field_in name fields vs) (EachObject P)
      by true k = h.0
      by false k = k
  field_in_keeps name _ _ h = tt

  field_among_keeps : (name : Name) (fields : Option (List FieldTree)) (vs : List ValueTree) → Each (EachObject P) vs → IfOk (field_among name fields vs) (EachObject P)
  field_among_keeps name None vs h = tt
  field_among_keeps name (Some fields) vs h = field_in_keeps name fields vs h

  pub field_value_keeps : (spec : SpecTree) (name class type : Name) (values : ValueTrees) → EachObjectIn P values → IfOk (field_value spec name class type values) (EachObject P)
  field_value_keeps spec name class type values h = field_among_keeps name (fields_of spec class type) (value_list values) (listed P values h)

  -- ---- `mu`

  behind_keeps : (w : ValueTree) (found : Option (List ValueTree)) → EachObject P w → IfSome found (Each (EachObject P)) → IfSome (option_map (λ (vs : List ValueTree). w ∷ vs) found) (Each (EachObject P))
  behind_keeps w None h k = tt
  behind_keeps w (Some vs) h k = (h, k)

  pub with_field_keeps : (name : Name) (v : ValueTree) (fields : List FieldTree) (ws : List ValueTree) → EachObject P v → Each (EachObject P) ws → IfSome (with_field name v fields ws) (Each (EachObject P))
  with_field_keeps name v (field ∷ fields) (w ∷ ws) h k =
      by (is_same_name name field.name) (behind_keeps w (with_field name v fields ws) k.0 (with_field_keeps name v fields ws h k.1))
    where
      by : (b : Bool) → IfSome (option_map (λ (vs : List ValueTree). w ∷ vs) (with_field name v fields ws)) (Each (EachObject P)) → IfSome (if b then Some (v ∷ ws) else option_map (λ (vs : List ValueTree). w ∷ vs) (with_field name v fields ws)) (Each (EachObject P))
      by true l = (h, k.1)
      by false l = l
  with_field_keeps name v _ _ h k = tt

  then_keeps : (f : List ValueTree → Option (List ValueTree)) (found : Option (List ValueTree)) → IfSome found (Each (EachObject P)) → ((vs : List ValueTree) → Each (EachObject P) vs → IfSome (f vs) (Each (EachObject P))) → IfSome (option_and_then f found) (Each (EachObject P))
  then_keeps f None h goes = tt
  then_keeps f (Some vs) h goes = goes vs h

  with_fields_named_keeps : (fields : List FieldTree) (names : List Name) (vs ws : List ValueTree) → Each (EachObject P) vs → Each (EachObject P) ws → IfSome (with_fields_named fields names vs ws) (Each (EachObject P))
  with_fields_named_keeps fields [] [] ws h k = k
  with_fields_named_keeps fields (name ∷ names) (v ∷ vs) ws h k =
      then_keeps (with_fields_named fields names vs) (with_field name v fields ws) (with_field_keeps name v fields ws h.0 k)
      (λ us also. with_fields_named_keeps fields names vs us h.1 also)
  with_fields_named_keeps fields _ _ ws h k = tt

-- ---- plans

module _ (spec : SpecTree) (first : List Entry) (here : Here) (place : Place) where
  safe-fields_typed : (fields : List FieldTree) (vs : List ValueTree) (now : List Entry) (nest : Nest) (class : Name) (further : Locals → Code) (locals : Locals) → IsAt spec first now here locals → EachKnown spec now vs → Goes spec first here now further → IsSafe spec first now (fields_typed spec nest class place fields vs further locals)
  safe-fields_typed [] [] now nest class further locals is_at known goes = goes now locals (within-self now) is_at
  safe-fields_typed (field ∷ fields) (v ∷ vs) now nest class further locals is_at known goes =
      safe-typed spec first here now locals nest (Some class) field.declared place (λ fitting_v after. fields_typed spec nest class place fields vs further after) v is_at known.0 (λ later w after x at_later also.
      safe-fields_typed fields vs later nest class further after at_later (values-on now later x vs known.1)
      (λ end others y. goes end others (within-then now later end x y)))
  safe-fields_typed _ _ now nest class further locals is_at known goes = may-fail spec TypeFault place is_at.may

  safe-record_value : (now : List Entry) (class name : Name) (vs : List ValueTree) (locals : Locals) → IsAt spec first now here locals → EachKnown spec now vs → IsSafe spec first now (record_value class name place vs locals)
  safe-record_value now class name vs locals is_at known =
      safe-value_or_fault spec place (sized (record_of class name (value_trees vs))) is_at
      (sized_keeps (IsThere spec now) (record_of class name (value_trees vs)) (gathered (IsThere spec now) vs known))

  safe-record_with : (now : List Entry) (nest : Nest) (class name : Name) (fields : Option (List FieldTree)) (vs : List ValueTree) (locals : Locals) → IsAt spec first now here locals → EachKnown spec now vs → IsSafe spec first now (record_with spec nest class name place fields vs locals)
  safe-record_with now nest class name None vs locals is_at known = may-fail spec Undefined place is_at.may
  safe-record_with now nest class name (Some fields) vs locals is_at known =
      safe-fields_typed fields vs now nest class (record_value class name place vs) locals is_at known (λ later after w at_later.
      safe-record_value later class name vs after at_later (values-on now later w vs known))

  pub safe-record_of_type : (now : List Entry) (nest : Nest) (found : Option RecordType) (vs : List ValueTree) (locals : Locals) → IsAt spec first now here locals → EachKnown spec now vs → IsSafe spec first now (record_of_type spec nest place found vs locals)
  safe-record_of_type now nest None vs locals is_at known = may-fail spec Undefined place is_at.may
  safe-record_of_type now nest (Some r) vs locals is_at known = safe-record_with now nest r.class r.name (fields_of spec r.class r.name) vs locals is_at known

  safe-tested_again : (now : List Entry) (nest : Nest) (class type : Name) (fields : List FieldTree) (found : Option (List ValueTree)) (locals : Locals) → IsAt spec first now here locals → IfSome found (EachKnown spec now) → IsSafe spec first now (tested_again spec nest class type place fields found locals)
  safe-tested_again now nest class type fields None locals is_at known = may-fail spec TypeFault place is_at.may
  safe-tested_again now nest class type fields (Some vs) locals is_at known = safe-record_with now nest class type (Some fields) vs locals is_at known

  safe-changed_record : (now : List Entry) (nest : Nest) (class type : Name) (fields : Option (List FieldTree)) (names : List Name) (vs ws : List ValueTree) (locals : Locals) → IsAt spec first now here locals → EachKnown spec now vs → EachKnown spec now ws → IsSafe spec first now (changed_record spec nest class type place fields names vs ws locals)
  safe-changed_record now nest class type None names vs ws locals is_at known others = may-fail spec TypeFault place is_at.may
  safe-changed_record now nest class type (Some fields) names vs ws locals is_at known others =
      safe-tested_again now nest class type fields (with_fields_named fields names vs ws) locals is_at (with_fields_named_keeps (IsThere spec now) fields names vs ws known others)

  pub safe-record_changed : (now : List Entry) (nest : Nest) (names : List Name) (vs : List ValueTree) (locals : Locals) → IsAt spec first now here locals → EachKnown spec now vs → IsSafe spec first now (record_changed spec nest names place vs locals)
  safe-record_changed now nest names (record_of class type values ∷ vs) locals is_at known =
      safe-changed_record now nest class type (fields_of spec class type) names vs (value_list values) locals is_at known.1 (listed (IsThere spec now) values known.0)
  safe-record_changed now nest names _ locals is_at known = may-fail spec TypeFault place is_at.may

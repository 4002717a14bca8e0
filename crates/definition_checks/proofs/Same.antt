-- What is refused of parts in the scopes of definitions is what the definitions say.
use Rattle.std.specs.Prelude.{◌≡◌, List, ◌++◌, Option, Some, None}
use Rattle.std.specs.List.{flat_map}
use Rattle.std.proofs.Common.{refl, ap}
use Rattle.vdm_kinds.specs.declared.name.Name.{Name}
use Rattle.vdm_kinds.specs.declared.spec_fault.SpecFault.{SpecFault}
use Rattle.abstract_syntax.specs.Types.{TypeTree}
use Rattle.abstract_syntax.specs.Expressions.{ExprTree}
use Rattle.abstract_syntax.specs.Classes.{FunctionTree, InvariantTree, OperationTree, SpecTree, TypeDefTree, VariableTree, variable_item}
use Rattle.form_meaning.specs.Forms.{FormTree}
use Rattle.spec_checks.specs.Definitions.{all_parameter_faults, body_form, body_type_faults, condition_faults, function_faults, in_class, in_operation, initial_faults, invariant_faults, item_faults, maybe_type_faults, operation_def_faults, operation_inner_faults, parameters_bind, type_def_faults, type_of_faults, value_faults}
use Rattle.class_checks.specs.Scopes.{ScopeTree, inside}
use Rattle.class_checks.specs.TypeNames.{type_faults}
use Rattle.class_checks.specs.declared.reach.Reach.TheVariants.{Init, Pure}
use Rattle.part_checks.specs.Wanting.{condition_in, maybe_type_in}
use Rattle.definition_checks.specs.Parts.{function_in, initial_in, maybe_invariant_in, operation_in, type_def_in, value_in, variable_in}

module _ (spec : SpecTree) (class : Name) where
  pub value_same : (declared : Option TypeTree) (e : ExprTree) → value_in spec (in_class class Pure) declared e ≡ value_faults spec class declared e
  value_same None e = refl
  value_same (Some t) e = refl

  initial_same : (t : TypeTree) (initial : Option ExprTree) → initial_in spec (in_class class Init) t initial ≡ initial_faults spec class t initial
  initial_same t None = refl
  initial_same t (Some e) = refl

  pub item_same : (v : VariableTree) → variable_in spec (in_class class Init) v.declared v.initial ≡ item_faults spec class (variable_item v)
  item_same v = ap (λ (xs : List SpecFault). type_faults spec class v.declared ++ xs) (initial_same v.declared v.initial)

  maybe_type_same : (declared : Option TypeTree) → maybe_type_in spec class declared ≡ maybe_type_faults spec class declared
  maybe_type_same None = refl
  maybe_type_same (Some t) = refl

  pub condition_same : (scope : ScopeTree) (condition : Option ExprTree) → condition_in spec scope condition ≡ condition_faults spec class scope condition
  condition_same scope None = refl
  condition_same scope (Some e) = refl

  invariant_same : (form : FormTree) (invariant : Option InvariantTree)
      → maybe_invariant_in spec (in_class class Pure) form invariant ≡ invariant_faults spec class form invariant
  invariant_same form None = refl
  invariant_same form (Some invariant) = refl

  pub type_def_same : (t : TypeDefTree) → type_def_in spec (in_class class Pure) t ≡ type_def_faults spec class t
  type_def_same t =
      ap (λ (xs : List SpecFault). body_type_faults spec class t.body ++ xs) (invariant_same (body_form spec class t.name t.body) t.invariant)

  pub function_same : (f : FunctionTree) → function_in spec (in_class class Pure) f ≡ function_faults spec class f
  function_same f = refl

  pub operation_same : (o : OperationTree) → operation_in spec (in_operation class o.access) o ≡ operation_def_faults spec class o
  operation_same o =
      ap
      (λ (xs : List SpecFault). flat_map (type_of_faults spec class) o.parameters
      ++ (xs
      ++ (all_parameter_faults spec class (in_operation class o.access) o.patterns
      ++ operation_inner_faults spec class (inside (in_operation class o.access) (parameters_bind spec class (in_operation class o.access) o.parameters o.patterns)) o)))
      (maybe_type_same o.result_type)

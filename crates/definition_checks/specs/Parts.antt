-- What is refused of the parts of definitions in a scope: the words of the definitions, for any scope in place of that of a class.
use Rattle.std.specs.Prelude.{List, [], ◌++◌, Option, Some, None}
use Rattle.std.specs.List.{flat_map}
use Rattle.vdm_kinds.specs.declared.name.Name.{Name}
use Rattle.vdm_kinds.specs.declared.spec_fault.SpecFault.{SpecFault}
use Rattle.abstract_syntax.specs.Types.{TypeTree}
use Rattle.abstract_syntax.specs.Expressions.{ExprTree}
use Rattle.abstract_syntax.specs.Classes.{InvariantTree, TypeDefTree, FunctionTree, OperationTree, SpecTree}
use Rattle.form_meaning.specs.Forms.{FormTree}
use Rattle.spec_checks.specs.Definitions.{body_form, body_type_faults, function_inner_faults, operation_inner_faults, parameters_bind}
use Rattle.class_checks.specs.Expressions.{check}
use Rattle.class_checks.specs.Operators.{truth}
use Rattle.class_checks.specs.Patterns.{binds}
use Rattle.class_checks.specs.Scopes.{ScopeTree, inside, type_scope, types_from}
use Rattle.class_checks.specs.TypeNames.{form_of, type_faults}
use Rattle.part_checks.specs.Below.check_scopes.specs.declared.scope.Scope.{Scope}
use Rattle.part_checks.specs.Binding.{parameter_in}
use Rattle.part_checks.specs.Wanting.{maybe_type_in, wanted_in}

-- the class in which names of types are looked up
abbrev pub class_of : Scope → Name
class_of scope = types_from scope.class

module _ (spec : SpecTree) (scope : ScopeTree) where
  -- ---- values and variables

  -- a type, and an expression that has to meet it
  abbrev pub typed_in : TypeTree → ExprTree → List SpecFault
  typed_in t e = type_faults spec (type_scope scope) t ++ wanted_in spec scope (form_of spec (type_scope scope) t) e

  abbrev pub value_in : Option TypeTree → ExprTree → List SpecFault
  value_in None e = (check spec scope e).refusals
  value_in (Some t) e = typed_in t e

  abbrev pub initial_in : TypeTree → Option ExprTree → List SpecFault
  initial_in t None = []
  initial_in t (Some e) = wanted_in spec scope (form_of spec (type_scope scope) t) e

  abbrev pub variable_in : TypeTree → Option ExprTree → List SpecFault
  variable_in t initial = type_faults spec (type_scope scope) t ++ initial_in t initial

  -- ---- types

  -- asked of values of a form
  abbrev pub invariant_in : FormTree → InvariantTree → List SpecFault
  invariant_in form invariant =
      parameter_in spec scope invariant.pattern
      ++ wanted_in spec (inside scope (binds spec (type_scope scope) form invariant.pattern)) truth invariant.condition

  abbrev pub maybe_invariant_in : FormTree → Option InvariantTree → List SpecFault
  maybe_invariant_in form None = []
  maybe_invariant_in form (Some invariant) = invariant_in form invariant

  abbrev pub type_def_in : TypeDefTree → List SpecFault
  type_def_in t =
      body_type_faults spec (type_scope scope) t.body
      ++ maybe_invariant_in (body_form spec (type_scope scope) t.name t.body) t.invariant

  -- ---- functions and operations

  abbrev pub function_in : FunctionTree → List SpecFault
  function_in f =
      flat_map (type_faults spec (type_scope scope)) f.parameters
      ++ (type_faults spec (type_scope scope) f.result_type
      ++ (flat_map (parameter_in spec scope) f.patterns
      ++ function_inner_faults spec (type_scope scope) (inside scope (parameters_bind spec (type_scope scope) scope f.parameters f.patterns)) f))

  abbrev pub operation_in : OperationTree → List SpecFault
  operation_in o =
      flat_map (type_faults spec (type_scope scope)) o.parameters
      ++ (maybe_type_in spec (type_scope scope) o.result_type
      ++ (flat_map (parameter_in spec scope) o.patterns
      ++ operation_inner_faults spec (type_scope scope) (inside scope (parameters_bind spec (type_scope scope) scope o.parameters o.patterns)) o))

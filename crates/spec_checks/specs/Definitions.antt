-- The check of a specification: what is refused in the definitions of its classes. ('Classes' and 'Synchronisation' of the VDM-10
-- Language Manual (Overture).)
use Rattle.std.specs.Prelude.{ℕ, ℤ, pos, negsuc, Bool, true, false, not, ◌&&◌, nat_lt, if◌then◌else◌, List, [], ◌∷◌, ◌++◌, Option, Some, None}
use Rattle.std.specs.List.{flat_map}
use Rattle.vdm_kinds.specs.declared.access.Access.{Access}
use Rattle.vdm_kinds.specs.declared.name.Name.{Name}
use Rattle.vdm_kinds.specs.declared.place.Place.{Place}
use Rattle.vdm_kinds.specs.declared.spec_fault.SpecFault.{SpecFault}
use Rattle.vdm_kinds.specs.declared.spec_kind.SpecKind.TheVariants.{LeftOut, UnknownName, Ambiguous, WrongArity, NoCommonValue, NotSynchronised}
use Rattle.abstract_syntax.specs.Literals.{whole_literal}
use Rattle.abstract_syntax.specs.Types.{TypeTree}
use Rattle.abstract_syntax.specs.Expressions.{ExprTree, literal, named, qualified, PatternTree, expr_place}
use Rattle.abstract_syntax.specs.Statements.{StmtTree}
use Rattle.abstract_syntax.specs.Classes.{FieldTree, TypeBody, same_as, with_fields, InvariantTree, TypeDefTree, ValueDefTree, VariableItem, variable_item, invariant_item, Body, written, FunctionTree, OperationTree, PhaseTree, ThreadTree, periodic, procedural, SyncTree, permission, mutex_all, mutex_of, BlockTree, types, values, variables, functions, operations, thread_of, synchronisation, ClassTree, SpecTree}
use Rattle.class_meaning.specs.Classes.{class_number}
use Rattle.class_meaning.specs.Members.{of_value, of_operation}
use Rattle.class_meaning.specs.declared.ask.Ask.TheVariants.{ByName, Called}
use Rattle.member_meaning.specs.Meaning.{Meant, unknown, ambiguous, meant, meaning}
use Rattle.form_meaning.specs.Forms.{FormTree, any_form, no_form, record_alt, only}
use Rattle.class_checks.specs.Callees.{has_some_called}
use Rattle.class_checks.specs.Expressions.{check, want_faults, givens}
use Rattle.class_checks.specs.Members.{operation_faults, is_counted, uncounted}
use Rattle.class_checks.specs.Operators.{truth}
use Rattle.class_checks.specs.Patterns.{binds, pattern_faults}
use Rattle.class_checks.specs.Results.{refusal, refused_if, first_among, gives}
use Rattle.class_checks.specs.Scopes.{LocalForm, ScopeTree, nothing_bound, inside, type_scope}
use Rattle.spec_checks.specs.Statements.{check_stmt}
use Rattle.spec_checks.specs.Targets.{Returned, anything, no_value, a_value, nothing_declared}
use Rattle.class_checks.specs.TypeNames.{form_of, type_faults}
use Rattle.class_checks.specs.declared.reach.Reach.{Reach}
use Rattle.class_checks.specs.declared.reach.Reach.TheVariants.{Free, Init, Pure, Guard, Inv}

-- ---- scopes

-- in a class, with nothing bound
abbrev pub in_class : Name → Reach → ScopeTree
in_class class reach = record { class = Some class; locals = nothing_bound; result = None; old = false; object = true; reach = reach }

abbrev pub in_operation : Name → Access → ScopeTree
in_operation class access = record {
  class = Some class;
  locals = nothing_bound;
  result = None;
  old = false;
  object = not access.is_static;
  reach = Free;
}

-- in the `post` of what has this result
abbrev pub afterwards : ScopeTree → Option FormTree → Bool → ScopeTree
afterwards scope result old = record {
  class = scope.class;
  locals = scope.locals;
  result = result;
  old = old;
  object = scope.object;
  reach = scope.reach;
}

module _ (spec : SpecTree) (class : Name) where
  -- ---- expressions of definitions

  abbrev pub expr_faults : ScopeTree → ExprTree → List SpecFault
  expr_faults scope e = (check spec scope e).refusals

  -- ... that have to meet a form
  abbrev pub wanted_faults : ScopeTree → FormTree → ExprTree → List SpecFault
  wanted_faults scope wanted e = expr_faults scope e ++ want_faults spec wanted (expr_place e) (check spec scope e).form

  abbrev pub condition_faults : ScopeTree → Option ExprTree → List SpecFault
  condition_faults scope None = []
  condition_faults scope (Some e) = wanted_faults scope truth e

  abbrev pub type_of_faults : TypeTree → List SpecFault
  type_of_faults t = type_faults spec class t

  abbrev pub declared : TypeTree → FormTree
  declared t = form_of spec class t

  abbrev pub maybe_type_faults : Option TypeTree → List SpecFault
  maybe_type_faults None = []
  maybe_type_faults (Some t) = type_of_faults t

  -- ---- patterns of parameters

  -- a pattern over a value of a form: what is refused in it
  abbrev pub parameter_faults : ScopeTree → PatternTree → List SpecFault
  parameter_faults scope pattern =
      pattern_faults spec (type_scope scope) pattern
      ++ (givens spec scope pattern (gives no_form)).refusals

  abbrev pub all_parameter_faults : ScopeTree → List PatternTree → List SpecFault
  all_parameter_faults scope patterns = flat_map (parameter_faults scope) patterns

  -- what the patterns bind; a pattern without a type was refused before
  abbrev pub parameters_bind : ScopeTree → List TypeTree → List PatternTree → List LocalForm
  parameters_bind scope ts [] = []
  parameters_bind scope [] (p ∷ ps) = binds spec (type_scope scope) any_form p ++ parameters_bind scope [] ps
  parameters_bind scope (t ∷ ts) (p ∷ ps) = binds spec (type_scope scope) (declared t) p ++ parameters_bind scope ts ps

  -- ---- types

  abbrev pub body_type_faults : TypeBody → List SpecFault
  body_type_faults (same_as t) = type_of_faults t
  body_type_faults (with_fields fields) = flat_map (λ (f : FieldTree). type_of_faults f.declared) fields

  -- what an invariant is asked of
  abbrev pub body_form : Name → TypeBody → FormTree
  body_form name (same_as t) = declared t
  body_form name (with_fields fields) = only (record_alt class name)

  abbrev pub invariant_faults : FormTree → Option InvariantTree → List SpecFault
  invariant_faults form None = []
  invariant_faults form (Some invariant) =
      parameter_faults (in_class class Pure) invariant.pattern
      ++ wanted_faults (inside (in_class class Pure) (binds spec (type_scope (in_class class Pure)) form invariant.pattern)) truth invariant.condition

  abbrev pub type_def_faults : TypeDefTree → List SpecFault
  type_def_faults t = body_type_faults t.body ++ invariant_faults (body_form t.name t.body) t.invariant

  -- ---- values and variables

  abbrev pub value_faults : Option TypeTree → ExprTree → List SpecFault
  value_faults None e = expr_faults (in_class class Pure) e
  value_faults (Some t) e = type_of_faults t ++ wanted_faults (in_class class Pure) (declared t) e

  abbrev pub initial_faults : TypeTree → Option ExprTree → List SpecFault
  initial_faults t None = []
  initial_faults t (Some e) = wanted_faults (in_class class Init) (declared t) e

  abbrev pub item_faults : VariableItem → List SpecFault
  item_faults (variable_item v) = type_of_faults v.declared ++ initial_faults v.declared v.initial
  item_faults (invariant_item e place) = wanted_faults (in_class class Inv) truth e

  -- ---- functions and operations

  abbrev pub function_body_faults : ScopeTree → FormTree → Body ExprTree → List SpecFault
  function_body_faults scope wanted (written e) = wanted_faults scope wanted e
  function_body_faults scope wanted _ = []

  -- inside the parameters
  abbrev pub function_inner_faults : ScopeTree → FunctionTree → List SpecFault
  function_inner_faults scope f =
      function_body_faults scope (declared f.result_type) f.body
      ++ (condition_faults scope f.pre ++ condition_faults (afterwards scope (Some (declared f.result_type)) false) f.post)

  abbrev pub function_faults : FunctionTree → List SpecFault
  function_faults f =
      flat_map type_of_faults f.parameters
      ++ (type_of_faults f.result_type
      ++ (all_parameter_faults (in_class class Pure) f.patterns
      ++ function_inner_faults (inside (in_class class Pure) (parameters_bind (in_class class Pure) f.parameters f.patterns)) f))

  abbrev pub result_of : Option TypeTree → Option FormTree
  result_of None = None
  result_of (Some t) = Some (declared t)

  abbrev pub returned_of : Option TypeTree → Returned
  returned_of None = no_value
  returned_of (Some t) = a_value (declared t)

  abbrev pub operation_body_faults : ScopeTree → Option TypeTree → Body StmtTree → List SpecFault
  operation_body_faults scope result (written s) =
      (check_stmt spec (record { within = scope; declared = nothing_declared; returned = returned_of result }) s).refusals
  operation_body_faults scope result _ = []

  abbrev pub operation_inner_faults : ScopeTree → OperationTree → List SpecFault
  operation_inner_faults scope o =
      operation_body_faults scope o.result_type o.body
      ++ (condition_faults scope o.pre ++ condition_faults (afterwards scope (result_of o.result_type) true) o.post)

  abbrev pub operation_def_faults : OperationTree → List SpecFault
  operation_def_faults o =
      flat_map type_of_faults o.parameters
      ++ (maybe_type_faults o.result_type
      ++ (all_parameter_faults (in_operation class o.access) o.patterns
      ++ operation_inner_faults (inside (in_operation class o.access) (parameters_bind (in_operation class o.access) o.parameters o.patterns)) o))

  -- ---- threads

  -- a number that is written, or a class value that is one
  abbrev pub literal_number : ExprTree → Option ℤ
  literal_number (literal (whole_literal n) place) = Some n
  literal_number _ = None

  abbrev pub value_number : Meant → Option ℤ
  value_number (meant owner (of_value v)) = literal_number v.value
  value_number _ = None

  abbrev pub number_in : Name → Option ℕ → Option ℤ
  number_in name None = None
  number_in name (Some k) = value_number (meaning spec (ByName name) k)

  abbrev pub number_of : ExprTree → Option ℤ
  number_of (named name place) = number_in name (class_number spec class)
  number_of (qualified other name name_place place) = number_in name (class_number spec other)
  number_of e = literal_number e

  abbrev pub is_within : ℕ → ℕ → ℤ → Bool
  is_within least greatest (pos n) = not (nat_lt n least) && not (nat_lt greatest n)
  is_within least greatest (negsuc n) = false

  abbrev pub in_range_faults : ℕ → ℕ → Place → Option ℤ → List SpecFault
  in_range_faults least greatest place None = refusal LeftOut place ∷ []
  in_range_faults least greatest place (Some n) = refused_if (not (is_within least greatest n)) NoCommonValue place

  -- what is refused of it as an expression, and as a number
  abbrev pub tick_faults : ℕ → ℕ → ExprTree → List SpecFault
  tick_faults least greatest e = expr_faults (in_class class Free) e ++ in_range_faults least greatest (expr_place e) (number_of e)

  abbrev pub most_ticks : ℕ
  most_ticks = 1000000000

  -- a delay is at most the period, where that is known
  abbrev pub delay_most : Option ℤ → ℕ
  delay_most (Some (pos n)) = if nat_lt most_ticks n then most_ticks else n
  delay_most _ = most_ticks

  abbrev pub phase_faults : ExprTree → Option PhaseTree → List SpecFault
  phase_faults period None = []
  phase_faults period (Some phase) =
      tick_faults 0 most_ticks phase.jitter ++ (tick_faults 0 (delay_most (number_of period)) phase.delay ++ tick_faults 0 most_ticks phase.offset)

  -- what each release calls is an operation without parameters; what is found of the name and is no operation is not it
  abbrev pub released_faults : Name → Place → Place → ℕ → Meant → List SpecFault
  released_faults name name_place place k (meant owner (of_operation o)) = operation_faults spec (in_class class Free) name_place true owner o.access
  released_faults name name_place place k (meant owner other) = refusal UnknownName name_place ∷ []
  released_faults name name_place place k ambiguous = refusal Ambiguous name_place ∷ []
  released_faults name name_place place k unknown =
      if has_some_called spec name k then refusal WrongArity place ∷ [] else refusal UnknownName name_place ∷ []

  abbrev pub release_faults : Name → Place → Place → Option ℕ → List SpecFault
  release_faults name name_place place None = refusal UnknownName name_place ∷ []
  release_faults name name_place place (Some k) = released_faults name name_place place k (meaning spec (Called name 0) k)

  abbrev pub thread_faults : ThreadTree → List SpecFault
  thread_faults (procedural s) =
      (check_stmt spec (record { within = in_class class Free; declared = nothing_declared; returned = anything }) s).refusals
  thread_faults (periodic period phase name name_place place) =
      tick_faults 1 most_ticks period ++ (phase_faults period phase ++ release_faults name name_place place (class_number spec class))

  -- ---- synchronisation

  abbrev pub named_operation_faults : Name → Place → List SpecFault
  named_operation_faults name place = refused_if (not (is_counted spec (class_number spec class) name)) NotSynchronised place

  abbrev pub sync_faults : SyncTree → List SpecFault
  sync_faults (permission name name_place e place) = named_operation_faults name name_place ++ wanted_faults (in_class class Guard) truth e
  sync_faults (mutex_all place) = []
  sync_faults (mutex_of names place) = uncounted spec (in_class class Guard) names

  -- ---- classes

  abbrev pub block_faults : BlockTree → List SpecFault
  block_faults (types definitions place) = flat_map type_def_faults definitions
  block_faults (values definitions place) = flat_map (λ (v : ValueDefTree). value_faults v.declared v.value) definitions
  block_faults (variables items place) = flat_map item_faults items
  block_faults (functions definitions place) = flat_map function_faults definitions
  block_faults (operations definitions place) = flat_map operation_def_faults definitions
  block_faults (thread_of thread place) = thread_faults thread
  block_faults (synchronisation clauses place) = flat_map sync_faults clauses

abbrev pub class_faults : SpecTree → ClassTree → List SpecFault
class_faults spec class = flat_map (block_faults spec class.name) class.blocks

-- all that is refused in a specification whose table stands
abbrev pub spec_faults : SpecTree → List SpecFault
spec_faults spec = flat_map (class_faults spec) spec.classes

-- the first in text order
abbrev pub spec_fault : SpecTree → Option SpecFault
spec_fault spec = first_among None (spec_faults spec)

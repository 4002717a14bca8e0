-- Classes with a meaning: each node of what is evaluated of their definitions has a plan of its own.
use Rattle.std.specs.Prelude.{◌≡◌, ℕ, true, List, [], ◌∷◌, ◌++◌, Option, Some, None}
use Rattle.abstract_syntax.specs.Expressions.{ExprTree}
use Rattle.abstract_syntax.specs.Classes.{
  InvariantTree,
  TypeDefTree,
  ValueDefTree,
  VariableTree,
  VariableItem,
  variable_item,
  invariant_item,
  Body,
  written,
  not_yet_specified,
  subclass_responsibility,
  FunctionTree,
  OperationTree,
  BlockTree,
  types,
  values,
  variables,
  functions,
  operations,
  thread_of,
  synchronisation,
  ClassTree,
  SpecTree,
}
use Rattle.pattern_meaning.specs.Brackets.{given_in, given_in_list}
use Rattle.built_laws.specs.Meant.{Each, IsMeant, MakesNothing}
use Rattle.built_laws.specs.MeantStmts.{IsMeantBody}
use Rattle.built_laws.specs.Parts.{given_part}

-- ---- functions

abbrev pub body_part : Body ExprTree → List ExprTree
body_part (written body) = body ∷ []
body_part not_yet_specified = []
body_part subclass_responsibility = []

-- what is evaluated of a function, in text order
abbrev pub function_parts : FunctionTree → List ExprTree
function_parts f = given_in_list f.patterns ++ (body_part f.body ++ (given_part f.pre ++ given_part f.post))

abbrev pub IsMeantFunction : ℕ → FunctionTree → Type 0
IsMeantFunction levels f = Each (IsMeant levels) (function_parts f)

-- ---- types

-- what is evaluated of an invariant, in text order
abbrev pub invariant_parts : Option InvariantTree → List ExprTree
invariant_parts None = []
invariant_parts (Some invariant) = given_in invariant.pattern ++ (invariant.condition ∷ [])

abbrev pub IsMeantType : ℕ → TypeDefTree → Type 0
IsMeantType levels t = Each (IsMeant levels) (invariant_parts t.invariant)

-- ---- the other definitions

abbrev pub IsMeantValue : ℕ → ValueDefTree → Type 0
IsMeantValue levels v = IsMeant levels v.value

-- a variable may have an initial value; that of a static one makes no object
pub record IsMeantVariable (levels : ℕ) (v : VariableTree) : Type 0 where
  pub meant : Each (IsMeant levels) (given_part v.initial)
  pub static_makes_nothing : v.access.is_static ≡ true → Each (MakesNothing levels) (given_part v.initial)

-- an invariant of objects makes none
pub record IsMeantCondition (levels : ℕ) (condition : ExprTree) : Type 0 where
  pub meant : IsMeant levels condition
  pub makes_nothing : MakesNothing levels condition

abbrev pub IsMeantItem : ℕ → VariableItem → Type 0
IsMeantItem levels (variable_item v) = IsMeantVariable levels v
IsMeantItem levels (invariant_item condition place) = IsMeantCondition levels condition

-- what is evaluated of an operation beside its body
abbrev pub operation_parts : OperationTree → List ExprTree
operation_parts o = given_in_list o.patterns ++ (given_part o.pre ++ given_part o.post)

pub record IsMeantOperation (levels : ℕ) (o : OperationTree) : Type 0 where
  pub body : IsMeantBody levels o.body
  pub conditions : Each (IsMeant levels) (operation_parts o)

-- ---- whole specifications

-- no thread and no synchronisation has a meaning yet
abbrev pub IsMeantBlock : ℕ → BlockTree → Type 0
IsMeantBlock levels (types definitions place) = Each (IsMeantType levels) definitions
IsMeantBlock levels (values definitions place) = Each (IsMeantValue levels) definitions
IsMeantBlock levels (variables items place) = Each (IsMeantItem levels) items
IsMeantBlock levels (functions definitions place) = Each (IsMeantFunction levels) definitions
IsMeantBlock levels (operations definitions place) = Each (IsMeantOperation levels) definitions
IsMeantBlock levels (thread_of thread place) = ⊥
IsMeantBlock levels (synchronisation clauses place) = ⊥

abbrev pub IsMeantClass : ℕ → ClassTree → Type 0
IsMeantClass levels class = Each (IsMeantBlock levels) class.blocks

abbrev pub IsMeantSpec : ℕ → SpecTree → Type 0
IsMeantSpec levels spec = Each (IsMeantClass levels) spec.classes

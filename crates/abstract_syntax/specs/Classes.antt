-- The pure trees of definitions, classes and of a whole specification. The place of a definition is that of its first token.
use Rattle.std.specs.Prelude.{Bool, nat_eq, List, [], ◌∷◌, Option, map, flat_map}
use Rattle.std.specs.List.{find}
use Rattle.vdm_kinds.specs.declared.access.Access.{Access}
use Rattle.vdm_kinds.specs.declared.name.Name.{Name}
use Rattle.vdm_kinds.specs.declared.name_at.NameAt.{NameAt}
use Rattle.vdm_kinds.specs.declared.place.Place.{Place}
use Rattle.abstract_syntax.specs.Types.{TypeTree}
use Rattle.abstract_syntax.specs.Expressions.{ExprTree, PatternTree}
use Rattle.abstract_syntax.specs.Statements.{StmtTree}

-- ---- types

-- a field of a record type: its name at its place, and its type
pub record FieldTree : Type 0 where
  pub name : Name
  pub name_place : Place
  pub declared : TypeTree

pub data TypeBody : Type 0 where
  -- `= T`
  same_as : TypeTree → TypeBody
  -- `:: f : S g : T`
  with_fields : List FieldTree → TypeBody

-- `inv p == e`
pub record InvariantTree : Type 0 where
  pub pattern : PatternTree
  pub condition : ExprTree

-- a type, in the class of this name
pub record TypeDefTree : Type 0 where
  pub access : Access
  pub class : Name
  pub name : Name
  pub name_place : Place
  pub body : TypeBody
  pub invariant : Option InvariantTree
  pub place : Place

-- ---- values and variables

-- a class value: its type where one is given, and its expression
pub record ValueDefTree : Type 0 where
  pub access : Access
  pub name : Name
  pub name_place : Place
  pub declared : Option TypeTree
  pub value : ExprTree
  pub place : Place

-- an instance variable: its type, and its initial value where one is given
pub record VariableTree : Type 0 where
  pub access : Access
  pub name : Name
  pub name_place : Place
  pub declared : TypeTree
  pub initial : Option ExprTree
  pub place : Place

-- what stands among instance variables
pub data VariableItem : Type 0 where
  variable_item : VariableTree → VariableItem
  -- `inv e`
  invariant_item : ExprTree → Place → VariableItem

-- ---- functions and operations

-- the body of a function or an operation
pub data Body (A : Type 0) : Type 0 where
  written : A → Body A
  -- `is not yet specified`
  not_yet_specified : Body A
  -- `is subclass responsibility`
  subclass_responsibility : Body A

-- a function: the types of its parameters, which are the factors of an unbracketed product, then its result's; the patterns of the
-- parameters, and its body
pub record FunctionTree : Type 0 where
  pub access : Access
  pub name : Name
  pub name_place : Place
  pub parameters : List TypeTree
  pub result_type : TypeTree
  pub patterns : List PatternTree
  pub body : Body ExprTree
  pub pre : Option ExprTree
  pub post : Option ExprTree
  pub measure : Option ExprTree
  pub place : Place

-- an operation: its result's type, where it has a result
pub record OperationTree : Type 0 where
  pub access : Access
  pub name : Name
  pub name_place : Place
  pub parameters : List TypeTree
  pub result_type : Option TypeTree
  pub patterns : List PatternTree
  pub body : Body StmtTree
  pub pre : Option ExprTree
  pub post : Option ExprTree
  pub place : Place

-- ---- threads and synchronisation

-- what may stand behind the period of a periodic thread
pub record PhaseTree : Type 0 where
  pub jitter : ExprTree
  pub delay : ExprTree
  pub offset : ExprTree

pub data ThreadTree : Type 0 where
  -- `periodic(p, j, d, o)(op)`: the name of the operation at its place
  periodic : ExprTree → Option PhaseTree → Name → Place → Place → ThreadTree
  procedural : StmtTree → ThreadTree

pub data SyncTree : Type 0 where
  -- `per op => e`: the name of the operation at its place
  permission : Name → Place → ExprTree → Place → SyncTree
  -- `mutex(all)`
  mutex_all : Place → SyncTree
  -- `mutex(op, op)`
  mutex_of : List NameAt → Place → SyncTree

-- ---- classes

-- a block of definitions, at the place of its first word
pub data BlockTree : Type 0 where
  types : List TypeDefTree → Place → BlockTree
  values : List ValueDefTree → Place → BlockTree
  variables : List VariableItem → Place → BlockTree
  functions : List FunctionTree → Place → BlockTree
  operations : List OperationTree → Place → BlockTree
  thread_of : ThreadTree → Place → BlockTree
  synchronisation : List SyncTree → Place → BlockTree

-- a class, at the place of the word `class`: its name, those of its superclasses, and its blocks
pub record ClassTree : Type 0 where
  pub name : Name
  pub name_place : Place
  pub superclasses : List NameAt
  pub blocks : List BlockTree
  pub place : Place

-- a specification: its classes, as written
pub record SpecTree : Type 0 where
  pub classes : List ClassTree

-- ---- what stands in them

-- the names of the classes
abbrev pub class_names : SpecTree → List Name
class_names spec = map (λ (class : ClassTree). class.name) spec.classes

abbrev pub is_same_name : Name → Name → Bool
is_same_name a b = nat_eq a.0 b.0

-- the definitions of a class, in text order
abbrev pub variables_among : List VariableItem → List VariableTree
variables_among [] = []
variables_among (variable_item v ∷ items) = v ∷ variables_among items
variables_among (invariant_item condition place ∷ items) = variables_among items

abbrev pub variables_in : BlockTree → List VariableTree
variables_in (variables items place) = variables_among items
variables_in _ = []

abbrev pub operations_in : BlockTree → List OperationTree
operations_in (operations definitions place) = definitions
operations_in _ = []

abbrev pub class_variables : ClassTree → List VariableTree
class_variables class = flat_map variables_in class.blocks

abbrev pub class_operations : ClassTree → List OperationTree
class_operations class = flat_map operations_in class.blocks

-- what a name stands for, where it stands for anything
abbrev pub variable_named : ClassTree → Name → Option VariableTree
variable_named class name = find (λ (v : VariableTree). is_same_name name v.name) (class_variables class)

abbrev pub operation_named : ClassTree → Name → Option OperationTree
operation_named class name = find (λ (o : OperationTree). is_same_name name o.name) (class_operations class)

abbrev pub class_named : SpecTree → Name → Option ClassTree
class_named spec name = find (λ (class : ClassTree). is_same_name name class.name) spec.classes

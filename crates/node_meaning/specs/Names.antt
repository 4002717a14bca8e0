-- What names stand for, by the table of the classes.
use Rattle.std.specs.Prelude.{ℕ, Bool, true, false, if◌then◌else◌, List, Option, Some, None, is_some, option_map}
use Rattle.std.specs.Option.{option_and_then}
use Rattle.vdm_kinds.specs.declared.member.OpRef.{OpRef}
use Rattle.vdm_kinds.specs.declared.member.VarRef.{VarRef}
use Rattle.vdm_kinds.specs.declared.name.Name.{Name}
use Rattle.abstract_syntax.specs.Classes.{ValueDefTree, VariableTree, FunctionTree, OperationTree, SpecTree}
use Rattle.class_meaning.specs.Classes.{class_number}
use Rattle.class_meaning.specs.Calls.{reached}
use Rattle.class_meaning.specs.Found.{found_value, found_variable, found_function, found_operation}
use Rattle.class_meaning.specs.Objects.{layout}
use Rattle.class_meaning.specs.declared.found.OpFound.{OpFound}
use Rattle.class_meaning.specs.declared.found.OpFound.TheVariants.{One as OneOp, Several as SeveralOps, None as NoOp}
use Rattle.class_meaning.specs.declared.found.VarFound.{VarFound}
use Rattle.class_meaning.specs.declared.found.VarFound.TheVariants.{One, Several, None as NoVariable}
use Rattle.class_meaning.specs.Found.{own_in}
use Rattle.class_meaning.specs.Members.{Member, of_value, of_variable, of_function, of_operation}
use Rattle.class_meaning.specs.declared.ask.Ask.TheVariants.{ByName, Called}
use Rattle.node_meaning.specs.Envs.{Here, may_act}

-- the number of a class that may be named
abbrev pub number_of : SpecTree → Option Name → Option ℕ
number_of spec class = option_and_then (class_number spec) class

-- ---- variables

abbrev pub variable_of : Member → Option VariableTree
variable_of (of_variable v) = Some v
variable_of _ = None

-- the definition of a variable in its class
abbrev pub variable_definition : SpecTree → VarRef → Option VariableTree
variable_definition spec v = option_and_then variable_of (option_and_then (own_in spec (ByName v.name)) (class_number spec v.class))

-- the one variable that was found
abbrev pub one_variable : VarFound → Option VarRef
one_variable (One var) = Some var
one_variable Several = None
one_variable NoVariable = None

-- the variable that a name means in the class in which a node stands
abbrev pub variable_in : SpecTree → Option Name → Name → Option VarRef
variable_in spec None name = None
variable_in spec (Some class) name = option_and_then (λ (k : ℕ). one_variable (found_variable spec k name)) (class_number spec class)

-- the variables of an object of a class, in order
abbrev pub variables_of : SpecTree → Name → Option (List VarRef)
variables_of spec class = option_map (layout spec) (class_number spec class)

-- ---- class values

abbrev pub value_of : Member → Option ValueDefTree
value_of (of_value v) = Some v
value_of _ = None

-- the definition of a class value in its class
abbrev pub value_definition : SpecTree → VarRef → Option ValueDefTree
value_definition spec v = option_and_then value_of (option_and_then (own_in spec (ByName v.name)) (class_number spec v.class))

-- the class value that a name means in the class in which a node stands
abbrev pub value_in : SpecTree → Option Name → Name → Option VarRef
value_in spec None name = None
value_in spec (Some class) name = option_and_then (λ (k : ℕ). one_variable (found_value spec k name)) (class_number spec class)

-- ---- functions

abbrev pub function_of : Member → Option FunctionTree
function_of (of_function f) = Some f
function_of _ = None

-- the definition of a function in its class
abbrev pub function_definition : SpecTree → OpRef → Option FunctionTree
function_definition spec f = option_and_then function_of (option_and_then (own_in spec (Called f.name f.arity)) (class_number spec f.class))

-- the one function or operation that was found
abbrev pub one_operation : OpFound → Option OpRef
one_operation (OneOp op) = Some op
one_operation SeveralOps = None
one_operation NoOp = None

-- the function that a name with so many arguments means in the class in which a node stands
abbrev pub function_in : SpecTree → Option Name → Name → ℕ → Option OpRef
function_in spec None name arity = None
function_in spec (Some class) name arity =
    option_and_then (λ (k : ℕ). one_operation (found_function spec k name arity)) (class_number spec class)

-- ---- operations

-- ... and the operation, which ``C`op`` means whatever the class of the object
abbrev pub operation_in : SpecTree → Option Name → Name → ℕ → Option OpRef
operation_in spec None name arity = None
operation_in spec (Some class) name arity =
    option_and_then (λ (k : ℕ). one_operation (found_operation spec k name arity)) (class_number spec class)

abbrev pub operation_of : Member → Option OperationTree
operation_of (of_operation o) = Some o
operation_of _ = None

-- the definition of an operation in its class
abbrev pub operation_definition : SpecTree → OpRef → Option OperationTree
operation_definition spec o = option_and_then operation_of (option_and_then (own_in spec (Called o.name o.arity)) (class_number spec o.class))

-- the operation that a call through an object of a class reaches, where the call stands in a class or in none
abbrev pub operation_reached : SpecTree → Option Name → Name → Name → ℕ → Option OpRef
operation_reached spec scope class name arity =
    option_and_then (λ (k : ℕ). reached spec (number_of spec scope) k name arity) (class_number spec class)

-- ... and without an object before it: through the object of a class on which the node stands; where it stands on none, the one that its
-- class has
abbrev pub own_reached : SpecTree → Option Name → Option Name → Name → ℕ → Option OpRef
own_reached spec scope None name arity = operation_in spec scope name arity
own_reached spec scope (Some own) name arity = operation_reached spec scope own name arity

-- ... where the name means an operation in the class in which it stands: what it means otherwise hides those of classes below
abbrev pub own_named : SpecTree → Option Name → Option Name → Name → ℕ → Option OpRef
own_named spec scope own name arity = if is_some (operation_in spec scope name arity) then own_reached spec scope own name arity else None

-- ---- homes

-- Where a class's definition stands: on its class object where it is static, whoever names it, else on the object that there is.
abbrev pub home : SpecTree → Name → Bool → Option ℕ → Option ℕ
home spec class true object = class_number spec class
home spec class false object = object

-- what has no definition is not static
abbrev pub is_static_variable : Option VariableTree → Bool
is_static_variable None = false
is_static_variable (Some v) = v.access.is_static

abbrev pub is_static_operation : Option OperationTree → Bool
is_static_operation None = false
is_static_operation (Some o) = o.access.is_static

-- the object on which a variable stands, where this object was named, or that of the node
abbrev pub variable_home : SpecTree → VarRef → Option ℕ → Option ℕ
variable_home spec var object = home spec var.class (is_static_variable (variable_definition spec var)) object

-- the object on which an operation runs
abbrev pub operation_home : SpecTree → OpRef → Option ℕ → Option ℕ
operation_home spec op object = home spec op.class (is_static_operation (operation_definition spec op)) object

-- ... where one was found
abbrev pub found_home : SpecTree → Option OpRef → Option ℕ → Option ℕ
found_home spec None object = None
found_home spec (Some op) object = operation_home spec op object

-- where what a name alone means stands, or what it means behind a class: nowhere for a node that may not name it
abbrev pub home_for : Here → Option ℕ → Option ℕ
home_for here number = if may_act here then number else None

abbrev pub variable_here : SpecTree → Here → VarRef → Option ℕ
variable_here spec here var = home_for here (variable_home spec var here.me)

abbrev pub operation_here : SpecTree → Here → Option OpRef → Option ℕ
operation_here spec here op = home_for here (found_home spec op here.me)

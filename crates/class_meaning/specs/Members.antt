-- What has a name in a class: its types, values, variables, functions and operations, in text order.
use Rattle.std.specs.Prelude.{Bool, false, ◌&&◌, nat_eq, List, [], Option, map, length, Some, None}
use Rattle.std.specs.List.{flat_map, find}
use Rattle.vdm_kinds.specs.declared.name.Name.{Name}
use Rattle.vdm_kinds.specs.declared.place.Place.{Place}
use Rattle.abstract_syntax.specs.Classes.{
  TypeDefTree,
  ValueDefTree,
  VariableTree,
  variables_among,
  FunctionTree,
  OperationTree,
  BlockTree,
  types,
  values,
  variables,
  functions,
  operations,
  ClassTree,
  is_same_name,
}
use Rattle.class_meaning.specs.declared.ask.Ask.{Ask}
use Rattle.class_meaning.specs.declared.ask.Ask.TheVariants.{AsType, ByName, Called}
use Rattle.class_meaning.specs.declared.ask.MemberKind.{MemberKind}
use Rattle.class_meaning.specs.declared.ask.MemberKind.TheVariants.{TypeDef, Value, Variable, Function, Operation}

pub data Member : Type 0 where
  of_type : TypeDefTree → Member
  of_value : ValueDefTree → Member
  of_variable : VariableTree → Member
  of_function : FunctionTree → Member
  of_operation : OperationTree → Member

abbrev pub member_name : Member → Name
member_name (of_type t) = t.name
member_name (of_value v) = v.name
member_name (of_variable v) = v.name
member_name (of_function f) = f.name
member_name (of_operation o) = o.name

-- where its first name stands
abbrev pub member_name_place : Member → Place
member_name_place (of_type t) = t.name_place
member_name_place (of_value v) = v.name_place
member_name_place (of_variable v) = v.name_place
member_name_place (of_function f) = f.name_place
member_name_place (of_operation o) = o.name_place

-- where its definition begins
abbrev pub member_place : Member → Place
member_place (of_type t) = t.place
member_place (of_value v) = v.place
member_place (of_variable v) = v.place
member_place (of_function f) = f.place
member_place (of_operation o) = o.place

abbrev pub kind_of : Member → MemberKind
kind_of (of_type t) = TypeDef
kind_of (of_value v) = Value
kind_of (of_variable v) = Variable
kind_of (of_function f) = Function
kind_of (of_operation o) = Operation

abbrev pub members_in : BlockTree → List Member
members_in (types definitions place) = map of_type definitions
members_in (values definitions place) = map of_value definitions
members_in (variables items place) = map of_variable (variables_among items)
members_in (functions definitions place) = map of_function definitions
members_in (operations definitions place) = map of_operation definitions
members_in _ = []

abbrev pub class_members : ClassTree → List Member
class_members class = flat_map members_in class.blocks

-- ---- how a member is asked for

-- A type answers where a type is wanted; a value or a variable to its name; a function or an operation where it is called with as many
-- arguments as it has parameters.
abbrev pub answers : Ask → Member → Bool
answers (AsType name) (of_type t) = is_same_name name t.name
answers (AsType name) _ = false
answers (ByName name) (of_value v) = is_same_name name v.name
answers (ByName name) (of_variable v) = is_same_name name v.name
answers (ByName name) _ = false
answers (Called name n) (of_function f) = is_same_name name f.name && nat_eq n (length f.patterns)
answers (Called name n) (of_operation o) = is_same_name name o.name && nat_eq n (length o.patterns)
answers (Called name n) _ = false

abbrev pub first_answer : ClassTree → Ask → Option Member
first_answer class ask = find (answers ask) (class_members class)

abbrev pub or_else : {A : Type 0} → Option A → Option A → Option A
or_else (Some a) other = Some a
or_else None other = other

-- A class's own definition. What is applied to arguments and is no function and no operation of so many parameters may be a value or a
-- variable that is looked up in.
abbrev pub own : ClassTree → Ask → Option Member
own class (Called name n) = or_else (first_answer class (Called name n)) (first_answer class (ByName name))
own class (AsType name) = first_answer class (AsType name)
own class (ByName name) = first_answer class (ByName name)

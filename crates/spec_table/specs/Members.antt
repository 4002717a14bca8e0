-- The members of a class by their kinds, and by the names of class and member.
use Rattle.std.specs.Prelude.{ℕ, Bool, false, ◌&&◌, if◌then◌else◌, List, Option, Some, None, option_map}
use Rattle.std.specs.List.{find}
use Rattle.std.specs.Option.{option_and_then}
use Rattle.vdm_kinds.specs.declared.name.Name.{Name}
use Rattle.vdm_kinds.specs.declared.member.OpRef.{OpRef}
use Rattle.vdm_kinds.specs.declared.member.VarRef.{VarRef}
use Rattle.abstract_syntax.specs.Classes.{ValueDefTree, VariableTree, FunctionTree, OperationTree, SpecTree}
use Rattle.expr_tree.specs.TypeDefView.{type_def_view}
use Rattle.vdm_tree.specs.ClassView.{value_def_view, variable_view, function_view, operation_view}
use Rattle.class_meaning.specs.Classes.{class_number}
use Rattle.class_meaning.specs.Calls.{is_private}
use Rattle.class_meaning.specs.Ancestors.{is_ancestor}
use Rattle.class_meaning.specs.Members.{Member, of_type, of_value, of_variable, of_function, of_operation, kind_of}
use Rattle.class_meaning.specs.Found.{own_in, is_some_kind}
use Rattle.class_meaning.specs.declared.ask.Ask.{Ask}
use Rattle.class_meaning.specs.declared.ask.Ask.TheVariants.{ByName, Called}
use Rattle.class_meaning.specs.declared.ask.MemberKind.TheVariants.{Operation as OperationKind}
use Rattle.spec_table.specs.declared.item.Item.{Item}
use Rattle.spec_table.specs.declared.item.Item.TheVariants.{TypeDef, Value, Variable, Function, Operation}

-- what an item stands for
abbrev pub item_view : Item → Member
item_view (TypeDef d) = of_type (type_def_view d.now)
item_view (Value d) = of_value (value_def_view d.now)
item_view (Variable d) = of_variable (variable_view d.now)
item_view (Function d) = of_function (function_view d.now)
item_view (Operation d) = of_operation (operation_view d.now)

-- the definition that a member is, by kinds
abbrev pub value_of : Member → Option ValueDefTree
value_of (of_value v) = Some v
value_of _ = None

abbrev pub variable_of : Member → Option VariableTree
variable_of (of_variable v) = Some v
variable_of _ = None

abbrev pub function_of : Member → Option FunctionTree
function_of (of_function f) = Some f
function_of _ = None

abbrev pub operation_of : Member → Option OperationTree
operation_of (of_operation o) = Some o
operation_of _ = None

-- what the class of a name itself answers with
abbrev pub own_member : SpecTree → Name → Ask → Option Member
own_member spec class ask = option_and_then (own_in spec ask) (class_number spec class)

-- the class's own definition of the name, where it is of the kind
abbrev pub own_value : SpecTree → VarRef → Option ValueDefTree
own_value spec v = option_and_then value_of (own_member spec v.class (ByName v.name))

abbrev pub own_variable : SpecTree → VarRef → Option VariableTree
own_variable spec v = option_and_then variable_of (own_member spec v.class (ByName v.name))

abbrev pub own_function : SpecTree → OpRef → Option FunctionTree
own_function spec f = option_and_then function_of (own_member spec f.class (Called f.name f.arity))

abbrev pub own_operation : SpecTree → OpRef → Option OperationTree
own_operation spec o = option_and_then operation_of (own_member spec o.class (Called o.name o.arity))

-- the number of a class that may be named
abbrev pub number_of : SpecTree → Option Name → Option ℕ
number_of spec class = option_and_then (class_number spec) class

-- whether the second class is the first one or one of its ancestors; where there is no such class it is not
abbrev pub descends_to : SpecTree → Option ℕ → Option ℕ → Bool
descends_to spec class None = false
descends_to spec None (Some a) = false
descends_to spec (Some k) (Some a) = is_ancestor spec k a

abbrev pub descends_from : SpecTree → Name → Name → Bool
descends_from spec class ancestor = descends_to spec (class_number spec class) (class_number spec ancestor)

-- whether the class of a name itself has an operation of a name and number, and how it is called
abbrev pub has_named : SpecTree → Name → ℕ → Name → Bool
has_named spec name n class = is_some_kind OperationKind (option_map kind_of (own_member spec class (Called name n)))

abbrev pub named_operation : Name → ℕ → Name → OpRef
named_operation name n class = record { class = class; name = name; arity = n }

-- ---- calls through an object, by names

-- the class in which a call stands, where the object is of it and it has a private operation of the name and number
abbrev pub keeper : SpecTree → Name → Name → ℕ → Option Name → Option Name
keeper spec class name n None = None
keeper spec class name n (Some inner) =
    if descends_from spec class inner && is_private (own_member spec inner (Called name n)) then Some inner else None

-- what is reached past the keeper, on the way through the classes of these names
abbrev pub reached_through : SpecTree → Name → ℕ → Option Name → List Name → Option OpRef
reached_through spec name n (Some inner) line = Some (named_operation name n inner)
reached_through spec name n None line = option_map (named_operation name n) (find (has_named spec name n) line)

-- Where members stand in a class, and what an index of a class answers.
use Rattle.std.specs.Prelude.{◌≡◌, ℕ, nat_eq, Option, Some, None, slice_get, option_map}
use Rattle.std.specs.Option.{option_and_then}
use Rattle.std.specs.HashMap.{get}
use Rattle.abstract_syntax.specs.Classes.{
  ValueDefTree,
  VariableTree,
  VariableItem,
  variable_item,
  invariant_item,
  FunctionTree,
  OperationTree,
  BlockTree,
  types,
  values,
  variables,
  functions,
  operations,
  ClassTree,
}
use Rattle.class_index.specs.declared.member_at.MemberAt.{MemberAt}
use Rattle.class_index.specs.declared.own_members.OwnMembers.{OwnMembers}
use Rattle.class_index.specs.Calls.{is_same_call}
use Rattle.class_meaning.specs.Members.{Member, of_type, of_value, of_variable, of_function, of_operation, kind_of, own, or_else}
use Rattle.class_meaning.specs.declared.ask.MemberKind.{MemberKind}
use Rattle.class_meaning.specs.declared.ask.Ask.{Ask}
use Rattle.class_meaning.specs.declared.ask.Ask.TheVariants.{AsType, ByName, Called}

abbrev pub variable_in : VariableItem → Option Member
variable_in (variable_item v) = Some (of_variable v)
variable_in (invariant_item condition place) = None

-- what stands behind so many items of a block
abbrev pub item_of : BlockTree → ℕ → Option Member
item_of (types definitions place) i = option_map of_type (slice_get definitions i)
item_of (values definitions place) i = option_map of_value (slice_get definitions i)
item_of (variables items place) i = option_and_then variable_in (slice_get items i)
item_of (functions definitions place) i = option_map of_function (slice_get definitions i)
item_of (operations definitions place) i = option_map of_operation (slice_get definitions i)
item_of _ i = None

-- the member at a place of a class
abbrev pub located : ClassTree → MemberAt → Option Member
located class at = option_and_then (λ (block : BlockTree). item_of block at.item) (slice_get class.blocks at.block)

abbrev pub own_kind : ClassTree → Ask → Option MemberKind
own_kind class ask = option_map kind_of (own class ask)

-- the class's own answer stands at the place, and is of the kind that is said; or there is none
abbrev pub IsAnswer : ClassTree → Ask → Option MemberAt → Type 0
IsAnswer class ask None = own class ask ≡ None
IsAnswer class ask (Some at) = (located class at ≡ own class ask) × (own_kind class ask ≡ Some at.kind)

-- ---- what an index answers

-- with what stands under the ask itself
abbrev pub own_place : OwnMembers → Ask → Option MemberAt
own_place members (AsType name) = get nat_eq members.types name.0
own_place members (ByName name) = get nat_eq members.named name.0
own_place members (Called name n) = get is_same_call members.called (name.0, n)

-- what is called may be a value or a variable that is looked up in
abbrev pub answer_of : OwnMembers → Ask → Option MemberAt
answer_of members (Called name n) = or_else (own_place members (Called name n)) (own_place members (ByName name))
answer_of members (AsType name) = own_place members (AsType name)
answer_of members (ByName name) = own_place members (ByName name)

-- an index of the members of a class
abbrev pub Indexes : OwnMembers → ClassTree → Type 0
Indexes members class = (ask : Ask) → IsAnswer class ask (answer_of members ask)

-- ---- a member of a kind

abbrev pub value_of : Member → Option ValueDefTree
value_of (of_value v) = Some v
value_of _ = None

abbrev pub variable_of : Member → Option VariableTree
variable_of (of_variable v) = Some v
variable_of _ = None

abbrev pub function_of : Member → Option FunctionTree
function_of (of_function f) = Some f
function_of _ = None

abbrev pub operation_of : Member → Option OperationTree
operation_of (of_operation o) = Some o
operation_of _ = None

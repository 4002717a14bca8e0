-- The members of a class with their places, and how each is asked for.
use Rattle.std.specs.Prelude.{ℕ, ◌+◌, Bool, false, ◌&&◌, nat_eq, if◌then◌else◌, List, [], ◌∷◌, ◌++◌, Option, Some, None, map, length}
use Rattle.abstract_syntax.specs.Classes.{
  TypeDefTree,
  ValueDefTree,
  FunctionTree,
  OperationTree,
  BlockTree,
  types,
  values,
  variables,
  functions,
  operations,
  is_same_name,
}
use Rattle.class_meaning.specs.Members.{Member, of_type, of_value, of_variable, of_function, of_operation, kind_of, answers, or_else}
use Rattle.class_meaning.specs.declared.ask.MemberKind.{MemberKind}
use Rattle.class_meaning.specs.declared.ask.Ask.{Ask}
use Rattle.class_meaning.specs.declared.ask.Ask.TheVariants.{AsType, ByName, Called}
use Rattle.class_index.specs.declared.member_at.MemberAt.{MemberAt}
use Rattle.class_index.specs.Answers.{variable_in}

-- ---- how members are asked for

-- the one ask that a member answers
abbrev pub ask_for : Member → Ask
ask_for (of_type t) = AsType t.name
ask_for (of_value v) = ByName v.name
ask_for (of_variable v) = ByName v.name
ask_for (of_function f) = Called f.name (length f.patterns)
ask_for (of_operation o) = Called o.name (length o.patterns)

abbrev pub is_same_ask : Ask → Ask → Bool
is_same_ask (AsType a) (AsType b) = is_same_name a b
is_same_ask (ByName a) (ByName b) = is_same_name a b
is_same_ask (Called a m) (Called b n) = is_same_name a b && nat_eq m n
is_same_ask _ _ = false

-- what is known of a member before it is looked at
abbrev pub kind_and_ask : Member → MemberKind × Ask
kind_and_ask member = (kind_of member, ask_for member)

-- ---- where members stand

-- the items of a block: an invariant is no member
abbrev pub items_of : BlockTree → List (Option Member)
items_of (types definitions place) = map (λ (d : TypeDefTree). Some (of_type d)) definitions
items_of (values definitions place) = map (λ (d : ValueDefTree). Some (of_value d)) definitions
items_of (variables items place) = map variable_in items
items_of (functions definitions place) = map (λ (d : FunctionTree). Some (of_function d)) definitions
items_of (operations definitions place) = map (λ (d : OperationTree). Some (of_operation d)) definitions
items_of _ = []

-- a member and its place
pub record Placed : Type 0 where
  pub member : Member
  pub at : MemberAt

abbrev pub placed : ℕ → ℕ → Member → Placed
placed block item member = record { member = member; at = record { kind = kind_of member; block = block; item = item } }

-- those among the items of a block, from an item on
abbrev pub placed_items : ℕ → ℕ → List (Option Member) → List Placed
placed_items block item [] = []
placed_items block item (None ∷ items) = placed_items block (item + 1) items
placed_items block item (Some member ∷ items) = placed block item member ∷ placed_items block (item + 1) items

-- those in blocks, from a block on
abbrev pub placed_blocks : ℕ → List BlockTree → List Placed
placed_blocks block [] = []
placed_blocks block (b ∷ blocks) = placed_items block 0 (items_of b) ++ placed_blocks (block + 1) blocks

-- where the first stands that answers
abbrev pub first_place : Ask → List Placed → Option MemberAt
first_place ask [] = None
first_place ask (p ∷ ps) = or_else (if answers ask p.member then Some p.at else None) (first_place ask ps)

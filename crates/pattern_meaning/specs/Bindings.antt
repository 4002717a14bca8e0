-- The bindings of a pattern with a value: the ways in which equal names stand for equal values.
use Rattle.std.specs.Prelude.{nat_eq, if◌then◌else◌, List, [], ◌∷◌, ◌++◌, All, Contains, Option, Some, None}
use Rattle.std.specs.Option.{option_and_then}
use Rattle.std.specs.List.{filter_map}
use Rattle.std.specs.Map.{lookup}
use Rattle.vdm_kinds.specs.declared.name.Name.{Name}
use Rattle.vdm_kinds.specs.declared.name_at.TypeName.{TypeName}
use Rattle.abstract_syntax.specs.Expressions.{PatternTree}
use Rattle.abstract_syntax.specs.Values.{ValueTree}
use Rattle.abstract_syntax.specs.ValueSets.{IsWithinLimits as IsValueWithinLimits, IsTooLarge}
use Rattle.pattern_meaning.specs.RecordTypes.{RecordType}
use Rattle.pattern_meaning.specs.Ways.{Way, ways, is_same}

-- names, each once, with their values
abbrev pub Binding : Type 0
Binding = List (Name × ValueTree)

-- what a name stands for in a binding
abbrev pub value_in : Binding → Name → Option ValueTree
value_in b name = lookup (λ n. nat_eq n.0 name.0) b

-- a new name is put last; a name that is there keeps its value, and may have no other one
abbrev pub put : Binding → Name × ValueTree → Option ValueTree → Option Binding
put b p None = Some (b ++ p ∷ [])
put b p (Some v) = if is_same v p.1 then Some b else None

abbrev pub with_pair : Binding → Name × ValueTree → Option Binding
with_pair b p = put b p (value_in b p.0)

-- the binding with each pair of a way in turn: names in the order of their first occurrence, each once. None where a name has two
-- values
abbrev pub with_way : Binding → Way → Option Binding
with_way b [] = Some b
with_way b (p ∷ ps) = option_and_then (λ c. with_way c ps) (with_pair b p)

-- each value is within the limits of size
abbrev pub IsWithinLimits : Binding → Type 0
IsWithinLimits = All (λ p. IsValueWithinLimits p.1)

-- some value is past them
pub record IsPastLimits (b : Binding) : Type 0 where
  pub pair : Name × ValueTree
  pub there : Contains b pair
  pub large : IsTooLarge pair.1

-- the first item of a list
abbrev pub first_of : {A : Type 0} → List A → Option A
first_of [] = None
first_of (x ∷ xs) = Some x

module _ (types : TypeName → Option RecordType) (p : PatternTree) (given : List ValueTree) (v : ValueTree) where
  -- all bindings, in the order in which they are tried
  abbrev pub bindings : List Binding
  bindings = filter_map (with_way []) (ways types p given v)

  -- the one that is taken
  abbrev pub first_binding : Option Binding
  first_binding = first_of bindings

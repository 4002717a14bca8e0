-- Values that are the set of some members of a list, and items of one list of several.
use Rattle.std.specs.Prelude.{◌≡◌, List, Contains}
use Rattle.std.specs.List.Sorted.{IsStrictlySortedBy}
use Rattle.abstract_syntax.specs.Values.{ValueTree, set_of, value_trees}
use Rattle.abstract_syntax.specs.ValueOrder.{value_order}

-- the canonical set of members that are all in the list
pub record IsSetWithin (vs : List ValueTree) (s : ValueTree) : Type 0 where
  pub members : List ValueTree
  pub rise : IsStrictlySortedBy value_order members
  pub value : s ≡ set_of (value_trees members)
  pub within : (v : ValueTree) → Contains members v → Contains vs v

-- one of the lists has it
pub record HasSome {X : Type 0} (lists : List (List X)) (x : X) : Type 0 where
  pub list : List X
  pub one : Contains lists list
  pub has : Contains list x

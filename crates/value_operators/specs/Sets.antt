-- Sets: the rows of the table of operators, on lists of members.
use Rattle.std.specs.Prelude.{ℤ, pos, Bool, true, false, not, ◌&&◌, if◌then◌else◌, List, [], ◌∷◌, ◌++◌, map, length, Ok, Err}
use Rattle.std.specs.List.{filter, list_all, flat_map}
use Rattle.vdm_kinds.specs.declared.operator.Operator.{Operator}
use Rattle.vdm_kinds.specs.declared.operator.Operator.TheVariants.{Card, PowerSet, DistributedUnion, DistributedInter, Union, Inter, Difference}
use Rattle.vdm_kinds.specs.declared.operator.Operator.TheVariants.{Subset, ProperSubset, InSet, NotInSet, Interval}
use Rattle.vdm_kinds.specs.declared.run_fault.RunFault.TheVariants.{TypeFault, EmptyOperand}
use Rattle.abstract_syntax.specs.Values.{ValueTree, number, set_of, value_list}
use Rattle.abstract_syntax.specs.ValueSets.{set_value}
use Rattle.value_operators.specs.Outcomes.{Outcome, sized, on_numbers, on_set, on_sets}
use Rattle.value_operators.specs.Numbers.{truth, numbers_one, numbers_two}
use Rattle.value_operators.specs.Members.{has, numbers_from, count_from_to}

-- the set that has the members of both
abbrev pub union : List ValueTree → List ValueTree → ValueTree
union vs ws = set_value (vs ++ ws)

-- the members of the first that the second has
abbrev pub inter : List ValueTree → List ValueTree → ValueTree
inter vs ws = set_value (filter (has ws) vs)

-- those that it does not have
abbrev pub difference : List ValueTree → List ValueTree → ValueTree
difference vs ws = set_value (filter (λ v. not (has ws v)) vs)

-- whether the second has every member of the first
abbrev pub is_subset : List ValueTree → List ValueTree → Bool
is_subset vs ws = list_all (has ws) vs

-- and the first not every member of the second
abbrev pub is_proper_subset : List ValueTree → List ValueTree → Bool
is_proper_subset vs ws = is_subset vs ws && not (is_subset ws vs)

-- the numbers from m to n, none where m is greater
abbrev pub interval : ℤ → ℤ → ValueTree
interval m n = set_value (numbers_from m (count_from_to m n))

-- ---- sets of sets

abbrev pub is_set : ValueTree → Bool
is_set (set_of vs) = true
is_set v = false

abbrev pub members_of : ValueTree → List ValueTree
members_of (set_of vs) = value_list vs
members_of v = []

-- of members that are sets, all of them
abbrev pub of_all_sets : (List (List ValueTree) → Outcome) → List ValueTree → Outcome
of_all_sets f vs = if list_all is_set vs then f (map members_of vs) else Err TypeFault

abbrev pub on_set_of_sets : (List (List ValueTree) → Outcome) → ValueTree → Outcome
on_set_of_sets f = on_set (of_all_sets f)

-- the members of all the sets
abbrev pub union_of_all : List (List ValueTree) → Outcome
union_of_all sets = sized (set_value (flat_map (λ vs. vs) sets))

-- whether every set has the value
abbrev pub in_every : List (List ValueTree) → ValueTree → Bool
in_every sets v = list_all (λ ws. has ws v) sets

-- the members of the first that every other one has
abbrev pub inter_of_all : List (List ValueTree) → Outcome
inter_of_all [] = Err EmptyOperand
inter_of_all (vs ∷ others) = sized (set_value (filter (in_every others) vs))

-- every list that leaves some members away, or none
abbrev pub sublists : List ValueTree → List (List ValueTree)
sublists [] = [] ∷ []
sublists (v ∷ vs) = map (λ ws. v ∷ ws) (sublists vs) ++ sublists vs

-- the set of all subsets
abbrev pub power_set : List ValueTree → ValueTree
power_set vs = set_value (map set_value (sublists vs))

-- ---- the rows; any other operator is one of numbers and Booleans

-- operators of one operand
abbrev pub sets_one : Operator → ValueTree → Outcome
sets_one Card = on_set (λ vs. Ok (number (pos (length vs))))
sets_one PowerSet = on_set (λ vs. sized (power_set vs))
sets_one DistributedUnion = on_set_of_sets union_of_all
sets_one DistributedInter = on_set_of_sets inter_of_all
sets_one operator = numbers_one operator

-- of two sets
abbrev pub set_two : Operator → List ValueTree → List ValueTree → Outcome
set_two Union vs ws = sized (union vs ws)
set_two Inter vs ws = sized (inter vs ws)
set_two Difference vs ws = sized (difference vs ws)
set_two Subset vs ws = truth (is_subset vs ws)
set_two ProperSubset vs ws = truth (is_proper_subset vs ws)
set_two _ vs ws = Err TypeFault

-- operators of two
abbrev pub sets_two : Operator → ValueTree → ValueTree → Outcome
sets_two Union = on_sets (set_two Union)
sets_two Inter = on_sets (set_two Inter)
sets_two Difference = on_sets (set_two Difference)
sets_two Subset = on_sets (set_two Subset)
sets_two ProperSubset = on_sets (set_two ProperSubset)
sets_two InSet = λ a. on_set (λ ws. truth (has ws a))
sets_two NotInSet = λ a. on_set (λ ws. truth (not (has ws a)))
sets_two Interval = on_numbers (λ m n. sized (interval m n))
sets_two operator = numbers_two operator

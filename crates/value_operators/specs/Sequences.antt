-- Sequences: the rows of the table of operators, on lists of items. Positions are from 1.
use Rattle.std.specs.Prelude.{ℕ, zero, suc, ℤ, pos, negsuc, ◌-ℤ◌, ◌+ℤ◌, Bool, true, false, nat_lt, if◌then◌else◌, List, [], ◌∷◌, ◌++◌, map, length, take, drop, slice_get}
use Rattle.std.specs.Prelude.{Option, Some, None, Ok, Err}
use Rattle.std.specs.Option.{unwrap_or}
use Rattle.std.specs.List.{list_all, flat_map}
use Rattle.vdm_kinds.specs.declared.operator.Operator.{Operator}
use Rattle.vdm_kinds.specs.declared.operator.Operator.TheVariants.{Length, Indices, Elements, DistributedConcatenation, Concatenation, Head, Tail, LookUp, Override}
use Rattle.vdm_kinds.specs.declared.run_fault.RunFault.TheVariants.{TypeFault, NotInDomain, EmptyOperand}
use Rattle.abstract_syntax.specs.Values.{ValueTree, number, sequence, map_of, value_trees, value_list, pair_list}
use Rattle.abstract_syntax.specs.ValueSets.{Entry, set_value}
use Rattle.value_operators.specs.Outcomes.{Outcome, sized, on_numbers, on_sequence, on_sequences}
use Rattle.value_operators.specs.Members.{numbers_from, found}

-- the sequence of the items
abbrev pub sequence_value : List ValueTree → ValueTree
sequence_value vs = sequence (value_trees vs)

-- the numbers of the positions
abbrev pub positions : List ValueTree → ValueTree
positions vs = set_value (numbers_from (pos 1) (length vs))

-- ---- sequences of sequences

abbrev pub is_sequence : ValueTree → Bool
is_sequence (sequence vs) = true
is_sequence v = false

abbrev pub items_of : ValueTree → List ValueTree
items_of (sequence vs) = value_list vs
items_of v = []

-- of items that are sequences, all of them
abbrev pub of_all_sequences : (List (List ValueTree) → Outcome) → List ValueTree → Outcome
of_all_sequences f vs = if list_all is_sequence vs then f (map items_of vs) else Err TypeFault

abbrev pub on_sequence_of_sequences : (List (List ValueTree) → Outcome) → ValueTree → Outcome
on_sequence_of_sequences f = on_sequence (of_all_sequences f)

-- the items of the one, then those of the other
abbrev pub joined : List ValueTree → List ValueTree → Outcome
joined vs ws = sized (sequence_value (vs ++ ws))

-- the items of all, one after another
abbrev pub joined_all : List (List ValueTree) → Outcome
joined_all parts = sized (sequence_value (flat_map (λ vs. vs) parts))

-- ---- items at positions

-- the first item, and all others
abbrev pub head_of : List ValueTree → Outcome
head_of [] = Err EmptyOperand
head_of (v ∷ vs) = sized v

abbrev pub tail_of : List ValueTree → Outcome
tail_of [] = Err EmptyOperand
tail_of (v ∷ vs) = sized (sequence_value vs)

-- the item at a position, if it is one
abbrev pub at_position : List ValueTree → ℤ → Option ValueTree
at_position vs (pos zero) = None
at_position vs (pos (suc k)) = slice_get vs k
at_position vs (negsuc k) = None

abbrev pub there : Option ValueTree → Outcome
there (Some v) = sized v
there None = Err NotInDomain

abbrev pub look_up : ValueTree → ValueTree → Outcome
look_up (sequence vs) (number n) = there (at_position (value_list vs) n)
look_up a b = Err TypeFault

-- a number as one of items: none where it is negative
abbrev pub count_up_to : ℤ → ℕ
count_up_to (pos n) = n
count_up_to (negsuc n) = 0

-- the items from position m to position n, of those that exist
abbrev pub items_between : ℤ → ℤ → List ValueTree → List ValueTree
items_between m n vs = drop (count_up_to (m -ℤ pos 1)) (take (count_up_to n) vs)

abbrev pub between : List ValueTree → ValueTree → ValueTree → Outcome
between vs = on_numbers (λ m n. sized (sequence_value (items_between m n vs)))

-- the row of the subsequence, which has three operands
abbrev pub subsequence : ValueTree → ValueTree → ValueTree → Outcome
subsequence s a b = on_sequence (λ vs. between vs a b) s

-- ---- items replaced

-- whether a key is a position of a sequence of this length
abbrev pub is_position : ℕ → ValueTree → Bool
is_position count (number (pos (suc k))) = nat_lt k count
is_position count v = false

-- from position m on, each item, or what the map has there
abbrev pub replaced : List Entry → ℤ → List ValueTree → List ValueTree
replaced ps m [] = []
replaced ps m (v ∷ vs) = unwrap_or (found ps (number m)) v ∷ replaced ps (m +ℤ pos 1) vs

abbrev pub overridden : List ValueTree → List Entry → Outcome
overridden vs ps =
    if list_all (λ (p : Entry). is_position (length vs) p.0) ps then sized (sequence_value (replaced ps (pos 1) vs)) else Err NotInDomain

abbrev pub on_sequence_and_map : (List ValueTree → List Entry → Outcome) → ValueTree → ValueTree → Outcome
on_sequence_and_map f (sequence vs) (map_of ps) = f (value_list vs) (pair_list ps)
on_sequence_and_map f a b = Err TypeFault

-- ---- the rows

-- of one sequence
abbrev pub sequence_one : Operator → List ValueTree → Outcome
sequence_one Length vs = Ok (number (pos (length vs)))
sequence_one Indices vs = sized (positions vs)
sequence_one Elements vs = sized (set_value vs)
sequence_one Head vs = head_of vs
sequence_one Tail vs = tail_of vs
sequence_one _ vs = Err TypeFault

-- operators of one operand
abbrev pub sequences_one : Operator → ValueTree → Outcome
sequences_one DistributedConcatenation = on_sequence_of_sequences joined_all
sequences_one operator = on_sequence (sequence_one operator)

-- operators of two
abbrev pub sequences_two : Operator → ValueTree → ValueTree → Outcome
sequences_two Concatenation = on_sequences joined
sequences_two LookUp = look_up
sequences_two Override = on_sequence_and_map overridden
sequences_two _ = λ a b. Err TypeFault

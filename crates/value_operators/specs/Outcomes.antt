--  What comes of an operator, and the kinds of its operands: an operand of another kind is a fault before all others.
use Rattle.std.specs.Prelude.{◌≡◌, ℤ, Bool, ◌&&◌, nat_le, if◌then◌else◌, List, Result, Ok, Err}
use Rattle.std.specs.Bool.{⊤}
use Rattle.vdm_kinds.specs.declared.halt.Halt.{Halt}
use Rattle.vdm_kinds.specs.declared.halt.Halt.TheVariants.{Of, OutOfMemory}
use Rattle.vdm_kinds.specs.declared.run_fault.RunFault.{RunFault}
use Rattle.vdm_kinds.specs.declared.run_fault.RunFault.TheVariants.{TypeFault, SizeLimit}
use Rattle.abstract_syntax.specs.Values.{ValueTree, number, boolean, set_of, sequence, map_of, value_list, pair_list, nodes_of, depth_of}
use Rattle.abstract_syntax.specs.ValueSets.{Entry}

--  a value, or a fault
abbrev pub Outcome : Type 0
Outcome = Result ValueTree RunFault

--  a call gives this outcome; want of memory may come in its place
abbrev pub Gives : Result ValueTree (Halt RunFault) → Outcome → Type 0
Gives (Ok v) outcome = outcome ≡ Ok v
Gives (Err (Of fault)) outcome = outcome ≡ Err fault
Gives (Err OutOfMemory) outcome = ⊤

--  at most 200,000 nodes, and depth at most 500
abbrev pub is_within_limits : ValueTree → Bool
is_within_limits v = nat_le (nodes_of v) 200000 && nat_le (depth_of v) 500

--  the value itself, or the fault of one that is too large
unfoldable pub sized : ValueTree → Outcome
sized v = if is_within_limits v then Ok v else Err SizeLimit

--  ---- operands of the kind that is wanted

abbrev pub on_number : (ℤ → Outcome) → ValueTree → Outcome
on_number f (number m) = f m
on_number f a = Err TypeFault

abbrev pub on_numbers : (ℤ → ℤ → Outcome) → ValueTree → ValueTree → Outcome
on_numbers f (number m) (number n) = f m n
on_numbers f a b = Err TypeFault

abbrev pub on_truth : (Bool → Outcome) → ValueTree → Outcome
on_truth f (boolean p) = f p
on_truth f a = Err TypeFault

abbrev pub on_truths : (Bool → Bool → Outcome) → ValueTree → ValueTree → Outcome
on_truths f (boolean p) (boolean q) = f p q
on_truths f a b = Err TypeFault

--  a set as the list of its members
abbrev pub on_set : (List ValueTree → Outcome) → ValueTree → Outcome
on_set f (set_of vs) = f (value_list vs)
on_set f a = Err TypeFault

abbrev pub on_sets : (List ValueTree → List ValueTree → Outcome) → ValueTree → ValueTree → Outcome
on_sets f (set_of vs) (set_of ws) = f (value_list vs) (value_list ws)
on_sets f a b = Err TypeFault

--  a sequence as the list of its items
abbrev pub on_sequence : (List ValueTree → Outcome) → ValueTree → Outcome
on_sequence f (sequence vs) = f (value_list vs)
on_sequence f a = Err TypeFault

abbrev pub on_sequences : (List ValueTree → List ValueTree → Outcome) → ValueTree → ValueTree → Outcome
on_sequences f (sequence vs) (sequence ws) = f (value_list vs) (value_list ws)
on_sequences f a b = Err TypeFault

--  a map as the list of its pairs
abbrev pub on_map : (List Entry → Outcome) → ValueTree → Outcome
on_map f (map_of ps) = f (pair_list ps)
on_map f a = Err TypeFault

abbrev pub on_maps : (List Entry → List Entry → Outcome) → ValueTree → ValueTree → Outcome
on_maps f (map_of ps) (map_of qs) = f (pair_list ps) (pair_list qs)
on_maps f a b = Err TypeFault

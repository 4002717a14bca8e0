-- The table of operators: what each gives of its operands.
use Rattle.std.specs.Prelude.{Err}
use Rattle.vdm_kinds.specs.declared.operator.Operator.{Operator}
use Rattle.vdm_kinds.specs.declared.operator.Operator.TheVariants.{Length, Indices, Elements, DistributedConcatenation, Concatenation, Head, Tail}
use Rattle.vdm_kinds.specs.declared.operator.Operator.TheVariants.{LookUp, Override, Domain, Range, DomainRestriction, DomainRemoval}
use Rattle.vdm_kinds.specs.declared.operator.Operator.TheVariants.{RangeRestriction, RangeRemoval, MapUnion, Merge, Inverse, Composition}
use Rattle.vdm_kinds.specs.declared.run_fault.RunFault.TheVariants.{TypeFault}
use Rattle.abstract_syntax.specs.Values.{ValueTree, sequence}
use Rattle.value_operators.specs.Outcomes.{Outcome}
use Rattle.value_operators.specs.Sets.{sets_one, sets_two}
use Rattle.value_operators.specs.Sequences.{sequences_one, sequences_two}
use Rattle.value_operators.specs.Maps.{maps_one, maps_two}

-- the part of the table that has an operator; that of sets has those of numbers too, and the left operand decides about two
pub data Topic : Type 0 where
  sets : Topic
  sequences : Topic
  maps : Topic
  left : Topic

abbrev pub topic_of : Operator → Topic
topic_of Length = sequences
topic_of Indices = sequences
topic_of Elements = sequences
topic_of DistributedConcatenation = sequences
topic_of Concatenation = sequences
topic_of Head = sequences
topic_of Tail = sequences
topic_of Domain = maps
topic_of Range = maps
topic_of DomainRestriction = maps
topic_of DomainRemoval = maps
topic_of RangeRestriction = maps
topic_of RangeRemoval = maps
topic_of MapUnion = maps
topic_of Merge = maps
topic_of Inverse = maps
topic_of Composition = maps
topic_of LookUp = left
topic_of Override = left
topic_of _ = sets

-- that of sequences where the left operand is one, else that of maps
abbrev pub by_left_operand : Operator → ValueTree → ValueTree → Outcome
by_left_operand operator (sequence vs) b = sequences_two operator (sequence vs) b
by_left_operand operator a b = maps_two operator a b

abbrev pub one_by : Topic → Operator → ValueTree → Outcome
one_by sets = sets_one
one_by sequences = sequences_one
one_by maps = maps_one
one_by left = λ operator a. Err TypeFault

abbrev pub two_by : Topic → Operator → ValueTree → ValueTree → Outcome
two_by sets = sets_two
two_by sequences = sequences_two
two_by maps = maps_two
two_by left = by_left_operand

-- what an operator gives of its one operand
abbrev pub applied_one : Operator → ValueTree → Outcome
applied_one operator = one_by (topic_of operator) operator

-- what an operator gives of its two operands
abbrev pub applied_two : Operator → ValueTree → ValueTree → Outcome
applied_two operator = two_by (topic_of operator) operator

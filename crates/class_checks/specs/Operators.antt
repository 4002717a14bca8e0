-- The table of operators, as the checker has it: what each wants of its operands, and the form of what it gives.
use Rattle.std.specs.Prelude.{ℕ, zero, suc, Bool, true, false, if◌then◌else◌}
use Rattle.vdm_kinds.specs.declared.sign.Sign.{Sign}
use Rattle.vdm_kinds.specs.declared.sign.Sign.TheVariants.{
  Equivalent,
  Implies,
  Or,
  And,
  Not,
  Equal,
  NotEqual,
  Less,
  LessEqual,
  Greater,
  GreaterEqual,
  Subset,
  ProperSubset,
  InSet,
  NotInSet,
  Plus,
  Minus,
  Union,
  Difference,
  MapUnion,
  Override,
  Concatenation,
  Times,
  Div,
  Rem,
  Mod,
  Inter,
  Inverse,
  DomainRestriction,
  DomainRemoval,
  RangeRestriction,
  RangeRemoval,
  Positive,
  Negative,
  Absolute,
  Card,
  PowerSet,
  DistributedUnion,
  DistributedInter,
  Length,
  Head,
  Tail,
  Indices,
  Elements,
  DistributedConcatenation,
  Domain,
  Range,
  Merge,
  Composition,
  Exponent,
}
use Rattle.abstract_syntax.specs.Classes.{SpecTree}
use Rattle.form_meaning.specs.Forms.{
  FormTree,
  any_form,
  no_form,
  one_of,
  boolean_alt,
  number_alt,
  sequence_alt,
  set_alt,
  map_alt,
  no_alts,
  one_alt,
  only,
  joined,
}
use Rattle.form_meaning.specs.Parts.{element, item, key, value, taken}
use Rattle.class_checks.specs.TypeNames.{opened, meets}

-- ---- kinds of values, whatever their parts

abbrev pub truth : FormTree
truth = only boolean_alt

abbrev pub number : FormTree
number = only number_alt

abbrev pub any_set : FormTree
any_set = only (set_alt any_form)

abbrev pub any_sequence : FormTree
any_sequence = only (sequence_alt any_form)

abbrev pub any_map : FormTree
any_map = only (map_alt any_form any_form)

abbrev pub sequence_or_map : FormTree
sequence_or_map = one_of (one_alt (sequence_alt any_form) (one_alt (map_alt any_form any_form) no_alts))

-- ---- what operands are wanted

-- of an operator before its operand, the operand; of one between operands, the left one
abbrev pub left_want : Sign → FormTree
left_want Equivalent = truth
left_want Implies = truth
left_want Or = truth
left_want And = truth
left_want Not = truth
left_want Equal = any_form
left_want NotEqual = any_form
left_want Less = number
left_want LessEqual = number
left_want Greater = number
left_want GreaterEqual = number
left_want Subset = any_set
left_want ProperSubset = any_set
left_want InSet = any_form
left_want NotInSet = any_form
left_want Plus = number
left_want Minus = number
left_want Union = any_set
left_want Difference = any_set
left_want MapUnion = any_map
left_want Override = sequence_or_map
left_want Concatenation = any_sequence
left_want Times = number
left_want Div = number
left_want Rem = number
left_want Mod = number
left_want Inter = any_set
left_want Inverse = any_map
left_want DomainRestriction = any_set
left_want DomainRemoval = any_set
left_want RangeRestriction = any_map
left_want RangeRemoval = any_map
left_want Positive = number
left_want Negative = number
left_want Absolute = number
left_want Card = any_set
left_want PowerSet = any_set
left_want DistributedUnion = any_set
left_want DistributedInter = any_set
left_want Length = any_sequence
left_want Head = any_sequence
left_want Tail = any_sequence
left_want Indices = any_sequence
left_want Elements = any_sequence
left_want DistributedConcatenation = any_sequence
left_want Domain = any_map
left_want Range = any_map
left_want Merge = any_set
left_want Composition = any_map
left_want Exponent = number

-- the right one, where it isn't as the left one
abbrev pub right_want : Sign → FormTree
right_want InSet = any_set
right_want NotInSet = any_set
right_want Override = any_map
right_want DomainRestriction = any_map
right_want DomainRemoval = any_map
right_want RangeRestriction = any_set
right_want RangeRemoval = any_set
right_want sign = left_want sign

-- ---- whose parts the value has

pub data Source : Type 0 where
  -- of no operand
  neither : Source
  left : Source
  right : Source
  both : Source

abbrev pub source : Sign → Source
source Union = both
source Difference = left
source MapUnion = both
source Override = both
source Concatenation = both
source Inter = left
source Inverse = left
source DomainRestriction = right
source DomainRemoval = right
source RangeRestriction = left
source RangeRemoval = left
source PowerSet = left
source DistributedUnion = left
source DistributedInter = left
source Head = left
source Tail = left
source Elements = left
source DistributedConcatenation = left
source Domain = left
source Range = left
source Merge = left
source Composition = both
source _ = neither

abbrev pub is_source : Source → ℕ → Bool
is_source neither i = false
is_source left zero = true
is_source left (suc i) = false
is_source right zero = false
is_source right (suc i) = true
is_source both i = true

-- whether the form of what is given is taken from the parts of the operand behind so many others
abbrev pub takes_from : Sign → ℕ → Bool
takes_from sign i = is_source (source sign) i

-- ---- what is given

abbrev pub set_with : FormTree → FormTree
set_with elements = only (set_alt elements)

abbrev pub sequence_with : FormTree → FormTree
sequence_with items = only (sequence_alt items)

abbrev pub map_with : FormTree → FormTree → FormTree
map_with keys values = only (map_alt keys values)

module _ (spec : SpecTree) where
  -- the parts of the parts
  abbrev pub within : FormTree → FormTree
  within form = opened spec (taken element form)

  abbrev pub items_within : FormTree → FormTree
  items_within form = opened spec (taken item form)

  abbrev pub gives_of_one : Sign → FormTree → FormTree
  gives_of_one Not form = truth
  gives_of_one PowerSet form = set_with (set_with (taken element form))
  gives_of_one DistributedUnion form = set_with (taken element (within form))
  gives_of_one DistributedInter form = set_with (taken element (within form))
  gives_of_one Head form = items_within form
  gives_of_one Tail form = sequence_with (taken item form)
  gives_of_one Indices form = set_with number
  gives_of_one Elements form = set_with (taken item form)
  gives_of_one DistributedConcatenation form = sequence_with (taken item (items_within form))
  gives_of_one Domain form = set_with (taken key form)
  gives_of_one Range form = set_with (taken value form)
  gives_of_one Merge form = map_with (taken key (within form)) (taken value (within form))
  gives_of_one Inverse form = map_with (taken value form) (taken key form)
  gives_of_one sign form = number

  -- `++` of a sequence or of a map
  abbrev pub overridden : FormTree → FormTree → FormTree
  overridden form other = joined
      (if meets spec form any_sequence then sequence_with (joined (taken item form) (taken value other)) else no_form)
      (if meets spec form any_map then map_with (joined (taken key form) (taken key other)) (joined (taken value form) (taken value other)) else no_form)

  abbrev pub gives_of_two : Sign → FormTree → FormTree → FormTree
  gives_of_two Plus form other = number
  gives_of_two Minus form other = number
  gives_of_two Times form other = number
  gives_of_two Div form other = number
  gives_of_two Rem form other = number
  gives_of_two Mod form other = number
  gives_of_two Exponent form other = number
  gives_of_two Union form other = set_with (joined (taken element form) (taken element other))
  gives_of_two Inter form other = set_with (taken element form)
  gives_of_two Difference form other = set_with (taken element form)
  gives_of_two MapUnion form other = map_with (joined (taken key form) (taken key other)) (joined (taken value form) (taken value other))
  gives_of_two Override form other = overridden form other
  gives_of_two Concatenation form other = sequence_with (joined (taken item form) (taken item other))
  gives_of_two DomainRestriction form other = map_with (taken key other) (taken value other)
  gives_of_two DomainRemoval form other = map_with (taken key other) (taken value other)
  gives_of_two RangeRestriction form other = map_with (taken key form) (taken value form)
  gives_of_two RangeRemoval form other = map_with (taken key form) (taken value form)
  gives_of_two Composition form other = map_with (taken key other) (taken value form)
  gives_of_two sign form other = truth

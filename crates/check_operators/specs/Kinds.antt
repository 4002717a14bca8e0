-- Kinds of values, as the forms that operands have to meet.
use Rattle.form_meaning.specs.Forms.{FormTree, any_form, boolean_alt, number_alt, sequence_alt, set_alt, map_alt, AltTrees, no_alts, one_alt}
use Rattle.class_checks.specs.Operators.{truth, number, any_set, any_sequence, any_map, sequence_or_map}
use Rattle.check_operators.specs.declared.kind.Kind.{Kind}
use Rattle.check_operators.specs.declared.kind.Kind.TheVariants.{Any, Truth, Number, Set, Sequence, Map, SequenceOrMap}

abbrev pub form_of_kind : Kind → FormTree
form_of_kind Any = any_form
form_of_kind Truth = truth
form_of_kind Number = number
form_of_kind Set = any_set
form_of_kind Sequence = any_sequence
form_of_kind Map = any_map
form_of_kind SequenceOrMap = sequence_or_map

-- the alternatives of such a form, where it has some
abbrev pub alts_of_kind : Kind → AltTrees
alts_of_kind Any = no_alts
alts_of_kind Truth = one_alt boolean_alt no_alts
alts_of_kind Number = one_alt number_alt no_alts
alts_of_kind Set = one_alt (set_alt any_form) no_alts
alts_of_kind Sequence = one_alt (sequence_alt any_form) no_alts
alts_of_kind Map = one_alt (map_alt any_form any_form) no_alts
alts_of_kind SequenceOrMap = one_alt (sequence_alt any_form) (one_alt (map_alt any_form any_form) no_alts)

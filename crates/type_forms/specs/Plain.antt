-- Where it is plain that a form says nothing new.
use Rattle.std.specs.Prelude.{Bool, true, false, ◌&&◌, is_some}
use Rattle.form_meaning.specs.Forms.{
  FormTree,
  any_form,
  no_form,
  one_of,
  AltTree,
  tuple_alt,
  sequence_alt,
  set_alt,
  map_alt,
  AltTrees,
  no_alts,
  one_alt,
  same_kind_in,
}

-- whether an alternative has no parts
abbrev pub is_plain : AltTree → Bool
is_plain (tuple_alt parts) = false
is_plain (sequence_alt items) = false
is_plain (set_alt elements) = false
is_plain (map_alt keys values) = false
is_plain _ = true

-- whether the others are kinds without parts that are known
abbrev pub are_known : AltTrees → AltTrees → Bool
are_known known no_alts = true
are_known known (one_alt other others) = (is_plain other && is_some (same_kind_in other known)) && are_known known others

abbrev pub adds_nothing : FormTree → FormTree → Bool
adds_nothing any_form other = true
adds_nothing no_form other = false
adds_nothing (one_of alternatives) any_form = false
adds_nothing (one_of alternatives) no_form = true
adds_nothing (one_of alternatives) (one_of others) = are_known alternatives others

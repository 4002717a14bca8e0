-- What is known of the parts of a value, by its form.
use Rattle.std.specs.Prelude.{ℕ, zero, suc}
use Rattle.form_meaning.specs.Forms.{
  FormTree,
  any_form,
  no_form,
  one_of,
  AltTree,
  tuple_alt,
  sequence_alt,
  set_alt,
  map_alt,
  AltTrees,
  no_alts,
  one_alt,
  FormTrees,
  no_forms,
  one_form,
  joined,
}

-- which part of an alternative is taken; of one that has no such part there is no value
abbrev pub element : AltTree → FormTree
element (set_alt elements) = elements
element _ = no_form

abbrev pub item : AltTree → FormTree
item (sequence_alt items) = items
item _ = no_form

abbrev pub key : AltTree → FormTree
key (map_alt keys values) = keys
key _ = no_form

abbrev pub value : AltTree → FormTree
value (map_alt keys values) = values
value _ = no_form

-- what stands in a sequence at a position, or in a map at a key
abbrev pub at_argument : AltTree → FormTree
at_argument (sequence_alt items) = items
at_argument (map_alt keys values) = values
at_argument _ = no_form

abbrev pub form_at : ℕ → FormTrees → FormTree
form_at n no_forms = no_form
form_at zero (one_form form forms) = form
form_at (suc n) (one_form form forms) = form_at n forms

-- the part of a tuple behind so many others
abbrev pub part_behind : ℕ → AltTree → FormTree
part_behind n (tuple_alt parts) = form_at n parts
part_behind n _ = no_form

-- what is known of the parts that are taken of the alternatives
abbrev pub taken_of : (AltTree → FormTree) → FormTree → AltTrees → FormTree
taken_of take known no_alts = known
taken_of take known (one_alt alternative alternatives) = taken_of take (joined known (take alternative)) alternatives

-- the part that is taken of a value of a form
abbrev pub taken : (AltTree → FormTree) → FormTree → FormTree
taken take any_form = any_form
taken take no_form = no_form
taken take (one_of alternatives) = taken_of take no_form alternatives

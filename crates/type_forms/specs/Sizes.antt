-- How many nodes forms have.
use Rattle.std.specs.Prelude.{ℕ, ◌+◌}
use Rattle.form_meaning.specs.Forms.{
  FormTree,
  any_form,
  no_form,
  one_of,
  AltTree,
  nil_alt,
  boolean_alt,
  number_alt,
  character_alt,
  quote_alt,
  token_alt,
  tuple_alt,
  record_alt,
  sequence_alt,
  set_alt,
  map_alt,
  object_alt,
  named_alt,
  AltTrees,
  no_alts,
  one_alt,
  FormTrees,
  no_forms,
  one_form,
}

abbrev mutual
  pub nodes_of : FormTree → ℕ
  nodes_of any_form = 1
  nodes_of no_form = 1
  nodes_of (one_of alternatives) = 1 + nodes_of_alts alternatives

  pub nodes_of_alt : AltTree → ℕ
  nodes_of_alt nil_alt = 1
  nodes_of_alt boolean_alt = 1
  nodes_of_alt number_alt = 1
  nodes_of_alt character_alt = 1
  nodes_of_alt (quote_alt name) = 1
  nodes_of_alt token_alt = 1
  nodes_of_alt (tuple_alt parts) = 1 + nodes_of_forms parts
  nodes_of_alt (record_alt class name) = 1
  nodes_of_alt (sequence_alt items) = 1 + nodes_of items
  nodes_of_alt (set_alt elements) = 1 + nodes_of elements
  nodes_of_alt (map_alt keys values) = 1 + nodes_of keys + nodes_of values
  nodes_of_alt (object_alt class) = 1
  nodes_of_alt (named_alt class name) = 1

  pub nodes_of_alts : AltTrees → ℕ
  nodes_of_alts no_alts = 0
  nodes_of_alts (one_alt alternative alternatives) = nodes_of_alt alternative + nodes_of_alts alternatives

  pub nodes_of_forms : FormTrees → ℕ
  nodes_of_forms no_forms = 0
  nodes_of_forms (one_form form forms) = nodes_of form + nodes_of_forms forms

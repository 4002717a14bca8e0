-- The trees that forms of the program stand for.
use Rattle.std.specs.Prelude.{List, [], ◌∷◌}
use Rattle.type_forms.specs.declared.form.Node.{Node}
use Rattle.type_forms.specs.declared.form.Node.TheVariants.{Any, Nothing, OneOf}
use Rattle.type_forms.specs.declared.form.Alt.{Alt}
use Rattle.type_forms.specs.declared.form.Alt.TheVariants.{Nil, Bool, Number, Character, Quote, Token, Tuple, Record, Seq, Set, Map, Object, Named}
use Rattle.form_meaning.specs.Forms.{
  FormTree,
  any_form,
  no_form,
  one_of,
  AltTree,
  nil_alt,
  boolean_alt,
  number_alt,
  character_alt,
  quote_alt,
  token_alt,
  tuple_alt,
  record_alt,
  sequence_alt,
  set_alt,
  map_alt,
  object_alt,
  named_alt,
  AltTrees,
  no_alts,
  one_alt,
  FormTrees,
  no_forms,
  one_form,
}

-- a list of forms as a part of a tree
abbrev pub form_trees : List FormTree → FormTrees
form_trees [] = no_forms
form_trees (form ∷ forms) = one_form form (form_trees forms)

abbrev pub alt_of : Alt → AltTree
alt_of Nil = nil_alt
alt_of Bool = boolean_alt
alt_of Number = number_alt
alt_of Character = character_alt
alt_of (Quote name) = quote_alt name
alt_of Token = token_alt
alt_of (Tuple parts) = tuple_alt (form_trees parts.items)
alt_of (Record class name) = record_alt class name
alt_of (Seq items) = sequence_alt items
alt_of (Set elements) = set_alt elements
alt_of (Map keys values) = map_alt keys values
alt_of (Object class) = object_alt class
alt_of (Named class name) = named_alt class name

-- a list of alternatives as a part of a tree
abbrev pub alt_trees : List Alt → AltTrees
alt_trees [] = no_alts
alt_trees (alternative ∷ alternatives) = one_alt (alt_of alternative) (alt_trees alternatives)

abbrev pub tree_of : Node → FormTree
tree_of Any = any_form
tree_of Nothing = no_form
tree_of (OneOf alternatives) = one_of (alt_trees alternatives.value.items)

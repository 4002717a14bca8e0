-- What operators give, by the ways of the program.
use Rattle.abstract_syntax.specs.Classes.{SpecTree}
use Rattle.form_meaning.specs.Forms.{FormTree, joined}
use Rattle.form_meaning.specs.Parts.{element, item, key, value, taken}
use Rattle.type_forms.specs.Taking.{take_of}
use Rattle.class_checks.specs.Operators.{truth, number, set_with, sequence_with, map_with, within, items_within, overridden}
use Rattle.class_checks.specs.TypeNames.{opened}
use Rattle.check_operators.specs.declared.ways.WayOfOne.{WayOfOne}
use Rattle.check_operators.specs.declared.ways.WayOfOne.TheVariants.{Truth, Number, Numbers, SetOf, SequenceOf, MapOf, Part, SetOfSets, SetWithin, SequenceWithin, MapWithin}
use Rattle.check_operators.specs.declared.ways.WayOfTwo.{WayOfTwo}
use Rattle.check_operators.specs.declared.ways.WayOfTwo.TheVariants.{
  Truth as TruthOfTwo,
  Number as NumberOfTwo,
  Union,
  LeftSet,
  MapUnion,
  Override,
  Concatenation,
  RightMap,
  LeftMap,
  Composition,
}

abbrev pub of_one : SpecTree → WayOfOne → FormTree → FormTree
of_one spec Truth form = truth
of_one spec Number form = number
of_one spec Numbers form = set_with number
of_one spec (SetOf part) form = set_with (taken (take_of part) form)
of_one spec (SequenceOf part) form = sequence_with (taken (take_of part) form)
of_one spec (MapOf keys values) form = map_with (taken (take_of keys) form) (taken (take_of values) form)
of_one spec (Part part) form = opened spec (taken (take_of part) form)
of_one spec SetOfSets form = set_with (set_with (taken element form))
of_one spec SetWithin form = set_with (taken element (within spec form))
of_one spec SequenceWithin form = sequence_with (taken item (items_within spec form))
of_one spec MapWithin form = map_with (taken key (within spec form)) (taken value (within spec form))

abbrev pub of_two : SpecTree → WayOfTwo → FormTree → FormTree → FormTree
of_two spec TruthOfTwo form other = truth
of_two spec NumberOfTwo form other = number
of_two spec Union form other = set_with (joined (taken element form) (taken element other))
of_two spec LeftSet form other = set_with (taken element form)
of_two spec MapUnion form other = map_with (joined (taken key form) (taken key other)) (joined (taken value form) (taken value other))
of_two spec Override form other = overridden spec form other
of_two spec Concatenation form other = sequence_with (joined (taken item form) (taken item other))
of_two spec RightMap form other = map_with (taken key other) (taken value other)
of_two spec LeftMap form other = map_with (taken key form) (taken value form)
of_two spec Composition form other = map_with (taken key other) (taken value form)

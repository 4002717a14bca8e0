-- Which part of an alternative each word of the program takes.
use Rattle.std.specs.Prelude.{Option, Some, None}
use Rattle.form_meaning.specs.Forms.{FormTree, no_form, AltTree}
use Rattle.form_meaning.specs.Parts.{element, item, key, value, at_argument, part_behind}
use Rattle.type_forms.specs.declared.taking.PartOf.{PartOf}
use Rattle.type_forms.specs.declared.taking.PartOf.TheVariants.{Element, Item, Key, Value, AtArgument, Behind}

abbrev pub take_of : PartOf → AltTree → FormTree
take_of Element = element
take_of Item = item
take_of Key = key
take_of Value = value
take_of AtArgument = at_argument
take_of (Behind n) = part_behind n

-- of what is not there there is no value
abbrev pub form_or_none : Option FormTree → FormTree
form_or_none None = no_form
form_or_none (Some form) = form

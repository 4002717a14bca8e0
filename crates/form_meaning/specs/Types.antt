-- The form of a type. A named type stands for what it takes: alone or as an alternative it is opened, inside a tuple, a sequence, a set or a
-- map it stays as a name, so every form is finite.
use Rattle.std.specs.Prelude.{ℕ, zero, suc, Bool, if◌then◌else◌, Option, Some, None}
use Rattle.vdm_kinds.specs.declared.basic_type.BasicType.{BasicType}
use Rattle.vdm_kinds.specs.declared.basic_type.BasicType.TheVariants.{Bool as BoolType, Nat, Nat1, Int, Char, Token}
use Rattle.vdm_kinds.specs.declared.name.Name.{Name}
use Rattle.vdm_kinds.specs.declared.name_at.TypeName.{TypeName}
use Rattle.abstract_syntax.specs.Types.{
  TypeTree,
  TypeTrees,
  basic_type,
  quote_type,
  set_type,
  seq_type,
  seq1_type,
  map_type,
  inmap_type,
  optional_type,
  bracketed_type,
  named_type,
  product_type,
  union_type,
  no_types,
  one_type,
}
use Rattle.abstract_syntax.specs.Classes.{TypeBody, same_as, with_fields, TypeDefTree}
use Rattle.expr_tree.specs.Alternatives.{Finder}
use Rattle.form_meaning.specs.Forms.{
  FormTree,
  any_form,
  no_form,
  one_of,
  AltTree,
  nil_alt,
  boolean_alt,
  number_alt,
  character_alt,
  quote_alt,
  token_alt,
  tuple_alt,
  record_alt,
  sequence_alt,
  set_alt,
  map_alt,
  object_alt,
  named_alt,
  AltTrees,
  no_alts,
  one_alt,
  FormTrees,
  no_forms,
  one_form,
  only,
  joined,
}

abbrev pub basic_alt : BasicType → AltTree
basic_alt BoolType = boolean_alt
basic_alt Nat = number_alt
basic_alt Nat1 = number_alt
basic_alt Int = number_alt
basic_alt Char = character_alt
basic_alt Token = token_alt

-- `find` gives the definition of a type's name in a class; `is_class` tells whether a name is a class's
module _ (find : Finder) (is_class : Name → Bool) where
  -- what is no type's name may be a class's: a type is found first
  abbrev pub unfound_form : TypeName → Option Name → FormTree
  unfound_form t None = if is_class t.name then only (object_alt t.name) else any_form
  unfound_form t (Some class) = any_form

  abbrev pub found_form : TypeName → Option TypeDefTree → FormTree
  found_form t (Some definition) = only (named_alt definition.class definition.name)
  found_form t None = unfound_form t t.class

  -- a type's name in a class, as a part
  abbrev pub name_form : Name → TypeName → FormTree
  name_form scope t = found_form t (find scope t.class t.name)

  -- what is known, and what a type in a class takes
  abbrev mutual
    pub with_type : Name → FormTree → TypeTree → FormTree
    with_type scope known (basic_type basic place) = joined known (only (basic_alt basic))
    with_type scope known (quote_type name place) = joined known (only (quote_alt name))
    with_type scope known (set_type element place) = joined known (only (set_alt (with_type scope no_form element)))
    with_type scope known (seq_type item place) = joined known (only (sequence_alt (with_type scope no_form item)))
    with_type scope known (seq1_type item place) = joined known (only (sequence_alt (with_type scope no_form item)))
    with_type scope known (map_type key value place) =
        joined known (only (map_alt (with_type scope no_form key) (with_type scope no_form value)))
    with_type scope known (inmap_type key value place) =
        joined known (only (map_alt (with_type scope no_form key) (with_type scope no_form value)))
    with_type scope known (optional_type inner place) = with_type scope (joined known (only nil_alt)) inner
    with_type scope known (bracketed_type inner place) = with_type scope known inner
    with_type scope known (named_type t place) = joined known (name_form scope t)
    with_type scope known (product_type factors place) = joined known (only (tuple_alt (factor_forms scope factors)))
    with_type scope known (union_type alternatives place) = with_types scope known alternatives

    pub with_types : Name → FormTree → TypeTrees → FormTree
    with_types scope known no_types = known
    with_types scope known (one_type t ts) = with_types scope (with_type scope known t) ts

    pub factor_forms : Name → TypeTrees → FormTrees
    factor_forms scope no_types = no_forms
    factor_forms scope (one_type t ts) = one_form (with_type scope no_form t) (factor_forms scope ts)

  -- a type in a class, as a part
  abbrev pub part_form : Name → TypeTree → FormTree
  part_form scope t = with_type scope no_form t

  -- ---- names opened

  -- `open` adds what a definition takes
  module _ (open_definition : FormTree → TypeDefTree → FormTree) where
    abbrev pub name_opened : FormTree → Option TypeDefTree → FormTree
    name_opened known None = any_form
    name_opened known (Some definition) = open_definition known definition

    abbrev pub alt_opened : FormTree → AltTree → FormTree
    alt_opened known (named_alt class name) = name_opened known (find class None name)
    alt_opened known alternative = joined known (only alternative)

    abbrev pub alts_opened : FormTree → AltTrees → FormTree
    alts_opened known no_alts = known
    alts_opened known (one_alt alternative alternatives) = alts_opened (alt_opened known alternative) alternatives

    abbrev pub opened_by : FormTree → FormTree → FormTree
    opened_by known any_form = any_form
    opened_by known no_form = known
    opened_by known (one_of alternatives) = alts_opened known alternatives

    abbrev pub body_opened : FormTree → TypeDefTree → TypeBody → FormTree
    body_opened known definition (with_fields fields) = joined known (only (record_alt definition.class definition.name))
    body_opened known definition (same_as declared) = opened_by known (part_form definition.class declared)

  -- what is known, and what a definition takes, by so many definitions in a row
  abbrev pub definition_opened : ℕ → FormTree → TypeDefTree → FormTree
  definition_opened zero known definition = any_form
  definition_opened (suc n) known definition = body_opened (definition_opened n) known definition definition.body

  -- `rank` falls from each definition to its alternatives, so no more are in a row than the first one's number and one
  module _ (rank : TypeDefTree → ℕ) where
    abbrev pub definition_form : FormTree → TypeDefTree → FormTree
    definition_form known definition = definition_opened (suc (rank definition)) known definition

    -- what is known, and what a form stands for
    abbrev pub with_opened : FormTree → FormTree → FormTree
    with_opened known form = opened_by definition_form known form

    abbrev pub opened : FormTree → FormTree
    opened form = with_opened no_form form

    -- the form of a type in a class
    abbrev pub form_of : Name → TypeTree → FormTree
    form_of scope t = opened (part_form scope t)

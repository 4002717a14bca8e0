-- Forms: what a checker knows of the values that an expression may have. (This project's own; the manual's static semantics leaves open how
-- much a checker knows.)
use Rattle.std.specs.Prelude.{ℕ, suc, Bool, true, false, ◌&&◌, nat_eq, if◌then◌else◌, is_some, Option, Some, None}
use Rattle.vdm_kinds.specs.declared.name.Name.{Name}
use Rattle.abstract_syntax.specs.Classes.{is_same_name}

mutual
  pub data FormTree : Type 0 where
    -- any value
    any_form : FormTree
    -- no value, as of an operation without a result
    no_form : FormTree
    -- a value of one of these kinds
    one_of : AltTrees → FormTree

  -- a kind of values, with what is known of their parts
  pub data AltTree : Type 0 where
    nil_alt : AltTree
    boolean_alt : AltTree
    number_alt : AltTree
    character_alt : AltTree
    -- `<Red>`
    quote_alt : Name → AltTree
    token_alt : AltTree
    -- a tuple, by its parts
    tuple_alt : FormTrees → AltTree
    -- a record of the type of this class and name
    record_alt : Name → Name → AltTree
    sequence_alt : FormTree → AltTree
    set_alt : FormTree → AltTree
    map_alt : FormTree → FormTree → AltTree
    -- an object of this class or one below it
    object_alt : Name → AltTree
    -- what the type of this class and name takes; it stands in parts alone, and is opened where the part is looked at
    named_alt : Name → Name → AltTree

  -- a list of alternatives
  pub data AltTrees : Type 0 where
    no_alts : AltTrees
    one_alt : AltTree → AltTrees → AltTrees

  -- a list of forms
  pub data FormTrees : Type 0 where
    no_forms : FormTrees
    one_form : FormTree → FormTrees → FormTrees

-- the form of one alternative
abbrev pub only : AltTree → FormTree
only alternative = one_of (one_alt alternative no_alts)

abbrev pub form_count : FormTrees → ℕ
form_count no_forms = 0
form_count (one_form form forms) = suc (form_count forms)

abbrev pub has_names : Name → Name → Name → Name → Bool
has_names class name other_class other_name = is_same_name class other_class && is_same_name name other_name

-- whether two alternatives are of one kind: quotes and types of one name, tuples of one length, objects of one class
abbrev pub is_same_kind : AltTree → AltTree → Bool
is_same_kind nil_alt nil_alt = true
is_same_kind boolean_alt boolean_alt = true
is_same_kind number_alt number_alt = true
is_same_kind character_alt character_alt = true
is_same_kind (quote_alt name) (quote_alt other) = is_same_name name other
is_same_kind token_alt token_alt = true
is_same_kind (tuple_alt parts) (tuple_alt others) = nat_eq (form_count parts) (form_count others)
is_same_kind (record_alt class name) (record_alt other_class other) = has_names class name other_class other
is_same_kind (sequence_alt items) (sequence_alt others) = true
is_same_kind (set_alt elements) (set_alt others) = true
is_same_kind (map_alt keys values) (map_alt other_keys other_values) = true
is_same_kind (object_alt class) (object_alt other) = is_same_name class other
is_same_kind (named_alt class name) (named_alt other_class other) = has_names class name other_class other
is_same_kind _ _ = false

abbrev pub same_kind_in : AltTree → AltTrees → Option AltTree
same_kind_in alternative no_alts = None
same_kind_in alternative (one_alt other others) = if is_same_kind alternative other then Some other else same_kind_in alternative others

abbrev pub followed_by : AltTrees → AltTrees → AltTrees
followed_by no_alts others = others
followed_by (one_alt alternative alternatives) others = one_alt alternative (followed_by alternatives others)

-- those of the second list that are of no kind of the first
abbrev pub further : AltTrees → AltTrees → AltTrees
further known no_alts = no_alts
further known (one_alt other others) =
    if is_some (same_kind_in other known) then further known others else one_alt other (further known others)

-- What may be of the one form or of the other. Each kind stands there once, with what either says of its parts.
abbrev mutual
  pub joined : FormTree → FormTree → FormTree
  joined any_form other = any_form
  joined no_form other = other
  joined (one_of alternatives) any_form = any_form
  joined (one_of alternatives) no_form = one_of alternatives
  joined (one_of alternatives) (one_of others) = one_of (followed_by (each_joined alternatives others) (further alternatives others))

  pub each_joined : AltTrees → AltTrees → AltTrees
  each_joined no_alts others = no_alts
  each_joined (one_alt alternative alternatives) others =
      one_alt (alt_joined alternative (same_kind_in alternative others)) (each_joined alternatives others)

  -- with the alternative of its kind, where there is one
  pub alt_joined : AltTree → Option AltTree → AltTree
  alt_joined (tuple_alt parts) (Some (tuple_alt others)) = tuple_alt (parts_joined parts others)
  alt_joined (sequence_alt items) (Some (sequence_alt others)) = sequence_alt (joined items others)
  alt_joined (set_alt elements) (Some (set_alt others)) = set_alt (joined elements others)
  alt_joined (map_alt keys values) (Some (map_alt other_keys other_values)) = map_alt (joined keys other_keys) (joined values other_values)
  alt_joined alternative _ = alternative

  pub parts_joined : FormTrees → FormTrees → FormTrees
  parts_joined no_forms others = no_forms
  parts_joined (one_form part parts) no_forms = one_form part parts
  parts_joined (one_form part parts) (one_form other others) = one_form (joined part other) (parts_joined parts others)

-- what may be of one of several forms
abbrev pub all_joined : FormTree → FormTrees → FormTree
all_joined form no_forms = form
all_joined form (one_form other others) = all_joined (joined form other) others

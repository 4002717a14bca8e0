-- Nodes whose parts stand in one scope: what each part has to meet, and the form that follows from theirs.
use Rattle.std.specs.Prelude.{ℕ, zero, suc, ℤ, pos, Bool, true, false, not, ◌&&◌, ◌||◌, nat_lt, if◌then◌else◌, is_some, List, [], ◌∷◌, ◌++◌, Option, Some, None, length}
use Rattle.std.specs.List.{list_all}
use Rattle.vdm_kinds.specs.declared.name.Name.{Name}
use Rattle.vdm_kinds.specs.declared.place.Place.{Place}
use Rattle.vdm_kinds.specs.declared.sign.Sign.{Sign}
use Rattle.vdm_kinds.specs.declared.spec_fault.SpecFault.{SpecFault}
use Rattle.vdm_kinds.specs.declared.spec_kind.SpecKind.TheVariants.{NoCommonValue}
use Rattle.abstract_syntax.specs.Classes.{SpecTree}
use Rattle.form_meaning.specs.Forms.{
  FormTree,
  any_form,
  no_form,
  one_of,
  AltTree,
  token_alt,
  tuple_alt,
  record_alt,
  AltTrees,
  no_alts,
  one_alt,
  FormTrees,
  no_forms,
  one_form,
  form_count,
  only,
  joined,
}
use Rattle.form_meaning.specs.Parts.{item, part_behind, taken}
use Rattle.class_checks.specs.Operators.{
  truth,
  number,
  any_sequence,
  left_want,
  right_want,
  takes_from,
  set_with,
  sequence_with,
  map_with,
  gives_of_one,
  gives_of_two,
}
use Rattle.class_checks.specs.Results.{Checked, gives, refusing, after, refused_if}
use Rattle.class_checks.specs.TypeNames.{opened, meets, field_form}

pub data ShapeTree : Type 0 where
  -- an operator before its operand, or between two
  of_prefix : Sign → ShapeTree
  of_operator : Sign → ShapeTree
  -- `{a, ..., b}`
  of_range : ShapeTree
  -- enumerations, and what a comprehension makes of each element
  of_set : ShapeTree
  of_sequence : ShapeTree
  -- keys and values in turn
  of_map : ShapeTree
  of_tuple : ShapeTree
  of_token : ShapeTree
  -- a test of any value
  of_test : ShapeTree
  -- a condition under a quantifier
  of_condition : ShapeTree
  -- arguments, or the fields of a record: what each has to meet, and what is given
  of_call : FormTrees → FormTree → ShapeTree
  -- `e.#1`
  of_part : ℤ → ShapeTree
  -- `q(i, ..., j)`
  of_subsequence : ShapeTree
  -- `mu(r, f |-> a)`: the fields
  of_changed : List Name → ShapeTree

-- a part that was checked: its form, and whether it met what its place wants
pub record Seen : Type 0 where
  pub form : FormTree
  pub fits : Bool

pub data Want : Type 0 where
  -- some value of this form
  like : FormTree → Want
  -- a tuple with a part of this number
  with_part : ℤ → Want
  -- a record with these fields
  with_all : List Name → Want

-- ---- what is wanted

abbrev pub has_part : ℤ → AltTree → Bool
has_part (pos (suc n)) (tuple_alt parts) = nat_lt n (form_count parts)
has_part _ _ = false

abbrev pub part_numbered : ℤ → AltTree → FormTree
part_numbered (pos (suc n)) alternative = part_behind n alternative
part_numbered _ alternative = no_form

abbrev pub want_behind : ℕ → FormTrees → FormTree
want_behind n no_forms = any_form
want_behind zero (one_form form forms) = form
want_behind (suc n) (one_form form forms) = want_behind n forms

abbrev pub some_alt : (AltTree → Bool) → AltTrees → Bool
some_alt test no_alts = false
some_alt test (one_alt alternative alternatives) = test alternative || some_alt test alternatives

abbrev pub any_or_some : (AltTree → Bool) → FormTree → Bool
any_or_some test any_form = true
any_or_some test no_form = false
any_or_some test (one_of alternatives) = some_alt test alternatives

-- ---- parts that were seen

abbrev pub field_or_none : Option FormTree → FormTree
field_or_none None = no_form
field_or_none (Some form) = form

abbrev pub name_behind : ℕ → List Name → Option Name
name_behind n [] = None
name_behind zero (name ∷ names) = Some name
name_behind (suc n) (name ∷ names) = name_behind n names

abbrev pub operand_want : Sign → ℕ → FormTree
operand_want sign zero = left_want sign
operand_want sign (suc n) = right_want sign

abbrev pub subsequence_want : ℕ → FormTree
subsequence_want zero = any_sequence
subsequence_want (suc n) = number

abbrev pub all_seen : FormTree → List Seen → FormTree
all_seen form [] = form
all_seen form (seen ∷ others) = all_seen (joined form seen.form) others

-- the parts of an empty enumeration may have any form
abbrev pub parts_seen : List Seen → FormTree
parts_seen [] = any_form
parts_seen (seen ∷ others) = all_seen seen.form others

abbrev pub every_other : List Seen → List Seen
every_other [] = []
every_other (seen ∷ []) = seen ∷ []
every_other (seen ∷ other ∷ others) = seen ∷ every_other others

abbrev pub all_but_first : List Seen → List Seen
all_but_first [] = []
all_but_first (seen ∷ others) = others

abbrev pub forms_seen : List Seen → FormTrees
forms_seen [] = no_forms
forms_seen (seen ∷ others) = one_form seen.form (forms_seen others)

abbrev pub unfit : (ℕ → Bool) → ℕ → List Seen → Bool
unfit takes i [] = false
unfit takes i (seen ∷ others) = (takes i && not seen.fits) || unfit takes (suc i) others

-- the form is taken from parts: where one of these did not fit, it may be any
abbrev pub unless_unfit : (ℕ → Bool) → List Seen → FormTree → FormTree
unless_unfit takes done form = if unfit takes 0 done then any_form else form

abbrev pub takes_first : ℕ → Bool
takes_first zero = true
takes_first (suc i) = false

abbrev pub seen_at : ℕ → List Seen → FormTree
seen_at n [] = any_form
seen_at zero (seen ∷ others) = seen.form
seen_at (suc n) (seen ∷ others) = seen_at n others

module _ (spec : SpecTree) where
  abbrev pub has_field : Name → Name → Name → Bool
  has_field class name field = is_some (field_form spec class name field)

  abbrev pub has_all : List Name → AltTree → Bool
  has_all fields (record_alt class name) = list_all (has_field class name) fields
  has_all fields _ = false

  abbrev pub fits : Want → FormTree → Bool
  fits (like wanted) form = meets spec form wanted
  fits (with_part number) form = any_or_some (has_part number) form
  fits (with_all fields) form = any_or_some (has_all fields) form

  -- ---- records that are changed

  -- the form of a field in an alternative that has all that are changed
  abbrev pub changed_field : List Name → Name → AltTree → FormTree
  changed_field fields field (record_alt class name) =
      if list_all (has_field class name) fields then field_or_none (field_form spec class name field) else no_form
  changed_field fields field _ = no_form

  abbrev pub kept : List Name → AltTree → FormTree
  kept fields alternative = if has_all fields alternative then only alternative else no_form

  -- the value of a field has to meet what some record of the form may have there
  abbrev pub field_want : List Name → Option Name → Seen → FormTree
  field_want fields None target = any_form
  field_want fields (Some field) target = if target.fits then taken (changed_field fields field) target.form else any_form

  abbrev pub changed_want : List Name → List Seen → Want
  changed_want fields [] = with_all fields
  changed_want fields (target ∷ values) = like (field_want fields (name_behind (length values) fields) target)

  -- ---- by shape

  -- what the next part has to meet
  abbrev pub want_of : ShapeTree → List Seen → Want
  want_of (of_prefix sign) done = like (left_want sign)
  want_of (of_operator sign) done = like (operand_want sign (length done))
  want_of of_range done = like number
  want_of of_condition done = like truth
  want_of (of_call wants result) done = like (want_behind (length done) wants)
  want_of (of_part n) done = with_part n
  want_of of_subsequence done = like (subsequence_want (length done))
  want_of (of_changed fields) done = changed_want fields done
  want_of _ done = like any_form

  -- ---- the form that follows

  abbrev pub finished : ShapeTree → List Seen → FormTree
  finished (of_prefix sign) done = unless_unfit (takes_from sign) done (gives_of_one spec sign (seen_at 0 done))
  finished (of_operator sign) done = unless_unfit (takes_from sign) done (gives_of_two spec sign (seen_at 0 done) (seen_at 1 done))
  finished of_range done = set_with number
  finished of_set done = set_with (parts_seen done)
  finished of_sequence done = sequence_with (parts_seen done)
  finished of_map done = map_with (parts_seen (every_other done)) (parts_seen (every_other (all_but_first done)))
  finished of_tuple done = only (tuple_alt (forms_seen done))
  finished of_token done = only token_alt
  finished of_test done = truth
  finished of_condition done = truth
  finished (of_call wants result) done = result
  finished (of_part n) done = unless_unfit takes_first done (opened spec (taken (part_numbered n) (seen_at 0 done)))
  finished of_subsequence done = unless_unfit takes_first done (sequence_with (taken item (seen_at 0 done)))
  finished (of_changed fields) done = unless_unfit takes_first done (taken (kept fields) (seen_at 0 done))

  -- ---- one part after the other

  abbrev pub seen_as : Want → FormTree → Seen
  seen_as want form = record { form = form; fits = fits want form }

  abbrev pub part_faults : Want → Place → FormTree → List SpecFault
  part_faults want place form = refused_if (not (fits want form)) NoCommonValue place

  -- a part of this form stands at `place`
  abbrev pub next_part : ShapeTree → List Seen → Place → FormTree → (List Seen → Checked) → Checked
  next_part shape done place form rest =
      refusing (part_faults (want_of shape done) place form) (rest (done ++ seen_as (want_of shape done) form ∷ []))

  abbrev pub all_done : ShapeTree → List Seen → Checked
  all_done shape done = gives (finished shape done)

  abbrev pub one_part : ShapeTree → List Seen → Checked → Place → (List Seen → Checked) → Checked
  one_part shape done part place rest = after part (λ (form : FormTree). next_part shape done place form rest)

-- What is applied to arguments: an operation or a function that is called, or a sequence or a map that is looked up in.
use Rattle.std.specs.Prelude.{ℕ, zero, suc, Bool, true, false, not, ◌||◌, nat_eq, if◌then◌else◌, List, [], ◌∷◌, ◌++◌, Option, Some, None}
use Rattle.std.specs.List.{list_any}
use Rattle.vdm_kinds.specs.declared.name.Name.{Name}
use Rattle.vdm_kinds.specs.declared.place.Place.{Place}
use Rattle.vdm_kinds.specs.declared.spec_fault.SpecFault.{SpecFault}
use Rattle.vdm_kinds.specs.declared.spec_kind.SpecKind.TheVariants.{UnknownName, Ambiguous, WrongArity, NoCommonValue}
use Rattle.abstract_syntax.specs.Types.{TypeTree}
use Rattle.abstract_syntax.specs.Classes.{FunctionTree, OperationTree, ClassTree, SpecTree, is_same_name, class_operations}
use Rattle.class_meaning.specs.Ancestors.{ancestors}
use Rattle.class_meaning.specs.Classes.{class_at, class_number, name_of_class}
use Rattle.class_meaning.specs.Found.{own_in}
use Rattle.class_meaning.specs.Members.{Member, of_variable, of_function, of_operation, class_members}
use Rattle.class_meaning.specs.declared.ask.Ask.TheVariants.{ByName, Called}
use Rattle.form_meaning.specs.Forms.{
  FormTree,
  any_form,
  no_form,
  one_of,
  AltTree,
  record_alt,
  object_alt,
  AltTrees,
  no_alts,
  one_alt,
  FormTrees,
  no_forms,
  one_form,
  only,
  joined,
}
use Rattle.form_meaning.specs.Parts.{at_argument, taken}
use Rattle.member_meaning.specs.Meaning.{Meant, unknown, ambiguous, meant, meaning}
use Rattle.class_checks.specs.Members.{is_below_number, operation_faults, other_faults, read_member, result_form, unseen, may_not_create}
use Rattle.class_checks.specs.Operators.{number, any_map, sequence_or_map}
use Rattle.class_checks.specs.Results.{Checked, refusal, refused_if, spoils, form_unless}
use Rattle.class_checks.specs.Scopes.{ScopeTree, scope_number}
use Rattle.class_checks.specs.TypeNames.{form_of, opened, meets, field_form}

-- what is refused of it, what its arguments have to meet, and what it gives; an argument behind those that are listed may be of any form
pub record Callee : Type 0 where
  pub refusals : List SpecFault
  pub wants : FormTrees
  pub result : FormTree

abbrev pub callee : List SpecFault → FormTrees → FormTree → Callee
callee refusals wants result = record { refusals = refusals; wants = wants; result = form_unless refusals result }

-- where it isn't known what is called nothing is wanted of the arguments
abbrev pub refused_callee : List SpecFault → Callee
refused_callee refusals = callee refusals no_forms any_form

-- ---- what members and alternatives are, as callees

abbrev pub is_called : Name → Member → Bool
is_called name (of_function f) = is_same_name name f.name
is_called name (of_operation o) = is_same_name name o.name
is_called name _ = false

abbrev pub has_called : Name → Option ClassTree → Bool
has_called name None = false
has_called name (Some class) = list_any (is_called name) (class_members class)

-- what an alternative has of a name
pub data Selected : Type 0 where
  -- it is no object and no record
  no_member : Selected
  -- a record without such a field
  no_field : Selected
  -- an object that has no such member, or none that may be named
  refused_member : List SpecFault → Selected
  selected : Callee → Selected

abbrev pub selected_unless : List SpecFault → Callee → Selected
selected_unless refusals found = if list_any (λ (r : SpecFault). spoils r.kind) refusals then refused_member refusals else selected found

-- how a selected member is used: its value is read, or it is applied to so many arguments at a place
pub data Use : Type 0 where
  is_read : Use
  -- `head_place`, the number of arguments, and the place
  is_applied : Place → ℕ → Place → Use

abbrev pub wants_joined : FormTrees → FormTrees → FormTrees
wants_joined no_forms others = no_forms
wants_joined (one_form form forms) no_forms = no_forms
wants_joined (one_form form forms) (one_form other others) = one_form (joined form other) (wants_joined forms others)

abbrev pub callees_joined : Option Callee → Callee → Callee
callees_joined None found = found
callees_joined (Some known) found = record {
  refusals = known.refusals ++ found.refusals;
  wants = wants_joined known.wants found.wants;
  result = joined known.result found.result;
}

-- what some alternative has, and what is refused of the others
pub record Selection : Type 0 where
  pub found : Option Callee
  pub refusals : List SpecFault

abbrev pub with_selected : Selection → Selected → Selection
with_selected known no_member = known
with_selected known no_field = known
with_selected known (refused_member refusals) = record { found = known.found; refusals = known.refusals ++ refusals }
with_selected known (selected found) = record { found = Some (callees_joined known.found found); refusals = known.refusals }

abbrev pub unless_refused : Place → List SpecFault → Callee
unless_refused target_place [] = callee (refusal NoCommonValue target_place ∷ []) no_forms any_form
unless_refused target_place (refused ∷ refusals) = refused_callee (refused ∷ refusals)

-- one alternative that has the member is enough; where none is a record with the field, nor an object, the target does not fit
abbrev pub of_selection : Place → Selection → Option Callee → Callee
of_selection target_place known (Some found) = found
of_selection target_place known None = unless_refused target_place known.refusals

abbrev pub settled : Place → Selection → Callee
settled target_place known = of_selection target_place known known.found

abbrev pub only_selected : Selected → Callee
only_selected (refused_member refusals) = refused_callee refusals
only_selected (selected found) = found
only_selected _ = refused_callee []

abbrev pub refused_too : List SpecFault → Callee → Callee
refused_too refusals found = record { refusals = refusals ++ found.refusals; wants = found.wants; result = found.result }

-- ---- looking up

module _ (spec : SpecTree) where
  -- in what stands at `head_place`, with so many arguments at `place`: a sequence by a number, a map by any key
  abbrev pub looked_up : FormTree → FormTree
  looked_up form = if meets spec form sequence_or_map then opened spec (taken at_argument form) else any_form

  abbrev pub key_want : FormTree → FormTree
  key_want form = if meets spec form any_map || not (meets spec form sequence_or_map) then any_form else number

  abbrev pub value_callee : List SpecFault → FormTree → Place → ℕ → Place → Callee
  value_callee refusals form head_place n place = callee
      (refusals ++ (refused_if (not (meets spec form sequence_or_map)) NoCommonValue head_place ++ refused_if (not (nat_eq n 1)) WrongArity place))
      (one_form (key_want form) no_forms)
      (looked_up form)

  -- ---- operations and functions

  abbrev pub parameter_forms : ℕ → List TypeTree → FormTrees
  parameter_forms owner [] = no_forms
  parameter_forms owner (t ∷ ts) = one_form (form_of spec (name_of_class spec owner) t) (parameter_forms owner ts)

  -- those of `IO`, which is class 0, print what they get
  abbrev pub operation_wants : ℕ → List TypeTree → FormTrees
  operation_wants zero parameters = no_forms
  operation_wants (suc owner) parameters = parameter_forms (suc owner) parameters

  abbrev pub operation_callee : List SpecFault → ℕ → OperationTree → Callee
  operation_callee refusals owner o = callee refusals (operation_wants owner o.parameters) (result_form spec owner o.result_type)

  abbrev pub function_callee : List SpecFault → ℕ → FunctionTree → Callee
  function_callee refusals owner f = callee refusals (parameter_forms owner f.parameters) (form_of spec (name_of_class spec owner) f.result_type)

  -- ---- a name that is unknown with so many arguments

  -- whether some ancestor has a function or an operation of the name, with whatever number of parameters
  abbrev pub has_some_called : Name → ℕ → Bool
  has_some_called name k = list_any (λ (a : ℕ). has_called name (class_at spec a)) (ancestors spec k)

  -- then it is the number that doesn't fit, which is told at the call
  abbrev pub unknown_callee : Name → Place → Place → ℕ → Callee
  unknown_callee name name_place place k = refused_callee
      (if has_some_called name k then refusal WrongArity place ∷ [] else refusal UnknownName name_place ∷ [])

module _ (spec : SpecTree) (scope : ScopeTree) where
  -- ---- by a name, alone or behind a class

  abbrev pub looked_up_as : Checked → Place → ℕ → Place → Callee
  looked_up_as head head_place n place = value_callee spec head.refusals head.form head_place n place

  -- `own`: whether the object here is of the class that was named; `head_place`: where the expression before the arguments has its place
  abbrev pub member_callee : Bool → Place → Place → ℕ → Place → ℕ → Member → Callee
  member_callee own name_place head_place n place owner (of_function f) =
      function_callee spec (unseen spec scope name_place owner f.access) owner f
  member_callee own name_place head_place n place owner (of_operation o) =
      operation_callee spec (operation_faults spec scope name_place own owner o.access) owner o
  member_callee own name_place head_place n place owner member =
      looked_up_as (read_member spec scope name_place own owner member) head_place n place

  abbrev pub meant_callee : Bool → Name → Place → Place → ℕ → Place → ℕ → Meant → Callee
  meant_callee own name name_place head_place n place k unknown = unknown_callee spec name name_place place k
  meant_callee own name name_place head_place n place k ambiguous = refused_callee (refusal Ambiguous name_place ∷ [])
  meant_callee own name name_place head_place n place k (meant owner member) = member_callee own name_place head_place n place owner member

  abbrev pub callee_in : Bool → Name → Place → Place → ℕ → Place → Option ℕ → Callee
  callee_in own name name_place head_place n place None = refused_callee (refusal UnknownName name_place ∷ [])
  callee_in own name name_place head_place n place (Some k) =
      meant_callee own name name_place head_place n place k (meaning spec (Called name n) k)

  -- a name that stands alone: what is bound hides what the class has
  abbrev pub local_callee_or : Name → Place → ℕ → Place → Option FormTree → Callee
  local_callee_or name name_place n place (Some form) = value_callee spec [] form name_place n place
  local_callee_or name name_place n place None = callee_in true name name_place name_place n place (scope_number spec scope)

  abbrev pub named_callee : Name → Place → ℕ → Place → Callee
  named_callee name name_place n place = local_callee_or name name_place n place (scope.locals name)

  -- ``C`f``: `head_place` is the class's
  abbrev pub callee_behind_class : Name → Place → Place → ℕ → Place → Option ℕ → Callee
  callee_behind_class name name_place head_place n place None = refused_callee (refusal UnknownName head_place ∷ [])
  callee_behind_class name name_place head_place n place (Some k) =
      callee_in (is_below_number spec (scope_number spec scope) k) name name_place head_place n place (Some k)

  abbrev pub qualified_callee : Name → Name → Place → Place → ℕ → Place → Callee
  qualified_callee class name name_place head_place n place =
      callee_behind_class name name_place head_place n place (class_number spec class)

  -- ---- behind an object or a record

  -- functions and class values aren't reached behind an object
  abbrev pub called_member : Place → Place → ℕ → Place → ℕ → Member → Selected
  called_member name_place head_place n place owner (of_operation o) =
      selected_unless (other_faults spec scope name_place owner o.access) (operation_callee spec (other_faults spec scope name_place owner o.access) owner o)
  called_member name_place head_place n place owner (of_variable v) =
      selected_unless
      (other_faults spec scope name_place owner v.access)
      (value_callee spec (other_faults spec scope name_place owner v.access) (form_of spec (name_of_class spec owner) v.declared) head_place n place)
  called_member name_place head_place n place owner _ = refused_member (refusal UnknownName name_place ∷ [])

  abbrev pub called_meant : Name → Place → Place → ℕ → Place → ℕ → Meant → Selected
  called_meant name name_place head_place n place k unknown = refused_member (unknown_callee spec name name_place place k).refusals
  called_meant name name_place head_place n place k ambiguous = refused_member (refusal Ambiguous name_place ∷ [])
  called_meant name name_place head_place n place k (meant owner member) = called_member name_place head_place n place owner member

  abbrev pub read_of_member : Place → ℕ → Member → Selected
  read_of_member name_place owner (of_variable v) =
      selected_unless
      (other_faults spec scope name_place owner v.access)
      (callee (other_faults spec scope name_place owner v.access) no_forms (form_of spec (name_of_class spec owner) v.declared))
  read_of_member name_place owner _ = refused_member (refusal UnknownName name_place ∷ [])

  abbrev pub read_of_meant : Place → Meant → Selected
  read_of_meant name_place unknown = refused_member (refusal UnknownName name_place ∷ [])
  read_of_meant name_place ambiguous = refused_member (refusal Ambiguous name_place ∷ [])
  read_of_meant name_place (meant owner member) = read_of_member name_place owner member

  abbrev pub in_object_class : Use → Name → Place → Option ℕ → Selected
  in_object_class way name name_place None = refused_member (refusal UnknownName name_place ∷ [])
  in_object_class is_read name name_place (Some k) = read_of_meant name_place (meaning spec (ByName name) k)
  in_object_class (is_applied head_place n place) name name_place (Some k) =
      called_meant name name_place head_place n place k (meaning spec (Called name n) k)

  abbrev pub used_field : Use → Option FormTree → Selected
  used_field way None = no_field
  used_field is_read (Some form) = selected (callee [] no_forms form)
  used_field (is_applied head_place n place) (Some form) = selected (value_callee spec [] form head_place n place)

  abbrev pub of_alternative : Use → Name → Place → AltTree → Selected
  of_alternative way name name_place (record_alt class record_name) = used_field way (field_form spec class record_name name)
  of_alternative way name name_place (object_alt class) = in_object_class way name name_place (class_number spec class)
  of_alternative way name name_place _ = no_member

  -- ... of all alternatives together

  abbrev pub among_alternatives : Use → Name → Place → Selection → AltTrees → Selection
  among_alternatives way name name_place known no_alts = known
  among_alternatives way name name_place known (one_alt alternative alternatives) =
      among_alternatives way name name_place (with_selected known (of_alternative way name name_place alternative)) alternatives

  abbrev pub selected_callee : Use → Place → Name → Place → FormTree → Callee
  selected_callee way target_place name name_place any_form = callee [] no_forms any_form
  selected_callee way target_place name name_place no_form = callee (refusal NoCommonValue target_place ∷ []) no_forms any_form
  selected_callee way target_place name name_place (one_of alternatives) =
      settled target_place (among_alternatives way name name_place (record { found = None; refusals = [] }) alternatives)

  -- ``e.C`x``: an object of `C` is wanted, and what `x` means in `C`
  abbrev pub class_callee : Use → Place → Name → Place → Name → Place → FormTree → Option ℕ → Callee
  class_callee way target_place class class_place name name_place form None = refused_callee (refusal UnknownName class_place ∷ [])
  class_callee way target_place class class_place name name_place form (Some k) =
      refused_too
      (refused_if (not (meets spec form (only (object_alt class)))) NoCommonValue target_place)
      (only_selected (in_object_class way name name_place (Some k)))

  abbrev pub selected_of_class : Use → Place → Name → Place → Name → Place → FormTree → Callee
  selected_of_class way target_place class class_place name name_place form =
      class_callee way target_place class class_place name name_place form (class_number spec class)

-- ---- new objects

abbrev pub is_constructor : ClassTree → OperationTree → Bool
is_constructor class o = is_same_name class.name o.name

-- whether a class has a constructor of its own, with whatever number of parameters
abbrev pub has_constructor : ClassTree → Bool
has_constructor class = list_any (is_constructor class) (class_operations class)

module _ (spec : SpecTree) (scope : ScopeTree) (class_place place : Place) (n : ℕ) where
  abbrev pub created : Name → List SpecFault → FormTrees → Callee
  created class refusals wants = callee (may_not_create spec scope place scope.reach ++ refusals) wants (only (object_alt class))

  -- the constructor is named where the class is
  abbrev pub by_constructor : ℕ → ClassTree → Option Member → Callee
  by_constructor k class (Some (of_operation o)) = created class.name (unseen spec scope class_place k o.access) (operation_wants spec k o.parameters)
  by_constructor k class _ =
      created class.name (refused_if (has_constructor class || not (nat_eq n 0)) WrongArity place) no_forms

  abbrev pub by_class : ℕ → Option ClassTree → Callee
  by_class k None = refused_callee (refusal UnknownName class_place ∷ [])
  by_class k (Some class) = by_constructor k class (own_in spec (Called class.name n) k)

  abbrev pub by_number : Option ℕ → Callee
  by_number None = refused_callee (may_not_create spec scope place scope.reach ++ refusal UnknownName class_place ∷ [])
  by_number (Some k) = by_class k (class_at spec k)

  -- A constructor of the class itself with so many parameters; without one, no arguments where the class has none at all.
  abbrev pub created_callee : Name → Callee
  created_callee class = by_number (class_number spec class)

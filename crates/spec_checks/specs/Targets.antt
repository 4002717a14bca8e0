-- What assignments write to: the form that is wanted there, and what is refused.
use Rattle.std.specs.Prelude.{ℕ, Bool, true, false, not, nat_eq, if◌then◌else◌, is_some, List, [], ◌∷◌, ◌++◌, Option, Some, None}
use Rattle.vdm_kinds.specs.declared.access.Access.{Access}
use Rattle.vdm_kinds.specs.declared.name.Name.{Name}
use Rattle.vdm_kinds.specs.declared.place.Place.{Place}
use Rattle.vdm_kinds.specs.declared.spec_fault.SpecFault.{SpecFault}
use Rattle.vdm_kinds.specs.declared.spec_kind.SpecKind.TheVariants.{LeftOut, UnknownName, Ambiguous, NoCommonValue}
use Rattle.abstract_syntax.specs.Expressions.{
  PatternTree,
  PatternTrees,
  MapletPatterns,
  DefinedTrees,
  any_value,
  bound,
  literal_pattern,
  equal_to,
  set_pattern,
  sequence_pattern,
  map_pattern,
  empty_map_pattern,
  tuple_pattern,
  record_pattern,
  concatenation_pattern,
  no_patterns,
  one_pattern,
  no_maplet_patterns,
  one_maplet_pattern,
  no_defined,
  one_defined,
  expr_place,
}
use Rattle.abstract_syntax.specs.Statements.{TargetStepTree, field_of, element_at, TargetTree, variable, variable_of_class, AssignmentTree, target_place}
use Rattle.abstract_syntax.specs.Classes.{SpecTree, is_same_name}
use Rattle.class_meaning.specs.Classes.{class_number, name_of_class}
use Rattle.class_meaning.specs.Faults.{is_among}
use Rattle.class_meaning.specs.Members.{Member, of_variable}
use Rattle.class_meaning.specs.declared.ask.Ask.TheVariants.{ByName}
use Rattle.member_meaning.specs.Meaning.{Meant, unknown, ambiguous, meant, meaning}
use Rattle.form_meaning.specs.Forms.{FormTree, any_form, no_form, AltTree, record_alt}
use Rattle.form_meaning.specs.Parts.{taken}
use Rattle.class_checks.specs.Callees.{key_want, looked_up}
use Rattle.class_checks.specs.Expressions.{check, want_faults}
use Rattle.class_checks.specs.Members.{is_below_number, variable_faults}
use Rattle.class_checks.specs.Operators.{sequence_or_map}
use Rattle.class_checks.specs.Results.{Checked, refusal, refused_if, refusing, after, form_unless}
use Rattle.class_checks.specs.Scopes.{ScopeTree, scope_number}
use Rattle.class_checks.specs.Shapes.{any_or_some, field_or_none}
use Rattle.class_checks.specs.TypeNames.{form_of, opened, field_form}

-- what a statement may give back
pub data Returned : Type 0 where
  -- whatever it likes, as in a thread
  anything : Returned
  -- no value, as in an operation without a result
  no_value : Returned
  -- a value of this form
  a_value : FormTree → Returned

-- where a statement stands
pub record StmtScope : Type 0 where
  pub within : ScopeTree
  -- whether the newest local of a name was declared by `dcl`, so that it may be assigned
  pub declared : Name → Bool
  pub returned : Returned

abbrev pub nothing_declared : Name → Bool
nothing_declared name = false

abbrev pub declared_too : Name → (Name → Bool) → Name → Bool
declared_too name declared other = if is_same_name name other then true else declared other

-- what patterns bind hides what was declared
abbrev pub hidden_by : List Name → (Name → Bool) → Name → Bool
hidden_by names declared other = if is_among other names then false else declared other

abbrev mutual
  pub pattern_names : PatternTree → List Name
  pattern_names (any_value place) = []
  pattern_names (bound name place) = name ∷ []
  pattern_names (literal_pattern value place) = []
  pattern_names (equal_to inner place) = []
  pattern_names (set_pattern elements place) = patterns_names elements
  pattern_names (sequence_pattern items place) = patterns_names items
  pattern_names (map_pattern maplets place) = maplets_names maplets
  pattern_names (empty_map_pattern place) = []
  pattern_names (tuple_pattern parts place) = patterns_names parts
  pattern_names (record_pattern t fields place) = patterns_names fields
  pattern_names (concatenation_pattern parts place) = patterns_names parts

  pub patterns_names : PatternTrees → List Name
  patterns_names no_patterns = []
  patterns_names (one_pattern p ps) = pattern_names p ++ patterns_names ps

  pub maplets_names : MapletPatterns → List Name
  maplets_names no_maplet_patterns = []
  maplets_names (one_maplet_pattern p q rest) = pattern_names p ++ (pattern_names q ++ maplets_names rest)

abbrev pub defined_names : DefinedTrees → List Name
defined_names no_defined = []
defined_names (one_defined pattern declared value rest) = pattern_names pattern ++ defined_names rest

-- ---- which variable is meant

-- what a target names
pub data Owned : Type 0 where
  nothing_owned : Owned
  -- a local that was declared
  a_local : Owned
  -- a variable of the object itself
  of_self : Owned
  -- a static variable of the class of this number
  of_class_object : ℕ → Owned

pub record Written : Type 0 where
  pub form : FormTree
  pub owned : Owned
  pub refusals : List SpecFault

abbrev pub unwritten : List SpecFault → Written
unwritten refusals = record { form = any_form; owned = nothing_owned; refusals = refusals }

abbrev pub owner_of : ℕ → Access → Owned
owner_of owner access = if access.is_static then of_class_object owner else of_self

abbrev pub target_steps : TargetTree → List TargetStepTree
target_steps (variable name steps place) = steps
target_steps (variable_of_class class name name_place steps place) = steps

-- ---- several at once

abbrev pub go_together : Owned → Owned → Bool
go_together of_self of_self = true
go_together (of_class_object a) (of_class_object b) = nat_eq a b
go_together _ _ = false

abbrev pub is_apart : Owned → Owned → Bool
is_apart first nothing_owned = false
is_apart nothing_owned a_local = true
is_apart nothing_owned other = false
is_apart first other = not (go_together first other)

abbrev pub first_owned : Owned → Owned → Owned
first_owned of_self other = of_self
first_owned (of_class_object a) other = of_class_object a
first_owned _ of_self = of_self
first_owned _ (of_class_object a) = of_class_object a
first_owned _ _ = nothing_owned

module _ (spec : SpecTree) where
  abbrev pub has_this_field : Name → AltTree → Bool
  has_this_field name (record_alt class record_name) = is_some (field_form spec class record_name name)
  has_this_field name _ = false

  abbrev pub field_taken : Name → AltTree → FormTree
  field_taken name (record_alt class record_name) = field_or_none (field_form spec class record_name name)
  field_taken name _ = no_form

  abbrev pub stepped : Bool → FormTree → FormTree
  stepped true form = opened spec form
  stepped false form = any_form

module _ (spec : SpecTree) (scope : StmtScope) where
  abbrev pub written_member : Place → Bool → ℕ → Member → Written
  written_member place own owner (of_variable v) = record {
    form = form_unless (variable_faults spec scope.within place own owner v.access) (form_of spec (name_of_class spec owner) v.declared);
    owned = owner_of owner v.access;
    refusals = variable_faults spec scope.within place own owner v.access;
  }
  written_member place own owner _ = unwritten (refusal UnknownName place ∷ [])

  abbrev pub written_meant : Place → Bool → Meant → Written
  written_meant place own unknown = unwritten (refusal UnknownName place ∷ [])
  written_meant place own ambiguous = unwritten (refusal Ambiguous place ∷ [])
  written_meant place own (meant owner member) = written_member place own owner member

  abbrev pub written_in : Name → Place → Bool → Option ℕ → Written
  written_in name place own None = unwritten (refusal UnknownName place ∷ [])
  written_in name place own (Some k) = written_meant place own (meaning spec (ByName name) k)

  -- a name that a pattern, a parameter or a loop binds is no variable, also where it hides one
  abbrev pub written_local_or : Name → Place → Option FormTree → Written
  written_local_or name place (Some form) =
      if scope.declared name then record { form = form; owned = a_local; refusals = [] } else unwritten (refusal UnknownName place ∷ [])
  written_local_or name place None = written_in name place true (scope_number spec scope.within)

  abbrev pub written_behind_class : Name → Place → Place → Option ℕ → Written
  written_behind_class name name_place place None = unwritten (refusal UnknownName place ∷ [])
  written_behind_class name name_place place (Some k) =
      written_in name name_place (is_below_number spec (scope_number spec scope.within) k) (Some k)

  abbrev pub written : TargetTree → Written
  written (variable name steps place) = written_local_or name place (scope.within.locals name)
  written (variable_of_class class name name_place steps place) = written_behind_class name name_place place (class_number spec class)

  -- ---- the steps into it

  -- `place` is the target's, where it is refused that there is no such part
  abbrev pub steps_in : Place → FormTree → List TargetStepTree → (FormTree → Checked) → Checked
  steps_in place form [] rest = rest form
  steps_in place form (field_of name name_place step_place ∷ steps) rest =
      refusing (refused_if (not (any_or_some (has_this_field spec name) form)) NoCommonValue place)
      (steps_in place (stepped spec (any_or_some (has_this_field spec name) form) (taken (field_taken spec name) form)) steps rest)
  steps_in place form (element_at index step_place ∷ steps) rest =
      refusing (want_faults spec sequence_or_map place form)
      (after (check spec scope.within index) (λ (key : FormTree).
      refusing (want_faults spec (key_want spec form) (expr_place index) key)
      (steps_in place (looked_up spec form) steps rest)))

  -- the target, the value behind it, and then the rest
  abbrev pub assigned : AssignmentTree → Checked → Checked
  assigned assignment rest = refusing (written assignment.target).refusals
      (steps_in (target_place assignment.target) (written assignment.target).form (target_steps assignment.target) (λ (form : FormTree).
      after (check spec scope.within assignment.value) (λ (value : FormTree).
      refusing (want_faults spec form (expr_place assignment.value) value) rest)))

  -- ---- several at once: variables of the object itself, or static ones of one class

  -- the first that is of the object or of a class decides for all behind it
  abbrev pub apart_faults : Owned → List AssignmentTree → List SpecFault
  apart_faults first [] = []
  apart_faults first (assignment ∷ assignments) =
      refused_if (is_apart first (written assignment.target).owned) LeftOut (target_place assignment.target)
      ++ apart_faults (first_owned first (written assignment.target).owned) assignments

  abbrev pub all_assigned : List AssignmentTree → Checked → Checked
  all_assigned [] rest = rest
  all_assigned (assignment ∷ assignments) rest = assigned assignment (all_assigned assignments rest)

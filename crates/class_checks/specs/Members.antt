-- What a name means where it stands, the form that it has there, and what is refused of it.
use Rattle.std.specs.Prelude.{ℕ, Bool, true, false, not, ◌&&◌, if◌then◌else◌, List, [], ◌∷◌, ◌++◌, Option, Some, None}
use Rattle.std.specs.List.{list_any}
use Rattle.vdm_kinds.specs.declared.access.Access.{Access}
use Rattle.vdm_kinds.specs.declared.name.Name.{Name}
use Rattle.vdm_kinds.specs.declared.name_at.NameAt.{NameAt}
use Rattle.vdm_kinds.specs.declared.place.Place.{Place}
use Rattle.vdm_kinds.specs.declared.spec_fault.SpecFault.{SpecFault}
use Rattle.vdm_kinds.specs.declared.spec_kind.SpecKind.TheVariants.{UnknownName, Ambiguous, NotVisible, GuardReach, InitReach, NotSynchronised}
use Rattle.abstract_syntax.specs.Types.{TypeTree}
use Rattle.abstract_syntax.specs.Classes.{OperationTree, ClassTree, SpecTree, is_same_name, class_operations}
use Rattle.class_meaning.specs.Ancestors.{ancestors, is_ancestor}
use Rattle.class_meaning.specs.Calls.{is_visible}
use Rattle.class_meaning.specs.Classes.{class_at, class_number, name_of_class}
use Rattle.class_meaning.specs.Members.{Member, of_value, of_variable}
use Rattle.class_meaning.specs.declared.ask.Ask.TheVariants.{ByName}
use Rattle.member_meaning.specs.Meaning.{Meant, unknown, ambiguous, meant, meaning}
use Rattle.form_meaning.specs.Forms.{FormTree, any_form, no_form, only, object_alt}
use Rattle.class_checks.specs.Results.{Checked, refusal, refused_if, named_as}
use Rattle.class_checks.specs.Scopes.{ScopeTree, scope_number}
use Rattle.class_checks.specs.TypeNames.{form_of}
use Rattle.class_checks.specs.declared.reach.Reach.{Reach}
use Rattle.class_checks.specs.declared.reach.Reach.TheVariants.{Free, Init, Pure, Guard, Inv}

-- ---- the form of a member

-- a class value without a type may have any form
abbrev pub declared_form : SpecTree → ℕ → Option TypeTree → FormTree
declared_form spec owner None = any_form
declared_form spec owner (Some declared) = form_of spec (name_of_class spec owner) declared

abbrev pub result_form : SpecTree → ℕ → Option TypeTree → FormTree
result_form spec owner None = no_form
result_form spec owner (Some declared) = form_of spec (name_of_class spec owner) declared

-- ---- what is refused where a member is named

-- the first class is the second or below it
abbrev pub is_below_number : SpecTree → Option ℕ → ℕ → Bool
is_below_number spec None owner = false
is_below_number spec (Some k) owner = is_ancestor spec k owner

module _ (spec : SpecTree) (scope : ScopeTree) (place : Place) where
  abbrev pub unseen : ℕ → Access → List SpecFault
  unseen owner access = refused_if (not (is_visible spec (scope_number spec scope) owner access.level)) NotVisible place

  -- what isn't static and has no object before it wants one here; `own` tells whether the object is of the class that was named
  abbrev pub without_object : Bool → Access → List SpecFault
  without_object own access = refused_if (not access.is_static && not (scope.object && own)) UnknownName place

  -- A variable of the object itself may be read in a predicate and in an instance invariant.
  abbrev pub unread : Reach → Access → List SpecFault
  unread Free access = []
  unread Init access = refusal InitReach place ∷ []
  unread Pure access = refusal InitReach place ∷ []
  unread Guard access = refused_if access.is_static GuardReach place
  unread Inv access = refused_if access.is_static GuardReach place

  -- Operations, `self`, `time` and what other objects have may not be reached from a pure place.
  abbrev pub beyond : Reach → List SpecFault
  beyond Free = []
  beyond Init = refusal InitReach place ∷ []
  beyond Pure = refusal InitReach place ∷ []
  beyond Guard = refusal GuardReach place ∷ []
  beyond Inv = refusal GuardReach place ∷ []

  -- an initial value alone may make objects
  abbrev pub may_not_create : Reach → List SpecFault
  may_not_create Init = []
  may_not_create reach = beyond reach

  -- a predicate alone may count
  abbrev pub may_not_count : Reach → List SpecFault
  may_not_count Guard = []
  may_not_count reach = refusal GuardReach place ∷ []

  abbrev pub variable_faults : Bool → ℕ → Access → List SpecFault
  variable_faults own owner access = without_object own access ++ (unseen owner access ++ unread scope.reach access)

  abbrev pub operation_faults : Bool → ℕ → Access → List SpecFault
  operation_faults own owner access = without_object own access ++ (unseen owner access ++ beyond scope.reach)

  -- behind an object
  abbrev pub other_faults : ℕ → Access → List SpecFault
  other_faults owner access = unseen owner access ++ beyond scope.reach

  abbrev pub unknown_here : List SpecFault
  unknown_here = refusal UnknownName place ∷ []

  -- ---- a name that is read

  -- a variable or a class value; nothing else has a value
  abbrev pub read_member : Bool → ℕ → Member → Checked
  read_member own owner (of_variable v) = named_as (variable_faults own owner v.access) (form_of spec (name_of_class spec owner) v.declared)
  read_member own owner (of_value v) = named_as (unseen owner v.access) (declared_form spec owner v.declared)
  read_member own owner _ = named_as unknown_here any_form

  abbrev pub read_meant : Bool → Meant → Checked
  read_meant own unknown = named_as unknown_here any_form
  read_meant own ambiguous = named_as (refusal Ambiguous place ∷ []) any_form
  read_meant own (meant owner member) = read_member own owner member

  abbrev pub read_in : Bool → Name → Option ℕ → Checked
  read_in own name None = named_as unknown_here any_form
  read_in own name (Some k) = read_meant own (meaning spec (ByName name) k)

  -- a name that stands alone: what is bound hides what the class has
  abbrev pub read_local_or : Name → Option FormTree → Checked
  read_local_or name (Some form) = named_as [] form
  read_local_or name None = read_in true name (scope_number spec scope)

  abbrev pub read_name : Name → Checked
  read_name name = read_local_or name (scope.locals name)

  -- ---- the value that a variable had

  abbrev pub old_member : ℕ → Member → Checked
  old_member owner (of_variable v) = named_as (variable_faults true owner v.access) (form_of spec (name_of_class spec owner) v.declared)
  old_member owner _ = named_as unknown_here any_form

  abbrev pub old_meant : Meant → Checked
  old_meant unknown = named_as unknown_here any_form
  old_meant ambiguous = named_as (refusal Ambiguous place ∷ []) any_form
  old_meant (meant owner member) = old_member owner member

  abbrev pub old_in : Name → Option ℕ → Checked
  old_in name None = named_as unknown_here any_form
  old_in name (Some k) = old_meant (meaning spec (ByName name) k)

  -- a bound name is no variable
  abbrev pub old_unless_local : Name → Option FormTree → Checked
  old_unless_local name (Some form) = named_as unknown_here any_form
  old_unless_local name None = old_in name (scope_number spec scope)

  -- `x~`, of a variable, and where an operation has ended
  abbrev pub read_old : Name → Checked
  read_old name = if scope.old then old_unless_local name (scope.locals name) else named_as unknown_here any_form

  -- ---- words

  abbrev pub self_form : Option Name → FormTree
  self_form None = any_form
  self_form (Some class) = only (object_alt class)

  abbrev pub read_self : Checked
  read_self = named_as (refused_if (not scope.object) UnknownName place ++ beyond scope.reach) (self_form scope.class)

  abbrev pub read_result : Option FormTree → Checked
  read_result None = named_as unknown_here any_form
  read_result (Some form) = named_as [] form

-- ``C`x``: `place` is the class's, where the name begins
abbrev pub read_behind_class : SpecTree → ScopeTree → Name → Place → Place → Option ℕ → Checked
read_behind_class spec scope name name_place place None = named_as (refusal UnknownName place ∷ []) any_form
read_behind_class spec scope name name_place place (Some k) =
    read_in spec scope name_place (is_below_number spec (scope_number spec scope) k) name (Some k)

abbrev pub read_qualified : SpecTree → ScopeTree → Name → Name → Place → Place → Checked
read_qualified spec scope class name name_place place =
    read_behind_class spec scope name name_place place (class_number spec class)

-- ---- counters

-- a constructor has the name of its class
abbrev pub is_synchronised : Name → ClassTree → OperationTree → Bool
is_synchronised name class o = is_same_name name o.name && (not o.access.is_static && not (is_same_name name class.name))

abbrev pub has_synchronised : Name → ClassTree → Bool
has_synchronised name class = list_any (is_synchronised name class) (class_operations class)

abbrev pub has_synchronised_of : Name → Option ClassTree → Bool
has_synchronised_of name None = false
has_synchronised_of name (Some class) = has_synchronised name class

abbrev pub has_synchronised_at : SpecTree → Name → ℕ → Bool
has_synchronised_at spec name k = has_synchronised_of name (class_at spec k)

-- whether a name is that of an operation whose history is counted: of the class or an ancestor, not static, no constructor
abbrev pub is_counted : SpecTree → Option ℕ → Name → Bool
is_counted spec None name = false
is_counted spec (Some k) name = list_any (has_synchronised_at spec name) (ancestors spec k)

abbrev pub uncounted : SpecTree → ScopeTree → List NameAt → List SpecFault
uncounted spec scope [] = []
uncounted spec scope (named ∷ names) =
    refused_if (not (is_counted spec (scope_number spec scope) named.name)) NotSynchronised named.place ++ uncounted spec scope names

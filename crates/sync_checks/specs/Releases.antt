-- What is refused of the operation that a periodic thread calls: the words of the definitions, for any scope in place of that of a
-- class.
use Rattle.std.specs.Prelude.{ℕ, true, if◌then◌else◌, List, [], ◌∷◌, Option, Some, None}
use Rattle.vdm_kinds.specs.declared.name.Name.{Name}
use Rattle.vdm_kinds.specs.declared.place.Place.{Place}
use Rattle.vdm_kinds.specs.declared.spec_fault.SpecFault.{SpecFault}
use Rattle.vdm_kinds.specs.declared.spec_kind.SpecKind.TheVariants.{UnknownName, Ambiguous, WrongArity}
use Rattle.abstract_syntax.specs.Classes.{SpecTree}
use Rattle.class_meaning.specs.Classes.{class_number}
use Rattle.class_meaning.specs.Members.{of_operation}
use Rattle.class_meaning.specs.declared.ask.Ask.TheVariants.{Called}
use Rattle.member_meaning.specs.Meaning.{Meant, unknown, ambiguous, meant, meaning}
use Rattle.class_checks.specs.Callees.{has_some_called}
use Rattle.class_checks.specs.Members.{operation_faults}
use Rattle.class_checks.specs.Results.{refusal}
use Rattle.class_checks.specs.Scopes.{ScopeTree, type_scope}

module _ (spec : SpecTree) (scope : ScopeTree) (name : Name) (name_place : Place) (place : Place) where
  -- no operation without parameters is found
  abbrev pub uncalled_in : ℕ → List SpecFault
  uncalled_in k = if has_some_called spec name k then refusal WrongArity place ∷ [] else refusal UnknownName name_place ∷ []

  -- what is found of the name and is no operation is not it
  abbrev pub released_in : ℕ → Meant → List SpecFault
  released_in k (meant owner (of_operation o)) = operation_faults spec scope name_place true owner o.access
  released_in k (meant owner other) = refusal UnknownName name_place ∷ []
  released_in k ambiguous = refusal Ambiguous name_place ∷ []
  released_in k unknown = uncalled_in k

  -- in the class of a number
  abbrev pub behind_number : Option ℕ → List SpecFault
  behind_number None = refusal UnknownName name_place ∷ []
  behind_number (Some k) = released_in k (meaning spec (Called name 0) k)

  abbrev pub release_in : List SpecFault
  release_in = behind_number (class_number spec (type_scope scope))

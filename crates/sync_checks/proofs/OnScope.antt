-- The words of the definitions for a class are those for its scope.
use Rattle.std.proofs.Common.{◌≡◌, ℕ, ◌++◌, Option, Some, None, refl}
use Rattle.vdm_kinds.specs.declared.name.Name.{Name}
use Rattle.vdm_kinds.specs.declared.place.Place.{Place}
use Rattle.abstract_syntax.specs.Expressions.{ExprTree}
use Rattle.abstract_syntax.specs.Classes.{PhaseTree, ThreadTree, periodic, procedural, SpecTree}
use Rattle.class_meaning.specs.Classes.{class_number}
use Rattle.class_meaning.specs.Members.{of_operation}
use Rattle.class_meaning.specs.declared.ask.Ask.TheVariants.{Called}
use Rattle.member_meaning.specs.Meaning.{Meant, unknown, ambiguous, meant, meaning}
use Rattle.spec_checks.specs.Definitions.{in_class, most_ticks, phase_faults, release_faults, released_faults, thread_faults, tick_faults}
use Rattle.class_checks.specs.declared.reach.Reach.TheVariants.{Free}
use Rattle.sync_checks.specs.Numbers.{phase_in}
use Rattle.sync_checks.specs.Releases.{behind_number, released_in}
use Rattle.sync_checks.specs.Threads.{thread_in}

module _ (spec : SpecTree) (class : Name) where
  phase_of_class : (period : ExprTree) (phase : Option PhaseTree) → phase_in spec (in_class class Free) period phase ≡ phase_faults spec class period phase
  phase_of_class period None = refl
  phase_of_class period (Some phase) = refl

  module _ (name : Name) (name_place : Place) (place : Place) where
    released_of_class : (k : ℕ) (m : Meant)
        → released_in spec (in_class class Free) name name_place place k m ≡ released_faults spec class name name_place place k m
    released_of_class k (meant owner (of_operation o)) = refl
    released_of_class k (meant owner _) = refl
    released_of_class k ambiguous = refl
    released_of_class k unknown = refl

    release_of_class : (o : Option ℕ)
        → behind_number spec (in_class class Free) name name_place place o ≡ release_faults spec class name name_place place o
    release_of_class None = refl
    release_of_class (Some k) = released_of_class k (meaning spec (Called name 0) k)

  pub thread_of_class : (t : ThreadTree) → thread_in spec (in_class class Free) t ≡ thread_faults spec class t
  thread_of_class (procedural s) = refl
  thread_of_class (periodic period phase name name_place place) = λ i.
      tick_faults spec class 1 (most_ticks spec class) period
      ++ (phase_of_class period phase i ++ release_of_class name name_place place (class_number spec class) i)

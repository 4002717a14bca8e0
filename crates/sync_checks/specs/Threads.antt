-- What is refused of threads and clauses of synchronisation: the words of the definitions, for any scope in place of that of a class.
use Rattle.std.specs.Prelude.{not, List, [], ◌++◌, Option}
use Rattle.vdm_kinds.specs.declared.name.Name.{Name}
use Rattle.vdm_kinds.specs.declared.place.Place.{Place}
use Rattle.vdm_kinds.specs.declared.spec_fault.SpecFault.{SpecFault}
use Rattle.vdm_kinds.specs.declared.spec_kind.SpecKind.TheVariants.{NotSynchronised}
use Rattle.abstract_syntax.specs.Expressions.{ExprTree}
use Rattle.abstract_syntax.specs.Classes.{PhaseTree, ThreadTree, periodic, procedural, SyncTree, permission, mutex_all, mutex_of, SpecTree}
use Rattle.class_checks.specs.Members.{is_counted, uncounted}
use Rattle.class_checks.specs.Operators.{truth}
use Rattle.class_checks.specs.Results.{refused_if}
use Rattle.class_checks.specs.Scopes.{ScopeTree, scope_number}
use Rattle.spec_checks.specs.Statements.{check_stmt}
use Rattle.spec_checks.specs.Targets.{anything, nothing_declared}
use Rattle.part_checks.specs.Wanting.{wanted_in}
use Rattle.sync_checks.specs.Numbers.{most, phase_in, tick_in}
use Rattle.sync_checks.specs.Releases.{release_in}

module _ (spec : SpecTree) (scope : ScopeTree) where
  abbrev pub periodic_in : ExprTree → Option PhaseTree → Name → Place → Place → List SpecFault
  periodic_in period phase name name_place place =
      tick_in spec scope 1 (most spec scope) period
      ++ (phase_in spec scope period phase ++ release_in spec scope name name_place place)

  abbrev pub thread_in : ThreadTree → List SpecFault
  thread_in (procedural s) = (check_stmt spec (record { within = scope; declared = nothing_declared; returned = anything }) s).refusals
  thread_in (periodic period phase name name_place place) = periodic_in period phase name name_place place

  -- it is no operation whose history is counted
  abbrev pub unnamed_in : Name → Place → List SpecFault
  unnamed_in name name_place = refused_if (not (is_counted spec (scope_number spec scope) name)) NotSynchronised name_place

  abbrev pub permission_in : Name → Place → ExprTree → List SpecFault
  permission_in name name_place e = unnamed_in name name_place ++ wanted_in spec scope truth e

  abbrev pub clause_in : SyncTree → List SpecFault
  clause_in (permission name name_place e place) = permission_in name name_place e
  clause_in (mutex_all place) = []
  clause_in (mutex_of names place) = uncounted spec scope names

-- What is refused of the numbers of a periodic thread: the words of the definitions, for any scope in place of that of a class.
use Rattle.std.specs.Prelude.{ℕ, List, [], ◌++◌, Option, Some, None}
use Rattle.vdm_kinds.specs.declared.spec_fault.SpecFault.{SpecFault}
use Rattle.abstract_syntax.specs.Expressions.{ExprTree, expr_place}
use Rattle.abstract_syntax.specs.Classes.{PhaseTree, SpecTree}
use Rattle.spec_checks.specs.Definitions.{delay_most, in_range_faults, most_ticks, number_of}
use Rattle.class_checks.specs.Expressions.{check}
use Rattle.class_checks.specs.Scopes.{ScopeTree, type_scope}

module _ (spec : SpecTree) (scope : ScopeTree) where
  -- as an expression, and as a number
  abbrev pub tick_in : ℕ → ℕ → ExprTree → List SpecFault
  tick_in least greatest e =
      (check spec scope e).refusals
      ++ in_range_faults spec (type_scope scope) least greatest (expr_place e) (number_of spec (type_scope scope) e)

  -- no number of ticks is greater
  abbrev pub most : ℕ
  most = most_ticks spec (type_scope scope)

  abbrev pub delay_in : ExprTree → ℕ
  delay_in period = delay_most spec (type_scope scope) (number_of spec (type_scope scope) period)

  abbrev pub some_phase_in : ExprTree → PhaseTree → List SpecFault
  some_phase_in period phase =
      tick_in 0 most phase.jitter ++ (tick_in 0 (delay_in period) phase.delay ++ tick_in 0 most phase.offset)

  abbrev pub phase_in : ExprTree → Option PhaseTree → List SpecFault
  phase_in period None = []
  phase_in period (Some phase) = some_phase_in period phase

use Rattle.class_checks.specs.Scopes.{of_run}
use Rattle.class_checks.specs.Expressions.{check}
use Rattle.class_checks.proofs.Firsts.{none_first}
use Rattle.class_checks.proofs.laws.well_typed.Goals as goal

pub returns-clause-none : goal.returns-clause-none
returns-clause-none c = λ spec scope e. none_first (check spec scope e).refusals

pub returns-clause-main : goal.returns-clause-main
returns-clause-main c = λ spec e. none_first (check spec of_run e).refusals

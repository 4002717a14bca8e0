-- What is well typed.
use Rattle.std.specs.Prelude.{◌≡◌, [], Option}
use Rattle.vdm_kinds.specs.declared.spec_fault.SpecFault.{SpecFault}
use Rattle.abstract_syntax.specs.Expressions.{ExprTree}
use Rattle.abstract_syntax.specs.Classes.{SpecTree}
use Rattle.class_checks.specs.Expressions.{check}
use Rattle.class_checks.specs.Results.{first_fault}
use Rattle.class_checks.specs.Scopes.{ScopeTree, of_run}

-- an expression of which nothing is refused
abbrev pub IsWellTyped : SpecTree → ScopeTree → ExprTree → Type 0
IsWellTyped spec scope e = (check spec scope e).refusals ≡ []

-- the first that is refused in the expression of a run
abbrev pub main_fault : SpecTree → ExprTree → Option SpecFault
main_fault spec e = first_fault (check spec of_run e)

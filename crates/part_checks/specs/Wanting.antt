-- What is refused of the expressions and types of definitions, in a scope: the words of the definitions, without a class of their
-- own.
use Rattle.std.specs.Prelude.{List, [], ◌++◌, Option, Some, None}
use Rattle.vdm_kinds.specs.declared.name.Name.{Name}
use Rattle.vdm_kinds.specs.declared.spec_fault.SpecFault.{SpecFault}
use Rattle.abstract_syntax.specs.Types.{TypeTree}
use Rattle.abstract_syntax.specs.Expressions.{ExprTree, expr_place}
use Rattle.abstract_syntax.specs.Classes.{SpecTree}
use Rattle.form_meaning.specs.Forms.{FormTree}
use Rattle.class_checks.specs.Expressions.{check, want_faults}
use Rattle.class_checks.specs.Operators.{truth}
use Rattle.class_checks.specs.Scopes.{ScopeTree}
use Rattle.class_checks.specs.TypeNames.{type_faults}

-- an expression that has to meet a form
abbrev pub wanted_in : SpecTree → ScopeTree → FormTree → ExprTree → List SpecFault
wanted_in spec scope wanted e = (check spec scope e).refusals ++ want_faults spec wanted (expr_place e) (check spec scope e).form

abbrev pub condition_in : SpecTree → ScopeTree → Option ExprTree → List SpecFault
condition_in spec scope None = []
condition_in spec scope (Some e) = wanted_in spec scope truth e

-- the types that a class sees
abbrev pub maybe_type_in : SpecTree → Name → Option TypeTree → List SpecFault
maybe_type_in spec class None = []
maybe_type_in spec class (Some t) = type_faults spec class t

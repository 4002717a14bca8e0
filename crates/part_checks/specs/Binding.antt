-- What is refused of the pattern of a parameter in a scope, and the form of a parameter.
use Rattle.std.specs.Prelude.{List, ◌++◌, Option, Some, None}
use Rattle.vdm_kinds.specs.declared.name.Name.{Name}
use Rattle.vdm_kinds.specs.declared.spec_fault.SpecFault.{SpecFault}
use Rattle.abstract_syntax.specs.Types.{TypeTree}
use Rattle.abstract_syntax.specs.Expressions.{PatternTree}
use Rattle.abstract_syntax.specs.Classes.{SpecTree}
use Rattle.form_meaning.specs.Forms.{FormTree, any_form, no_form}
use Rattle.class_checks.specs.Expressions.{givens}
use Rattle.class_checks.specs.Patterns.{pattern_faults}
use Rattle.class_checks.specs.Results.{gives}
use Rattle.class_checks.specs.Scopes.{ScopeTree, type_scope}
use Rattle.class_checks.specs.TypeNames.{form_of}

abbrev pub parameter_in : SpecTree → ScopeTree → PatternTree → List SpecFault
parameter_in spec scope pattern = pattern_faults spec (type_scope scope) pattern ++ (givens spec scope pattern (gives no_form)).refusals

-- a pattern without a type was refused before
abbrev pub parameter_form_in : SpecTree → Name → Option TypeTree → FormTree
parameter_form_in spec class None = any_form
parameter_form_in spec class (Some t) = form_of spec class t

use Rattle.std.proofs.Common.{ap, ◌∙◌}
use Rattle.vdm_tree.specs.ClassView.{function_view}
use Rattle.spec_checks.specs.Definitions.{function_faults}
use Rattle.class_checks.specs.Scopes.{ScopeTree}
use Rattle.part_checks.specs.Below.check_scopes.specs.Told.{first_in, scope_view}
use Rattle.part_checks.specs.Below.definition_scopes.specs.Standing.{spec_at}
use Rattle.part_checks.specs.Behind.{on_same}
use Rattle.definition_checks.specs.Parts.{function_in}
use Rattle.definition_checks.proofs.Same.{function_same}
use Rattle.definition_checks.proofs.functions.refuse_function.Goals as goal

pub returns : goal.returns
returns c =
    on_same c.refuse_function_in.result (first_in c.args.refusals.now) (first_in c.refuse_function_in.new.refusals)
    (function_in (spec_at c.args.site) (scope_view c.in_class-scope.result) (function_view c.args.function.now))
    (function_faults (spec_at c.args.site) c.args.site.class (function_view c.args.function.now))
    (ap (λ (s : ScopeTree). function_in (spec_at c.args.site) s (function_view c.args.function.now)) c.in_class-scope.ensures
    ∙ function_same (spec_at c.args.site) c.args.site.class (function_view c.args.function.now))
    c.refuse_function_in.ensures

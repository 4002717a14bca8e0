use Rattle.std.proofs.Common.{ap}
use Rattle.expr_tree.specs.View.{boxed_view}
use Rattle.spec_checks.specs.Definitions.{in_class, wanted_faults}
use Rattle.class_checks.specs.Operators.{truth}
use Rattle.class_checks.specs.Scopes.{ScopeTree}
use Rattle.class_checks.specs.declared.reach.Reach.TheVariants.{Inv}
use Rattle.part_checks.specs.Below.check_scopes.specs.Told.{first_in, scope_view}
use Rattle.part_checks.specs.Below.definition_scopes.specs.Standing.{spec_at}
use Rattle.part_checks.specs.Behind.{on_same}
use Rattle.part_checks.specs.Wanting.{wanted_in}
use Rattle.definition_checks.proofs.variables.refuse_invariant.Goals as goal

pub returns : goal.returns
returns c =
    on_same c.refuse_condition_at.result (first_in c.args.refusals.now) (first_in c.refuse_condition_at.new.refusals)
    (wanted_in (spec_at c.args.site) (scope_view c.in_class-scope.result) truth (boxed_view c.args.condition.now))
    (wanted_faults (spec_at c.args.site) c.args.site.class (in_class c.args.site.class Inv) truth (boxed_view c.args.condition.now))
    (ap (λ (s : ScopeTree). wanted_in (spec_at c.args.site) s truth (boxed_view c.args.condition.now)) c.in_class-scope.ensures)
    c.refuse_condition_at.ensures

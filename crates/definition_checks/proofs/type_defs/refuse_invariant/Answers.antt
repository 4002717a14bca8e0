use Rattle.std.proofs.Common.{ap}
use Rattle.expr_tree.specs.View.{boxed_view, pattern_view}
use Rattle.shared_names.specs.Maps.{held}
use Rattle.class_checks.specs.Operators.{truth}
use Rattle.class_checks.specs.Patterns.{binds}
use Rattle.class_checks.specs.Scopes.{Locals, inside}
use Rattle.part_checks.specs.Below.check_scopes.specs.Told.{first_in, scope_view}
use Rattle.part_checks.specs.Below.definition_scopes.specs.Standing.{spec_at, with_locals}
use Rattle.part_checks.specs.Behind.{on_both, on_same}
use Rattle.part_checks.specs.Binding.{parameter_in}
use Rattle.part_checks.specs.Wanting.{wanted_in}
use Rattle.definition_checks.specs.Parts.{class_of}
use Rattle.definition_checks.proofs.type_defs.refuse_invariant.Goals as goal

pub returns : goal.returns
returns c =
    on_both c.refuse_condition_at.result (first_in c.args.refusals.now) (first_in c.refuse_parameter.new.refusals) (first_in c.refuse_condition_at.new.refusals)
    (parameter_in (spec_at c.args.site) (scope_view c.args.scope.now) (pattern_view c.args.invariant.now.pattern))
    (wanted_in (spec_at c.args.site)
    (inside (scope_view c.args.scope.now) (binds (spec_at c.args.site) (class_of c.args.scope.now) c.args.form.now (pattern_view c.args.invariant.now.pattern)))
    truth (boxed_view c.args.invariant.now.condition))
    c.in_ok-refuse_parameter.ensures
    (on_same c.refuse_condition_at.result (first_in c.refuse_parameter.new.refusals) (first_in c.refuse_condition_at.new.refusals)
    (wanted_in (spec_at c.args.site) (with_locals c.args.scope.now (held c.in_ok-locals.locals)) truth (boxed_view c.args.invariant.now.condition))
    (wanted_in (spec_at c.args.site)
    (inside (scope_view c.args.scope.now) (binds (spec_at c.args.site) (class_of c.args.scope.now) c.args.form.now (pattern_view c.args.invariant.now.pattern)))
    truth (boxed_view c.args.invariant.now.condition))
    (ap (λ (names : Locals). wanted_in (spec_at c.args.site) (with_locals c.args.scope.now names) truth (boxed_view c.args.invariant.now.condition)) c.in_ok-locals.ensures)
    c.refuse_condition_at.ensures)

use Rattle.class_checks.specs.Operators.{truth}
use Rattle.part_checks.specs.Below.check_binds.proofs.Behinds.{on_both}
use Rattle.part_checks.specs.Below.check_scopes.specs.Told.{first_in, scope_view}
use Rattle.expr_tree.specs.View.{boxed_view}
use Rattle.part_checks.specs.Below.definition_scopes.specs.Standing.{spec_at}
use Rattle.part_checks.specs.Wanting.{wanted_in}
use Rattle.sync_checks.specs.Threads.{unnamed_in}
use Rattle.sync_checks.proofs.clauses.refuse_permission.Goals as goal

pub returns : goal.returns
returns c =
    let scope = scope_view c.args.scope.now in
    on_both c.refuse_condition_at.result (first_in c.args.refusals.now) (first_in c.refuse_unnamed.new.refusals) (first_in c.refuse_condition_at.new.refusals)
    (unnamed_in (spec_at c.args.site) scope c.args.named.name c.args.named.place)
    (wanted_in (spec_at c.args.site) scope truth (boxed_view c.args.condition.now))
    c.refuse_unnamed.ensures c.refuse_condition_at.ensures

use Rattle.expr_tree.specs.View.{boxed_view}
use Rattle.type_tree.specs.TypeView.{type_view}
use Rattle.part_checks.specs.Below.check_scopes.specs.Told.{first_in}
use Rattle.part_checks.specs.Below.check_frames.specs.Meant.{scope_here, spec_here}
use Rattle.definition_checks.proofs.Headed.{typed_told}
use Rattle.definition_checks.proofs.values.refuse_typed.Goals as goal

pub returns : goal.returns
returns c =
    typed_told (spec_here c.args.here) (scope_here c.args.here) c.refuse_wanted.result c.type_scope.result (type_view c.args.declared.now)
    (boxed_view c.args.expr.now) c.in_ok-wanted.wanted (first_in c.args.refusals.now) (first_in c.type_faults.new.refusals) (first_in c.refuse_wanted.new.refusals)
    c.type_scope.ensures c.in_ok-wanted.ensures c.type_faults.ensures c.refuse_wanted.ensures
